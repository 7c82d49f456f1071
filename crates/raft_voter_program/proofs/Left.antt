-- What is written of a session, whatever files are left.
use Rattle.std.proofs.Common.{◌≡◌, ℕ, List, Option, Some, None, IfSome, Result, Ok, Err, IfErr, false, inl, inr, subst}
use Rattle.std.specs.declared.io.ErrorKind.{ErrorKind}
use Rattle.raft_voter.specs.Service.{Service}
use Rattle.raft_voter_world.specs.Stores.{Disk, Upkeep}
use Rattle.raft_voter_session.specs.Told.{SessionContent}
use Rattle.raft_voter_session.specs.Session.{session_of}
use Rattle.raft_voter_program.specs.StoreSetup.{Setup}
use Rattle.raft_voter_program.specs.Run.{Ends, IsUntoldFor, MayWrite, TellsLines, WritesSession}
use Rattle.raft_voter_program.specs.Writing.{StopsWithin}
use Rattle.raft_voter_program.specs.Leaving.{EndsLeaving, MayWriteLeaving, TellsLinesLeaving, WritesLeaving}

lines_told : {S F : Type 0} (v : Service S) (u : Upkeep S) (d : Disk S F) (s : Setup F) (left : Option F) (lines : Result SessionContent ℕ) (text : List ℕ) (status : ℕ)
    → TellsLinesLeaving (WritesLeaving v u d s) left lines text status → TellsLines (WritesSession v u d s) lines text status
lines_told v u d s None (Ok session) text status refused = inl refused
lines_told v u d s (Some files) (Ok session) text status ran = inr ran.0
lines_told v u d s left (Err line) text status (none, written, told) = (written, told)

pub may_write : {S F : Type 0} (v : Service S) (u : Upkeep S) (d : Disk S F) (s : Setup F) (left : Option F) (input text : List ℕ) (status : ℕ)
    → MayWriteLeaving (WritesLeaving v u d s) left input text status → MayWrite (WritesSession v u d s) input text status
may_write v u d s left input text status told = lines_told v u d s left (session_of input) text status told

pub ends : {S F : Type 0} (v : Service S) (u : Upkeep S) (d : Disk S F) (s : Setup F) (left : Option F) (input : List ℕ) (old new : Option (List ℕ)) (status : ℕ)
    → EndsLeaving (WritesLeaving v u d s) left input old new status → Ends (WritesSession v u d s) false input old new status
ends v u d s left input old new status (text, told, wrote) = (text, may_write v u d s left input text status told, wrote)

pub ends_known : {S F : Type 0} (v : Service S) (u : Upkeep S) (d : Disk S F) (s : Setup F) (left : Option F) (known old new : Option (List ℕ)) (status : ℕ)
    → IfSome known (λ input. EndsLeaving (WritesLeaving v u d s) left input old new status) → IfSome known (λ input. Ends (WritesSession v u d s) false input old new status)
ends_known v u d s left None old new status ended = tt
ends_known v u d s left (Some input) old new status ended = ends v u d s left input old new status ended

-- a writer that stopped got the front of what may be written
pub untold : {S F : Type 0} (v : Service S) (u : Upkeep S) (d : Disk S F) (s : Setup F) (left : Option F) (input text bytes : List ℕ) (status : ℕ) (old new : Option (List ℕ)) (kind : ErrorKind)
    → bytes ≡ text → MayWriteLeaving (WritesLeaving v u d s) left input text status → StopsWithin old new bytes → IsUntoldFor (WritesSession v u d s) input old new kind
untold v u d s left input text bytes status old new kind is told stops = inr (text, status, may_write v u d s left input text status told, subst (StopsWithin old new) is stops)

-- what holds of any error
pub on_any_err : {T E : Type 0} (r : Result T E) (P : E → Type 0) → ((e : E) → P e) → IfErr r P
on_any_err (Ok v) P h = tt
on_any_err (Err e) P h = h e
