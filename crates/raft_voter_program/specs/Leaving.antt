-- What the program writes for a session, its exit status, and which files of the store remain after the session. `old`
-- and `new` are the bytes that the writer has before and after, `None` if they aren't known. What the store promises is
-- said by `v` of its rounds, by `u` of its purges and armed faults, by `d` of its files, and by `s` of its settings.
use Rattle.std.specs.Prelude.{◌≡◌, ℕ, List, Option, None, Some, Result, Ok, Err}
use Rattle.std.specs.Io.KnownBytes.{Appends}
use Rattle.raft_voter.specs.Service.{Service}
use Rattle.raft_voter_world.specs.Stores.{Disk, Upkeep}
use Rattle.raft_voter_session.specs.Told.{SessionContent}
use Rattle.raft_voter_session.specs.Session.{session_of}
use Rattle.raft_voter_session.specs.Text.{unreadable_text}
use Rattle.raft_voter_program.specs.StoreSetup.{Setup}
use Rattle.raft_voter_program.specs.Run.{WritesRun, settings_refused}

-- What may be written for a session, and the status. If files remain, the text is the transcript of a run that left
-- these files (`report.files`). If none remain, it says that the settings were rejected, with status 1.
abbrev pub WritesLeaving :
    {S F : Type 0} → Service S → Upkeep S → Disk S F → Setup F → Option F → SessionContent → List ℕ → ℕ → Type 0
WritesLeaving v u d s None session text status =
    s.refuses session.settings × (text ≡ settings_refused) × (status ≡ 1)
WritesLeaving v u d s (Some files) session text status =
    (run : WritesRun v u d s session text status) × (run.report.files ≡ files)

-- The text that may be written for these lines, the status, and the files that remain (`left`). If the lines are a
-- session, `Writes` says this for the session. If line `line` is the first unreadable one, the text says so, with
-- status 2, and no files remain.
abbrev pub TellsLinesLeaving :
    {F : Type 0} → (Option F → SessionContent → List ℕ → ℕ → Type 0)
    → Option F → Result SessionContent ℕ → List ℕ → ℕ → Type 0
TellsLinesLeaving Writes left (Ok session) text status = Writes left session text status
TellsLinesLeaving Writes left (Err line) text status =
    (left ≡ None) × (text ≡ unreadable_text line) × (status ≡ 2)

-- what may be written for the bytes `input`, and which files remain; `Writes` gives this for a session
abbrev pub MayWriteLeaving :
    {F : Type 0} → (Option F → SessionContent → List ℕ → ℕ → Type 0) → Option F → List ℕ → List ℕ → ℕ → Type 0
MayWriteLeaving Writes left input text status = TellsLinesLeaving Writes left (session_of input) text status

-- the session ended: the writer got all of what may be written for it, and these files remain
abbrev pub EndsLeaving :
    {F : Type 0} → (Option F → SessionContent → List ℕ → ℕ → Type 0)
    → Option F → List ℕ → Option (List ℕ) → Option (List ℕ) → ℕ → Type 0
EndsLeaving Writes left input old new status =
    (text : List ℕ) × MayWriteLeaving Writes left input text status × Appends old new text
