-- A history: a list of moments. Each moment is one thing that happens to a store of voters or its files. An event of a
-- run makes some moments, or none. Throughout, `v` is what the store promises for rounds, `u` what it promises between
-- rounds, and `d` what its disk promises.
use Rattle.std.specs.Prelude.{◌≡◌, ℕ, ◌≤◌, ◌==◌, Bool, true, false, if◌then◌else◌, List, [], ◌∷◌, length, Option, None, Some, map}
use Rattle.std.specs.List.{flat_map}
use Rattle.std.specs.String.{string_bytes}
use Rattle.raft_voter_messages.specs.declared.reply.Reply.{Reply}
use Rattle.raft_voter_messages.specs.declared.request.Request.{Request}
use Rattle.raft_voter_messages.specs.declared.round.Outcome.TheVariants.{Answered, Cut}
use Rattle.raft_voter_messages.specs.declared.round.Round.{Round}
use Rattle.raft_voter_outline.specs.State.{State}
use Rattle.raft_voter.specs.Service.{AnswersRound, CutsOff, FailsAs, IsAlive, IsFromOutside, Service, refused_from}
use Rattle.raft_voter.specs.declared.service.Cause.{Cause}
use Rattle.raft_voter_world.specs.declared.event.Event.{Event}
use Rattle.raft_voter_world.specs.declared.event.Event.TheVariants.{Round as RoundEvent, Maintain, RewriteAppend, RewriteRewrite}
use Rattle.raft_voter_world.specs.declared.event.Event.TheVariants.{Open as OpenEvent, Close, Crash, CrashAt, Refuse, Fork}
use Rattle.raft_voter_world.specs.declared.event.Left.{Left}
use Rattle.raft_voter_world.specs.declared.faults.Fault.{Fault}
use Rattle.raft_voter_world.specs.declared.faults.Fault.TheVariants.{Stop, Refuse as RefuseCall}
use Rattle.raft_voter_world.specs.declared.faults.Purge.{Purge}
use Rattle.raft_voter_world.specs.declared.faults.Purge.TheVariants.{Expired, RewriteAppend as Append, RewriteRewrite as Rewrite}
use Rattle.raft_voter_world.specs.declared.storage.Storage.{Storage}
use Rattle.raft_voter_world.specs.declared.storage.Storage.TheVariants.{Closed, Open}
use Rattle.raft_voter_world.specs.Stores.{Disk, FindsVoters, LeavesInFiles, LeavesStanding, LeavesUnder, StaysInFiles}
use Rattle.raft_voter_world.specs.Stores.{KeepsVoters, RefusesPurge, StaysAsItWas, TellsVoters, Upkeep}

-- Moments.

-- A call that changes no voter: a close, a purge, the arming of a fault, or a copy of the files into a directory.
-- `purges` and `copies` have a cause if the call failed.
pub data Change : Type 0 where
  closes : Change
  purges : Purge → Option Cause → Change
  arms : Fault → Change
  copies : List ℕ → Option Cause → Change

-- One thing that happens, with the store or the files after it:
-- - `opened`: a store was opened by this many workers, and its voters were read. The number is a position in the last
--   cut-off round: its requests below that position lead to these voters. It is `None` if no position fits.
-- - `unread`: a store was opened, but its voters couldn't be read. It was closed again, which left these files.
-- - `fell`: a store was opened, but the disk stopped during the open. A crash left these files.
-- - `unopened`: an open failed for a cause, and returned these files.
-- - `crashed`: a crash left these files.
-- - `kept`: a call changed no voter.
-- - `answered`: a store replied to a round.
-- - `cut_off`: a store cut a round off for a cause: it gave no replies.
-- - `idle`: a round was cut off because no store was open.
pub data Moment (S F : Type 0) : Type 0 where
  opened : ℕ → S → List (ℕ × State) → Option ℕ → S → Moment S F
  unread : ℕ → S → S → F → Moment S F
  fell : ℕ → S → Left → F → Moment S F
  unopened : ℕ → Cause → F → Moment S F
  crashed : Left → F → Moment S F
  kept : Change → Storage S F → Moment S F
  answered : Round → S → Moment S F
  cut_off : Round → Cause → S → Moment S F
  idle : Round → F → Moment S F

-- the storage after this moment: an open store, or the files if no store is open
abbrev pub behind : {S F : Type 0} → Moment S F → Storage S F
behind (opened workers store voters place now) = Open now
behind (unread workers store now files) = Closed files
behind (fell workers store gone files) = Closed files
behind (unopened workers cause files) = Closed files
behind (crashed gone files) = Closed files
behind (kept change now) = now
behind (answered round now) = Open now
behind (cut_off round cause now) = Open now
behind (idle round files) = Closed files

-- the storage after these moments, starting with `storage`
abbrev pub behind_all : {S F : Type 0} → Storage S F → List (Moment S F) → Storage S F
behind_all storage [] = storage
behind_all storage (m ∷ ms) = behind_all (behind m) ms

-- the round of this moment, if the moment is a round
abbrev pub rounds_of : {S F : Type 0} → Moment S F → List Round
rounds_of (answered round now) = round ∷ []
rounds_of (cut_off round cause now) = round ∷ []
rounds_of (idle round files) = round ∷ []
rounds_of moment = []

-- the rounds of these moments, in order
abbrev pub rounds_in : {S F : Type 0} → List (Moment S F) → List Round
rounds_in ms = flat_map rounds_of ms

-- When each moment may happen.

-- the round was cut off and has no refused positions, as happens if no store is open
abbrev pub IsIdle : Round → Type 0
IsIdle round = (round.outcome ≡ Cut) × (round.refused ≡ [])

-- Store `old` replied to this round, and is `new` afterwards. The refused positions are those whose reply is `Refused`,
-- and the store may refuse them. The round has at most 4,096 requests. The store had not failed before, and hasn't now.
pub record IsAnswered {S : Type 0} (v : Service S) (old : S) (round : Round) (new : S) : Type 0 where
  pub replies : List Reply
  pub told : round.outcome ≡ Answered replies
  pub places : round.refused ≡ refused_from 0 replies
  pub answers : AnswersRound v round.requests replies old new
  pub may_refuse : v.may_refuse old new round.requests round.refused
  pub short : length round.requests ≤ 4096
  pub alive : IsAlive (v.is_failed old) (v.is_failed new)

-- store `old` cut this round off for this cause, and is `new` afterwards
pub record IsCutOff {S : Type 0} (v : Service S) (old : S) (round : Round) (cause : Cause) (new : S) : Type 0 where
  pub told : round.outcome ≡ Cut
  pub cuts : CutsOff v cause round.refused round.requests old new
  pub fails : FailsAs cause (length round.requests) (v.is_failed old) (v.is_failed new)

-- `store` was opened over `files` by `workers` workers. It hasn't failed. Without a CRC collision in `files`, it serves
-- voters that an open of `files` may find.
pub record IsOpened {S F : Type 0} (v : Service S) (d : Disk S F) (files : F) (workers : ℕ) (store : S) : Type 0 where
  pub opens : d.opens files workers store
  pub alive : v.is_failed store ≡ false
  pub finds : FindsVoters v d files store

-- An open of `files` by `workers` workers failed for this cause, and left the files `back`. The cause is the file
-- system or memory. Without a CRC collision in `files`, an open of `back` may find only the voters that an open of
-- `files` could find.
pub record IsUnopened {S F : Type 0} (v : Service S) (d : Disk S F) (files : F) (workers : ℕ) (cause : Cause) (back : F)
    : Type 0 where
  pub refuses : d.refuses files workers cause back
  pub outside : IsFromOutside cause
  pub stands : LeavesStanding v d files files back

-- A crash of this storage left the files `left`, and of the unsynced changes what `gone` says. The disk runs again.
-- Without a CRC collision in `left`, an open may find only the voters that it could find before the crash.
abbrev pub Crashes : {S F : Type 0} → Service S → Disk S F → Storage S F → Left → F → Type 0
Crashes v d (Closed files) gone left =
    d.crashes files gone left × LeavesStanding v d files left left × (d.has_stopped left ≡ false)
Crashes v d (Open store) gone left =
    d.crashes_under store gone left × LeavesUnder v d store left × (d.has_stopped left ≡ false)

-- the purge, which changed store `old` into `new`, succeeded and did its work, or it failed for this cause
abbrev pub EndsPurge : {S : Type 0} → Service S → Upkeep S → Purge → Option Cause → S → S → Type 0
EndsPurge v u purge None old new = u.purges purge old new × IsAlive (v.is_failed old) (v.is_failed new)
EndsPurge v u purge (Some cause) old new =
    u.refuses purge cause old new × RefusesPurge cause (v.is_failed old) (v.is_failed new)

-- The call `change` may change storage `old` into `new`. It changes no voter, unless it is a purge that makes the store
-- fail.
abbrev pub Keeps :
    {S F : Type 0}
    → Service S → Upkeep S → Disk S F → Change → Storage S F → Storage S F → Type 0
Keeps v u d closes (Open store) (Closed files) = d.closes store files × LeavesInFiles v d store files
Keeps v u d (purges purge refusal) (Open old) (Open new) = EndsPurge v u purge refusal old new × KeepsVoters v old new
Keeps v u d (arms fault) (Open old) (Open new) = u.arms fault old new × StaysAsItWas v old new
Keeps v u d (arms fault) (Closed old) (Closed new) = d.arms fault old new × StaysInFiles v d old new
Keeps v u d (copies target refusal) (Closed old) (Closed new) = d.forks target refusal old new × StaysInFiles v d old new
Keeps v u d change old new = ⊥

-- `given` are the files of this storage; or, if a store is open in it, files that a close of this store may leave
abbrev pub IsClosedAs : {S F : Type 0} → Service S → Disk S F → Storage S F → F → Type 0
IsClosedAs v d (Closed files) given = given ≡ files
IsClosedAs v d (Open store) given = d.closes store given × LeavesInFiles v d store given

-- this moment may happen to this storage
abbrev pub Happens :
    {S F : Type 0}
    → Service S → Upkeep S → Disk S F → Storage S F → Moment S F → Type 0
Happens v u d (Closed files) (opened workers store voters place now) =
    IsOpened v d files workers store × TellsVoters v store voters × StaysAsItWas v store now
Happens v u d (Closed files) (unread workers store now left) =
    IsOpened v d files workers store × StaysAsItWas v store now × d.closes now left × LeavesInFiles v d now left
Happens v u d (Closed files) (fell workers store gone left) =
    IsOpened v d files workers store × (u.has_stopped store ≡ true) × Crashes v d (Open store) gone left
Happens v u d (Closed files) (unopened workers cause back) = IsUnopened v d files workers cause back
Happens v u d storage (crashed gone left) = Crashes v d storage gone left
Happens v u d storage (kept change now) = Keeps v u d change storage now
Happens v u d (Open store) (answered round now) = IsAnswered v store round now
Happens v u d (Open store) (cut_off round cause now) = IsCutOff v store round cause now
Happens v u d (Closed files) (idle round now) = IsIdle round × (now ≡ files)
Happens v u d storage moment = ⊥

-- these moments may happen to this storage, one after another
abbrev pub Happen :
    {S F : Type 0}
    → Service S → Upkeep S → Disk S F → Storage S F → List (Moment S F) → Type 0
Happen v u d storage [] = Unit {0}
Happen v u d storage (m ∷ ms) = Happens v u d storage m × Happen v u d (behind m) ms

-- The moments that each event makes.

-- the disk of this storage has stopped
abbrev pub has_stopped : {S F : Type 0} → Upkeep S → Disk S F → Storage S F → Bool
has_stopped u d (Closed files) = d.has_stopped files
has_stopped u d (Open store) = u.has_stopped store

-- if the disk of this storage has stopped, `ms` is a crash that leaves what `gone` says; otherwise `ms` is empty
abbrev pub Falls :
    {S F : Type 0} → Upkeep S → Disk S F → Left → Storage S F → List (Moment S F) → Type 0
Falls u d gone storage [] = has_stopped u d storage ≡ false
Falls u d gone storage (crashed gone' files ∷ []) = (has_stopped u d storage ≡ true) × (gone' ≡ gone)
Falls u d gone storage ms = ⊥

-- `ms` is one moment for which `IsSuch` is true; if the disk stopped in it, a crash follows that leaves what `gone`
-- says
abbrev pub One :
    {S F : Type 0} → Upkeep S → Disk S F → Left → (Moment S F → Type 0)
    → List (Moment S F) → Type 0
One u d gone IsSuch [] = ⊥
One u d gone IsSuch (m ∷ ms) = IsSuch m × Falls u d gone (behind m) ms

-- the moment is a round of these requests
abbrev pub IsRoundOf : {S F : Type 0} → List (ℕ × Request) → Moment S F → Type 0
IsRoundOf requests moment = map (λ round. round.requests) (rounds_of moment) ≡ requests ∷ []

-- the moment is this change
abbrev pub IsChange : {S F : Type 0} → Change → Moment S F → Type 0
IsChange change (kept other now) = other ≡ change
IsChange change moment = ⊥

-- the moment is this purge, whether it succeeded or failed
abbrev pub IsPurge : {S F : Type 0} → Purge → Moment S F → Type 0
IsPurge purge (kept (purges other refusal) now) = other ≡ purge
IsPurge purge moment = ⊥

-- the moment is a copy of the files into this directory, whether it succeeded or failed
abbrev pub IsCopy : {S F : Type 0} → List ℕ → Moment S F → Type 0
IsCopy target (kept (copies other refusal) now) = other ≡ target
IsCopy target moment = ⊥

-- the moment is a crash that leaves of the unsynced changes what `gone` says
abbrev pub IsCrash : {S F : Type 0} → Left → Moment S F → Type 0
IsCrash gone (crashed other files) = other ≡ gone
IsCrash gone moment = ⊥

-- The moment is an open by this many workers, with any outcome. If a store was opened, and the disk stopped in the
-- open, the moment is `fell`, and its crash left what `gone` says.
abbrev pub IsOpening : {S F : Type 0} → Upkeep S → ℕ → Left → Moment S F → Type 0
IsOpening u workers gone (opened n store voters place now) = (n ≡ workers) × (u.has_stopped now ≡ false)
IsOpening u workers gone (unread n store now files) = (n ≡ workers) × (u.has_stopped now ≡ false)
IsOpening u workers gone (fell n store gone' files) = (n ≡ workers) × (gone' ≡ gone)
IsOpening u workers gone (unopened n cause files) = n ≡ workers
IsOpening u workers gone moment = ⊥

-- `First` if the flag is `true`, otherwise `Second`
abbrev pub Either : Bool → Type 0 → Type 0 → Type 0
Either true First Second = First
Either false First Second = Second

-- `ms` is one open of `files`, followed by a crash if the disk stopped in it. If the disk had stopped before, `ms` is
-- only a crash.
abbrev pub Opens :
    {S F : Type 0} → Upkeep S → Disk S F → ℕ → Left → F → List (Moment S F) → Type 0
Opens u d workers gone files ms =
    Either (d.has_stopped files) (Falls u d gone (Closed files) ms) (One u d gone (IsOpening u workers gone) ms)

-- This event makes the moments `ms` in this storage. An Open first closes a store that is open. An event that doesn't
-- fit the storage, such as a purge if no store is open, does nothing. Arming a fault at call 0 does nothing either. If
-- the disk stops in a moment, or had stopped before, a crash follows at once. `gone` is what that crash leaves of the
-- unsynced changes, as the last event that armed a stop asks.
abbrev pub Turns :
    {S F : Type 0} → Upkeep S → Disk S F → Left → Storage S F → Event → List (Moment S F) → Type 0
Turns u d gone storage (RoundEvent requests) ms = One u d gone (IsRoundOf requests) ms
Turns u d gone (Open store) Maintain ms = One u d gone (IsPurge Expired) ms
Turns u d gone (Open store) RewriteAppend ms = One u d gone (IsPurge Append) ms
Turns u d gone (Open store) RewriteRewrite ms = One u d gone (IsPurge Rewrite) ms
Turns u d gone (Open store) (OpenEvent workers) (kept closes (Closed files) ∷ ms) = Opens u d workers gone files ms
Turns u d gone (Open store) (OpenEvent workers) ms = ⊥
Turns u d gone (Closed files) (OpenEvent workers) ms = Opens u d workers gone files ms
Turns u d gone (Open store) Close ms = One u d gone (IsChange closes) ms
Turns u d gone storage (Crash gone') ms = One u d gone (IsCrash gone') ms
Turns u d gone storage (CrashAt calls gone') ms =
    Either (calls == 0) (Falls u d gone storage ms) (One u d gone' (IsChange (arms (Stop calls))) ms)
Turns u d gone storage (Refuse calls) ms =
    Either (calls == 0) (Falls u d gone storage ms) (One u d gone (IsChange (arms (RefuseCall calls))) ms)
Turns u d gone (Closed files) (Fork target) ms = One u d gone (IsCopy (string_bytes target)) ms
Turns u d gone storage event ms = Falls u d gone storage ms

-- what a crash after a stop of the disk leaves, once this event has happened; only an event that arms a stop changes
-- it
abbrev pub left_from : Event → Left → Left
left_from (CrashAt calls gone') gone = if calls == 0 then gone else gone'
left_from event gone = gone

-- These events make these moments, one list for each event, and the moments may happen one after another.
abbrev pub Plays :
    {S F : Type 0}
    → Service S → Upkeep S → Disk S F → Left → Storage S F → List Event → List (List (Moment S F)) → Type 0
Plays v u d gone storage [] [] = Unit {0}
Plays v u d gone storage (e ∷ es) (ms ∷ mss) =
    Turns u d gone storage e ms × Happen v u d storage ms
    × Plays v u d (left_from e gone) (behind_all storage ms) es mss
Plays v u d gone storage es mss = ⊥

-- `ms` ends a run: a store that is open is closed. If the disk had stopped, or stops in the close, a crash follows.
abbrev pub Ends :
    {S F : Type 0} → Upkeep S → Disk S F → Left → Storage S F → List (Moment S F) → Type 0
Ends u d gone (Closed files) ms = Falls u d gone (Closed files) ms
Ends u d gone (Open store) ms = One u d gone (IsChange closes) ms
