-- A log is opened several times, one after another, as a store that threads share.
use Rattle.std.specs.Prelude.{◌≡◌, ◌⊎◌, ℕ, false, List, [], ◌∷◌, map}
use Rattle.raft_log_fs.specs.Disk.{Disk}
use Rattle.raft_log_fs.specs.Image.{IsImage, IsSound}
use Rattle.raft_voter_durability_laws.specs.raft_log_engine_laws.specs.EngineState.{LogDirectories, LogMap, EngineState, has_failed, log_in}
use Rattle.raft_voter_durability_laws.specs.raft_log_engine_laws.specs.raft_log_dual_pipes.specs.OnDisk.{IsDurableAs}
use Rattle.raft_log_recovery_laws.specs.Bare.{IsBare}
use Rattle.raft_log_recovery_laws.specs.ByCalls.{home_of}
use Rattle.raft_log_recovery_laws.specs.Closed.{ClosesProperly, IsThatOrItsImage}
use Rattle.raft_log_recovery_laws.specs.InPlace.{StandsWithoutChance}
use Rattle.raft_log_recovery_laws.specs.Left.{IsCrashOf}
use Rattle.raft_voter.specs.Rounds.{Explains, World}
use Rattle.raft_voter.specs.Service.{CutRound, IsOpenAt, MayFollow, Service}
use Rattle.raft_voter_records.specs.Voters.{Means}
use Rattle.raft_voter_outline.specs.Kept.{outlines_in}
use Rattle.raft_voter_durability_laws.specs.Standing.{IsLeftAmong}
use Rattle.raft_voter_store.specs.Service.{LeavesAt, service_in}
use Rattle.raft_voter_log.specs.Instance.{ClosesStore}
use Rattle.raft_voter_log.specs.Leaving.{SparesStore}
use Rattle.raft_voter_shared.specs.Openings.{all_cuts, all_rounds}
use Rattle.raft_voter_shared_log.specs.declared.store.LogStore.{LogStore}
use Rattle.raft_voter_shared_log.specs.Joining.{HasPlace, Settles, Sharing, ShowsPlace, behind, sessions_of}
use Rattle.raft_voter_shared_log.specs.Opening.{OpensStore}

-- a store on a log, as a service; `shows` gives the state of its engine
abbrev pub log_service : {F : Type 0} → (LogStore F → EngineState) → Service (LogStore F)
log_service shows = service_in (λ store. home_of store.config) shows (λ store. outlines_in store.store.outlines)

-- One opening of a log: the files that were opened, the store that threads shared, and the files after it was closed.
pub record LogSharing (F : Type 0) : Type 0 where
  pub found : F
  pub shared : Sharing (LogStore F)
  pub closed : F

-- The directories of the log, by the settings of the settled store.
abbrev pub home_behind : {F : Type 0} → LogSharing F → LogDirectories
home_behind x = home_of x.shared.settled.config

-- in the opening `x`, a store was opened from its files, shared and settled, and closed, as the contracts of these
-- calls say
pub record IsShared {F : Type 0} (disk : F → Disk) (tells : F → List ℕ → ℕ → Type 0) (shows : LogStore F → EngineState)
    (x : LogSharing F) : Type 0 where
  pub opens : OpensStore disk tells x.shared.opened.config x.found (shows x.shared.opened)
      (outlines_in x.shared.opened.store.outlines)
  pub settles : Settles (log_service shows) x.shared
  pub closes : ClosesStore (shows x.shared.settled) (disk x.closed)

-- The files `found`, which are opened next, are the files `closed`, or a crash image of them. `closed` can be opened
-- with voters that are possible after the round `cut` (`left`). There is no CRC collision in `found`.
abbrev pub IsLeftNext : {F : Type 0} (disk : F → Disk) (home : LogDirectories) (cut : CutRound) (closed found : F)
    → IsLeftAmong home (disk closed) (MayFollow cut) → Type 0
IsLeftNext disk home cut closed found left = IsCrashOf home left.left.1.lies.state (disk closed) (disk found)
    ⊎ ((found ≡ closed) × StandsWithoutChance home left.left.1.lies.state (disk closed))

-- The store of the opening `x` hadn't failed when it was settled, and its log was closed properly. The next opening
-- `next` opens the files that the close left, or a crash image of them. There is no premise on CRC collisions.
pub record ReadsClosed {F : Type 0} (disk : F → Disk) (shows : LogStore F → EngineState) (x next : LogSharing F) : Type 0 where
  pub runs : has_failed (shows x.shared.settled) ≡ false
  pub sound : IsSound (shows x.shared.settled).pipes.disk
  pub closes : ClosesProperly (shows x.shared.settled).pipes (disk x.closed)
  pub found : IsThatOrItsImage (disk x.closed) (disk next.found)

-- Suppose the opening `x` began with the voters of a world. Then the files that its close left can be opened, with
-- voters that are possible after `x`. The next opening `next` opens these files, or a crash image of them, and there is
-- no CRC collision in what it opens.
abbrev pub ReadsLeft : {F : Type 0} → (F → Disk) → (LogStore F → EngineState) → LogSharing F → LogSharing F → Type 0
ReadsLeft disk shows x next = (W : World) → IsOpenAt (log_service shows) x.shared.opened W
    → ∥ ((left : IsLeftAmong (home_behind x) (disk x.closed) (MayFollow (behind W x.shared.session)))
    × IsLeftNext disk (home_behind x) (behind W x.shared.session) x.closed next.found left) ∥₁

-- The next opening `next` has settings that name the same directories as those of `x`. It opens the files that `x`
-- left, or a crash image of them. If the store of `x` had failed, or its close wasn't proper, there is no CRC collision
-- in what `next` opens.
pub record ComesNext {F : Type 0} (disk : F → Disk) (shows : LogStore F → EngineState) (x next : LogSharing F) : Type 0 where
  pub named : home_of next.shared.opened.config ≡ home_behind x
  pub sound : IsSound (disk next.found)
  pub reads : ReadsClosed disk shows x next ⊎ ReadsLeft disk shows x next

-- What follows the opening `x`. The next opening opens what `x` left. It finds the voters after the records of `x` with
-- replies. If the store of `x` failed in rounds, the voters also took the requests of these rounds before the session's
-- cut (`ShowsPlace`). If there is no next opening, the cut may be any position (`HasPlace`).
abbrev pub IsFollowedInLog : {F : Type 0} → (F → Disk) → (LogStore F → EngineState) → LogSharing F → List (LogSharing F) → Type 0
IsFollowedInLog disk shows x [] = HasPlace (log_service shows) x.shared
IsFollowedInLog disk shows x (y ∷ ys) = ComesNext disk shows x y × ShowsPlace (log_service shows) x.shared y.shared.opened

-- In each opening the store was opened, settled and closed. The next opening continues from the files that this one
-- left.
abbrev pub AreLogOpenings :
    {F : Type 0} → (F → Disk) → (F → List ℕ → ℕ → Type 0) → (LogStore F → EngineState) → List (LogSharing F) → Type 0
AreLogOpenings disk tells shows [] = Unit {0}
AreLogOpenings disk tells shows (x ∷ xs) =
    IsShared disk tells shows x × IsFollowedInLog disk shows x xs × AreLogOpenings disk tells shows xs

-- the first opening found directories without a log
abbrev pub BeginsBare : {F : Type 0} → (F → Disk) → List (LogSharing F) → Type 0
BeginsBare disk [] = Unit {0}
BeginsBare disk (x ∷ xs) = IsSound (disk x.found) × IsBare x.shared.opened.config (disk x.found)

-- the openings of the log as openings of its store
abbrev pub stores_of : {F : Type 0} → List (LogSharing F) → List (Sharing (LogStore F))
stores_of xs = map (λ x. x.shared) xs

-- If the first opening found no log, voters that never fail give exactly the replies in all journals, one after
-- another. The cuts are those of `JoinedOpeningsAreExplained`.
abbrev pub LogOpeningsAreExplained :
    {F : Type 0} → (F → Disk) → (F → List ℕ → ℕ → Type 0) → (LogStore F → EngineState) → Type 0
LogOpeningsAreExplained {F} disk tells shows = (xs : List (LogSharing F)) → BeginsBare disk xs
    → AreLogOpenings disk tells shows xs
    → Explains (all_rounds (sessions_of (stores_of xs))) (all_cuts (sessions_of (stores_of xs)))

-- disk `d` has a log at rest that stores voters for which `P` holds
abbrev pub RestsMeaning : LogDirectories → Disk → (World → Type 0) → Type 0
RestsMeaning home d P = (W : World) × P W × (m : LogMap) × IsDurableAs (log_in home) d m × Means m W

-- Each crash image of the open store's disk has a log at rest, with voters that are possible after the round `cut`.
-- This requires that there is no CRC collision in the image.
abbrev pub ImagesMean : LogDirectories → EngineState → CutRound → Type 0
ImagesMean home s cut = (known : LeavesAt home s cut)
    × ((image : Disk) → IsSound image → IsImage s.pipes.disk image → SparesStore home s cut known image
    → RestsMeaning home image (MayFollow cut))

-- Each crash image of the closed store's files has a log at rest, with voters that are possible after the round `cut`.
-- This requires that there is no CRC collision in the image.
abbrev pub ClosedImagesMean : LogDirectories → Disk → CutRound → Type 0
ClosedImagesMean home d cut = (left : IsLeftAmong home d (MayFollow cut))
    × ((image : Disk) → IsCrashOf home left.left.1.lies.state d image → RestsMeaning home image (MayFollow cut))

-- A store was settled. Take a crash image of its disk, from before or after its close, without a CRC collision. The
-- image has the voters after all records with replies, starting with the voters that the store served when it was
-- opened. If the store failed in rounds that it served together, the voters also took the requests of these rounds
-- before some position.
abbrev pub SettledStoresMean : {F : Type 0} → (LogStore F → EngineState) → Type 0
SettledStoresMean {F} shows = (x : Sharing (LogStore F)) (W : World) → Settles (log_service shows) x
    → IsOpenAt (log_service shows) x.opened W
    → ∥ ImagesMean (home_of x.settled.config) (shows x.settled) (behind W x.session) ∥₁
    × ((d : Disk) → ClosesStore (shows x.settled) d
    → ∥ ClosedImagesMean (home_of x.settled.config) d (behind W x.session) ∥₁)
