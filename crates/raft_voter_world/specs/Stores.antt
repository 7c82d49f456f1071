-- What a store of voters and its disk promise for each call that isn't a round.
use Rattle.std.specs.Prelude.{◌≡◌, ◌==◌, ℕ, Bool, true, false, List, Option, unwrap_or}
use Rattle.std.specs.Map.{lookup}
use Rattle.raft_voter_outline.specs.State.{State, fresh}
use Rattle.raft_voter.specs.Rounds.{World}
use Rattle.raft_voter.specs.Service.{CutRound, IsOpenAt, MayFollow, Service}
use Rattle.raft_voter.specs.declared.service.Cause.{Cause}
use Rattle.raft_voter.specs.declared.service.Cause.TheVariants.{FileSystem, Memory, Failed, TooLong}
use Rattle.raft_voter_world.specs.declared.event.Left.{Left}
use Rattle.raft_voter_world.specs.declared.faults.Fault.{Fault}
use Rattle.raft_voter_world.specs.declared.faults.Purge.{Purge}

-- Open stores.

-- What an open store promises between rounds:
-- - `has_stopped`: its disk has stopped;
-- - `purges`: a purge that succeeds may change the first store into the second;
-- - `refuses`: a purge that fails for this cause may change the first store into the second;
-- - `arms`: arming this fault may change the first store into the second.
pub record Upkeep (S : Type 0) : Type 1 where
  pub has_stopped : S → Bool
  pub purges : Purge → S → S → Type 0
  pub refuses : Purge → Cause → S → S → Type 0
  pub arms : Fault → S → S → Type 0

-- the world of these voters: for each group the first one listed for it, or a fresh one
abbrev pub world_in : List (ℕ × State) → World
world_in voters = λ g. unwrap_or (lookup (λ k. k == g) voters) fresh

-- if the store serves the voters of a world, they are exactly those of this list
abbrev pub TellsVoters : {S : Type 0} → Service S → S → List (ℕ × State) → Type 0
TellsVoters v store voters = (W : World) → IsOpenAt v store W → W ≡ world_in voters

-- after a close or a crash of store `new`, an open may find only the voters that it could have found with `old`
abbrev pub StaysLeft : {S : Type 0} → Service S → S → S → Type 0
StaysLeft v old new = (cut : CutRound) → v.leaves old cut → v.leaves new cut

-- Store `new` serves the voters that `old` serves, and has failed if and only if `old` had. A later open may find only
-- the voters that it could find after `old`.
pub record StaysAsItWas {S : Type 0} (v : Service S) (old new : S) : Type 0 where
  pub failed : v.is_failed new ≡ v.is_failed old
  pub served : (W : World) → IsOpenAt v old W → IsOpenAt v new W
  pub left : StaysLeft v old new

-- A purge changed store `old` into `new`. `new` serves the voters of `old`, unless it has failed. A later open may find
-- only the voters that it could find after `old`. If `old` had failed, so has `new`.
pub record KeepsVoters {S : Type 0} (v : Service S) (old new : S) : Type 0 where
  pub failed : v.is_failed old ≡ true → v.is_failed new ≡ true
  pub served : (W : World) → IsOpenAt v old W → v.is_failed new ≡ false → IsOpenAt v new W
  pub left : StaysLeft v old new

-- A purge may fail for this cause. `before` is whether the store had failed before the purge, and `now` whether it has
-- failed after it. Only the cause `FileSystem` can make the store fail.
abbrev pub RefusesPurge : Cause → Bool → Bool → Type 0
RefusesPurge FileSystem before now = before ≡ false
RefusesPurge Memory before now = (before ≡ false) × (now ≡ false)
RefusesPurge Failed before now = (before ≡ true) × (now ≡ true)
RefusesPurge TooLong before now = ⊥

-- Disks.

-- What a disk promises. Files are what is on the disk while no store is open. A store is one that is open on the disk.
-- - `leaves`: the next open, even after a crash, finds only voters that are possible after this cut-off round;
-- - `without_chance`: given `leaves` for `files`, the last files have no CRC collision; these are `files` themselves,
--   or what a crash left of `files`;
-- - `leaves_under`: after a crash while this store is open, an open finds only voters that are possible after this
--   round;
-- - `spares`: given `leaves_under`, the files that such a crash left have no CRC collision;
-- - `opens`: an open by this many workers may return this store;
-- - `refuses`: such an open may fail for this cause and leave the second files;
-- - `closes`: a close of this store may leave these files;
-- - `crashes`: a crash may turn the first files into the second;
-- - `crashes_under`: a crash while this store is open may leave these files;
-- - `forks`: a copy into this directory may change the first files into the second. It fails for the cause, if there is
--   one, and else succeeds;
-- - `arms`: arming this fault may change the first files into the second;
-- - `has_stopped`: the disk has stopped.
pub record Disk (S F : Type 0) : Type 1 where
  pub leaves : F → CutRound → Type 0
  pub without_chance : (files : F) (cut : CutRound) → leaves files cut → F → Type 0
  pub leaves_under : S → CutRound → Type 0
  pub spares : (store : S) (cut : CutRound) → leaves_under store cut → F → Type 0
  pub opens : F → ℕ → S → Type 0
  pub refuses : F → ℕ → Cause → F → Type 0
  pub closes : S → F → Type 0
  pub crashes : F → Left → F → Type 0
  pub crashes_under : S → Left → F → Type 0
  pub forks : List ℕ → Option Cause → F → F → Type 0
  pub arms : Fault → F → F → Type 0
  pub has_stopped : F → Bool

-- Suppose an open of `files` finds only voters that are possible after a cut-off round, and `files` have no CRC
-- collision. Then `store`, opened from `files`, serves such voters.
abbrev pub FindsVoters : {S F : Type 0} → Service S → Disk S F → F → S → Type 0
FindsVoters v d files store =
    (cut : CutRound) (known : d.leaves files cut) → d.without_chance files cut known files
    → (W : World) × MayFollow cut W × IsOpenAt v store W

-- A crash, or an open that failed, made the files `left` from `files`. `read` are `left` after a crash, and `files`
-- after such an open. Without a CRC collision in `read`, an open of `left` may find only the voters that an open of
-- `files` could find.
abbrev pub LeavesStanding : {S F : Type 0} → Service S → Disk S F → F → F → F → Type 0
LeavesStanding v d files read left =
    (cut : CutRound) (known : d.leaves files cut) → d.without_chance files cut known read → d.leaves left cut

-- A crash while `store` was open left the files `left`. Suppose that after a close or a crash of `store`, only voters
-- that are possible after a cut-off round are found. Then `leaves_under` holds for this round. If `left` have no CRC
-- collision (`spares`), an open of `left` finds only such voters.
abbrev pub LeavesUnder : {S F : Type 0} → Service S → Disk S F → S → F → Type 0
LeavesUnder v d store left =
    (cut : CutRound) → v.leaves store cut
    → d.leaves_under store cut × ((known : d.leaves_under store cut) → d.spares store cut known left → d.leaves left cut)

-- an open of `files` may find only the voters that an open could find after a close or a crash of `store`
abbrev pub LeavesInFiles : {S F : Type 0} → Service S → Disk S F → S → F → Type 0
LeavesInFiles v d store files = (cut : CutRound) → v.leaves store cut → d.leaves files cut

-- an open of the files `new` may find only the voters that an open of `old` could find
abbrev pub StaysInFiles : {S F : Type 0} → Service S → Disk S F → F → F → Type 0
StaysInFiles v d old new = (cut : CutRound) → d.leaves old cut → d.leaves new cut
