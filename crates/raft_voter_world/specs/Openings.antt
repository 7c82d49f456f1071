-- What may come out of an open of a store's files. `v`, `u` and `d` are what the store and its disk promise, and
-- `gone` is what a crash leaves of the unsynced changes.
use Rattle.std.specs.Prelude.{◌≡◌, ◌⊎◌, ℕ, true, false, List}
use Rattle.raft_voter_outline.specs.State.{State}
use Rattle.raft_voter.specs.Service.{Service}
use Rattle.raft_voter.specs.Voters.{world_of}
use Rattle.raft_voter.specs.declared.service.Cause.{Cause}
use Rattle.raft_voter_world.specs.declared.event.Left.{Left}
use Rattle.raft_voter_world.specs.declared.opening.Opened.{Opened}
use Rattle.raft_voter_world.specs.declared.opening.Opened.TheVariants.{Shown, Closed as IsClosed}
use Rattle.raft_voter_world.specs.declared.storage.Storage.TheVariants.{Open as IsOpenStore}
use Rattle.raft_voter_world.specs.History.{Crashes, IsOpened, IsUnopened}
use Rattle.raft_voter_world.specs.Stores.{Disk, LeavesInFiles, StaysAsItWas, TellsVoters, Upkeep, world_in}

-- What became of the open, after `store` was opened. There are three outcomes:
-- - its voters were read, and are shown;
-- - the disk had stopped, and a crash left the files;
-- - the disk runs, the voters weren't read, and the store was closed again.
abbrev pub ComesOf : {S F : Type 0} → Service S → Upkeep S → Disk S F → S → Left → Opened S F → Type 0
ComesOf v u d store gone (Shown now voters) =
    (listed : List (ℕ × State)) × TellsVoters v store listed × StaysAsItWas v store now
    × (u.has_stopped now ≡ false) × (world_of voters ≡ world_in listed)
ComesOf {S} {F} v u d store gone (IsClosed files) =
    ((u.has_stopped store ≡ true) × Crashes v d (IsOpenStore store) gone files)
    ⊎ ((now : S) × StaysAsItWas v store now × (u.has_stopped now ≡ false)
    × d.closes now files × LeavesInFiles v d now files)

-- An open of `files` by this many workers has the outcome `opened`: a store was opened, or the open failed. If the
-- disk had already stopped, nothing was opened, and the files are unchanged.
abbrev pub ComesOut : {S F : Type 0} → Service S → Upkeep S → Disk S F → F → ℕ → Left → Opened S F → Type 0
ComesOut {S} {F} v u d files workers gone opened =
    (((store : S) × (d.has_stopped files ≡ false) × IsOpened v d files workers store × ComesOf v u d store gone opened))
    ⊎ (((cause : Cause) × ((back : F) × (d.has_stopped files ≡ false) × IsUnopened v d files workers cause back
    × (opened ≡ IsClosed back)))
    ⊎ ((d.has_stopped files ≡ true) × (opened ≡ IsClosed files)))
