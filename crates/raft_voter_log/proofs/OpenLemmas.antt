-- An open of a log's files serves the voters that stand in them; refused, it leaves them.
use Rattle.std.proofs.Common.{◌≡◌, ◌∙◌, ◌⊎◌, inl, inr, ℕ, false, List, ap, refl, sym, subst, arith}
use Rattle.raft_log_fs.specs.Disk.{Disk as OnDisk}
use Rattle.raft_log_fs.specs.Image.{IsSound}
use Rattle.raft_log_fs_memory.specs.Memory.{disk_of}
use Rattle.raft_log_fs_memory.specs.declared.memory.MemoryFileSystem.{MemoryFileSystem}
use Rattle.raft_log_file_settings.specs.declared.config.Config.{Config}
use Rattle.raft_voter_durability_laws.specs.raft_log_engine_laws.specs.raft_log_dual_pipes.specs.OnDisk.{IsDurableAs}
use Rattle.raft_voter_durability_laws.specs.raft_log_engine_laws.specs.EngineState.{LogDirectories, EngineState, has_failed, log_in, shows as shows_all}
use Rattle.raft_log_recovery_laws.specs.Bare.{IsBare}
use Rattle.raft_log_recovery_laws.specs.ByCalls.{home_of}
use Rattle.raft_voter_outline.specs.State.{State}
use Rattle.raft_voter.specs.Rounds.{World, fresh_world}
use Rattle.raft_voter.specs.Service.{CutRound, IsFromOutside, IsOpenAt, MayFollow, uncut}
use Rattle.raft_voter.specs.declared.service.Cause.{Cause}
use Rattle.raft_voter_durability_laws.specs.Standing.{IsLeftAmong, IsLeftWith, Keeps}
use Rattle.raft_log_record_base.specs.declared.errors.Error.{Error}
use Rattle.raft_log_record_base.specs.declared.errors.Error.TheVariants as errors
use Rattle.raft_voter_recovery.specs.declared.unread.Unread.{Unread}
use Rattle.raft_voter_recovery.specs.declared.unread.Unread.TheVariants as causes
use Rattle.raft_voter_log.specs.Opens.{ServesFound}
use Rattle.raft_voter_log.proofs.Finding.{first_opens_are_fresh, left_voters_are_found, resting_voters_are_found}
use Rattle.raft_voter_store.specs.Opening.{FailsToOpenVoters, OpensVoters}
use Rattle.raft_voter_store.specs.Service.{service_in}
use Rattle.raft_voter_store.proofs.Public.{open_in}
use Rattle.raft_voter_world.specs.Stores.{FindsVoters}
use Rattle.raft_voter_log.specs.declared.files.LogFiles.{LogFiles}
use Rattle.raft_voter_log.specs.Causes.{cause_of, unread_cause}
use Rattle.raft_voter_log.specs.Instance.{AreSame, HasWorkers, OpensFiles, RefusesFiles, log_disk}
use Rattle.raft_voter_log.specs.Leaving.{FilesLeave, SparesFiles}
use Rattle.raft_voter_log.specs.Leaving.FilesLeave.{bare, left, rests}
use Rattle.raft_voter_log.proofs.Homes.{bare_for, leave_for, one_home, some_append, some_rewrite}

-- what stands in a file system in memory is sound
pub memory_sound : (system : MemoryFileSystem) → IsSound (disk_of system)
memory_sound system = let storage = system.whole.sound in record {
  named = storage.named;
  one_name = storage.one_name;
  apart = storage.apart;
  home = storage.home;
  fresh = storage.fresh;
  files = storage.files;
}

-- an engine that was just opened hasn't failed
pub opened_lives : {F : Type 0} (disk : F → OnDisk) (tells : F → List ℕ → ℕ → Type 0) (config : Config) (old : F) (t : EngineState) (os : ℕ → State) → OpensVoters disk tells config old t os → has_failed t ≡ false
opened_lives disk tells config old t os o =
    ap has_failed o.stays.same ∙ ap has_failed o.opens.is ∙ pipes o.opens.opens.opens.opens.append_is.alive o.opens.opens.opens.opens.rewrite_is.alive
  where
    pipes : o.opens.pipes.append.failed ≡ false → o.opens.pipes.rewrite.failed ≡ false → has_failed (shows_all o.opens.pipes o.opens.tables o.opens.cache) ≡ false
    pipes one other = rw (one, other) refl

-- where no round was cut off, the voters stand behind it
pub follows_none : (cut : CutRound) (W : World) → cut ≡ uncut W → MayFollow cut W
follows_none cut W none = subst (λ (c : CutRound). MayFollow c W) (sym none) (record { place = 0; within = omega arith; reached = refl })

-- and no others
pub left_as : (home : LogDirectories) (d : OnDisk) (cut : CutRound) (W : World) → MayFollow cut W → IsLeftWith home d W → IsLeftAmong home d (MayFollow cut)
left_as home d cut W follows l = record {
  map = l.map;
  pending = l.pending;
  left = l.left;
  among = λ k within. (let (X, is, means) = l.among k within in (X, subst (λ (V : World). MayFollow cut V) (sym is) follows, means));
}

module _ {S : Type 0} (tells : MemoryFileSystem → List ℕ → ℕ → Type 0) (config : S → Config) (shows : S → EngineState) (outlines : S → ℕ → State) (files : LogFiles) where
  -- what an open serves is served by the settings that the store keeps
  serves : (store : S) (settings : Config) (W : World) → home_of settings ≡ home_of files.config → AreSame (config store) files.config → OpensVoters disk_of tells settings files.files (shows store) (outlines store)
      → ServesFound disk_of tells settings files.files W → IsOpenAt (service_in (λ s. home_of (config s)) shows outlines) store W
  serves store settings W named same opens found =
      let (keeps, are) = found (shows store) (outlines store) opens in
      open_in (λ s. home_of (config s)) shows outlines store W (opened_lives disk_of tells settings files.files (shows store) (outlines store) opens)
      (subst (λ (h : LogDirectories). Keeps h (shows store) W) (named ∙ sym (one_home (config store) files.config same)) keeps) are

  pub finds : (workers : ℕ) (store : S) → OpensFiles tells files workers (shows store) (outlines store) → AreSame (config store) files.config
      → FindsVoters (service_in (λ s. home_of (config s)) shows outlines) (log_disk tells config shows outlines) files store
  finds workers store (settings, named, opens) same cut known chance = by_known known chance
    where
      by_known : (known : FilesLeave files.config (disk_of files.files) cut) → SparesFiles files.config (disk_of files.files) cut known (disk_of files.files)
          → (W : World) × MayFollow cut W × IsOpenAt (service_in (λ s. home_of (config s)) shows outlines) store W
      by_known (bare b none) chance =
          let law = first_opens_are_fresh disk_of tells settings files.files (memory_sound files.files) (bare_for files.config settings (disk_of files.files) (sym named.0) b) in
          (fresh_world, follows_none cut fresh_world none, serves store settings fresh_world named.0 same opens law.answered)
      by_known (rests before image m is W means follows) chance =
          let there : IsDurableAs (log_in (home_of settings)) (disk_of files.files) m = subst (λ (h : LogDirectories). IsDurableAs (log_in h) (disk_of files.files) m) (sym named.0) is in
          let law = resting_voters_are_found disk_of tells settings files.files m W (memory_sound files.files) there means in
          (W, follows, serves store settings W named.0 same opens law.answered)
      by_known (left l) chance =
          let (W, follows, law) = left_voters_are_found disk_of tells (home_of files.config) (some_append files.config) (some_rewrite files.config) files.files cut l (memory_sound files.files) (chance.stands refl) in
          (W, follows, serves store settings W named.0 same opens (law settings named.0).answered)

refused_leaves : (tells : MemoryFileSystem → List ℕ → ℕ → Type 0) (files : LogFiles) (back : MemoryFileSystem) (settings : Config) (why : Unread) → home_of settings ≡ home_of files.config → FailsToOpenVoters disk_of tells settings why files.files back → (cut : CutRound)
    → (known : FilesLeave files.config (disk_of files.files) cut) → SparesFiles files.config (disk_of files.files) cut known (disk_of files.files) → FilesLeave settings (disk_of back) cut
refused_leaves tells files back settings why named fails cut (bare b none) chance =
    let law = first_opens_are_fresh disk_of tells settings files.files (memory_sound files.files) (bare_for files.config settings (disk_of files.files) (sym named) b) in
    begun (law.refused why back fails)
  where
    begun : IsBare settings (disk_of back) ⊎ IsLeftWith (home_of settings) (disk_of back) fresh_world → FilesLeave settings (disk_of back) cut
    begun (inl still) = bare still none
    begun (inr l) = left (left_as (home_of settings) (disk_of back) cut fresh_world (follows_none cut fresh_world none) l)
refused_leaves tells files back settings why named fails cut (rests before image m is W means follows) chance =
    let there : IsDurableAs (log_in (home_of settings)) (disk_of files.files) m = subst (λ (h : LogDirectories). IsDurableAs (log_in h) (disk_of files.files) m) (sym named) is in
    let law = resting_voters_are_found disk_of tells settings files.files m W (memory_sound files.files) there means in
    left (left_as (home_of settings) (disk_of back) cut W follows (law.refused why back fails))
refused_leaves tells files back settings why named fails cut (left l) chance =
    let (W, follows, law) = left_voters_are_found disk_of tells (home_of files.config) (some_append files.config) (some_rewrite files.config) files.files cut l (memory_sound files.files) (chance.stands refl) in
    left ((law settings named).refused why back fails)

-- an open was refused, and these files are handed back
pub refuses_as : (tells : MemoryFileSystem → List ℕ → ℕ → Type 0) (files : LogFiles) (workers : ℕ) (cause : Cause) (back : MemoryFileSystem) (settings : Config) (why : Unread) → HasWorkers files.config workers settings → cause ≡ unread_cause why
    → FailsToOpenVoters disk_of tells settings why files.files back → RefusesFiles tells files workers cause back × AreSame files.config files.config
refuses_as tells files workers cause back settings why named told fails = (inr (settings, named, (why, told, fails)), refl)

pub refused_stands : (tells : MemoryFileSystem → List ℕ → ℕ → Type 0) (files : LogFiles) (workers : ℕ) (back : MemoryFileSystem) (settings : Config) (why : Unread) → HasWorkers files.config workers settings
    → FailsToOpenVoters disk_of tells settings why files.files back → (cut : CutRound) → (known : FilesLeave files.config (disk_of files.files) cut) → SparesFiles files.config (disk_of files.files) cut known (disk_of files.files)
    → FilesLeave files.config (disk_of back) cut
refused_stands tells files workers back settings why named fails cut known chance =
    leave_for settings files.config (disk_of back) cut named.0 (refused_leaves tells files back settings why named.0 fails cut known chance)

-- why it was refused comes from outside
error_outside : (error : Error) → IsFromOutside (cause_of error)
error_outside (errors.InvalidArgument text) = tt
error_outside (errors.Corruption text) = tt
error_outside (errors.Io kind) = tt
error_outside (errors.Codec fault) = tt
error_outside (errors.Message text) = tt
error_outside (errors.TryAgain text) = tt
error_outside errors.EntryCompacted = tt
error_outside errors.EntryNotFound = tt
error_outside errors.Full = tt
error_outside (errors.Other why) = tt
error_outside errors.Memory = tt
error_outside errors.Failed = tt
error_outside errors.Hole = tt
error_outside errors.NumberRange = tt

pub cause_outside : (cause : Cause) (why : Unread) → cause ≡ unread_cause why → IsFromOutside cause
cause_outside cause why told = subst (λ (c : Cause). IsFromOutside c) (sym told) (by_cause why)
  where
    by_cause : (u : Unread) → IsFromOutside (unread_cause u)
    by_cause (causes.Engine error) = error_outside error
    by_cause (causes.Foreign group) = tt
    by_cause causes.Memory = tt
