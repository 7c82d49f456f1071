-- What an open of a log's files gives, and what one that fails leaves.
use Rattle.std.proofs.Common.{◌≡◌, ◌⊎◌, ◌≤◌, ℕ, List, [], length, take, inl, inr, None, refl, sym, subst}
use Rattle.raft_log_machine_laws.specs.Fresh.{nothing_stands}
use Rattle.raft_log_engine.specs.raft_log_model_laws.specs.Groups.{taken}
use Rattle.raft_log_engine.specs.raft_log_record_base.specs.declared.errors.Error.{Error}
use Rattle.raft_log_engine.specs.raft_log_fs.specs.Disk.{Disk as OnDisk}
use Rattle.raft_log_engine.specs.raft_log_fs.specs.Image.{IsSound}
use Rattle.raft_log_engine.specs.raft_log_file_settings.specs.declared.config.Config.{Config}
use Rattle.raft_log_engine.specs.raft_log_memtables.specs.declared.mem_tables.MemTables.{MemTables}
use Rattle.raft_log_engine.specs.raft_log_block_cache.specs.declared.block_cache.BlockCache.{BlockCache}
use Rattle.raft_log_engine.specs.raft_log_dual_pipes.specs.OnDisk.{IsDurableAs}
use Rattle.raft_log_engine.specs.raft_log_dual_pipes.specs.Pipes.{LogPipes, LogRecordValue}
use Rattle.raft_log_engine.specs.raft_log_engine_laws.specs.EngineState.{LogDirectories, LogMap, EngineState, log_in, shows}
use Rattle.raft_log_engine.specs.raft_log_engine_laws.specs.Holding.{Represents, IsRecoverableAs}
use Rattle.raft_log_engine.specs.raft_log_open.specs.Opening.{FailsToOpenDirectory, OpensDirectory}
use Rattle.raft_log_recovery_laws.specs.Bare.{BareDirectoriesOpen, IsBare}
use Rattle.raft_log_recovery_laws.specs.ByCalls.{home_of}
use Rattle.raft_log_recovery_laws.specs.Directory.{RestingDirectoriesOpen}
use Rattle.raft_log_recovery_laws.specs.InPlace.{IsLeftEither, StandingDirectoriesOpen, StandsWithoutChance}
use Rattle.raft_log_recovery_laws.specs.Opened.{HoldsFresh}
use Rattle.raft_log_world.specs.Model.{LosesSome}
use Rattle.raft_log_world_engine.specs.Instance.{Rests}
use Rattle.raft_log_world_engine.specs.Instance.Rests.{bare, rests}
use Rattle.raft_log_world_engine.proofs.Homes.{bare_for, some_append, some_rewrite}

-- An engine was opened over the files of a log: what it has.
pub record IsOpened (config : Config) (d : OnDisk) (e : EngineState) : Type 0 where
  pub resting_log : (m : LogMap) → Rests config d m → Represents (home_of config) e m []
  pub left_log : (m : LogMap) (pending : List LogRecordValue) (is : IsRecoverableAs (home_of config) d m pending) → StandsWithoutChance (home_of config) is.1.lies.state d
      → (now : LogMap) × LosesSome m pending now × Represents (home_of config) e now []

-- An open failed, and left these files: what they have.
pub record IsUnopened (config : Config) (d new : OnDisk) : Type 0 where
  pub resting_log : (m : LogMap) → Rests config d m → Rests config new m ⊎ IsRecoverableAs (home_of config) new m []
  pub left_log : (m : LogMap) (pending : List LogRecordValue) (is : IsRecoverableAs (home_of config) d m pending) → StandsWithoutChance (home_of config) is.1.lies.state d
      → IsRecoverableAs (home_of config) new m pending ⊎ ((now : LogMap) × LosesSome m pending now × IsRecoverableAs (home_of config) new now [])

module _ {F : Type 0} (disk : F → OnDisk) (tells : F → List ℕ → ℕ → Type 0) (sound : (system : F) → IsSound (disk system))
    (bares_open : BareDirectoriesOpen disk tells) (resting_open : RestingDirectoriesOpen disk tells) (left_open : StandingDirectoriesOpen disk tells)
    (config settings : Config) (named : home_of settings ≡ home_of config) (old : F) where
  here : (P : LogDirectories → Type 0) → P (home_of settings) → P (home_of config)
  here P p = subst P named p

  there : (P : LogDirectories → Type 0) → P (home_of config) → P (home_of settings)
  there P p = subst P (sym named) p

  module _ (v : LogPipes) (tables : MemTables) (cache : BlockCache) (none : cache.place ≡ None) (opens : OpensDirectory disk tells settings old v tables) where
    held : (m : LogMap) → HoldsFresh (home_of settings) v tables m → Represents (home_of config) (shows v tables cache) m []
    held m fresh = here (λ h. Represents h (shows v tables cache) m []) (fresh cache none)

    of_resting : (m : LogMap) → Rests config (disk old) m → Represents (home_of config) (shows v tables cache) m []
    of_resting m (bare b empty) =
        subst (λ (x : LogMap). Represents (home_of config) (shows v tables cache) x []) (sym empty)
        (held nothing_stands ((bares_open settings old (sound old) (bare_for config settings (disk old) (sym named) b)).answered v tables opens))
    of_resting m (rests is) =
        held m ((resting_open settings old m (sound old) (there (λ h. IsDurableAs (log_in h) (disk old) m) is)).answered v tables opens)

    of_left : (m : LogMap) (pending : List LogRecordValue) (is : IsRecoverableAs (home_of config) (disk old) m pending) → StandsWithoutChance (home_of config) is.1.lies.state (disk old)
        → (now : LogMap) × LosesSome m pending now × Represents (home_of config) (shows v tables cache) now []
    of_left m pending is spared =
        let (k, within, at, all) = left_open (home_of config) (some_append config) (some_rewrite config) old m pending (sound old) is spared in
        (taken m (take k pending), (k, within, refl), held (taken m (take k pending)) ((all settings named).answered v tables opens))

    pub opened : IsOpened config (disk old) (shows v tables cache)
    opened = record { resting_log = of_resting; left_log = of_left }

  module _ (error : Error) (new : F) (fails : FailsToOpenDirectory disk tells settings error old new) where
    bare_or_left : (m : LogMap) → m ≡ nothing_stands → IsBare settings (disk new) ⊎ IsRecoverableAs (home_of settings) (disk new) nothing_stands [] → Rests config (disk new) m ⊎ IsRecoverableAs (home_of config) (disk new) m []
    bare_or_left m empty (inl b) = inl (bare (bare_for settings config (disk new) named b) empty)
    bare_or_left m empty (inr is) = inr (subst (λ (x : LogMap). IsRecoverableAs (home_of config) (disk new) x []) (sym empty) (here (λ h. IsRecoverableAs h (disk new) nothing_stands []) is))

    from_resting : (m : LogMap) → Rests config (disk old) m → Rests config (disk new) m ⊎ IsRecoverableAs (home_of config) (disk new) m []
    from_resting m (bare b empty) = bare_or_left m empty ((bares_open settings old (sound old) (bare_for config settings (disk old) (sym named) b)).refused error new fails)
    from_resting m (rests is) =
        inr (here (λ h. IsRecoverableAs h (disk new) m [])
        ((resting_open settings old m (sound old) (there (λ h. IsDurableAs (log_in h) (disk old) m) is)).refused error new fails))

    either : (m : LogMap) (pending : List LogRecordValue) (k : ℕ) → k ≤ length pending → IsLeftEither (home_of config) (disk new) m pending (taken m (take k pending))
        → IsRecoverableAs (home_of config) (disk new) m pending ⊎ ((now : LogMap) × LosesSome m pending now × IsRecoverableAs (home_of config) (disk new) now [])
    either m pending k within (inl was) = inl was
    either m pending k within (inr found) = inr (taken m (take k pending), (k, within, refl), found)

    from_left : (m : LogMap) (pending : List LogRecordValue) (is : IsRecoverableAs (home_of config) (disk old) m pending) → StandsWithoutChance (home_of config) is.1.lies.state (disk old)
        → IsRecoverableAs (home_of config) (disk new) m pending ⊎ ((now : LogMap) × LosesSome m pending now × IsRecoverableAs (home_of config) (disk new) now [])
    from_left m pending is spared =
        let (k, within, at, all) = left_open (home_of config) (some_append config) (some_rewrite config) old m pending (sound old) is spared in
        either m pending k within (here (λ h. IsLeftEither h (disk new) m pending (taken m (take k pending))) ((all settings named).refused error new fails))

    pub unopened : IsUnopened config (disk old) (disk new)
    unopened = record { resting_log = from_resting; left_log = from_left }
