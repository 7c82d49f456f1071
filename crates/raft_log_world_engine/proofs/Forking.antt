-- What a copy of a log's files holds, and what a copy that fails leaves.
use Rattle.std.specs.Prelude.{Contains}
use Rattle.std.proofs.Common.{◌≡◌, ℕ, Bool, true, false, List, [], ◌∷◌, ◌++◌, length, take, Option, Some, None, inl, inr, ap, refl, sym, subst, ◌∙◌, arith, length-append}
use Rattle.raft_log_engine.specs.raft_log_model_laws.specs.Groups.{taken}
use Rattle.raft_log_engine.specs.raft_log_record_base.specs.declared.errors.Error.{Error}
use Rattle.raft_log_engine.specs.raft_log_record_base.specs.declared.pipe_log.LogQueue.TheVariants.{Append}
use Rattle.raft_log_file_format.specs.Name.{suffix_of}
use Rattle.raft_log_engine.specs.raft_log_fs.specs.Disk.{Disk as OnDisk}
use Rattle.raft_log_engine.specs.raft_log_fs.specs.Image.{IsSound}
use Rattle.raft_log_engine.specs.raft_log_file_settings.specs.Sanitized.{IsFileName}
use Rattle.raft_log_engine.specs.raft_log_file_settings.specs.Settings.{settings_of}
use Rattle.raft_log_engine.specs.raft_log_file_settings.specs.declared.config.Config.{Config}
use Rattle.raft_log_engine.specs.raft_log_dual_pipes.specs.Pipes.{LogRecordValue}
use Rattle.raft_log_engine.specs.raft_log_engine_laws.specs.raft_log_active_file.specs.Paths.{IsPathWith, reserved_suffix_of}
use Rattle.raft_log_engine.specs.raft_log_engine_laws.specs.EngineState.{LogMap}
use Rattle.raft_log_engine.specs.raft_log_engine_laws.specs.Holding.{IsRecoverableAs}
use Rattle.raft_log_engine.specs.raft_log_offline.specs.Forks.{FailsToFork, Forks, IsCopyPath}
use Rattle.raft_log_recovery.specs.Directories.{paths_of}
use Rattle.raft_log_recovery_scan.specs.Found.{found_path}
use Rattle.raft_log_recovery_laws.specs.Bare.{IsBare}
use Rattle.raft_log_recovery_laws.specs.ByCalls.{home_of}
use Rattle.raft_log_recovery_laws.specs.ForkLeaving.{ForksLeaveTheSource, LeavesSource}
use Rattle.raft_log_recovery_laws.specs.ForkLeaving.EndsFork.{refused}
use Rattle.raft_log_recovery_laws.specs.ForkLeft.{LeftLogsShowAlike}
use Rattle.raft_log_recovery_laws.specs.ForkResting.{ForkedLogsRest, HoldsNoDirectory, IsClear, NamesOnly, TargetsAreClear}
use Rattle.raft_log_recovery_laws.specs.InPlace.{StandsWithoutChance}
use Rattle.raft_log_recovery_laws.specs.Scanned.{kind_of}
use Rattle.raft_log_recovery_laws.proofs.Public.{clear_free, found_at, in_one, in_target, source_is}
use Rattle.raft_log_world.specs.Model.{LosesSome}
use Rattle.raft_log_world_engine.specs.Instance.{Rests}
use Rattle.raft_log_world_engine.specs.Instance.Rests.{bare, rests}
use Rattle.raft_log_world_engine.proofs.Homes.{some_append, some_rewrite}

-- A copy was made: what it has.
pub record IsCopied (config to : Config) (d new : OnDisk) : Type 0 where
  pub resting_log : (m : LogMap) → Rests config d m → Rests to new m
  pub left_log : (m : LogMap) (pending : List LogRecordValue) (is : IsRecoverableAs (home_of config) d m pending) → StandsWithoutChance (home_of config) is.1.lies.state d
      → (now : LogMap) × LosesSome m pending now × Rests to new now

-- A copy failed: what the files have.
pub record IsUncopied (config : Config) (d new : OnDisk) : Type 0 where
  pub resting_log : (m : LogMap) → Rests config d m → Rests config new m
  pub left_log : (m : LogMap) (pending : List LogRecordValue) → IsRecoverableAs (home_of config) d m pending → IsRecoverableAs (home_of config) new m pending

none_if : (o : Option ℕ) → ((id : ℕ) → o ≡ Some id → ⊥) → o ≡ None
none_if None never = refl
none_if (Some id) never = absurd (never id refl)

-- a path in a directory isn't the directory's own
not_itself : (target name path : List ℕ) → path ≡ target ++ 47 ∷ name → path ≡ target → ⊥
not_itself target name path joined same = omega (arith, ap length same, ap length joined, length-append target (47 ∷ name))

-- A copy of directories without a log has none.
module _ (config to : Config) (target : List ℕ) (copied : List (List ℕ)) (old new : OnDisk) (only : NamesOnly to target) (clear : IsClear target old) (sound : IsSound new) (forks : Forks (settings_of config) target copied old new) (b : IsBare config old) where
  none_copied : (path : List ℕ) → IsCopyPath target forks.files path → ⊥
  none_copied path (file, there, is) =
      let directories = paths_of config in
      let of = source_is directories old forks.files file forks.sources there in
      of.lies.there (b.numbered of.queue of.found.seq (found_path (kind_of of.queue) directories of.found) (found_at of.queue directories old of.found of.lies)).0

  bare_copied : IsBare to new
  bare_copied =
      let free = clear_free target old forks.allowed.0.empty clear in
      let adds = forks.copies.adds in record {
        numbered = λ queue n path at.
            let here = subst (λ (ps : List (List ℕ)). IsPathWith (suffix_of queue) ps n path) only at in
            let joined = in_target target (suffix_of queue) n path here in
            let is : IsFileName here.name = (n, inl (queue, here.named)) in (
              adds.names path (none_copied path) ∙ ap (λ (p : List ℕ). old.names p) joined ∙ free.bare here.name here.plain is,
              adds.directories path (not_itself target here.name path joined) ∙ ap (λ (p : List ℕ). old.directories p) joined ∙ free.apart here.name here.plain is,
            );
        reserved = λ n path at.
            let here = subst (λ (ps : List (List ℕ)). IsPathWith (reserved_suffix_of Append) ps n path) only at in
            let joined = in_target target (reserved_suffix_of Append) n path here in
            adds.names path (none_copied path) ∙ ap (λ (p : List ℕ). old.names p) joined ∙ free.bare here.name here.plain (n, inr here.named);
        unnamed = λ path among.
            let same : target ≡ path = in_one target path (subst (λ (ps : List (List ℕ)). Contains ps path) only among) in
            let home : new.directories path ≡ true = ap (λ (p : List ℕ). new.directories p) (sym same) ∙ forks.home in
            none_if (new.names path) (λ id named. (let apart = sound.apart path id named in let never : ⊥ = cc in never));
      }

module _ {F : Type 0} (disk : F → OnDisk) (tells : F → List ℕ → ℕ → Type 0) (sound : (system : F) → IsSound (disk system))
    (clears : TargetsAreClear) (resting_fork : ForkedLogsRest) (left_fork : LeftLogsShowAlike disk tells)
    (config to : Config) (target : List ℕ) (copied : List (List ℕ)) (old new : F) (only : NamesOnly to target)
    (forks : Forks (settings_of config) target copied (disk old) (disk new)) (apart : HoldsNoDirectory target (disk old)) where
  clear : IsClear target (disk old)
  clear = clears target (disk old) (sound old) apart

  of_resting : (m : LogMap) → Rests config (disk old) m → Rests to (disk new) m
  of_resting m (bare b empty) = bare (bare_copied config to target copied (disk old) (disk new) only clear (sound new) forks b) empty
  of_resting m (rests h) = rests (resting_fork config to target copied (disk old) (disk new) m only clear h forks).0

  of_left : (m : LogMap) (pending : List LogRecordValue) (is : IsRecoverableAs (home_of config) (disk old) m pending) → StandsWithoutChance (home_of config) is.1.lies.state (disk old)
      → (now : LogMap) × LosesSome m pending now × Rests to (disk new) now
  of_left m pending is spared =
      let (k, within, at, alike) = left_fork (home_of config) (some_append config) (some_rewrite config) old m pending (sound old) is spared in
      (taken m (take k pending), (k, within, refl), rests (alike.forks config refl to target copied new (sound new) only clear forks).rests)

  pub is_copied : IsCopied config to (disk old) (disk new)
  is_copied = record { resting_log = of_resting; left_log = of_left }

pub is_uncopied : ForksLeaveTheSource → (config : Config) (target : List ℕ) (error : Error) (d new : OnDisk) → IsSound d → FailsToFork (settings_of config) target error d new → IsUncopied config d new
is_uncopied leave config target error d new sound fails =
    let leaves : LeavesSource config d new = leave config target d new sound (refused error fails) in
    record { resting_log = still leaves; left_log = leaves.left }
  where
    still : LeavesSource config d new → (m : LogMap) → Rests config d m → Rests config new m
    still leaves m (bare b empty) = bare (leaves.bare b) empty
    still leaves m (rests h) = rests (leaves.rests m h).0
