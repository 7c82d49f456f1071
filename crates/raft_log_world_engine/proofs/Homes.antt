-- Settings that name the same directories, and directories without a log.
use Rattle.std.proofs.Common.{◌≡◌, ◌<◌, ℕ, false, List, length, ap, refl, subst, sym, arith}
use Rattle.std.specs.Prelude.{Contains}
use Rattle.raft_log_file_format.specs.Name.{suffix_of}
use Rattle.raft_log_engine.specs.raft_log_fs.specs.Disk.{Disk, empty_disk}
use Rattle.raft_log_engine.specs.raft_log_record_base.specs.declared.pipe_log.LogQueue.TheVariants.{Append}
use Rattle.raft_log_engine.specs.raft_log_file_settings.specs.declared.config.Config.{Config}
use Rattle.raft_log_engine.specs.raft_log_engine_laws.specs.raft_log_active_file.specs.Paths.{IsPathWith, reserved_suffix_of}
use Rattle.raft_log_engine.specs.raft_log_engine_laws.specs.EngineState.{LogDirectories, EngineState, LogMap, has_failed}
use Rattle.raft_log_engine.specs.raft_log_engine_laws.specs.Holding.{Represents}
use Rattle.raft_log_engine.specs.raft_log_dual_pipes.specs.Pipes.{LogRecordValue}
use Rattle.raft_log_recovery.specs.Directories.{paths_of}
use Rattle.raft_log_recovery_laws.specs.Bare.{IsBare}
use Rattle.raft_log_recovery_laws.specs.ByCalls.{home_of}

-- directories without a log have none, whichever settings name them
pub bare_for : (c e : Config) (d : Disk) → home_of c ≡ home_of e → IsBare c d → IsBare e d
bare_for c e d same b = record {
  numbered = λ queue n path at. b.numbered queue n path (subst (λ (ps : List (List ℕ)). IsPathWith (suffix_of queue) ps n path) back at);
  reserved = λ n path at. b.reserved n path (subst (λ (ps : List (List ℕ)). IsPathWith (reserved_suffix_of Append) ps n path) back at);
  unnamed = λ path at. b.unnamed path (subst (λ (ps : List (List ℕ)). Contains ps path) back at);
}
  where
    back : paths_of e ≡ paths_of c
    back = ap (λ (h : LogDirectories). h.append) (sym same)

pub some_append : (config : Config) → 0 < length (home_of config).append
some_append config = omega arith

pub some_rewrite : (config : Config) → 0 < length (home_of config).rewrite
some_rewrite config = omega arith

-- an empty file system has no log
pub bare_at_first : (config : Config) (d : Disk) → d ≡ empty_disk → IsBare config d
bare_at_first config d empty = subst (IsBare config) (sym empty) (record {
  numbered = λ queue n path at. (refl, refl);
  reserved = λ n path at. refl;
  unnamed = λ path among. refl;
})

-- an engine that runs hasn't failed
pub alive : (home : LogDirectories) (e : EngineState) (m : LogMap) (pending : List LogRecordValue) → Represents home e m pending → has_failed e ≡ false
alive home e m pending h =
    let one : e.pipes.append.failed ≡ false = h.runs.append.alive in
    let other : e.pipes.rewrite.failed ≡ false = h.runs.rewrite.alive in
    rw (one, other) refl
