-- The fork of a log at rest rests in its target.
use Rattle.std.proofs.Common.{◌≡◌, ℕ, Bool, true, false, Option, Some, None, List, [], ◌∷◌, ◌++◌, refl, sym, ◌∙◌, subst}
use Rattle.raft_log_record_base.specs.declared.pipe_log.LogQueue.{LogQueue}
use Rattle.raft_log_record_base.specs.declared.pipe_log.LogQueue.TheVariants.{Append, Rewrite}
use Rattle.raft_log_fs.specs.Disk.{Disk, IsPlain}
use Rattle.raft_log_fs.proofs.Public.{absent_holds_no_name}
use Rattle.raft_log_engine_laws.specs.raft_log_active_file.specs.declared.record.LogRecord.{LogRecord}
use Rattle.raft_log_file_settings.specs.Sanitized.{IsFileName}
use Rattle.raft_log_file_settings.specs.Settings.{settings_of}
use Rattle.raft_log_file_settings.specs.declared.config.Config.{Config}
use Rattle.raft_log_dual_pipes.specs.Own.{log_layout}
use Rattle.raft_log_dual_pipes.specs.State.{LogOnDisk, Ties}
use Rattle.raft_log_dual_pipes.specs.Reopening.{RestsQueue}
use Rattle.raft_log_dual_pipes.specs.OnDisk.{IsDurableAs}
use Rattle.raft_log_engine_laws.specs.EngineState.{log_in, LogDirectories, LogMap}
use Rattle.raft_log_recovery.specs.Directories as builder
use Rattle.raft_log_offline.specs.Forks.{Forks, HoldsLogFile}
use Rattle.raft_log_offline.specs.Sources.{AreSources}
use Rattle.raft_log_recovery_laws.specs.ForkResting.{ForkedLogsRest, IsClear, TargetsAreClear}
use Rattle.raft_log_recovery_laws.proofs.Sources.{same_directories}
use Rattle.raft_log_recovery_laws.proofs.Copies.{ForksQueue, IsFreeOf, forks_queue, none_is_some}
use Rattle.raft_log_recovery_laws.proofs.ForkQueues.{numbered_copied, rests_copied}

-- on a sound disk no file lies in a directory that isn't there
pub targets_are_clear : TargetsAreClear
targets_are_clear target d sound apart = record {
  absent = λ gone name plain is. absent_holds_no_name d target (target ++ 47 ∷ name) sound gone (record { name = name; joined = refl; plain = plain });
  apart = apart;
}

-- no log file is in a target into which a log was forked
pub clear_free : (target : List ℕ) (d : Disk) → (HoldsLogFile target d → ⊥) → IsClear target d → IsFreeOf target d
clear_free target d empty clear = record { bare = λ name plain is. by_home (d.directories target) refl name plain is; apart = clear.apart }
  where
    by_home : (there : Bool) → d.directories target ≡ there → (name : List ℕ) → IsPlain name → IsFileName name → d.names (target ++ 47 ∷ name) ≡ None
    by_home false e name plain is = clear.absent e name plain is
    by_home true e name plain is = by_name (d.names (target ++ 47 ∷ name)) refl
      where
        by_name : (o : Option ℕ) → d.names (target ++ 47 ∷ name) ≡ o → d.names (target ++ 47 ∷ name) ≡ None
        by_name None none = none
        by_name (Some id) named = absurd (empty (record { home = e; name = name; is = is; plain = plain; there = λ none. none_is_some id (sym none ∙ named) }))

-- the home of a log whose files lie in these directories
abbrev pub lies_in : List (List ℕ) → LogDirectories
lies_in directories = record { append = directories; rewrite = directories }

-- the log in these directories rests on a disk with those files and records
abbrev pub RestsIn : List (List ℕ) → LogOnDisk LogRecord → LogMap → Disk → Type 0
RestsIn directories s m d = (t : IsDurableAs (log_in (lies_in directories)) d m) × (t.state ≡ record s { disk = d })

module _ (directories : List (List ℕ)) (target : List ℕ) (old new : Disk) (append : ForksQueue Append directories target old new) (rewrite : ForksQueue Rewrite directories target old new) where
  pub both_copied : (m : LogMap) (h : IsDurableAs (log_in (lies_in directories)) old m) → RestsIn (target ∷ []) h.state m new
  both_copied m h =
      let ties : Ties (log_in (lies_in directories)) (record h.state { disk = old }) h.holds.files = subst (λ (d : Disk). Ties (log_in (lies_in directories)) (record h.state { disk = d }) h.holds.files) h.disk h.holds.there in (
        record {
          state = record h.state { disk = new };
          disk = refl;
          rests = record {
            append = rests_copied Append directories target old new append h.state.append (subst (RestsQueue (log_layout Append directories) h.state.append) h.disk h.rests.append);
            rewrite = rests_copied Rewrite directories target old new rewrite h.state.rewrite (subst (RestsQueue (log_layout Rewrite directories) h.state.rewrite) h.disk h.rests.rewrite);
          };
          append_synced = h.append_synced;
          rewrite_synced = h.rewrite_synced;
          holds = record {
            files = h.holds.files;
            whereabouts = h.holds.whereabouts;
            failed = h.holds.failed;
            sound = h.holds.sound;
            ends = h.holds.ends;
            there = record {
              append = numbered_copied Append directories target old new append _ h.state.append.files h.holds.files.append_from h.state.append.first h.holds.files.append ties.append;
              rewrite = numbered_copied Rewrite directories target old new rewrite _ h.state.rewrite.files h.holds.files.rewrite_from h.state.rewrite.first h.holds.files.rewrite ties.rewrite;
            };
          };
        },
        refl,
      )

-- a fork is one of each queue
pub forks_each : (config : Config) (target : List ℕ) (copied : List (List ℕ)) (old new : Disk) → IsClear target old → Forks (settings_of config) target copied old new → (queue : LogQueue)
    → ForksQueue queue (builder.paths_of config) target old new
forks_each config target copied old new clear forks queue =
    let are : AreSources (builder.paths_of config) old forks.files = subst (λ (l : List (List ℕ)). AreSources l old forks.files) (same_directories config) forks.sources in
    forks_queue queue (builder.paths_of config) target old new forks.files are forks.copies (clear_free target old forks.allowed.0.empty clear) forks.home

pub forked_logs_rest : ForkedLogsRest
forked_logs_rest config to target copied old new m only clear h forks =
    let each = forks_each config target copied old new clear forks in
    subst (λ (l : List (List ℕ)). RestsIn l h.state m new) (sym only) (both_copied (builder.paths_of config) target old new (each Append) (each Rewrite) m h)
