-- A log at rest stays at rest through cuts and syncs.
use Rattle.std.proofs.Common.{◌≡◌, ℕ, List, [], ◌∷◌, sym, ap, subst, ◌∙◌, inl, inr, arith}
use Rattle.raft_log_model_laws.specs.Item.{Record}
use Rattle.raft_log_model_laws.specs.Groups.{Map}
use Rattle.raft_log_machine_laws.specs.Files.{FileQueue}
use Rattle.raft_log_fs.specs.Disk.{Disk}
use Rattle.raft_log_file_writer.specs.LogFormat.{Format}
use Rattle.raft_log_file_writer.specs.LogQueue.{LogFiles}
use Rattle.raft_log_active_file.specs.Bridge.{IsFileQueue}
use Rattle.raft_log_active_file.specs.Standing.{Names}
use Rattle.raft_log_active_file.specs.declared.format.File.{File}
use Rattle.raft_log_engine_laws.specs.raft_log_active_file.specs.declared.record.LogRecord.{LogRecord}
use Rattle.raft_log_recovery_read.specs.declared.file_ending.FileEnding.{FileEnding}
use Rattle.raft_log_machine_laws.specs.Log.{IsLog}
use Rattle.raft_log_dual_pipes.specs.Queues.{AreTwoQueues, QueueLayout, TwoQueues}
use Rattle.raft_log_dual_pipes.specs.State.{HasSpan, LogOnDisk, Spanned, Ties}
use Rattle.raft_log_dual_pipes.specs.Reopening.{RestBoth, RestsQueue}
use Rattle.raft_log_dual_pipes.specs.OnDisk.{IsDurableAs}
use Rattle.raft_log_recovery.specs.Syncing.{SyncsEach}
use Rattle.raft_log_recovery_laws.specs.Keeping.{KeepsBothQueues, KeepsNumbered}
use Rattle.raft_log_recovery_laws.proofs.Keeping.{both_kept, both_lie, keeps_then, log_kept, moved}
use Rattle.raft_log_recovery_laws.proofs.Calls.{keeps_all, rest_then, rests_at_rest, sync_keeps, AreAtRest}
use Rattle.raft_log_recovery_laws.specs.Files.{AreToldOf}
use Rattle.raft_log_recovery_laws.specs.Files.AreToldOf.{none_told, some_told}

-- Where names are the same.

pub span_of : (layout : QueueLayout LogRecord) (q : Spanned LogRecord) (old new : Disk) → new.names ≡ old.names → RestsQueue layout q old → HasSpan layout.format q new
span_of layout q old new names (inl (left, span)) m from below =
    let is = span m from below in
    record { path = is.path; at = is.at; id = is.id; named = ap (λ (f : Names). f is.path) names ∙ is.named }
span_of layout q old new names (inr unbegun) m from below =
    let first : q.first ≡ 1 = ap (λ (x : Spanned LogRecord). x.first) unbegun.is.3 in
    let last : q.files.last ≡ 1 = ap (λ (x : Spanned LogRecord). x.files.last) unbegun.is.3 in
    absurd (omega (arith, first, last, from, below))

pub told_rests : (layout : QueueLayout LogRecord) (q : Spanned LogRecord) (files : List File) (endings : List FileEnding) (old new : Disk) → new.names ≡ old.names → RestsQueue layout q old → AreToldOf layout q new files endings → RestsQueue layout q new
told_rests layout q files endings old new names rests (some_told earlier last front ending are also long fine all told) = inl (all.stops, span_of layout q old new names rests)
told_rests layout q files endings old new names rests (none_told are also unbegun) = inr unbegun

numbered_named : {R E V : Type 0} (says : R → Record E V) (F : Format R) (q : LogFiles R) (low first : ℕ) (old new : Disk) (files : FileQueue E V) → new.names ≡ old.names → IsFileQueue says F q low first old files → IsFileQueue says F q low first new files
numbered_named says F q low first old new files names is = record {
  back = is.back;
  forth = is.forth;
  below = is.below;
  above = is.above;
  gone = is.gone;
  full = is.full;
  last = is.last;
  synced = is.synced;
  pending = is.pending;
  behind = is.behind;
  gap = λ m next path at. ap (λ (f : Names). f path) names ∙ is.gap m next path at;
}

-- Syncs of files at rest.

pub syncs_keep : {R : Type 0} (F : Format R) (files : List File) (old new : Disk) → AreAtRest F old → SyncsEach files old new → KeepsNumbered F old new
syncs_keep F [] old new rest same = subst (KeepsNumbered F old) (sym same) (keeps_all F old)
syncs_keep F (file ∷ files) old new rest (mid, one, others) =
    let first = sync_keeps F old mid file.handle.file rest one in
    keeps_then F old mid new first (syncs_keep F files mid new (rest_then F old mid first rest) others)

module _ {E V : Type 0} (log : TwoQueues LogRecord E V) (two : AreTwoQueues log) where
  -- the log rests on this disk, with those files and records, and is the map
  pub record StaysAt (s : LogOnDisk LogRecord) (m : Map E V) (d : Disk) : Type 0 where
    pub rests : RestBoth log (moved log two s d)
    pub holds : IsLog (Ties log (moved log two s d)) m []

  pub stays_first : (d : Disk) (m : Map E V) (h : IsDurableAs log d m) → StaysAt h.state m d
  stays_first d m h = subst (StaysAt h.state m) h.disk (record { rests = h.rests; holds = h.holds })

  pub stays_kept : (s : LogOnDisk LogRecord) (m : Map E V) (old new : Disk) → KeepsBothQueues log old new → StaysAt s m old → StaysAt s m new
  stays_kept s m old new keeps at = record {
    rests = both_kept log two (moved log two s old) new keeps at.rests;
    holds = log_kept log two (moved log two s old) new m [] keeps (both_lie log two (moved log two s old) at.rests) at.holds;
  }

  pub stays_named : (s : LogOnDisk LogRecord) (m : Map E V) (old new : Disk) → new.names ≡ old.names → RestsQueue log.append s.append new → RestsQueue log.rewrite s.rewrite new → StaysAt s m old → StaysAt s m new
  stays_named s m old new names append rewrite at =
      let holds = at.holds in
      record {
        rests = record { append = append; rewrite = rewrite };
        holds = record {
          files = holds.files;
          whereabouts = holds.whereabouts;
          failed = holds.failed;
          sound = holds.sound;
          ends = holds.ends;
          there = record {
            append = numbered_named log.says log.append.format s.append.files holds.files.append_from s.append.first old new holds.files.append names holds.there.append;
            rewrite = numbered_named log.says log.rewrite.format s.rewrite.files holds.files.rewrite_from s.rewrite.first old new holds.files.rewrite names holds.there.rewrite;
          };
        };
      }

  pub stays_synced : (s : LogOnDisk LogRecord) (m : Map E V) (files : List File) (old new : Disk) → StaysAt s m old → SyncsEach files old new → KeepsBothQueues log old new
  stays_synced s m files old new at syncs = record {
    append = syncs_keep log.append.format files old new (rests_at_rest log.append old s.append at.rests.append) syncs;
    rewrite = syncs_keep log.rewrite.format files old new (rests_at_rest log.rewrite old s.rewrite at.rests.rewrite) syncs;
  }
