-- What an engine left on its disk, through a crash, and through an open that is refused.
use Rattle.std.proofs.Common.{◌≡◌, ◌+◌, ◌<◌, List, [], ◌++◌, length, take, refl, sym, ap, subst, ◌∙◌, length-append, arith}
use Rattle.std.proofs.Math.Seq.{take-append-add}
use Rattle.raft_log_model_laws.specs.Groups.{taken}
use Rattle.raft_log_record_base.specs.declared.pipe_log.LogQueue.TheVariants.{Append, Rewrite}
use Rattle.raft_log_machine_laws.proofs.Public.{taken_twice}
use Rattle.raft_log_engine_laws.specs.raft_log_active_file.specs.QueueFilesLaws.{files_are_told, is_layout, queues_are_apart}
use Rattle.raft_log_dual_pipes.specs.Queues.{AreTwoQueues}
use Rattle.raft_log_dual_pipes.specs.OpenOrClosed.{none_open}
use Rattle.raft_log_dual_pipes.specs.OnDisk.{IsDurableAs}
use Rattle.raft_log_dual_pipes.proofs.Public.{logs_go_on_disks}
use Rattle.raft_log_dual_pipes.specs.Pipes.{LogRecordValue}
use Rattle.raft_log_engine_laws.specs.EngineState.{log_in, sense, LogDirectories}
use Rattle.raft_log_recovery_laws.specs.Left.{CrashedLogsRest, RefusedOpensLeaveLogs}

two_queues : (home : LogDirectories) → 0 < length home.append → 0 < length home.rewrite → AreTwoQueues (log_in home)
two_queues home one other = record {
  append = record { lawful = is_layout Append home.append one; told = files_are_told Append home.append };
  rewrite = record { lawful = is_layout Rewrite home.rewrite other; told = files_are_told Rewrite home.rewrite };
  apart = queues_are_apart home.append home.rewrite;
}

pub crashed_logs_rest : CrashedLogsRest
crashed_logs_rest home one other d image m pending (open_ones, left) crash =
    let (k, within, rests) = (logs_go_on_disks (log_in home) (two_queues home one other)).crashes open_ones d image (taken m left.done) left.rest left.lies crash.is crash.append crash.rewrite in
    let first : left.done ++ take k left.rest ≡ take (length left.done + k) pending =
    sym (take-append-add left.done left.rest k) ∙ ap (λ (l : List LogRecordValue). take (length left.done + k) l) left.splits in
    let long = ap length (sym left.splits) ∙ length-append left.done left.rest in (
      length left.done + k,
      omega (arith, within, long),
      subst (λ map. IsDurableAs (log_in home) image map) (taken_twice m left.done (take k left.rest) ∙ ap (taken m) first) rests,
    )

pub refused_opens_leave_logs : RefusedOpensLeaveLogs
refused_opens_leave_logs home m append rewrite error old new fails rests = (
  none_open,
  record { done = []; rest = []; splits = refl; lies = fails.lies (sense home) m rests },
)
