use Rattle.raft_log_record_base.specs.declared.pipe_log.LogQueue.TheVariants.{Append, Rewrite}
use Rattle.raft_log_active_file.specs.QueueFilesLaws.{files_are_told, is_layout, queues_are_apart}
use Rattle.raft_log_dual_pipes.proofs.own.log_has_two_queues.Goals as goal

pub returns : goal.returns
returns g c says append rewrite append_some rewrite_some = record {
  append = record { lawful = is_layout Append append append_some; told = files_are_told Append append };
  rewrite = record { lawful = is_layout Rewrite rewrite rewrite_some; told = files_are_told Rewrite rewrite };
  apart = queues_are_apart append rewrite;
}
