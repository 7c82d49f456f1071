-- How the files of the log's own two queues are written, and where they are.
use Rattle.std.specs.Prelude.{ℕ, ◌<◌, List, length}
use Rattle.raft_log_model_laws.specs.Item.{Record}
use Rattle.raft_log_record_base.specs.declared.pipe_log.LogQueue.{LogQueue}
use Rattle.raft_log_record_base.specs.declared.pipe_log.LogQueue.TheVariants.{Append, Rewrite}
use Rattle.raft_log_active_file.specs.QueueFiles.{log_format, log_paths}
use Rattle.raft_log_active_file.specs.Paths.{IsOwnPath}
use Rattle.raft_log_active_file.specs.declared.record.LogRecord.{LogRecord}
use Rattle.raft_log_dual_pipes.specs.Queues.{QueueLayout, TwoQueues, AreTwoQueues}

-- how the files of this queue of the log are written, and where they are: in these directories
abbrev pub log_layout : LogQueue → List (List ℕ) → QueueLayout LogRecord
log_layout queue directories = record {
  format = log_format queue directories;
  own = IsOwnPath queue directories;
  paths = log_paths queue directories;
}

-- the log's two queues, each in its directories; `says` gives the model's record for each record of a file
abbrev pub log_queues : {E V : Type 0} → (LogRecord → Record E V) → List (List ℕ) → List (List ℕ)
    → TwoQueues LogRecord E V
log_queues says append rewrite =
    record { append = log_layout Append append; rewrite = log_layout Rewrite rewrite; says = says }

-- the log's queues are two queues that share no path, if each has a directory; both may have the same directories
abbrev pub LogHasTwoQueues : {E V : Type 0} → (LogRecord → Record E V) → Type 0
LogHasTwoQueues says = (append rewrite : List (List ℕ)) → 0 < length append → 0 < length rewrite
    → AreTwoQueues (log_queues says append rewrite)
