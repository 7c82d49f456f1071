-- What the example of a log's two pipes does.
use Rattle.std.specs.Prelude.{List, ℕ}
use Rattle.raft_log_record_base.specs.declared.pipe_log.FileBlockHandle.{FileBlockHandle}
use Rattle.raft_log_record_base.specs.declared.pipe_log.LogFileContext.{LogFileContext}
use Rattle.raft_log_machine_laws.specs.Calls.Which.{InAppend}
use Rattle.raft_log_dual_pipes.specs.Pipes.{LogPipes}
use Rattle.raft_log_dual_pipes.specs.Calls.{AppendsTo, SyncsQueue}

-- a record was appended to Append at `place`, signed for its file, and then Append was synced
pub record SavesBatch (signed : LogFileContext → List ℕ) (place : FileBlockHandle) (old new : LogPipes)
    : Type 0 where
  pub between : LogPipes
  pub written : AppendsTo InAppend signed place old between
  pub synced : SyncsQueue InAppend between new
