-- What the example does that rewrites one group; it calls parts of a purge. `s` and `t` are the engine's states before
-- and after.
use Rattle.std.specs.Prelude.{ℕ}
use Rattle.raft_log_machine_laws.specs.Calls.Which.{InAppend, InRewrite}
use Rattle.raft_log_dual_pipes.specs.Calls.{SyncsQueue}
use Rattle.raft_log_dual_pipes.specs.Pipes.{LogPipes}
use Rattle.raft_log_engine_core.specs.raft_log_engine_laws.specs.EngineState.{EngineState}
use Rattle.raft_log_purge_copy.specs.Groups.{RewritesGroup}
use Rattle.raft_log_purge_copy.specs.Marks.{CarriesMarks}

-- Append was synced, and the owed tombstones were written. Then what `group` has in files of Append up to `gate` was
-- copied to Rewrite, and Rewrite was synced.
pub record MovesGroup (group gate : ℕ) (s t : EngineState) : Type 0 where
  pub synced : LogPipes
  pub syncs : SyncsQueue InAppend s.pipes synced
  pub carried : EngineState
  pub carries : CarriesMarks (record s { pipes = synced }) carried
  pub rewritten : EngineState
  pub rewrites : RewritesGroup group gate carried rewritten
  pub ends : SyncsQueue InRewrite rewritten.pipes t.pipes
