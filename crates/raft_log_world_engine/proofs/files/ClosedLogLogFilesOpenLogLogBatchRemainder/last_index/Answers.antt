use Rattle.raft_log_engine.specs.raft_log_fs_memory.specs.raft_log_fs_state.specs.declared.remainder.Remainder.{Remainder}
use Rattle.raft_log_recovery_laws.specs.ByCalls.{home_of}
use Rattle.raft_log_world.specs.declared.event.Call.TheVariants.{LastIndex}
use Rattle.raft_log_world_engine.proofs.Following.{call_served}
use Rattle.raft_log_world_engine.proofs.files.ClosedLogLogFilesOpenLogLogBatchRemainder.last_index.Goals as goal

pub returns : goal.returns
returns g c = call_served Remainder (home_of c.args.engine.now.config) _ _ (LastIndex c.args.group) c.last_index.result c.last_index.ensures
