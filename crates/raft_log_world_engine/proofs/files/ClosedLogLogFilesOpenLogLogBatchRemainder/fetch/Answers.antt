use Rattle.raft_log_engine.specs.raft_log_fs_memory.specs.raft_log_fs_state.specs.declared.remainder.Remainder.{Remainder}
use Rattle.raft_log_recovery_laws.specs.ByCalls.{home_of}
use Rattle.raft_log_world.specs.declared.event.Call.TheVariants.{Fetch}
use Rattle.raft_log_world_engine.proofs.Following.{call_served}
use Rattle.raft_log_world_engine.proofs.files.ClosedLogLogFilesOpenLogLogBatchRemainder.fetch.Goals as goal

pub returns : goal.returns
returns g c = call_served Remainder (home_of c.args.engine.now.config) _ _ (Fetch c.args.group c.args.begin c.args.end c.args.max) c.fetch.result c.fetch.ensures
