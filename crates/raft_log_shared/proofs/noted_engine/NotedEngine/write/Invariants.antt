use Rattle.std.proofs.Common.{false}
use Rattle.raft_log_world.specs.declared.event.Call.TheVariants.{Write}
use Rattle.raft_log_shared.proofs.noted_engine.NotedEngine.write.Given as goal

-- the call is the write of the batch
abbrev pub ghosts-written : goal.ghosts-written
ghosts-written g a = record { call = Write a.batch.now false }
