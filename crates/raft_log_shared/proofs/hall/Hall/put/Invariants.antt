use Rattle.raft_log_world.specs.declared.event.Call.TheVariants.{Write}
use Rattle.raft_log_shared.proofs.hall.Hall.put.Given as goal

-- the call is the write of the batch
abbrev pub ghosts-noted_ask : goal.ghosts-noted_ask
ghosts-noted_ask g a = record { call = Write a._batch.now a._sync }
