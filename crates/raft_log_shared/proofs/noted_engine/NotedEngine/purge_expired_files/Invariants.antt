use Rattle.raft_log_world.specs.declared.event.Call.TheVariants.{Purge}
use Rattle.raft_log_world.specs.declared.event.Purge.TheVariants.{Expired}
use Rattle.raft_log_shared.proofs.noted_engine.NotedEngine.purge_expired_files.Given as goal

-- the call is a purge
abbrev pub ghosts-note : goal.ghosts-note
ghosts-note g a = record { call = Purge Expired }
