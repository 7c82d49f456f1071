use Rattle.raft_log_world.specs.declared.event.Call.TheVariants.{Sync}
use Rattle.raft_log_shared.proofs.noted_engine.NotedEngine.sync.Given as goal

-- the call is a sync
abbrev pub ghosts-note : goal.ghosts-note
ghosts-note g a = record { call = Sync }
