use Rattle.raft_log_engine.specs.raft_log_engine_core.specs.ModelCalls.{IsEngineLog}
use Rattle.raft_log_engine.specs.raft_log_engine_core.specs.Reads.{shows_of}
use Rattle.raft_log_shared.specs.Names.{id_of}
use Rattle.raft_log_shared_examples.proofs.sharing.share.Given as goal

abbrev pub ghosts-share_among-L-Named : goal.ghosts-share_among-L-Named
ghosts-share_among-L-Named g a = record { history = id_of a.history }

-- the sharing begins with exactly the model logs that the engine has open
abbrev pub ghosts-share_among-L-Opening : goal.ghosts-share_among-L-Opening
ghosts-share_among-L-Opening g a = record {
  asks = id_of a.asks;
  began = λ home log. IsEngineLog home (shows_of g.P.PipeLog.shown a.engine) log;
}
