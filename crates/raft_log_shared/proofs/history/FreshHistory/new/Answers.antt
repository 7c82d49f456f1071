use Rattle.std.proofs.Common.{[], ◌∷◌, rules}
use Rattle.raft_log_shared.proofs.Moves.{begins}
use Rattle.raft_log_shared.proofs.history.FreshHistory.new.Goals as goal

pub ruled-requires : goal.ruled-requires
ruled-requires c = (search rules, (search rules, begins (0 ∷ [])))
