use Rattle.std.proofs.Common.{[], ◌∷◌, rules}
use Rattle.raft_voter_history.proofs.Moves.{begins}
use Rattle.raft_voter_history.proofs.history.FreshHistory.new.Goals as goal

pub ruled-requires : goal.ruled-requires
ruled-requires c = (search rules, (search rules, begins (0 ∷ [])))
