use Rattle.std.proofs.Common.{List, subst}
use Rattle.raft_voter_messages.specs.declared.round.Round.{Round}
use Rattle.raft_voter_rounds.specs.Taking.{HasTaken}
use Rattle.raft_voter_rounds.proofs.Kept.{taken_first}
use Rattle.raft_voter_rounds.proofs.taken.Taken.find.Goals as goal

pub returns-clause-found : goal.returns-clause-found
returns-clause-found g c =
    subst (λ (taken : List Round). HasTaken c.args.keeper.now taken) c.self.view_is
    (taken_first _ _ _ c.self.invariant.0 c.find.ensures.found)
