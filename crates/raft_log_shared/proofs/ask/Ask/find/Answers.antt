use Rattle.std.proofs.Common.{ℕ, List, subst}
use Rattle.raft_log_shared.specs.declared.served.Served.{Served}
use Rattle.raft_log_shared.specs.History.{HasPart}
use Rattle.raft_log_shared.specs.Requests.{IsAsked, Wish}
use Rattle.raft_log_shared.proofs.ask.Ask.find.Goals as goal

pub returns-clause-found : goal.returns-clause-found
returns-clause-found g c =
    subst (λ (w : Wish). IsAsked c.args.keeper.now w) c.self.view_is
    (subst (λ (p : ℕ × List Served). HasPart c.args.keeper.now p.0 p.1) c.self.invariant.1 c.find.ensures.found)
