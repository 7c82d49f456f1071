use Rattle.std.proofs.Common.{List, subst}
use Rattle.raft_log_shared.specs.declared.served.Served.{Served}
use Rattle.raft_log_shared.specs.Requests.{IsAsked, Wish}
use Rattle.raft_log_shared.proofs.Finding.{same_wish}
use Rattle.raft_log_shared.proofs.hall.Hall.compare.Goals as goal

pub returns-clause-equal : goal.returns-clause-equal
returns-clause-equal g c =
    let asks = c.args.self.now.asks in
    same_wish asks c.args.ask c.args.other.now
    (subst (λ (l : List Served). IsAsked l c.args.ask) c.find.ensures.same c.find-2.ensures.found)
    (subst (λ (w : Wish). IsAsked asks w) c.again-twin.ensures.twin c.find.ensures.found)
    c.requires
