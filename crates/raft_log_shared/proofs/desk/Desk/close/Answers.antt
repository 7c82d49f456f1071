use Rattle.std.proofs.Common.{List, subst}
use Rattle.std.specs.List.{All}
use Rattle.raft_log_shared.specs.Receipts.{IsIn, Stamp}
use Rattle.raft_log_shared.proofs.desk.Desk.close.Goals as goal

pub returns : goal.returns
returns g c =
    let history = c.split-engine.result.1 in
    record {
      history = history;
      leads = c.split-engine.ensures;
      found = subst (λ (stamps : List Stamp). All (λ stamp. IsIn history stamp) stamps) c.as_mut_slice.ensures.value c.find_all.ensures.found;
    }
