use Rattle.std.proofs.Common.{List, ap}
use Rattle.raft_voter_outline.specs.Outlines.{outlined}
use Rattle.raft_voter_outline.specs.State.{State}
use Rattle.raft_voter_outline.proofs.Indexes.{Pair}
use Rattle.raft_voter_outline.proofs.outline.Outline.state.Goals as goal

pub returns-clause-own : goal.returns-clause-own
returns-clause-own c =
    let i = c.self.inside in
    let o : State = (outlined i.term i.vote i.base_term i.commit i.terms).voter in
    rw (← c.self.view_is) (ap (λ (l : List Pair). let w : State = record o { log = l } in w) c.self.invariant.bared)
