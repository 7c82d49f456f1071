use Rattle.std.proofs.Common.{◌≡◌, [], drop}
use Rattle.std.proofs.lemmas.List.{drop_all}
use Rattle.raft_voter.proofs.Places.{none_left}
use Rattle.raft_voter.proofs.judging.judge.Goals as goal

pub returns-clause-ok : goal.returns-clause-ok
returns-clause-ok c =
    let rounds = c.args.transcript.now.rounds in
    let done : drop c.loop-round.round-index rounds ≡ [] = drop_all c.loop-round.round-index rounds (rw c.as_slice-round-items.ensures at c.loop-round-test.false) in
    let rest = rw done at c.loop-round.invariant.rest in
    let left = none_left c.args.cuts.now c.loop-round.used c.loop-round.invariant.used in
    (λ all. rest.0 (left.0 all), λ explained. left.1 (rest.1 explained))
