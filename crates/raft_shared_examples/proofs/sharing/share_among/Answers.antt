use Rattle.raft_shared_examples.proofs.Shared.{rounds_served, settled_from}
use Rattle.raft_shared_examples.proofs.sharing.share_among.Goals as goal

pub returns-clause-settled : goal.returns-clause-settled
returns-clause-settled g c = settled_from g.S.RoundService.service g.L.Opening.served c.args.store c.settle_both.result c.requires.served c.settle_both.ensures.settled

pub returns-clause-served : goal.returns-clause-served
returns-clause-served g c =
    rounds_served c.args.one.now c.args.other.now c.serve_both-one.result.0.answer c.serve_both-one.result.1.answer c.settle_both.result c.serve_both-one.ensures.one c.serve_both-one.ensures.other
    c.settle_both.ensures.right c.settle_both.ensures.first c.settle_both.ensures.second
