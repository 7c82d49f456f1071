use Rattle.std.proofs.Common.{◌≡◌, ap, sym, ◌∙◌, rules}
use Rattle.raft_voter_outline.specs.State.{State, state_of}
use Rattle.raft_voter.proofs.Sameness.{logs_decide, voter_built}
use Rattle.raft_voter.proofs.voters.is_same.Goals as goal

pub returns : goal.returns
returns c =
    let alike : state_of c.args.voter.now ≡ state_of c.args.other.now = search rules in
    let logs = logs_decide c.args.voter.now.log c.args.other.now.log in
    (λ e. voter_built _ _ alike (logs.0 (search rules)), λ e. search rules)
