use Rattle.std.proofs.Common.{◌∙◌}
use Rattle.std.proofs.lemmas.Result.{IfOk-weaker}
use Rattle.raft_examples.proofs.Kept.{read_back}
use Rattle.raft_examples.proofs.voter_messages.kept.Goals as goal

pub returns-clause-term : goal.returns-clause-term
returns-clause-term c =
    IfOk-weaker _ _ _ (λ found is. (read_back _ c.args.state.now found (c.as_slice.ensures ∙ c.in_ok-bytes.ensures) c.requires is).0) c.read_state.ensures.ok

pub returns-clause-vote : goal.returns-clause-vote
returns-clause-vote c =
    IfOk-weaker _ _ _ (λ found is. (read_back _ c.args.state.now found (c.as_slice.ensures ∙ c.in_ok-bytes.ensures) c.requires is).1) c.read_state.ensures.ok

pub returns-clause-commit : goal.returns-clause-commit
returns-clause-commit c =
    IfOk-weaker _ _ _ (λ found is. (read_back _ c.args.state.now found (c.as_slice.ensures ∙ c.in_ok-bytes.ensures) c.requires is).4) c.read_state.ensures.ok
