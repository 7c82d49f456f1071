use Rattle.std.proofs.Common.{rules}
use Rattle.raft_voter_messages.proofs.Bytes.{no_form_1}
use Rattle.raft_voter_messages.proofs.stored.state.read_form_1.Goals as goal

pub returns-in_default-clause-err : goal.returns-in_default-clause-err
returns-in_default-clause-err c =
    (search rules, no_form_1 c.split.result.0 _ c.args.body.now c.split.result.1.now c.base_index-commit.ensures c.split.ensures.text c.in_default.ensures.none)
