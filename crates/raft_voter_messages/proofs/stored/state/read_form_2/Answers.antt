use Rattle.std.proofs.Common.{rules}
use Rattle.raft_voter_messages.proofs.Bytes.{no_form_2}
use Rattle.raft_voter_messages.proofs.stored.state.read_form_2.Goals as goal

pub returns-in_default-clause-err : goal.returns-in_default-clause-err
returns-in_default-clause-err c =
    (search rules, no_form_2 c.split.result.0 c.split_number-commit.result.0 c.args.body.now c.split.result.1.now c.split_number-commit.result.1.now c.split.ensures.text c.split_number-commit.ensures.text c.split_number-commit.ensures.small c.in_default.ensures.none)
