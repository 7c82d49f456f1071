use Rattle.raft_voter_program.proofs.Settling.{unset_for}
use Rattle.raft_voter_program.proofs.setup.config_of.Goals as goal

pub returns-in-Err-clause-err : goal.returns-in-Err-clause-err
returns-in-Err-clause-err c =
    unset_for c.args.settings.now c.in-Some.text c.as_str.result.now c.from_toml.result c.in-Err.error c.refusal_of.result c.in-Some.is c.as_str.ensures.value c.in-Err.is c.from_toml.ensures c.refusal_of.ensures
