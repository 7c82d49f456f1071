use Rattle.raft_voter_program.proofs.Loaded.{loads, loads_early}
use Rattle.raft_voter_program.proofs.loading.load.Goals as goal

pub returns-clause-ok : goal.returns-clause-ok
returns-clause-ok g c = loads c.list_voters.result _ c.in_ok-files.files c.in_ok-files.ensures c.list_voters.ensures.ok

pub returns-clause-err : goal.returns-clause-err
returns-clause-err g c = loads_early c.list_voters.result _ _ c.in_ok-files.files c.in_ok-files.ensures c.list_voters.ensures.err
