use Rattle.raft_log_machine_laws.proofs.ExampleLaws.{happens}
use Rattle.raft_log_machine_laws.proofs.example.two_purges_happen.Goals as goal

pub returns : goal.returns
returns c = happens
