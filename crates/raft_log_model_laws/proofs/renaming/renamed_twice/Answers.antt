use Rattle.raft_log_model_laws.proofs.RenamedLaws.{record_twice}
use Rattle.raft_log_model_laws.proofs.renaming.renamed_twice.Goals as goal

pub returns : goal.returns
returns g c = record_twice
