use Rattle.raft_log_machine_laws.proofs.LogLaws.{log_of}
use Rattle.raft_log_machine_laws.proofs.log.engine_is_a_log.Goals as goal

pub returns : goal.returns
returns g c = λ s v m pending. log_of (g.P.TiedFiles.ties s) (g.P.TiedFiles.allows s) v m pending (λ f. g.P.TiedFiles.ties_allow s f)
