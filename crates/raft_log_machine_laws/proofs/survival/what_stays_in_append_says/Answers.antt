use Rattle.raft_log_machine_laws.proofs.StaysLaws.{append_stay_says, record_stays}
use Rattle.raft_log_machine_laws.proofs.survival.what_stays_in_append_says.Goals as goal

pub returns : goal.returns
returns g c = record { one = λ group s xs zs y. record_stays group s xs y zs; same = append_stay_says }
