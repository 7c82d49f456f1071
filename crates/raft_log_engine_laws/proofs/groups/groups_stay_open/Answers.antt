use Rattle.raft_log_engine_laws.proofs.LeftOpen.{left_open_count_not}
use Rattle.raft_log_engine_laws.proofs.groups.groups_stay_open.Goals as goal

pub returns : goal.returns
returns g c = record { engine = λ home e m o h. h.holds; records = left_open_count_not }
