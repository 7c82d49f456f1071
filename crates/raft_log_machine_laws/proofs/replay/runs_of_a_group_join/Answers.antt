use Rattle.raft_log_machine_laws.proofs.JoinedLaws.{joined_same, joined_twice, joined_behind, two_runs}
use Rattle.raft_log_machine_laws.proofs.replay.runs_of_a_group_join.Goals as goal

pub returns : goal.returns
returns g c = record { runs = two_runs; same = joined_same; behind = joined_behind; in_turn = joined_twice }
