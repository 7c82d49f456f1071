use Rattle.raft_log_machine_laws.proofs.Follows.{stands_settled, stands_rotated, stands_lost}
use Rattle.raft_log_machine_laws.proofs.moves.append_moves_are_followed.Goals as goal

pub returns : goal.returns
returns g c = record { sync = stands_settled; rotation = stands_rotated; loss = stands_lost }
