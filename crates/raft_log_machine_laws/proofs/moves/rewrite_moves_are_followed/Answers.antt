use Rattle.raft_log_machine_laws.proofs.Follows.{rewrite_stands_settled, rewrite_stands_rotated, rewrite_stands_lost}
use Rattle.raft_log_machine_laws.proofs.moves.rewrite_moves_are_followed.Goals as goal

pub returns : goal.returns
returns g c = record { sync = rewrite_stands_settled; rotation = rewrite_stands_rotated; loss = rewrite_stands_lost }
