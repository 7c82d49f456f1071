use Rattle.raft_log_dual_pipes.proofs.Rotations.{calls_leave_room}
use Rattle.raft_log_dual_pipes.proofs.recycling.calls_leave_room.Goals as goal

pub returns : goal.returns
returns c = calls_leave_room
