use Rattle.std.proofs.Common.{◌-◌, length}
use Rattle.raft_log_fs_traced.proofs.Pieces.{WritesOn}
use Rattle.raft_log_fs_traced.proofs.writing_back.write_pieces.Given as goal

abbrev pub invariant-loop-offset : goal.invariant-loop-offset
invariant-loop-offset g l =
    WritesOn l.file l.size l.offset (length l.room) (g.D.Device.trace l.fn.device) (g.D.Device.trace l.device)

abbrev pub decreases-loop-offset : goal.decreases-loop-offset
decreases-loop-offset g l = l.size - l.offset
