use Rattle.std.proofs.Common.{length}
use Rattle.raft_log_fs_os.proofs.Resting.{BetweenFiles}
use Rattle.raft_log_fs_os.proofs.making_durable.write_back_last_of.Given as goal

abbrev pub invariant-loop-file : goal.invariant-loop-file
invariant-loop-file g l =
    BetweenFiles (length l.room) (g.D.Device.trace l.fn.device) (g.D.Device.trace l.device)
