use Rattle.raft_log_replay.specs.Segments.{HasReadSegments}
use Rattle.raft_log_replay.proofs.chunk.replay_between.Given as goal

-- the segments before this one were read
abbrev pub invariant-loop-index : goal.invariant-loop-index
invariant-loop-index g l =
    HasReadSegments (g.S.ReplaySource.holds l.source) (g.M.ReplayMachine.reads (g.S.ReplaySource.queue_of l.source)) l.first l.index l.machine l.endings.items
