use Rattle.std.proofs.Common.{sym, subst, ◌+◌, arith}
use Rattle.std.proofs.lemmas.Result.{err_from_is_err_and}
use Rattle.raft_log_replay.specs.Segments.{HasReadSegments}
use Rattle.raft_log_replay.proofs.Held.{read_more, stopped}
use Rattle.raft_log_replay.proofs.chunk.replay_between.Goals as goal

pub loop-index-preserved : goal.loop-index-preserved
loop-index-preserved g c =
    let source = c.args.source.now in
    let holds = g.S.ReplaySource.holds source in
    let reads = g.M.ReplayMachine.reads (g.S.ReplaySource.queue_of source) in
    subst (λ es. HasReadSegments holds reads c.args.first (c.loop-index.index + 1) c.replay_segment.new.machine es) (sym c.in_ok-push.ensures.items)
    (read_more holds reads c.args.first c.loop-index.index c.loop-index.machine c.replay_segment.new.machine c.loop-index.endings.items c.in_ok-replay_segment.field-0
    c.loop-index.invariant c.in_ok-replay_segment.ensures.ok)

pub returns-in_err-replay_segment : goal.returns-in_err-replay_segment
returns-in_err-replay_segment g c =
    let source = c.args.source.now in
    let queue = g.S.ReplaySource.queue_of source in
    let p = err_from_is_err_and c.from_residual-in_err-replay_segment.result c.from_residual-in_err-replay_segment.ensures.1 in
    rw (p.1, p.2) (stopped (g.S.ReplaySource.holds source) (g.M.ReplayMachine.reads queue) (g.S.ReplaySource.begins source) (g.S.ReplaySource.refuses source) (g.M.ReplayMachine.declines queue)
    c.args.first c.loop-index.index c.args.last c.loop-index.machine c.loop-index.endings.items c.in_err-replay_segment.field-0.0 (omega arith) c.loop-index.invariant c.in_err-replay_segment.ensures.errors)
