use Rattle.std.proofs.Common.{subst}
use Rattle.std.proofs.lemmas.Result.{err_from_is_err_and}
use Rattle.raft_log_replay.specs.Segments.{Follow, IsChunk}
use Rattle.raft_log_replay.proofs.chunk.merge_chunks.Goals as goal

pub loop-part-preserved : goal.loop-part-preserved
loop-part-preserved g c =
    let source = c.args.source.now in
    let queue = g.S.ReplaySource.queue_of source in
    let between = IsChunk (g.S.ReplaySource.holds source) (g.M.ReplayMachine.reads queue) (g.S.ReplaySource.begins source) (g.S.ReplaySource.refuses source) (g.M.ReplayMachine.declines queue) in
    λ at last h f.
    let so_far = c.loop-part.invariant at last h f in
    let mid = so_far.0 in
    let left = subst (Follow between mid last) c.in-Some.ensures.steps.0 so_far.2 in
    (left.0, c.in_ok-whole.ensures.ok mid left.0 so_far.1 left.3, left.4)

pub returns-in_err-whole : goal.returns-in_err-whole
returns-in_err-whole g c =
    let source = c.args.source.now in
    let queue = g.S.ReplaySource.queue_of source in
    let between = IsChunk (g.S.ReplaySource.holds source) (g.M.ReplayMachine.reads queue) (g.S.ReplaySource.begins source) (g.S.ReplaySource.refuses source) (g.M.ReplayMachine.declines queue) in
    let p = err_from_is_err_and c.from_residual.result c.from_residual.ensures.1 in
    rw (p.1, p.2) (λ at last h f.
    let so_far = c.loop-part.invariant at last h f in
    let mid = so_far.0 in
    let left = subst (Follow between mid last) c.in-Some.ensures.steps.0 so_far.2 in
    c.in_err-whole.ensures.errors mid left.0 last left.1 left.2 so_far.1 left.3)
