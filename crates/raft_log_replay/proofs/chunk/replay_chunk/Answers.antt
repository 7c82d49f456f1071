use Rattle.std.proofs.Common.{ap, subst, ◌∙◌, ◌+◌, ◌*◌, min}
use Rattle.raft_log_replay.specs.Segments.{chunk_start, IsChunk}
use Rattle.raft_log_replay.proofs.Chunks.{end_is, next_start, start_is}
use Rattle.raft_log_replay.proofs.chunk.replay_chunk.Goals as goal

pub returns : goal.returns
returns g c =
    let source = c.args.source.now in
    let queue = g.S.ReplaySource.queue_of source in
    let p = c.args.index * c.args.size in
    let n = c.segment_count-count.result in
    let whole = c.segment_count-count.ensures in
    let first = start_is p n c.saturating_mul.result c.min-first.result c.saturating_mul.ensures c.min-first.ensures c.segment_count-count.type_inv in
    let last = end_is p c.args.size n c.min-first.result c.saturating_add.result c.min-last.result ((c.args.index + 1) * c.args.size) first c.saturating_add.ensures c.min-last.ensures
    c.segment_count-count.type_inv (next_start c.args.index c.args.size) in
    let Between = IsChunk (g.S.ReplaySource.holds source) (g.M.ReplayMachine.reads queue) (g.S.ReplaySource.begins source) (g.S.ReplaySource.refuses source) (g.M.ReplayMachine.declines queue) in
    subst (λ l. Between (chunk_start c.args.size (g.S.ReplaySource.count_of source) c.args.index) l c.replay_between.result)
    (last ∙ ap (min ((c.args.index + 1) * c.args.size)) whole)
    (subst (λ f. Between f c.min-last.result c.replay_between.result) (first ∙ ap (min p) whole) c.replay_between.ensures)
