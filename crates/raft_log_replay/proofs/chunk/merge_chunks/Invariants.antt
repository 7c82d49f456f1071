use Rattle.std.proofs.Common.{ℕ}
use Rattle.std.specs.Vec.Iter.{into_iter_items}
use Rattle.raft_log_replay.specs.Segments.{Follow, HasReadSegments, IsChunk}
use Rattle.raft_log_replay.proofs.chunk.merge_chunks.Given as goal

-- the segments up to a place were read, and the chunks that are left follow
abbrev pub invariant-loop-part : goal.invariant-loop-part
invariant-loop-part g l =
    let holds = g.S.ReplaySource.holds l.source in
    let reads = g.M.ReplayMachine.reads (g.S.ReplaySource.queue_of l.source) in
    let is_chunk = IsChunk holds reads (g.S.ReplaySource.begins l.source) (g.S.ReplaySource.refuses l.source)
    (g.M.ReplayMachine.declines (g.S.ReplaySource.queue_of l.source)) in
    (at last : ℕ) → HasReadSegments holds reads 0 at l.fn.whole.machine l.fn.whole.endings.items → Follow is_chunk at last l.fn.parts.items
    → (mid : ℕ) × HasReadSegments holds reads 0 mid l.whole.machine l.whole.endings.items × Follow is_chunk mid last (into_iter_items l.part-iterator)
