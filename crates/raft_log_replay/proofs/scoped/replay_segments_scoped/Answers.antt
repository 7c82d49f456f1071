use Rattle.std.proofs.Common.{sym, subst, ◌∙◌, ◌≡◌, ◌+◌, ◌*◌, ◌≤◌, length, get_or, arith}
use Rattle.raft_log_replay.specs.Segments.{chunk_start, read_by, Follow, HasReadSegments, IsChunk}
use Rattle.raft_log_replay.proofs.Chunks.{each_in_row, ends_at_last, follow_of, read_some, start_rises, starts_at_once}
use Rattle.raft_log_replay.proofs.Held.{chunk_err, chunk_ok, read_none}
use Rattle.raft_log_replay.proofs.scoped.replay_segments_scoped.Given as given
use Rattle.raft_log_replay.proofs.scoped.replay_segments_scoped.Goals as goal

-- the chunks that the threads read follow one another, so what is made of them is a chunk of all segments
all_read : (g : given.Over) (c : goal.After-merge_chunks g)
    → IsChunk (g.S.ReplaySource.holds c.args.source.now) (g.M.ReplayMachine.reads (g.S.ReplaySource.queue_of c.args.source.now)) (g.S.ReplaySource.begins c.args.source.now)
    (g.S.ReplaySource.refuses c.args.source.now) (g.M.ReplayMachine.declines (g.S.ReplaySource.queue_of c.args.source.now)) 0
    (read_by c.args.workers (g.S.ReplaySource.count_of c.args.source.now)) c.merge_chunks.result
all_read g c =
    let source = c.args.source.now in
    let queue = g.S.ReplaySource.queue_of source in
    let count = g.S.ReplaySource.count_of source in
    let size = c.chunk_size-size.result in
    let chunks = c.chunk_count-chunks.result in
    let holds = g.S.ReplaySource.holds source in
    let reads = g.M.ReplayMachine.reads queue in
    let between = IsChunk holds reads (g.S.ReplaySource.begins source) (g.S.ReplaySource.refuses source) (g.M.ReplayMachine.declines queue) in
    let parts = c.in_ok-parts.parts.items in
    let many : length parts ≡ chunks = omega (arith, c.in_ok-parts.parts.ok.0, c.in_ok-parts.ensures.len) in
    let each = each_in_row (λ i r. between (chunk_start size count i) (chunk_start size count (i + 1)) r) 0 chunks parts many
    (λ i d lt.
    let place : i ≡ 0 + i = omega arith in
    subst (λ k. between (chunk_start size count k) (chunk_start size count (k + 1)) (get_or parts i d)) place (c.in_ok-parts.ensures.each i d lt).1.met) in
    let enough = subst (λ n. n ≤ chunks * size) c.segment_count-2.ensures c.chunk_count-chunks.ensures.enough in
    let follow = follow_of between (chunk_start size count) (start_rises size count) 0 chunks parts each in
    let from_first = subst (λ n. Follow between n (chunk_start size count (0 + chunks)) parts) (starts_at_once size count) follow in
    let to_last = subst (λ n. Follow between 0 n parts) (ends_at_last size count chunks enough ∙ sym (read_some c.args.workers count (λ none. omega arith))) from_first in
    let none = subst (HasReadSegments holds reads 0 0 c.in_ok-machine.machine) (sym c.new.ensures.items) (read_none holds reads 0 c.in_ok-machine.machine (c.in_ok-machine.ensures.ok queue)) in
    c.merge_chunks.ensures 0 (read_by c.args.workers count) none to_last

pub returns-clause-ok : goal.returns-clause-ok
returns-clause-ok g c =
    let source = c.args.source.now in
    let queue = g.S.ReplaySource.queue_of source in
    chunk_ok (g.S.ReplaySource.holds source) (g.M.ReplayMachine.reads queue) (g.S.ReplaySource.begins source) (g.S.ReplaySource.refuses source) (g.M.ReplayMachine.declines queue)
    0 (read_by c.args.workers (g.S.ReplaySource.count_of source)) c.merge_chunks.result (all_read g c)

pub returns-clause-errors : goal.returns-clause-errors
returns-clause-errors g c =
    let source = c.args.source.now in
    let queue = g.S.ReplaySource.queue_of source in
    chunk_err (g.S.ReplaySource.holds source) (g.M.ReplayMachine.reads queue) (g.S.ReplaySource.begins source) (g.S.ReplaySource.refuses source) (g.M.ReplayMachine.declines queue)
    0 (read_by c.args.workers (g.S.ReplaySource.count_of source)) c.merge_chunks.result (all_read g c)
