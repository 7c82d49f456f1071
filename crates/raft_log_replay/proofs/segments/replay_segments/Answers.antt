use Rattle.std.proofs.Common.{ap, ap₂, sym, subst, ◌∙◌, ◌≡◌, ◌+◌, ◌-◌, ◌*◌, ◌≤◌, arith}
use Rattle.std.specs.List.{range_with_len, AllZip}
use Rattle.rayon.specs.Numbers.{nat_range}
use Rattle.raft_log_replay.specs.Segments.{chunk_start, read_by, Follow, HasReadSegments, IsChunk}
use Rattle.raft_log_replay.proofs.Chunks.{ends_at_last, follow_of, read_some, start_rises, starts_at_once}
use Rattle.raft_log_replay.proofs.Held.{chunk_err, chunk_ok, read_none}
use Rattle.raft_log_replay.proofs.segments.replay_segments.Given as given
use Rattle.raft_log_replay.proofs.segments.replay_segments.Goals as goal

-- the chunks that the workers read follow one another, so what is made of them is a chunk of all segments
all_read : (g : given.Over) (c : goal.After-merge_chunks g)
    → IsChunk (g.S.ReplaySource.holds c.args.source.now) (g.M.ReplayMachine.reads (g.S.ReplaySource.queue_of c.args.source.now)) (g.S.ReplaySource.begins c.args.source.now)
    (g.S.ReplaySource.refuses c.args.source.now) (g.M.ReplayMachine.declines (g.S.ReplaySource.queue_of c.args.source.now)) 0
    (read_by c.args.workers (g.S.ReplaySource.count_of c.args.source.now)) c.merge_chunks.result
all_read g c =
    let source = c.args.source.now in
    let queue = g.S.ReplaySource.queue_of source in
    let count = g.S.ReplaySource.count_of source in
    let size = c.chunk_size-size.result in
    let chunks = c.chunk_count.result in
    let holds = g.S.ReplaySource.holds source in
    let reads = g.M.ReplayMachine.reads queue in
    let between = IsChunk holds reads (g.S.ReplaySource.begins source) (g.S.ReplaySource.refuses source) (g.M.ReplayMachine.declines queue) in
    let given_by = c.in_ok-parts.ensures in
    let chain = rw (c.map.ensures.base, c.map.ensures.f, c.with_min_len.ensures.base) at given_by.1 in
    let ends = c.into_par_iter.ensures in
    let whole : chunks - 0 ≡ chunks = omega arith in
    let places = chain.1 ∙ ap₂ nat_range ends.0 ends.1 ∙ ap (range_with_len 0) whole in
    let each = subst (λ is. AllZip (λ i r. between (chunk_start size count i) (chunk_start size count (i + 1)) r) is given_by.0) places chain.2 in
    let enough = subst (λ n. n ≤ chunks * size) c.segment_count-2.ensures c.chunk_count.ensures.enough in
    let follow = follow_of between (chunk_start size count) (start_rises size count) 0 chunks given_by.0 each in
    let from_first = subst (λ n. Follow between n (chunk_start size count (0 + chunks)) given_by.0) (starts_at_once size count) follow in
    let to_last = subst (λ n. Follow between 0 n given_by.0) (ends_at_last size count chunks enough ∙ sym (read_some c.args.workers count (λ none. omega arith))) from_first in
    let parts = subst (Follow between 0 (read_by c.args.workers count)) (sym given_by.2) to_last in
    let none = subst (HasReadSegments holds reads 0 0 c.in_ok-machine.machine) (sym c.new.ensures.items) (read_none holds reads 0 c.in_ok-machine.machine (c.in_ok-machine.ensures.ok queue)) in
    c.merge_chunks.ensures 0 (read_by c.args.workers count) none parts

pub returns-clause-ok : goal.returns-clause-ok
returns-clause-ok g c =
    let source = c.args.source.now in
    let queue = g.S.ReplaySource.queue_of source in
    chunk_ok (g.S.ReplaySource.holds source) (g.M.ReplayMachine.reads queue) (g.S.ReplaySource.begins source) (g.S.ReplaySource.refuses source) (g.M.ReplayMachine.declines queue)
    0 (read_by c.args.workers (g.S.ReplaySource.count_of source)) c.merge_chunks.result (all_read g c)

pub returns-clause-errors : goal.returns-clause-errors
returns-clause-errors g c =
    let source = c.args.source.now in
    let queue = g.S.ReplaySource.queue_of source in
    chunk_err (g.S.ReplaySource.holds source) (g.M.ReplayMachine.reads queue) (g.S.ReplaySource.begins source) (g.S.ReplaySource.refuses source) (g.M.ReplayMachine.declines queue)
    0 (read_by c.args.workers (g.S.ReplaySource.count_of source)) c.merge_chunks.result (all_read g c)
