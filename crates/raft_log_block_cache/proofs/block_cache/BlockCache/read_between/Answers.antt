use Rattle.std.proofs.Common.{◌≡◌, ◌+◌, ◌-◌, ◌<◌, Err, List, ℕ, [], ◌∷◌, ◌++◌, length, inl, inr, refl, sym, ap, subst, ◌∙◌, append_assoc, append-nil, arith}
use Rattle.std.proofs.lemmas.Result.{err_from_is_err_and}
use Rattle.raft_log_record_items.specs.Message.{Parses}
use Rattle.raft_log_extents.specs.Bounds.{bounds_of}
use Rattle.raft_log_block_cache.specs.Blocks.{IsOutside}
use Rattle.raft_log_block_cache.proofs.Bounds.{HasEntries, between_lost, between_more, between_read, between_stops, entries_part}
use Rattle.raft_log_block_cache.proofs.block_cache.BlockCache.read_between.Goals as goal

pub loop-i-init : goal.loop-i-init
loop-i-init g c = record {
  got = [];
  adds = sym (append-nil c.args.messages.now.items);
  read = λ cache has n. (refl, refl);
  from = c.at-start.ensures.start;
  len = omega arith;
  capacity = refl;
}

pub at-end-requires-clause-there : goal.at-end-requires-clause-there
at-end-requires-clause-there g c = omega (arith, c.len-i-end.ensures, c.loop-i-test.true)

pub loop-i-preserved : goal.loop-i-preserved
loop-i-preserved g c =
    let v = g.P.PipeLog.shown c.args.pipes.now in
    let i = c.loop-i.invariant in
    let m = c.in_ok-message.message in
    let bounds = bounds_of c.args.bounds.now in
    let less : c.loop-i.i + 1 < length bounds = omega (arith, c.len-i-end.ensures, c.loop-i-test.true) in
    record {
      got = i.got ++ (m ∷ []);
      adds = c.push_reserved.ensures.items ∙ ap (λ (l : List g.row.M.Denot). l ++ (m ∷ [])) i.adds ∙ append_assoc c.args.messages.now.items i.got (m ∷ []);
      read = λ cache has. between_more g.M.Message.reading v c.args.block bounds c.loop-i.i cache i.got less has.placed
          c.loop-i.start c.at-end.result.1 i.from c.at-end.ensures.end (i.read cache has)
          m c.in-Some.bytes.now (let len = has.len in omega (arith, c.in-Some.ensures.some.0, len))
          (entries_part c.loop-i.start (c.at-end.result.1 - c.loop-i.start) c.args.block c.in-Some.bytes.now c.entries-entries.result.now cache has c.in-Some.ensures.some.0 c.in-Some.ensures.some.1)
          c.in_ok-message.ensures;
      from = c.at-end.ensures.end;
      len = let len = i.len in omega (arith, len, c.push_reserved.ensures.len);
      capacity = c.push_reserved.ensures.capacity ∙ i.capacity;
    }

pub returns-in_err-read-clause-err : goal.returns-in_err-read-clause-err
returns-in_err-read-clause-err g c =
    let p = err_from_is_err_and c.from_residual.result c.from_residual.ensures.1 in
    rw (p.1, p.2) (λ n. between_lost g.M.Message.reading (g.P.PipeLog.shown c.args.pipes.now) c.args.block (bounds_of c.args.bounds.now) n c.args.self.now c.read.new.self c.in_err-read.field-0.0
    c.requires.some c.in_err-read.ensures.err)

pub returns-in_default-clause-err : goal.returns-in_default-clause-err
returns-in_default-clause-err g c =
    let i = c.loop-i.invariant in
    let bounds = bounds_of c.args.bounds.now in
    let less : c.loop-i.i + 1 < length bounds = omega (arith, c.len-i-end.ensures, c.loop-i-test.true) in
    let has : HasEntries c.args.block c.entries-entries.result.now c.read.new.self = record { placed = c.in_ok-read.ensures.ok.0; bytes = c.entries-entries.ensures.bytes; len = c.entries-entries.ensures.len } in
    let outside = c.past_the_end.ensures (length c.entries-entries.result.now) (c.in_default.ensures.none refl) in
    λ n. between_stops g.M.Message.reading (g.P.PipeLog.shown c.args.pipes.now) c.args.block bounds c.loop-i.i c.read.new.self i.got less
    c.in_ok-read.ensures.ok.0 c.loop-i.start c.at-end.result.1 i.from c.at-end.ensures.end (i.read c.read.new.self has) n c.args.self.now c.past_the_end.result c.in_ok-read.ensures.ok
    (inl (subst (λ (k : ℕ). IsOutside c.loop-i.start (c.at-end.result.1 - c.loop-i.start) k c.past_the_end.result) c.entries-entries.ensures.len outside))

pub returns-in_err-message-clause-err : goal.returns-in_err-message-clause-err
returns-in_err-message-clause-err g c =
    let i = c.loop-i.invariant in
    let bounds = bounds_of c.args.bounds.now in
    let less : c.loop-i.i + 1 < length bounds = omega (arith, c.len-i-end.ensures, c.loop-i-test.true) in
    let has : HasEntries c.args.block c.entries-entries.result.now c.read.new.self = record { placed = c.in_ok-read.ensures.ok.0; bytes = c.entries-entries.ensures.bytes; len = c.entries-entries.ensures.len } in
    let p = err_from_is_err_and c.from_residual-in_err-message.result c.from_residual-in_err-message.ensures.1 in
    rw (p.1, p.2) (λ n. between_stops g.M.Message.reading (g.P.PipeLog.shown c.args.pipes.now) c.args.block bounds c.loop-i.i c.read.new.self i.got less
    c.in_ok-read.ensures.ok.0 c.loop-i.start c.at-end.result.1 i.from c.at-end.ensures.end (i.read c.read.new.self has) n c.args.self.now c.in_err-message.field-0.0 c.in_ok-read.ensures.ok
    (inr (subst (λ (bytes : List ℕ). Parses {M = g.row.M.Denot} (Err c.in_err-message.field-0.0) (g.M.Message.reading bytes))
    (entries_part c.loop-i.start (c.at-end.result.1 - c.loop-i.start) c.args.block c.in-Some.bytes.now c.entries-entries.result.now c.read.new.self has c.in-Some.ensures.some.0 c.in-Some.ensures.some.1)
    c.in_err-message.ensures)))

pub returns-clause-ok : goal.returns-clause-ok
returns-clause-ok g c =
    let i = c.loop-i.invariant in
    let end = c.loop-i.auto.i-end in
    let has : HasEntries c.args.block c.entries-entries.result.now c.read.new.self = record { placed = c.in_ok-read.ensures.ok.0; bytes = c.entries-entries.ensures.bytes; len = c.entries-entries.ensures.len } in
    let all : c.loop-i.i + 1 ≡ length (bounds_of c.args.bounds.now) = omega (arith, end, c.len-i-end.ensures, c.loop-i-test.false) in
    λ n. (
      i.got,
      i.adds,
      between_read g.M.Message.reading (g.P.PipeLog.shown c.args.pipes.now) c.args.block (bounds_of c.args.bounds.now) n c.loop-i.i c.args.self.now c.read.new.self i.got c.requires.some all c.in_ok-read.ensures.ok (i.read c.read.new.self has n),
    )
