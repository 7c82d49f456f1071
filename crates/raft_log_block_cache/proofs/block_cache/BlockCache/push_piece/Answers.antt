use Rattle.std.proofs.Common.{◌≡◌, Err, List, ℕ, [], ◌∷◌, ◌++◌, length, take, inl, inr, refl, sym, ap, subst, ◌∙◌, append_assoc, append-nil, arith, false, rules, true}
use Rattle.std.proofs.lemmas.Result.{err_from_is_err_and}
use Rattle.raft_log_record_items.specs.Message.{Parses}
use Rattle.raft_log_block_cache.specs.Blocks.{ReadsEntries}
use Rattle.raft_log_block_cache.proofs.Entries.{block_unread, piece_more, piece_read, piece_stops, some_before}
use Rattle.raft_log_block_cache.proofs.block_cache.BlockCache.push_piece.Goals as goal

pub loop-i-init : goal.loop-i-init
loop-i-init g c = record {
  got = [];
  adds = sym (append-nil c.args.messages.now.items);
  read = (refl, refl);
  len = omega arith;
  capacity = refl;
}

pub loop-i-preserved : goal.loop-i-preserved
loop-i-preserved g c =
    let v = g.P.PipeLog.shown c.args.pipes.now in
    let i = c.loop-i.invariant in
    let m = c.in_ok-message.message in
    let yes : c.lies_in.result ≡ true = search rules in
    record {
      got = i.got ++ (m ∷ []);
      adds = c.push_reserved.ensures.items ∙ ap (λ (l : List g.row.M.Denot). l ++ (m ∷ [])) i.adds ∙ append_assoc c.args.messages.now.items i.got (m ∷ []);
      read = piece_more g.M.Message.reading v c.args.entries.now c.loop-i.i _ c.in-Some.block c.read.new.self i.got c.loop-i-test.true (c.lies_in.ensures.0 yes) c.in_ok-read.ensures.ok.0 i.read
          m c.in_ok-bytes.bytes.now c.in_ok-bytes.ensures.ok.0 c.in_ok-bytes.ensures.ok.1 c.in_ok-message.ensures;
      len = let len = i.len in omega (arith, len, c.push_reserved.ensures.len);
      capacity = c.push_reserved.ensures.capacity ∙ i.capacity;
    }

pub returns-in_err-read-clause-err : goal.returns-in_err-read-clause-err
returns-in_err-read-clause-err g c =
    let p = err_from_is_err_and c.from_residual-in_err-read.result c.from_residual-in_err-read.ensures.1 in
    rw (p.1, p.2) (block_unread g.M.Message.reading (g.P.PipeLog.shown c.args.pipes.now) c.args.entries.now _ c.in-Some.block c.args.self.now c.read.new.self c.in_err-read.field-0.0
    c.requires.some c.in-Some.is c.in_err-read.ensures.err)

pub returns-then-not-lies_in-clause-ok : goal.returns-then-not-lies_in-clause-ok
returns-then-not-lies_in-clause-ok g c =
    let i = c.loop-i.invariant in
    let other : c.lies_in.result ≡ false = search rules in (
      i.got,
      i.adds,
      piece_read g.M.Message.reading (g.P.PipeLog.shown c.args.pipes.now) c.args.entries.now c.loop-i.i _ c.in-Some.block c.args.self.now c.read.new.self i.got
          (some_before c.args.entries.now c.loop-i.i _ c.in-Some.block c.lies_in.result c.lies_in.ensures other c.in-Some.is) c.requires.some c.in-Some.is c.in_ok-read.ensures.ok i.read,
    )

pub returns-in_err-bytes-clause-err : goal.returns-in_err-bytes-clause-err
returns-in_err-bytes-clause-err g c =
    let i = c.loop-i.invariant in
    let p = err_from_is_err_and c.from_residual-in_err-bytes.result c.from_residual-in_err-bytes.ensures.1 in
    let yes : c.lies_in.result ≡ true = search rules in
    rw (p.1, p.2) (piece_stops g.M.Message.reading (g.P.PipeLog.shown c.args.pipes.now) c.args.entries.now c.loop-i.i _ c.in-Some.block c.read.new.self i.got c.loop-i-test.true
    (c.lies_in.ensures.0 yes) c.in_ok-read.ensures.ok.0 i.read c.args.self.now c.in_err-bytes.field-0.0 c.in-Some.is c.in_ok-read.ensures.ok (inl c.in_err-bytes.ensures.err))

pub returns-in_err-message-clause-err : goal.returns-in_err-message-clause-err
returns-in_err-message-clause-err g c =
    let i = c.loop-i.invariant in
    let p = err_from_is_err_and c.from_residual-in_err-message.result c.from_residual-in_err-message.ensures.1 in
    let yes : c.lies_in.result ≡ true = search rules in
    rw (p.1, p.2) (piece_stops g.M.Message.reading (g.P.PipeLog.shown c.args.pipes.now) c.args.entries.now c.loop-i.i _ c.in-Some.block c.read.new.self i.got c.loop-i-test.true
    (c.lies_in.ensures.0 yes) c.in_ok-read.ensures.ok.0 i.read c.args.self.now c.in_err-message.field-0.0 c.in-Some.is c.in_ok-read.ensures.ok
    (inr (subst (λ (bytes : List ℕ). Parses {M = g.row.M.Denot} (Err c.in_err-message.field-0.0) (g.M.Message.reading bytes)) c.in_ok-bytes.ensures.ok.1 c.in_err-message.ensures)))

pub returns-clause-ok : goal.returns-clause-ok
returns-clause-ok g c =
    let es = c.args.entries.now in
    let v = g.P.PipeLog.shown c.args.pipes.now in
    let i = c.loop-i.invariant in
    let end = c.loop-i.auto.i-end in
    let all : c.loop-i.i ≡ length es = omega (arith, end, c.loop-i-test.false) in
    subst (λ (n : ℕ). (more : List g.row.M.Denot) × (c.loop-i.messages.items ≡ c.args.messages.now.items ++ more) × ReadsEntries g.M.Message.reading v (take n es) c.args.self.now c.read.new.self more) all (
      i.got,
      i.adds,
      piece_read g.M.Message.reading v es c.loop-i.i _ c.in-Some.block c.args.self.now c.read.new.self i.got
          (omega (arith, all, c.requires.some)) c.requires.some c.in-Some.is c.in_ok-read.ensures.ok i.read,
    )
