use Rattle.std.proofs.Common.{◌≡◌, ℕ, ◌+◌, ◌-◌, ◌<◌, List, [], ◌∷◌, ◌++◌, length, take, inr, refl, ap, subst, ◌∙◌, arith}
use Rattle.std.proofs.Math.Seq.{take-length}
use Rattle.std.proofs.lemmas.List.{length-append, length_push}
use Rattle.std.proofs.lemmas.Result.{err_from_is_err_and}
use Rattle.raft_log_record_items.specs.declared.entry.EntryIndex.{EntryIndex}
use Rattle.raft_log_record_items.specs.Writing.{KeepsFront}
use Rattle.raft_log_record_items.proofs.Public.{keeps_more}
use Rattle.raft_log_record_batches.specs.Entries.{joined}
use Rattle.raft_log_record_batches.proofs.EntriesFrom.{entry_more, run_end, text_more, texts_len, texts_part}
use Rattle.raft_log_record_batches.proofs.log_batch.from_index.append_each.Goals as goal

pub returns-in_err-append-clause-err : goal.returns-in_err-append-clause-err
returns-in_err-append-clause-err g c =
    let p = err_from_is_err_and c.from_residual.result c.from_residual.ensures.1 in
    let kept : KeepsFront (c.args.out.now.items ++ joined (take c.loop-place.place (g.E.EntryWriter.texts c.args.entries.now))) c.append.new.out.items =
    subst (λ (l : List ℕ). KeepsFront l c.append.new.out.items) c.loop-place.invariant.0 c.in_err-append.ensures.err in
    rw p.1 (keeps_more c.args.out.now.items _ c.append.new.out.items kept)

pub returns-then-len-most-clause-errors : goal.returns-then-len-most-clause-errors
returns-then-len-most-clause-errors g c =
    let i : ℕ = c.loop-place.place in
    let texts : List (List ℕ) = g.E.EntryWriter.texts c.args.entries.now in
    let out = text_more texts i c.args.out.now.items c.loop-place.out.items c.append.new.out.items c.loop-place.invariant.0 c.in_ok-append.ensures.ok in
    inr (refl, omega (arith, texts_len c.args.out.now.items c.append.new.out.items (take (i + 1) texts) out, texts_part texts (i + 1), c.if-len-most.true, c.len.ensures))

pub overflow_add-first : goal.overflow_add-first
overflow_add-first g c =
    let texts : List (List ℕ) = g.E.EntryWriter.texts c.args.entries.now in
    let lt : c.loop-place.place < length texts = omega (arith, c.loop-place-test.true, c.len-place-end.ensures) in
    let some : 0 < length texts = omega arith in
    omega (arith, lt, run_end c.args.first (length texts) some c.requires.run)

pub loop-place-preserved : goal.loop-place-preserved
loop-place-preserved g c =
    let i : ℕ = c.loop-place.place in
    let texts : List (List ℕ) = g.E.EntryWriter.texts c.args.entries.now in
    let lt : i < length texts = omega (arith, c.loop-place-test.true, c.len-place-end.ensures) in
    let one = c.in_ok-append.ensures.ok in
    let longer = ap (λ (l : List ℕ). length l) one.appended ∙ length-append c.loop-place.out.items one.text in
    let grown : length c.append.new.out.items ≡ length c.loop-place.out.items + (c.len-in-loop-place.result - c.len-start.result) = omega (arith, longer, c.len-in-loop-place.ensures, c.len-start.ensures) in (
      text_more texts i c.args.out.now.items c.loop-place.out.items c.append.new.out.items c.loop-place.invariant.0 one,
      entry_more c.args.first texts i c.loop-place.placed.items c.push_reserved.new.self.items c.loop-place.out.items c.append.new.out.items c.unplaced.result (c.args.first + i) (c.len-in-loop-place.result - c.len-start.result)
          c.loop-place.invariant.1 one lt c.push_reserved.ensures.items c.unplaced.ensures refl grown,
      ap (λ (l : List EntryIndex). length l) c.push_reserved.ensures.items ∙ length_push c.loop-place.placed.items c.unplaced.result ∙ ap (λ (n : ℕ). n + 1) c.loop-place.invariant.2,
      c.push_reserved.ensures.capacity ∙ c.loop-place.invariant.3,
      omega (arith, c.if-len-most.false, c.len.ensures),
    )

pub returns-clause-room : goal.returns-clause-room
returns-clause-room g c =
    let texts : List (List ℕ) = g.E.EntryWriter.texts c.args.entries.now in
    let end : c.loop-place.place ≡ length texts = omega (arith, c.loop-place-test.false, c.len-place-end.ensures, c.loop-place.auto.place-end) in
    let all : take c.loop-place.place texts ≡ texts = ap (λ (n : ℕ). take n texts) end ∙ take-length texts in
    let out : c.loop-place.out.items ≡ c.args.out.now.items ++ joined texts = c.loop-place.invariant.0 ∙ ap (λ (l : List (List ℕ)). c.args.out.now.items ++ joined l) all in
    omega (arith, texts_len c.args.out.now.items c.loop-place.out.items texts out, c.loop-place.invariant.4)
