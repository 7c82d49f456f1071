use Rattle.std.proofs.Common.{◌≡◌, ℕ, ◌+◌, ◌-◌, ◌<◌, List, ◌++◌, length, map, take, refl, ap, subst, inr, ◌∙◌, arith}
use Rattle.std.proofs.Math.ListN.{set}
use Rattle.std.proofs.Math.Seq.{take-length}
use Rattle.std.proofs.lemmas.List.{length-append}
use Rattle.std.proofs.lemmas.Result.{err_from_is_err_and}
use Rattle.raft_log_record_items.specs.declared.entry.EntryIndex.{EntryIndex}
use Rattle.raft_log_record_items.specs.Message.{IsReadBack}
use Rattle.raft_log_record_items.specs.Run.{unplaced_entry}
use Rattle.raft_log_record_items.specs.Writing.{KeepsFront}
use Rattle.raft_log_record_items.proofs.Public.{keeps_more}
use Rattle.raft_log_record_batches.specs.Entries.{joined, bytes_len}
use Rattle.raft_log_record_batches.proofs.Entries.{message_more, message_sized, read_more, out_len, part_len}
use Rattle.raft_log_record_batches.proofs.log_batch.messages.append_each.Goals as goal

pub returns-in_err-write-clause-err : goal.returns-in_err-write-clause-err
returns-in_err-write-clause-err g c =
    let p = err_from_is_err_and c.from_residual.result c.from_residual.ensures.1 in
    let kept : KeepsFront (c.args.out.now.items ++ joined (map g.M.Message.spelling (take c.loop-i.i c.args.messages.now))) c.write.new.out.items =
    subst (λ (l : List ℕ). KeepsFront l c.write.new.out.items) c.loop-i.invariant.0 c.in_err-write.ensures.err in
    rw p.1 (keeps_more c.args.out.now.items _ c.write.new.out.items kept)

pub returns-then-len-most-clause-errors : goal.returns-then-len-most-clause-errors
returns-then-len-most-clause-errors g c =
    let i : ℕ = c.loop-i.i in
    let lt : i < length c.args.messages.now = omega arith in
    let more : c.write.new.out.items ≡ c.args.out.now.items ++ joined (map g.M.Message.spelling (take (i + 1) c.args.messages.now)) =
    message_more g.M.Message.spelling c.args.out.now.items c.args.messages.now i c.index-messages-i.result c.loop-i.out.items c.write.new.out.items lt c.index-messages-i.is c.loop-i.invariant.0 c.in_ok-write.ensures.ok in
    let len = out_len g.M.Message.spelling c.args.out.now.items c.write.new.out.items (take (i + 1) c.args.messages.now) more in
    let part = part_len g.M.Message.spelling c.args.messages.now (i + 1) in
    let over : c.args.most < length c.args.out.now.items + bytes_len (map g.M.Message.spelling c.args.messages.now) = omega (arith, len, part, c.len.ensures, c.write.new.out.ok.0, c.if-len-most.true) in
    inr (refl, over)

pub loop-i-preserved : goal.loop-i-preserved
loop-i-preserved g c =
    let i : ℕ = c.loop-i.i in
    let lt : i < length c.args.messages.now = omega arith in
    let lt' : i < length c.args.indexes.now = omega (arith, c.requires.same) in
    let grown : length c.write.new.out.items ≡ length c.loop-i.out.items + length (g.M.Message.spelling c.index-messages-i.result) =
    ap (λ (l : List ℕ). length l) c.in_ok-write.ensures.ok ∙ length-append c.loop-i.out.items (g.M.Message.spelling c.index-messages-i.result) in
    let len : c.len-in-loop-i.result - c.len-start.result ≡ length (g.M.Message.spelling c.index-messages-i.result) =
    omega (arith, grown, c.len-in-loop-i.ensures, c.len-start.ensures, c.write.new.out.ok.0, c.loop-i.out.ok.0) in (
      message_more g.M.Message.spelling c.args.out.now.items c.args.messages.now i c.index-messages-i.result c.loop-i.out.items c.write.new.out.items lt c.index-messages-i.is c.loop-i.invariant.0 c.in_ok-write.ensures.ok,
      ap (λ (e : EntryIndex). set c.loop-i.indexes i e) c.unplaced.ensures
          ∙ message_sized g.M.Message.spelling c.args.indexes.now c.loop-i.indexes c.args.messages.now i (unplaced_entry 0 0) c.index-messages-i.result (c.len-in-loop-i.result - c.len-start.result) lt' c.requires.same c.loop-i.invariant.1 c.index-messages-i.is len,
      omega (arith, c.len.ensures, c.write.new.out.ok.0, c.if-len-most.false),
      read_more (IsReadBack g.M.Message.spelling g.M.Message.reading) c.args.messages.now i c.index-messages-i.result lt c.index-messages-i.is c.loop-i.invariant.3 c.in_ok-write.ensures.again,
    )

pub returns-clause-room : goal.returns-clause-room
returns-clause-room g c =
    let all : take c.loop-i.i c.args.messages.now ≡ c.args.messages.now = ap (λ (n : ℕ). take n c.args.messages.now) (omega (arith, c.loop-i-test.false, c.loop-i.auto.i-end)) ∙ take-length c.args.messages.now in
    let len = out_len g.M.Message.spelling c.args.out.now.items c.loop-i.out.items (take c.loop-i.i c.args.messages.now) c.loop-i.invariant.0 in
    omega (arith, len, rw all at len, c.loop-i.invariant.2)
