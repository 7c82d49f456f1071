use Rattle.std.proofs.Common.{◌≡◌, ◌+◌, List, [], ◌++◌, length, length-drop, take, refl, sym, ap, subst, ◌∙◌, append_assoc, append-nil, drop, arith}
use Rattle.std.proofs.lemmas.List.{at_drop_all}
use Rattle.std.proofs.lemmas.Result.{err_from_is_err_and}
use Rattle.raft_log_record_items.specs.declared.entry.EntryIndex.{EntryIndex}
use Rattle.raft_log_block_cache.specs.Blocks.{AreUnread, ReadsEntries}
use Rattle.raft_log_block_cache.proofs.Entries.{front_kept, kept_through, part_left, read_both, unread_behind}
use Rattle.raft_log_block_cache.proofs.block_cache.BlockCache.push_entries.Goals as goal

pub loop-done-init : goal.loop-done-init
loop-done-init g c = record {
  got = [];
  adds = sym (append-nil c.args.messages.now.items);
  read = λ last more others. others;
  unread = λ last error others. others;
  within = omega arith;
  room = omega (arith, c.requires);
}

pub loop-done-preserved : goal.loop-done-preserved
loop-done-preserved g c =
    let es = c.args.entries.now in
    let v = g.P.PipeLog.shown c.args.pipes.now in
    let i = c.loop-done.invariant in
    let done = c.loop-done.done in
    let n = c.in_ok-count.count in
    let rest = c.split_at.result.1.now in
    let some = c.in_ok-count.ensures.count.0 in
    let few = c.in_ok-count.ensures.count.1 in
    let added = c.in_ok-count.ensures.ok in
    let more = added.0 in
    let len = c.in_ok-count.ensures.len.0 in
    let capacity = c.in_ok-count.ensures.len.1 in
    let room = i.room in
    let within = i.within in
    let left = length-drop done es in
    let behind : length rest ≡ length (drop done es) = ap length c.split_at.ensures.back in
    let cut = part_left es rest done n c.split_at.ensures.back in
    record {
      got = i.got ++ more;
      adds = added.1 ∙ ap (λ (l : List g.row.M.Denot). l ++ more) i.adds ∙ append_assoc c.args.messages.now.items i.got more;
      read = λ last others read.
          subst (λ (ms : List g.row.M.Denot). ReadsEntries g.M.Message.reading v es c.args.self.now last ms) (sym (append_assoc i.got more others))
          (i.read last (more ++ others)
          (subst (λ (l : List EntryIndex). ReadsEntries g.M.Message.reading v l c.loop-done.self last (more ++ others)) (sym cut)
          (read_both g.M.Message.reading v (take n rest) (drop (done + n) es) c.loop-done.self c.push_piece.new.self last more others added.2 read)));
      unread = λ last error others.
          i.unread last error
          (subst (λ (l : List EntryIndex). AreUnread g.M.Message.reading v l c.loop-done.self last error) (sym cut)
          (unread_behind g.M.Message.reading v (take n rest) (drop (done + n) es) c.loop-done.self c.push_piece.new.self last more error added.2 others));
      within = omega (arith, few, behind, left, within);
      room = omega (arith, room, len, capacity);
    }

pub returns-in_err-count-clause-err : goal.returns-in_err-count-clause-err
returns-in_err-count-clause-err g c =
    let p = err_from_is_err_and c.from_residual.result c.from_residual.ensures.1 in
    let v = g.P.PipeLog.shown c.args.pipes.now in
    rw (p.1, p.2) (c.loop-done.invariant.unread c.push_piece.new.self c.in_err-count.field-0.0
    (subst (λ (l : List EntryIndex). AreUnread g.M.Message.reading v l c.loop-done.self c.push_piece.new.self c.in_err-count.field-0.0) c.split_at.ensures.back c.in_err-count.ensures.err))

pub returns-in_err-count-clause-kept : goal.returns-in_err-count-clause-kept
returns-in_err-count-clause-kept g c =
    let i = c.loop-done.invariant in
    kept_through c.args.messages.now.items i.got c.loop-done.messages.items c.push_piece.new.messages.items i.adds c.push_piece.ensures.kept

pub returns-clause-kept : goal.returns-clause-kept
returns-clause-kept g c =
    let i = c.loop-done.invariant in
    front_kept c.args.messages.now.items i.got c.loop-done.messages.items i.adds

pub returns-clause-ok : goal.returns-clause-ok
returns-clause-ok g c =
    let es = c.args.entries.now in
    let v = g.P.PipeLog.shown c.args.pipes.now in
    let i = c.loop-done.invariant in (
      i.got,
      i.adds,
      subst (λ (ms : List g.row.M.Denot). ReadsEntries g.M.Message.reading v es c.args.self.now c.loop-done.self ms) (append-nil i.got)
          (i.read c.loop-done.self []
          (subst (λ (l : List EntryIndex). ReadsEntries g.M.Message.reading v l c.loop-done.self c.loop-done.self [])
          (sym (at_drop_all (λ (l : List EntryIndex). l) es c.loop-done.done c.loop-done-test.false)) (refl, refl))),
    )
