use Rattle.std.proofs.Common.{◌≡◌, ◌+◌, ◌-◌, ℕ, List, [], ◌++◌, ap, ap₂, append-nil, append_assoc, arith, length, refl, subst, sym, ◌∙◌}
use Rattle.std.proofs.lemmas.Result.{err_from_is_err_and}
use Rattle.raft_log_record_items.specs.declared.entry.EntryIndex.{EntryIndex}
use Rattle.raft_log_extents.specs.Bounds.{bounds_of}
use Rattle.raft_log_extents.specs.Entries.{entries_between}
use Rattle.raft_log_memtable.specs.Table.{shown}
use Rattle.raft_log_block_cache.specs.Blocks.{AreUnread, ReadsEntries}
use Rattle.raft_log_block_cache.proofs.Public.{front_kept, kept_through, read_both, unread_behind, unread_front}
use Rattle.raft_log_engine_core.specs.Reads.{AreNext, LieNext, entries_on}
use Rattle.raft_log_engine_core.proofs.Pieces.{next_lie, on_split}
use Rattle.raft_log_engine_core.proofs.engine.entries.push_entries.Goals as goal

pub loop-next-init : goal.loop-next-init
loop-next-init g c =
    let v = g.P.PipeLog.shown c.args.pipes.now in
    let table = shown c.args.table.now in
    let begin : c.args.index + 0 ≡ c.args.index = omega arith in
    let every : c.args.count - 0 ≡ c.args.count = omega arith in
    let all : entries_on table (c.args.index + 0) (c.args.count - 0) ≡ entries_on table c.args.index c.args.count = ap₂ (λ (i k : ℕ). entries_on table i k) begin every in
    record {
      got = [];
      adds = sym (append-nil c.args.messages.now.items);
      read = λ last more others. subst (λ (l : List EntryIndex). ReadsEntries g.M.Message.reading v l c.args.cache.now last more) all others;
      unread = λ last error others. subst (λ (l : List EntryIndex). AreUnread g.M.Message.reading v l c.args.cache.now last error) all others;
      within = omega arith;
      ahead = subst (λ (i : ℕ). AreNext table i (c.args.count - 0) c.next_bounds-next.result) (sym begin)
          (subst (λ (k : ℕ). AreNext table c.args.index k c.next_bounds-next.result) (sym every) c.next_bounds-next.ensures);
      room = omega (arith, c.requires.room);
    }

pub loop-next-preserved : goal.loop-next-preserved
loop-next-preserved g c =
    let v = g.P.PipeLog.shown c.args.pipes.now in
    let table = shown c.args.table.now in
    let i = c.loop-next.invariant in
    let done = c.loop-next.done in
    let index = c.args.index in
    let count = c.args.count in
    let n = c.len-done.result in
    let block = c.in-Some.block in
    let bounds = bounds_of c.in-Some.bounds in
    let many : length bounds ≡ n + 1 = c.len-done.ensures in
    let lie : LieNext table (index + done) (count - done) block c.in-Some.bounds = next_lie table (index + done) (count - done) c.loop-next.next block c.in-Some.bounds c.in-Some.is i.ahead in
    let len = lie.len in
    let few = lie.few in
    let (more, adds, read) = c.in_ok-read_between.ensures.ok (index + done) in
    let long = c.in_ok-read_between.ensures.len in
    let within = i.within in
    let room = i.room in
    let one : lie.count ≡ n = omega (arith, many, len) in
    let piece : entries_between block (index + done) bounds ≡ entries_on table (index + done) n =
    lie.are ∙ ap (λ (k : ℕ). entries_on table (index + done) k) one in
    let on : index + done + n ≡ index + (done + n) = omega arith in
    let left : count - done - n ≡ count - (done + n) = omega arith in
    let cut : entries_on table (index + done) (count - done) ≡ entries_between block (index + done) bounds ++ entries_on table (index + (done + n)) (count - (done + n)) =
    on_split table (index + done) n (count - done) (omega (arith, c.requires.first)) (omega (arith, one, few))
    ∙ ap₂ (λ (m k : ℕ). entries_on table (index + done) n ++ entries_on table m k) on left
    ∙ ap (λ (l : List EntryIndex). l ++ entries_on table (index + (done + n)) (count - (done + n))) (sym piece) in
    record {
      got = i.got ++ more;
      adds = adds ∙ ap (λ (l : List g.row.M.Denot). l ++ more) i.adds ∙ append_assoc c.args.messages.now.items i.got more;
      read = λ last others behind.
          subst (λ (ms : List g.row.M.Denot). ReadsEntries g.M.Message.reading v (entries_on table index count) c.args.cache.now last ms) (sym (append_assoc i.got more others))
          (i.read last (more ++ others)
          (subst (λ (l : List EntryIndex). ReadsEntries g.M.Message.reading v l c.loop-next.cache last (more ++ others)) (sym cut)
          (read_both g.M.Message.reading v (entries_between block (index + done) bounds) (entries_on table (index + (done + n)) (count - (done + n))) c.loop-next.cache c.read_between.new.self last more others read behind)));
      unread = λ last error behind.
          i.unread last error
          (subst (λ (l : List EntryIndex). AreUnread g.M.Message.reading v l c.loop-next.cache last error) (sym cut)
          (unread_behind g.M.Message.reading v (entries_between block (index + done) bounds) (entries_on table (index + (done + n)) (count - (done + n))) c.loop-next.cache c.read_between.new.self last more error read behind));
      within = omega (arith, one, few, within);
      ahead = c.next_bounds-next-in-Some.ensures;
      room = omega (arith, many, room, long, c.in_ok-read_between.ensures.capacity);
    }

pub returns-in_err-read_between-clause-err : goal.returns-in_err-read_between-clause-err
returns-in_err-read_between-clause-err g c =
    let v = g.P.PipeLog.shown c.args.pipes.now in
    let table = shown c.args.table.now in
    let p = err_from_is_err_and c.from_residual.result c.from_residual.ensures.1 in
    let i = c.loop-next.invariant in
    let index = c.args.index in
    let done = c.loop-next.done in
    let count = c.args.count in
    let lie : LieNext table (index + done) (count - done) c.in-Some.block c.in-Some.bounds = next_lie table (index + done) (count - done) c.loop-next.next c.in-Some.block c.in-Some.bounds c.in-Some.is i.ahead in
    let n = lie.count in
    let cut = on_split table (index + done) n (count - done) (omega (arith, c.requires.first)) lie.few in
    rw (p.1, p.2) (i.unread c.read_between.new.self c.in_err-read_between.field-0.0
    (subst (λ (l : List EntryIndex). AreUnread g.M.Message.reading v l c.loop-next.cache c.read_between.new.self c.in_err-read_between.field-0.0) (sym cut)
    (unread_front g.M.Message.reading v (entries_on table (index + done) n) (entries_on table (index + done + n) (count - done - n)) c.loop-next.cache c.read_between.new.self c.in_err-read_between.field-0.0
    (subst (λ (l : List EntryIndex). AreUnread g.M.Message.reading v l c.loop-next.cache c.read_between.new.self c.in_err-read_between.field-0.0) lie.are (c.in_err-read_between.ensures.err (index + done))))))

pub returns-in_err-read_between-clause-kept : goal.returns-in_err-read_between-clause-kept
returns-in_err-read_between-clause-kept g c =
    let i = c.loop-next.invariant in
    kept_through c.args.messages.now.items i.got c.loop-next.messages.items c.read_between.new.messages.items i.adds c.read_between.ensures.kept

pub returns-clause-kept : goal.returns-clause-kept
returns-clause-kept g c =
    let i = c.loop-next.invariant in
    front_kept c.args.messages.now.items i.got c.loop-next.messages.items i.adds

pub returns-clause-ok : goal.returns-clause-ok
returns-clause-ok g c =
    let v = g.P.PipeLog.shown c.args.pipes.now in
    let table = shown c.args.table.now in
    let i = c.loop-next.invariant in
    let none : c.args.count - c.loop-next.done ≡ 0 = subst (λ next. AreNext table (c.args.index + c.loop-next.done) (c.args.count - c.loop-next.done) next) c.in_default.is i.ahead in (
      i.got,
      i.adds,
      subst (λ (ms : List g.row.M.Denot). ReadsEntries g.M.Message.reading v (entries_on table c.args.index c.args.count) c.args.cache.now c.loop-next.cache ms) (append-nil i.got)
          (i.read c.loop-next.cache []
          (subst (λ (k : ℕ). ReadsEntries g.M.Message.reading v (entries_on table (c.args.index + c.loop-next.done) k) c.loop-next.cache c.loop-next.cache []) (sym none) (refl, refl))),
    )

pub loop-next-smaller : goal.loop-next-smaller
loop-next-smaller g c =
    let table = shown c.args.table.now in
    let i = c.loop-next.invariant in
    let done = c.loop-next.done in
    let lie : LieNext table (c.args.index + done) (c.args.count - done) c.in-Some.block c.in-Some.bounds = next_lie table (c.args.index + done) (c.args.count - done) c.loop-next.next c.in-Some.block c.in-Some.bounds c.in-Some.is i.ahead in
    let len = lie.len in
    let some = lie.some in
    let few = lie.few in
    omega (arith, c.len-done.ensures, len, some, few)
