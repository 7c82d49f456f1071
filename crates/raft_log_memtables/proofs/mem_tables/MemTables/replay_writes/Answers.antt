use Rattle.std.proofs.Common.{◌≡◌, [], false, ap, rules, subst, sym, ◌∙◌}
use Rattle.std.proofs.lemmas.Result.{err_from_is_err_and}
use Rattle.std.specs.Vec.Iter.{into_iter_items}
use Rattle.raft_log_record_frames.specs.Marking.{has_mark_key}
use Rattle.raft_log_record_frames.specs.Meaning.{tagged_items}
use Rattle.raft_log_extents.specs.Entries.{place_of}
use Rattle.raft_log_memtable.specs.Replays.{in_append}
use Rattle.raft_log_memtables.proofs.Rereading.{ReadsSome, none_left, pass_mark, read_all, read_item, reads_none, stop_at}
use Rattle.raft_log_memtables.proofs.mem_tables.MemTables.replay_writes.Goals as goal

pub loop-item-init : goal.loop-item-init
loop-item-init c = record {
  read = record {
    front = [];
    items = ap (tagged_items place_of) (sym c.into_iter-item-iterator.ensures.into_iter_gives.0);
    read = reads_none (in_append c.args.queue) c.args.file c.args.self.now;
  };
  rest = λ h. h;
}

pub returns-in_err-replay_item-clause-err : goal.returns-in_err-replay_item-clause-err
returns-in_err-replay_item-clause-err c =
    let gave = err_from_is_err_and c.from_residual.result c.from_residual.ensures.1 in
    let q = in_append c.args.queue in
    let all = tagged_items place_of c.args.items.items in
    let m = c.loop-item.self in
    let x = c.in-Some.item in
    let xs = into_iter_items c.next.new.self in
    let plain : false ≡ has_mark_key x = search rules in
    rw (gave.1, gave.2)
    (stop_at q c.args.file c.args.self.now m all x xs c.replay_item.new.self _
    (subst (ReadsSome q c.args.file c.args.self.now m all) c.in-Some.ensures.steps.0 c.loop-item.invariant.read) plain c.in_err-replay_item.ensures.err c.in_err-replay_item.ensures.errors)

pub returns-in_err-replay_item-clause-rest : goal.returns-in_err-replay_item-clause-rest
returns-in_err-replay_item-clause-rest c = λ h. c.replay_item.ensures.rested (c.loop-item.invariant.rest h)

pub loop-item-preserved : goal.loop-item-preserved
loop-item-preserved c =
    let q = in_append c.args.queue in
    let all = tagged_items place_of c.args.items.items in
    let m = c.loop-item.self in
    let so_far = subst (ReadsSome q c.args.file c.args.self.now m all) c.in-Some.ensures.steps.0 c.loop-item.invariant.read in
    record {
      read = pass_mark q c.args.file c.args.self.now m all c.in-Some.item (into_iter_items c.next.new.self) so_far c.if-not-is_mark.ensures;
      rest = c.loop-item.invariant.rest;
    }

pub returns-clause-ok : goal.returns-clause-ok
returns-clause-ok c =
    let q = in_append c.args.queue in
    let all = tagged_items place_of c.args.items.items in
    let none = none_left (into_iter_items c.loop-item.item-iterator) (sym c.loop-item.item-iterator.rest.ok.0 ∙ c.in-None.ensures.steps.0) in
    read_all q c.args.file c.args.self.now c.loop-item.self all (subst (ReadsSome q c.args.file c.args.self.now c.loop-item.self all) none c.loop-item.invariant.read)

pub loop-item-preserved-in-Continue-1 : goal.loop-item-preserved-in-Continue-1
loop-item-preserved-in-Continue-1 c =
    let q = in_append c.args.queue in
    let all = tagged_items place_of c.args.items.items in
    let m = c.loop-item.self in
    let x = c.in-Some.item in
    let so_far = subst (ReadsSome q c.args.file c.args.self.now m all) c.in-Some.ensures.steps.0 c.loop-item.invariant.read in
    let plain : false ≡ has_mark_key x = search rules in
    record {
      read = read_item q c.args.file c.args.self.now m all x (into_iter_items c.next.new.self) c.replay_item.new.self so_far plain c.in_ok-replay_item.ensures.ok;
      rest = λ h. c.replay_item.ensures.rested (c.loop-item.invariant.rest h);
    }
