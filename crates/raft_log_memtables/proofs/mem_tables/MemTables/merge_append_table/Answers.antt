use Rattle.std.proofs.Common.{ap, inl, subst, sym}
use Rattle.std.proofs.lemmas.Map.Keys.{IsDistinct-from_sorted}
use Rattle.std.specs.BTreeMap.{keys}
use Rattle.std.specs.Ordering.{nat_cmp}
use Rattle.raft_log_memtables.proofs.Ready.{on_err_all}
use Rattle.raft_log_memtables.proofs.Segments.{AllOnce, Merging, all_merged, found, merge_one, merge_stops, once_each, unmarked_rests}
use Rattle.raft_log_memtables.proofs.mem_tables.MemTables.merge_append_table.Goals as goal

pub loop-group-init : goal.loop-group-init
loop-group-init c =
    let all = c.into_iter-group-iterator.ensures.into_iter_gives.0 in
    let e = c.clear_marks.ensures in
    record {
      merges = (
        subst AllOnce (sym all) (once_each c.args.append.groups.entries (IsDistinct-from_sorted nat_cmp (keys c.args.append.groups) c.into_iter-group-iterator.ensures.into_iter_gives.5)),
        λ g. inl (ap (λ es. found es g) all, (e.shows g, e.counts g)),
      );
      rest = unmarked_rests c.args.self.now c.clear_marks.new.self e.shows e.promises;
    }

pub loop-group-preserved : goal.loop-group-preserved
loop-group-preserved c =
    let so_far = subst (Merging c.args.self.now c.args.append c.loop-group.self) c.in-Some.ensures.steps c.loop-group.invariant.merges in
    record {
      merges = merge_one c.args.self.now c.args.append c.loop-group.self c.merge_table.new.self (c.in-Some.group, c.in-Some.table) c.next.new.self so_far c.in_ok-merge_table.ensures.ok;
      rest = λ h. c.merge_table.ensures.rested (c.loop-group.invariant.rest h);
    }

pub returns-in_err-merge_table-clause-err : goal.returns-in_err-merge_table-clause-err
returns-in_err-merge_table-clause-err c =
    on_err_all c.from_residual.result
    (merge_stops c.args.self.now c.args.append c.loop-group.self c.loop-group.group-iterator c.merge_table.new.self c.loop-group.invariant.merges c.in_err-merge_table.ensures.err)

pub returns-in_err-merge_table-clause-rest : goal.returns-in_err-merge_table-clause-rest
returns-in_err-merge_table-clause-rest c = λ h. c.merge_table.ensures.rested (c.loop-group.invariant.rest h)

pub returns-clause-ok : goal.returns-clause-ok
returns-clause-ok c =
    all_merged c.args.self.now c.args.append c.loop-group.self
    (subst (Merging c.args.self.now c.args.append c.loop-group.self) c.in-None.ensures.steps.0 c.loop-group.invariant.merges)
