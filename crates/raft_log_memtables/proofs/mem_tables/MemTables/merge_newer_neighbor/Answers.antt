use Rattle.std.proofs.Common.{ap, inl, refl, subst, sym}
use Rattle.std.proofs.lemmas.Map.Keys.{IsDistinct-from_sorted}
use Rattle.std.proofs.lemmas.Result.{err_from_is_err_and}
use Rattle.std.specs.BTreeMap.{keys}
use Rattle.std.specs.Ordering.{nat_cmp}
use Rattle.raft_log_memtables.proofs.Ready.{on_err_all}
use Rattle.raft_log_memtables.proofs.Segments.{AllOnce, Joining, all_joined, found, join_one, join_refused, join_stops, once_each}
use Rattle.raft_log_memtables.proofs.mem_tables.MemTables.merge_newer_neighbor.Goals as goal

pub loop-group-init : goal.loop-group-init
loop-group-init c =
    let all = c.into_iter-group-iterator.ensures.into_iter_gives.0 in
    record {
      joins = (
        subst AllOnce (sym all) (once_each c.args.newer.groups.entries (IsDistinct-from_sorted nat_cmp (keys c.args.newer.groups) c.into_iter-group-iterator.ensures.into_iter_gives.5)),
        λ g. inl (ap (λ es. found es g) all, (refl, refl)),
      );
      rest = λ h. h;
    }

pub loop-group-preserved : goal.loop-group-preserved
loop-group-preserved c =
    let so_far = subst (Joining c.args.self.now c.args.newer c.loop-group.self) c.in-Some.ensures.steps c.loop-group.invariant.joins in
    record {
      joins = join_one c.args.self.now c.args.newer c.loop-group.self c.join_table.new.self (c.in-Some.group, c.in-Some.table) c.next.new.self so_far c.in_ok-join_table.ensures.ok;
      rest = λ h. c.join_table.ensures.rested (c.loop-group.invariant.rest h);
    }

pub returns-in_err-join_table-clause-err : goal.returns-in_err-join_table-clause-err
returns-in_err-join_table-clause-err c =
    let so_far = subst (Joining c.args.self.now c.args.newer c.loop-group.self) c.in-Some.ensures.steps c.loop-group.invariant.joins in
    on_err_all c.from_residual.result
    (join_stops c.args.self.now c.args.newer c.loop-group.self (c.in-Some.group, c.in-Some.table) c.next.new.self c.join_table.new.self so_far c.in_err-join_table.ensures.err)

pub returns-in_err-join_table-clause-errors : goal.returns-in_err-join_table-clause-errors
returns-in_err-join_table-clause-errors c =
    let gave = err_from_is_err_and c.from_residual.result c.from_residual.ensures.1 in
    let so_far = subst (Joining c.args.self.now c.args.newer c.loop-group.self) c.in-Some.ensures.steps c.loop-group.invariant.joins in
    rw (gave.1, gave.2)
    (join_refused c.args.self.now c.args.newer c.loop-group.self (c.in-Some.group, c.in-Some.table) c.next.new.self c.join_table.new.self _ so_far
    c.in_err-join_table.ensures.errors)

pub returns-in_err-join_table-clause-rest : goal.returns-in_err-join_table-clause-rest
returns-in_err-join_table-clause-rest c = λ h. c.join_table.ensures.rested (c.loop-group.invariant.rest h)

pub returns-clause-ok : goal.returns-clause-ok
returns-clause-ok c =
    all_joined c.args.self.now c.args.newer c.loop-group.self
    (subst (Joining c.args.self.now c.args.newer c.loop-group.self) c.in-None.ensures.steps.0 c.loop-group.invariant.joins)
