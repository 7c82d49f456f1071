use Rattle.std.proofs.Common.{◌≡◌, ◌∙◌, ℕ, false, List, ◌∷◌, ap, refl, sym}
use Rattle.std.proofs.lemmas.Bool.{false≢true}
use Rattle.std.proofs.lemmas.Map.Keys.{IsDistinct-from_sorted}
use Rattle.std.specs.BTreeMap.{keys}
use Rattle.std.specs.Ordering.{nat_cmp}
use Rattle.raft_log_memtables.specs.declared.group_table.GroupTable.{GroupTable}
use Rattle.raft_log_memtables.proofs.Segments.{once_each}
use Rattle.raft_log_memtables.proofs.Groups.{counts_first, counts_later, group_list, none_counts, one_counts}
use Rattle.raft_log_memtables.proofs.mem_tables.MemTables.is_empty.Goals as goal

pub returns-then-table : goal.returns-then-table
returns-then-table c =
    let es = c.args.self.now.groups.entries in
    let once = once_each es (IsDistinct-from_sorted nat_cmp (keys c.args.self.now.groups) c.iter-table-items.ensures.ordered) in
    let e : ℕ × GroupTable = (c.in-Some.field-0-0.now, c.in-Some.table.now) in
    let next : List (ℕ × GroupTable) = c.next.new.self in
    let listed = counts_first es e next c.if-table.true (sym (ap (group_list false) c.in-Some.ensures.steps) ∙ c.loop-table.invariant) in
    (λ empty. absurd (false≢true empty), λ none. sym (none e.0) ∙ one_counts es e.0 (group_list false next) once listed)

pub returns : goal.returns
returns c =
    let es = c.args.self.now.groups.entries in
    let once = once_each es (IsDistinct-from_sorted nat_cmp (keys c.args.self.now.groups) c.iter-table-items.ensures.ordered) in
    (λ empty. none_counts es once (sym c.loop-table.invariant ∙ ap (group_list false) c.in-None.ensures.steps.0), λ none. refl)

pub loop-table-preserved : goal.loop-table-preserved
loop-table-preserved c =
    let es = c.args.self.now.groups.entries in
    let e : ℕ × GroupTable = (c.in-Some.field-0-0.now, c.in-Some.table.now) in
    counts_later es e c.next.new.self c.if-table.false (sym (ap (group_list false) c.in-Some.ensures.steps) ∙ c.loop-table.invariant)
