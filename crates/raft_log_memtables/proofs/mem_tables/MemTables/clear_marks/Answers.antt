use Rattle.std.proofs.Common.{◌≡◌, ◌⊎◌, false, true, ap, refl, rules, sym, ◌∙◌}
use Rattle.std.proofs.lemmas.Map.Keys.{IsDistinct-from_sorted}
use Rattle.std.specs.BTreeMap.{get, keys}
use Rattle.std.specs.Ordering.{nat_cmp}
use Rattle.raft_log_memtable_index.specs.Shown.{Shown}
use Rattle.raft_log_memtable_index.specs.Bridge.{unmarked}
use Rattle.raft_log_memtable.specs.Room.{IsVacant, Promise, with_room_of}
use Rattle.raft_log_memtable.specs.Table.{promise, shown}
use Rattle.raft_log_memtables.specs.declared.group_table.GroupTable.{GroupTable}
use Rattle.raft_log_memtables.specs.Tables.{counts_in, promise_in, shown_in, IsNeededTable}
use Rattle.raft_log_memtables.proofs.Clearing.{each_left, left_tables, told_left}
use Rattle.raft_log_memtables.proofs.Segments.{once_each}
use Rattle.raft_log_memtables.proofs.mem_tables.MemTables.clear_marks.Goals as goal

-- what clearing makes of a table
abbrev Clears : GroupTable → GroupTable → Type 0
Clears t u =
    (shown u.table ≡ unmarked (shown t.table)) × (u.counts ≡ t.counts)
    × (promise u.table ≡ with_room_of (promise t.table) (shown t.table))

-- of one that stays, and of one that goes
abbrev Keeps : GroupTable → GroupTable → Type 0
Keeps t u = Clears t u × IsNeededTable u

abbrev Drops : GroupTable → GroupTable → Type 0
Drops t u = Clears t u × (u.counts ≡ false) × IsVacant (shown u.table) (promise u.table)

pub returns-clause-shows : goal.returns-clause-shows
returns-clause-shows c = λ g.
    told_left Keeps Drops shown_in unmarked refl (λ t u h. h.0.0) (λ t u h. sym h.2.0 ∙ h.0.0) (get nat_cmp c.args.self.now.groups g)
    (get nat_cmp c.retain.new.self g)
    (left_tables Keeps Drops _ (λ f k v b w f' t. search rules) _ c.args.self.now.groups.entries c.retain.new.self.entries
    (once_each c.args.self.now.groups.entries (IsDistinct-from_sorted nat_cmp (keys c.args.self.now.groups) c.retain.ensures.was_ordered))
    c.retain.ensures.filtered g)

pub returns-clause-counts : goal.returns-clause-counts
returns-clause-counts c = λ g.
    told_left Keeps Drops counts_in (λ b. b) refl (λ t u h. h.0.1) (λ t u h. sym h.1 ∙ h.0.1) (get nat_cmp c.args.self.now.groups g)
    (get nat_cmp c.retain.new.self g)
    (left_tables Keeps Drops _ (λ f k v b w f' t. search rules) _ c.args.self.now.groups.entries c.retain.new.self.entries
    (once_each c.args.self.now.groups.entries (IsDistinct-from_sorted nat_cmp (keys c.args.self.now.groups) c.retain.ensures.was_ordered))
    c.retain.ensures.filtered g)

pub returns-clause-promises : goal.returns-clause-promises
returns-clause-promises c = λ g.
    ap (λ (p : Promise × Shown). p.0)
    (told_left Keeps Drops {A = Promise × Shown} (λ o. (promise_in o, shown_in o)) (λ p. (with_room_of p.0 p.1, unmarked p.1)) refl
    (λ t u h. λ i. (h.0.2 i, h.0.0 i)) (λ t u h. λ i. ((sym h.2.1 ∙ h.0.2) i, (sym h.2.0 ∙ h.0.0) i)) (get nat_cmp c.args.self.now.groups g)
    (get nat_cmp c.retain.new.self g)
    (left_tables Keeps Drops _ (λ f k v b w f' t. search rules) _ c.args.self.now.groups.entries c.retain.new.self.entries
    (once_each c.args.self.now.groups.entries (IsDistinct-from_sorted nat_cmp (keys c.args.self.now.groups) c.retain.ensures.was_ordered))
    c.retain.ensures.filtered g))

pub returns-clause-needed : goal.returns-clause-needed
returns-clause-needed c = λ g.
    each_left Keeps Drops (λ o. (counts_in o ≡ true) ⊎ (IsVacant (shown_in o) (promise_in o) → ⊥)) (λ t u h. h.1)
    (get nat_cmp c.args.self.now.groups g) (get nat_cmp c.retain.new.self g)
    (left_tables Keeps Drops _ (λ f k v b w f' t. search rules) _ c.args.self.now.groups.entries c.retain.new.self.entries
    (once_each c.args.self.now.groups.entries (IsDistinct-from_sorted nat_cmp (keys c.args.self.now.groups) c.retain.ensures.was_ordered))
    c.retain.ensures.filtered g)
