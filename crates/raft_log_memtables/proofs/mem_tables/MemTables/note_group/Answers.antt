use Rattle.std.proofs.Common.{◌≡◌, Some, rules, subst, sym}
use Rattle.std.specs.BTreeMap as tree
use Rattle.std.specs.BTreeMap.{get}
use Rattle.std.specs.Ordering.{nat_cmp}
use Rattle.raft_log_memtable.specs.Files.{NotesGroup}
use Rattle.raft_log_memtable.specs.Table.{shown}
use Rattle.raft_log_memtables.specs.Tables.{shown_in}
use Rattle.raft_log_memtables.proofs.mem_tables.MemTables.note_group.Goals as goal

pub returns-in-Some-clause-exact : goal.returns-in-Some-clause-exact
returns-in-Some-clause-exact c there =
    let files = c.args.files in
    let before = c.in-Some.found.now in
    let after = c.note.new.self in
    let new = c.get_mut.follows.lender after in
    let old_is : get nat_cmp c.args.self.now.groups c.args.group ≡ Some before = sym c.in-Some.ensures.value in
    let written : tree.UpdatesBy nat_cmp (nat_cmp c.args.group) c.args.self.now.groups new (Some after) = (c.get_mut.follows.holds after).3 (search rules) in
    let new_is : get nat_cmp new c.args.group ≡ Some after = written.1 in
    subst (λ o. NotesGroup files (shown_in o) (shown_in (get nat_cmp new c.args.group))) (sym old_is)
    (subst (λ o. NotesGroup files (shown before.table) (shown_in o)) (sym new_is) c.note.ensures.exact)
