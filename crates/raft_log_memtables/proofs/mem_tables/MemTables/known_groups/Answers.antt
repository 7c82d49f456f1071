use Rattle.std.proofs.Common.{◌≡◌, true, Option, Some, None, refl, is_some}
use Rattle.std.specs.BTreeMap.{get}
use Rattle.std.specs.Ordering.{nat_cmp}
use Rattle.raft_log_memtables.specs.declared.group_table.GroupTable.{GroupTable}
use Rattle.raft_log_memtables.specs.Tables.{has_table}
use Rattle.raft_log_memtables.specs.Walking.{is_listed, listed_in}
use Rattle.raft_log_memtables.proofs.Groups.{listed_as}
use Rattle.raft_log_memtables.proofs.mem_tables.MemTables.known_groups.Goals as goal

same : (o : Option GroupTable) → listed_in true o ≡ is_some o
same None = refl
same (Some t) = refl

pub returns : goal.returns
returns c =
    let m = c.args.self.now in
    listed_as (λ v. v.items) (is_listed true m) (has_table m) (λ g. same (get nat_cmp m.groups g)) c.list_groups.result c.list_groups.ensures
