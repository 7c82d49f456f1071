use Rattle.std.proofs.Common.{List, ℕ, option_copied, subst}
use Rattle.std.specs.Fn.{CalledAtTwo}
use Rattle.raft_log_memtable_index.specs.Listing.{in_direction, values_within, ListsAll, Visits}
use Rattle.raft_log_memtable.specs.Table.{shown}
use Rattle.raft_log_memtable.proofs.mem_table.MemTable.scan.Goals as goal

pub returns : goal.returns
returns g c =
    subst (λ t. (es : List (List ℕ × List ℕ)) × ListsAll (values_within (option_copied c.args.start) (option_copied c.args.end) (shown t)) es
    × Visits (CalledAtTwo g.F.FnMut) c.args.callback (in_direction c.args.reverse es)) c.self.view_is c.scan.ensures
