use Rattle.std.proofs.Common.{subst, sym}
use Rattle.raft_log_memtable.specs.Table.{shown}
use Rattle.raft_log_memtables.specs.Bare.{HasNothing}
use Rattle.raft_log_memtables.proofs.Bare.{keyed_bare}
use Rattle.raft_log_memtables.proofs.group_table.GroupTable.rewrite.Goals as goal

pub invariant_of-self-in-Put : goal.invariant_of-self-in-Put
invariant_of-self-in-Put c = record {
  bare = λ h. subst HasNothing (sym c.rewrite_key.ensures.shows)
      (keyed_bare c.args.gate c.args.file (shown c.args.self.now.table) c.as_slice-in-Put.result.now (c.args.self.now.bare h));
}
