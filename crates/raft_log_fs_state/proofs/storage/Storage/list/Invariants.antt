use Rattle.std.proofs.Common.{map}
use Rattle.std.specs.String.{string_bytes}
use Rattle.std.specs.Map.Iter.{deref_pair}
use Rattle.raft_log_fs_state.specs.Listing.{ListsNames}
use Rattle.raft_log_fs_state.proofs.storage.Storage.list.Given as goal

abbrev pub invariant-loop-path : goal.invariant-loop-path
invariant-loop-path l = ListsNames l.directory (map deref_pair l.yielded) (map string_bytes l.names.items)
