-- The lemmas that other crates may import. `tools/names` fails on an import of any other module of these proofs.
pub use Rattle.raft_log_memtables.proofs.Applied.{items_renamed, ready_written, written_items}
pub use Rattle.raft_log_memtables.proofs.Bare.{uncounted_bare}
pub use Rattle.raft_log_memtables.proofs.Carrying.{copies_on, marks_on}
pub use Rattle.raft_log_memtables.proofs.Copies.{copies_move, gated_first, run_moves}
pub use Rattle.raft_log_memtables.proofs.Counting.{all_found, counts_none, counts_one_more, each_counted, AreFound, HasCounted}
pub use Rattle.raft_log_memtables.proofs.Ending.{group_ends}
pub use Rattle.raft_log_memtables.proofs.Groups.{all_known, group_list}
pub use Rattle.raft_log_memtables.proofs.Growing.{view_grows}
pub use Rattle.raft_log_memtables.proofs.Items.{mentions_more, none_said}
pub use Rattle.raft_log_memtables.proofs.Moved.{more_may_move, none_promised, written_may_move}
pub use Rattle.raft_log_memtables.proofs.Owed.{all_owed, owes_more, OwesAll}
pub use Rattle.raft_log_memtables.proofs.Ready.{by_group, same_or_apart}
pub use Rattle.raft_log_memtables.proofs.Rereading.{of_group_here, table_is}
pub use Rattle.raft_log_memtables.proofs.Segments.{once_each, unmarked_rests, AllOnce}
pub use Rattle.raft_log_memtables.proofs.WrittenEntries.{written_in}
