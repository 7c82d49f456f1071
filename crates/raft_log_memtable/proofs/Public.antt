-- The lemmas that other crates may import. `tools/names` fails on an import of any other module of these proofs.
pub use Rattle.raft_log_memtable.proofs.Behind.{joined_last, nothing_fits}
pub use Rattle.raft_log_memtable.proofs.Leasts.{begins_past, front_is_least, least_in_append, least_in_rewrite, noted_by_least, notes_past, nothing_in_rewrite, place_there}
pub use Rattle.raft_log_memtable.proofs.Ready.{needs-append, needs_renamed, ready_can, ready_more, ready_next, ready_none, ready_renamed}
pub use Rattle.raft_log_memtable.proofs.Reread.{append_step}
