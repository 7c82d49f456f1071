-- The lemmas that other crates may import. `tools/names` fails on an import of any other module of these proofs.
pub use Rattle.raft_log_fs_memory.proofs.Calls.{held_there, right_create, right_directory, right_handle, right_name, right_rename, right_writer}
pub use Rattle.raft_log_fs_memory.proofs.Space.{so_far_all, so_far_more, so_far_skip, LeavesSoFar}
