-- The lemmas that other crates may import. `tools/names` fails on an import of any other module of these proofs.
pub use Rattle.raft_log_fs_os.proofs.Filling.{fills, held_put, is_added, is_below, whole_fills}
pub use Rattle.raft_log_fs_os.proofs.Resting.{opened_follows, opened_stands, rest_added, rest_alike, rest_either, rest_filled, BetweenFiles}
pub use Rattle.raft_log_fs_os.proofs.Sharing.{device_sync, kinds_sync, system_sync}
