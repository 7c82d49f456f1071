-- The lemmas that other crates may import. `tools/names` fails on an import of any other module of these proofs.
pub use Rattle.raft_log_fs_state.proofs.Exits.{err_then, ok_then}
pub use Rattle.raft_log_fs_state.proofs.Fronts.{after_whole, front_change, front_torn}
pub use Rattle.raft_log_fs_state.proofs.Listings.{file_node, found_stands, listing, stands_pushed, Stands}
pub use Rattle.raft_log_fs_state.proofs.Names.{names_more, names_skip}
pub use Rattle.raft_log_fs_state.proofs.OrderLaws.{still_stamped}
pub use Rattle.raft_log_fs_state.proofs.Paths.{own_path, same_directory}
pub use Rattle.raft_log_fs_state.proofs.RemainsLaws.{left_is_image}
pub use Rattle.raft_log_fs_state.proofs.RisingLaws.{miss}
pub use Rattle.raft_log_fs_state.proofs.StorageLaws.{updated}
pub use Rattle.raft_log_fs_state.proofs.Whole.{some_file_held}
