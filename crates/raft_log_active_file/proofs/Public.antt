-- The lemmas that other crates may import. `tools/names` fails on an import of any other module of these proofs.
pub use Rattle.raft_log_active_file.proofs.Beginning.{begins_numbered}
pub use Rattle.raft_log_active_file.proofs.Bridging.{reads_as_numbered, takes_numbered_steps}
pub use Rattle.raft_log_active_file.proofs.Calls.{finishes, is_written}
pub use Rattle.raft_log_active_file.proofs.FileSteps.{active_holds, new_over, past_settled}
pub use Rattle.raft_log_active_file.proofs.Keeping.{files_are_kept, files_restart, log_files}
pub use Rattle.raft_log_active_file.proofs.Reopening.{empty_holds, leftover_end, stands_as}
pub use Rattle.raft_log_active_file.proofs.Rotating.{left_calm, open_left}
pub use Rattle.raft_log_active_file.proofs.SettingAside.{gaps_set_aside, stands_set_aside}
pub use Rattle.raft_log_active_file.proofs.Standing.{place_moved, same_files, stands_changed, stands_done, stands_elsewhere, stands_rebased, stands_synced, stands_touched, stands_weaker}
pub use Rattle.raft_log_active_file.proofs.TakenUp.{fails_to_trim, trims_leftover}
