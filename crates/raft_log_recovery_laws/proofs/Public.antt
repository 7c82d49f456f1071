-- The lemmas that other crates may import. `tools/names` fails on an import of any other module of these proofs.
pub use Rattle.raft_log_recovery_laws.proofs.Bare.{bare_directories_open}
pub use Rattle.raft_log_recovery_laws.proofs.ByCalls.{two_queues}
pub use Rattle.raft_log_recovery_laws.proofs.ClosedFiles.{rests_then}
pub use Rattle.raft_log_recovery_laws.proofs.ClosingLog.{closed_sound}
pub use Rattle.raft_log_recovery_laws.proofs.Copies.{found_at, in_target}
pub use Rattle.raft_log_recovery_laws.proofs.Directory.{crashed_directories_open, resting_directories_open}
pub use Rattle.raft_log_recovery_laws.proofs.ForkLeft.{left_logs_show_alike}
pub use Rattle.raft_log_recovery_laws.proofs.InPlaceOutcomes.{standing_directories_open}
pub use Rattle.raft_log_recovery_laws.proofs.Keeping.{kept_logs_stay}
pub use Rattle.raft_log_recovery_laws.proofs.Leaving.{forks_leave_the_source}
pub use Rattle.raft_log_recovery_laws.proofs.Left.{crashed_logs_rest}
pub use Rattle.raft_log_recovery_laws.proofs.Opening.{forks_open_as_their_source}
pub use Rattle.raft_log_recovery_laws.proofs.ProperCloses.{answered_closes_are_proper, closes_in_order, undisturbed_closes_are_proper}
pub use Rattle.raft_log_recovery_laws.proofs.Resting.{clear_free}
pub use Rattle.raft_log_recovery_laws.proofs.RestingFiles.{resting_logs_ask_nothing}
pub use Rattle.raft_log_recovery_laws.proofs.Running.{crashed_engines_open}
pub use Rattle.raft_log_recovery_laws.proofs.Sources.{in_one, source_is}
