-- The lemmas that other crates may import. `tools/names` fails on an import of any other module of these proofs.
pub use Rattle.raft_log_dual_pipes.proofs.Aside.{pipe_stays}
pub use Rattle.raft_log_dual_pipes.proofs.CloseSteps.{settled_log_is_a_log}
pub use Rattle.raft_log_dual_pipes.proofs.ClosedQueues.{lies, lying_logs_are_logs}
pub use Rattle.raft_log_dual_pipes.proofs.CrashSteps.{rests_lie}
pub use Rattle.raft_log_dual_pipes.proofs.LastFiles.{behind_is, blank_ends, content_is}
pub use Rattle.raft_log_dual_pipes.proofs.Numbers.{none_pending}
pub use Rattle.raft_log_dual_pipes.proofs.OnDiskLaws.{logs_go_on_disks}
pub use Rattle.raft_log_dual_pipes.proofs.Pairing.{at_log}
pub use Rattle.raft_log_dual_pipes.proofs.Rotations.{calls_leave_room, used_files_meet_the_premise}
pub use Rattle.raft_log_dual_pipes.proofs.Telling.{a_file, both_hear, both_hear_err, both_hear_ok, hears_after, hears_all, hears_further, hears_more, hears_none, hears_on, hears_one, hears_through, second_hears}
