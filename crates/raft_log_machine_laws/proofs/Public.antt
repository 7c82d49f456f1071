-- The lemmas that other crates may import. `tools/names` fails on an import of any other module of these proofs.
pub use Rattle.raft_log_machine_laws.proofs.CallLaws.{append_answered, append_cut_back, append_left_out, append_may_be_there, append_synced, begin_may_be_there, copies_answered, copies_may_be_there, failed_whole, group_begun, rewrite_left_out, rewrite_synced, stands_log}
pub use Rattle.raft_log_machine_laws.proofs.DirectoryLaws.{read_queue}
pub use Rattle.raft_log_machine_laws.proofs.FileLaws.{file_step_numbers}
pub use Rattle.raft_log_machine_laws.proofs.FitLaws.{RecordsFit-append, RecordsFit-back}
pub use Rattle.raft_log_machine_laws.proofs.Follows.{append_follows, rewrite_follows, taken_twice}
pub use Rattle.raft_log_machine_laws.proofs.GroupCalls.{append_raise_failed, append_raise_settled, end_answered, end_may_be_there, group_left_out, middle_answered, middle_may_be_there, rewrite_raise_failed, rewrite_raise_settled}
pub use Rattle.raft_log_machine_laws.proofs.ImageLaws.{opens}
pub use Rattle.raft_log_machine_laws.proofs.JoinedLaws.{joined_behind, joined_same, joined_twice, two_runs}
pub use Rattle.raft_log_machine_laws.proofs.LogLaws.{fewer, kept_first, nothing_is_log}
pub use Rattle.raft_log_machine_laws.proofs.OpenLaws.{one_run, read_stands}
pub use Rattle.raft_log_machine_laws.proofs.RecoveryLaws.{read_off}
pub use Rattle.raft_log_machine_laws.proofs.RenamedWhereabouts.{grows_by_renamed}
pub use Rattle.raft_log_machine_laws.proofs.ReplayLaws.{replays}
pub use Rattle.raft_log_machine_laws.proofs.SettledLaws.{append_settles, cut_back_settles, rewrite_settles, settled_stays, sync_settles}
pub use Rattle.raft_log_machine_laws.proofs.Sound.{fresh_sound, sound_step}
pub use Rattle.raft_log_machine_laws.proofs.Starts.{spoken_newer}
pub use Rattle.raft_log_machine_laws.proofs.TidyLaws.{unbroken_tidy}
pub use Rattle.raft_log_machine_laws.proofs.TruthCarries.{differ}
pub use Rattle.raft_log_machine_laws.proofs.TruthGrows.{spoken_after, spoken_now}
pub use Rattle.raft_log_machine_laws.proofs.TruthRaises.{no_entry, no_word, speaks_above}
pub use Rattle.raft_log_machine_laws.proofs.UnbrokenLaws.{set_open-same}
pub use Rattle.raft_log_machine_laws.proofs.Words.{of_group_append, opened_append, option_or_none, settle_append}
