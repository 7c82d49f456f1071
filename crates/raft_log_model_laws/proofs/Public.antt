-- The lemmas that other crates may import. `tools/names` fails on an import of any other module of these proofs.
pub use Rattle.raft_log_model_laws.proofs.AnySummary.{directory_of_any}
pub use Rattle.raft_log_model_laws.proofs.Cases.{at_bool, at_option, both, eq_false, eq_true, from_eq_false, from_eq_true, from_le_false, from_le_true, from_lt_false, from_lt_true, if_false, if_true, le_false, le_true, lt_false, lt_true, none_some}
pub use Rattle.raft_log_model_laws.proofs.Chunks.{cut_anywhere, open_after, open_in}
pub use Rattle.raft_log_model_laws.proofs.Heads.{head_append}
pub use Rattle.raft_log_model_laws.proofs.Holes.{no_hole_append, no_hole_end, no_hole_front, no_hole_later, tail_no_hole, tail_step, window_append, IsTail}
pub use Rattle.raft_log_model_laws.proofs.Intervals.{by_intervals_solid}
pub use Rattle.raft_log_model_laws.proofs.Joins.{is_summary, join_fits, join_is_summary, stands_in, table_holds}
pub use Rattle.raft_log_model_laws.proofs.LeftOpen.{unfinished_append}
pub use Rattle.raft_log_model_laws.proofs.Records.{appended_append, contents_append, of_group_append, opened_append, settle_append}
pub use Rattle.raft_log_model_laws.proofs.RenamedLaws.{of_group_renamed, says_renamed, write_renamed}
pub use Rattle.raft_log_model_laws.proofs.Steps.{taken_append}
pub use Rattle.raft_log_model_laws.proofs.Suffix.{set_same, suffix}
pub use Rattle.raft_log_model_laws.proofs.Summaries.{content_word, nothing_stands, step_sound, step_word, JoinFits}
pub use Rattle.raft_log_model_laws.proofs.TableLaws.{table_takes}
pub use Rattle.raft_log_model_laws.proofs.TableSteps.{content_above, content_below, content_within, get_back, get_drop, get_front, get_take}
pub use Rattle.raft_log_model_laws.proofs.Tests.{compact_leaves, compact_removes, from_same_key, put_leaves, put_sets, run_leaves, run_sets, run_truncates, same_key}
pub use Rattle.raft_log_model_laws.proofs.TidyLaws.{tidy_back, tidy_front}
pub use Rattle.raft_log_model_laws.proofs.Windows.{inside, one_run_fits, same_spans, Spans}
pub use Rattle.raft_log_model_laws.proofs.Words.{after_append, option_or_assoc, option_or_none, says_append, unwrap_or_option_or}
