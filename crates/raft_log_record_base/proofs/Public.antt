-- The lemmas that other crates may import. `tools/names` fails on an import of any other module of these proofs.
pub use Rattle.raft_log_record_base.proofs.Faults.{decodes, decodes_items, fails_of_ok, fails_through, is_lifted}
pub use Rattle.raft_log_record_base.proofs.Fixed.{fixed_splits, is_byte, is_high_first}
pub use Rattle.raft_log_record_base.proofs.Grammar.{bind_ok, chosen, done, is_choice, is_known, is_then, is_times, ok_is, prefix_free, times_done, times_fail, times_go_on, with_front}
pub use Rattle.raft_log_record_base.proofs.Sizes.{size_in-size_text}
pub use Rattle.raft_log_record_base.proofs.Var.{is_var_u64}
pub use Rattle.raft_log_record_base.proofs.VarSpelling.{var_u64_shortest}
