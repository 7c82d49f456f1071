-- The lemmas that other crates may import. `tools/names` fails on an import of any other module of these proofs.
pub use Rattle.raft_log_record_batches.proofs.BoundLemmas.{additions_raise, record_bound-append, record_bound-entries}
pub use Rattle.raft_log_record_batches.proofs.Entries.{joined-length, length-entries_of}
pub use Rattle.raft_log_record_batches.proofs.EntriesFrom.{length-indexes_from, run_from}
pub use Rattle.raft_log_record_batches.proofs.Lengths.{no_record_is_longer}
pub use Rattle.raft_log_record_batches.proofs.PlacedMeanings.{read_means_what_was_added}
pub use Rattle.raft_log_record_batches.proofs.Places.{added_bytes}
