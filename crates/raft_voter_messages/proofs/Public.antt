-- The lemmas that other crates may import. `tools/names` fails on an import of any other module of these proofs.
pub use Rattle.raft_voter_messages.proofs.Bytes.{entry_in_range, entry_no_fault, entry_numbers, length-entry, length-entry_text, length-head_text, length-number_text, length-state_text, length-vote_text, number_first, split_same, state_form_2-same, state_no_fault, state_read_back, vote_in_range}
pub use Rattle.raft_voter_messages.proofs.Equality.{decides_reply}
pub use Rattle.raft_voter_messages.proofs.ReadingBack.{entries_are_read_back, one_entry, one_entry_fault, one_state, one_state_fault, states_are_read_back}
