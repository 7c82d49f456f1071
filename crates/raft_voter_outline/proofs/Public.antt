-- The lemmas that other crates may import. `tools/names` fails on an import of any other module of these proofs.
pub use Rattle.raft_voter_outline.proofs.Bareness.{last_index-bare, last_term-bare, term_at-bare}
pub use Rattle.raft_voter_outline.proofs.Deciding.{answer_copies, append_small, change_small, does_append, does_compact, does_install, does_vote, room_copies, status-bare, written_small, Does}
pub use Rattle.raft_voter_outline.proofs.Indexes.{get_back, get_drop, get_front, get_merged_back, get_merged_front, matches_before, matching-le, other_there, term_of, Pair}
pub use Rattle.raft_voter_outline.proofs.Ordered.{last_in_range, restored_ok}
pub use Rattle.raft_voter_outline.proofs.Pairs.{pushed_others, pushed_own}
pub use Rattle.raft_voter_outline.proofs.Steps.{agrees_above, append_next, base-adopt_term, base_next, base_small-next, by_test, compact_next, install_next, log-adopt_term, matching-merged, raised, reaches, vote_next, HasCommittedBase}
