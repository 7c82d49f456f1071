-- The lemmas that other crates may import. `tools/names` fails on an import of any other module of these proofs.
pub use Rattle.raft_voter.proofs.Appends.{entry_brought, entry_kept, matched_there, matches_of, Matches}
pub use Rattle.raft_voter.proofs.Following.{group_runs, runs_append, voter_from-append}
pub use Rattle.raft_voter.proofs.Joining.{rounds_join}
pub use Rattle.raft_voter.proofs.Keeping.{range_is_kept, storable_is_kept}
pub use Rattle.raft_voter.proofs.Numbering.{entries_in_range, length-numbered, numbered_in_order, state_in_range, unnumbered}
pub use Rattle.raft_voter.proofs.Places.{among_before, replies_behind, taken_behind, taken_none, taken_past}
pub use Rattle.raft_voter.proofs.Sameness.{logs_decide}
pub use Rattle.raft_voter.proofs.Standing.{entry_all_spared}
pub use Rattle.raft_voter_outline.proofs.Public.{by_test, last_in_range, restored_ok}
