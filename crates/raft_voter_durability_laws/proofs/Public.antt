-- The lemmas that other crates may import. `tools/names` fails on an import of any other module of these proofs.
pub use Rattle.raft_voter_durability_laws.proofs.Composing.{later_same, later_twice}
pub use Rattle.raft_voter_durability_laws.proofs.Ending.{left_behind_rounds, rounds_end}
pub use Rattle.raft_voter_durability_laws.proofs.Fetching.{engines_are_counted, fetched_entries_are_read, unfetched_entries_are_unread}
pub use Rattle.raft_voter_durability_laws.proofs.Going.{rounds_go_on}
pub use Rattle.raft_voter_durability_laws.proofs.Keeping.{engines_leave_logs, left_alone, purges_keep_voters, voters_are_left}
pub use Rattle.raft_voter_durability_laws.proofs.Places.{rising, told_rounds_are_answered}
pub use Rattle.raft_voter_durability_laws.proofs.Serving.{read_requests_are_served, told_requests_are_served, written_requests_are_served}
pub use Rattle.raft_voter_durability_laws.proofs.Turning.{unmade_requests_are_turned_down, unread_requests_are_turned_down, unwritten_requests}
