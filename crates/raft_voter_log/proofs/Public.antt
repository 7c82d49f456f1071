-- The lemmas that other crates may import. `tools/names` fails on an import of any other module of these proofs.
pub use Rattle.raft_voter_log.proofs.ClosedStores.{closed_stores_are_found}
pub use Rattle.raft_voter_log.proofs.Finding.{crashed_voters_are_found, first_opens_are_fresh, left_voters_are_found}
pub use Rattle.raft_voter_log.proofs.Homes.{bare_for, one_home, some_append, some_rewrite}
pub use Rattle.raft_voter_log.proofs.OpenLemmas.{follows_none, opened_lives}
pub use Rattle.raft_voter_log.proofs.Purging.{purged_keeps, refused_keeps, IsPurgeRefusal}
pub use Rattle.raft_voter_log.proofs.Standing.{of_refusals, read_stays, tells_voters}
