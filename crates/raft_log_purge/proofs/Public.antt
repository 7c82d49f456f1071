-- The lemmas that other crates may import. `tools/names` fails on an import of any other module of these proofs.
pub use Rattle.raft_log_purge.proofs.Expiring.{expired_as, failed_after_freeing, freed_well, goes_nowhere, goes_on, not_freed, not_restated, GoesWell}
pub use Rattle.raft_log_purge.proofs.Picked.{failed_after_deleting, is_none, listed_picked, nothing_purged}
pub use Rattle.raft_log_purge.proofs.Turning.{held_turned, lost_or_left, none_restated_yet, not_turned, some_restated}
pub use Rattle.raft_log_purge.proofs.Whole.{append_unsynced, held_behind, on_the_map}
