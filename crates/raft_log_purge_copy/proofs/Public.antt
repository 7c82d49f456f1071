-- The lemmas that other crates may import. `tools/names` fails on an import of any other module of these proofs.
pub use Rattle.raft_log_purge_copy.proofs.Adding.{part_adds}
pub use Rattle.raft_log_purge_copy.proofs.Each.{from_lower}
pub use Rattle.raft_log_purge_copy.proofs.GroupMoving.{least_from}
pub use Rattle.raft_log_purge_copy.proofs.Grouping.{among, owe_then, part_same, part_wider, rewritten_is_past}
pub use Rattle.raft_log_purge_copy.proofs.Holding.{last_is, last_told, synced_last, IsLeft}
pub use Rattle.raft_log_purge_copy.proofs.KeysCopied.{keys_found, keys_none}
pub use Rattle.raft_log_purge_copy.proofs.Leasts.{queue_may_begin}
pub use Rattle.raft_log_purge_copy.proofs.Owing.{owed_too_much}
pub use Rattle.raft_log_purge_copy.proofs.PartExits.{alive_ok, later_on, none_owed, same_later, tells_err}
pub use Rattle.raft_log_purge_copy.proofs.Reasons.{memory_is_none, memory_reason, purge_reason, purge_reason_after, reason_after, reason_of_files, sync_reason, tells_nothing, turn_reason}
pub use Rattle.raft_log_purge_copy.proofs.Spanned.{limited_reason, within_span}
pub use Rattle.raft_log_purge_copy.proofs.Staying.{stays_on, sync_stays}
