-- The lemmas that other crates may import. `tools/names` fails on an import of any other module of these proofs.
pub use Rattle.raft_log_recovery_read.proofs.Elsewhere.{same_behind}
pub use Rattle.raft_log_recovery_read.proofs.FaultLemmas.{batch_unread, file_unread, header_damaged, header_unread}
pub use Rattle.raft_log_recovery_read.proofs.Handing.{one_item, takes_none}
pub use Rattle.raft_log_recovery_read.proofs.OneReading.{one_behind}
