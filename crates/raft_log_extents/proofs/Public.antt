-- The lemmas that other crates may import. `tools/names` fails on an import of any other module of these proofs.
pub use Rattle.raft_log_extents.proofs.EntryPieces.{pieces_within}
pub use Rattle.raft_log_extents.proofs.Replacing.{drop_at}
