-- The lemmas that other crates may import. `tools/names` fails on an import of any other module of these proofs.
pub use Rattle.raft_log_purge_policy.proofs.Listing.{all_picked, picked_more}
