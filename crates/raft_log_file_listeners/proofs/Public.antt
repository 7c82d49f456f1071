-- The lemmas that other crates may import. `tools/names` fails on an import of any other module of these proofs.
pub use Rattle.raft_log_file_listeners.proofs.Hook.{writes_hold_nothing_back}
