-- The lemmas that other crates may import. `tools/names` fails on an import of any other module of these proofs.
pub use Rattle.raft_log_record_items.proofs.Each.{keeps_more}
pub use Rattle.raft_log_record_items.proofs.ItemPlaces.{laid_out-append}
pub use Rattle.raft_log_record_items.proofs.Places.{inner_get, inner_set, laid_run-append, run-laid}
pub use Rattle.raft_log_record_items.proofs.Reading.{are_items}
