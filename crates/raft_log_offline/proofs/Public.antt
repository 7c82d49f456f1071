-- The lemmas that other crates may import. `tools/names` fails on an import of any other module of these proofs.
pub use Rattle.raft_log_offline.proofs.Finding.{chosen_lie, files_in, names_of, short_find}
pub use Rattle.raft_log_offline.proofs.Lasts.{first, first_or_later, in_none, itself, later, no_later_then}
