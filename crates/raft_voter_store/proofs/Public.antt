-- The lemmas that other crates may import. `tools/names` fails on an import of any other module of these proofs.
pub use Rattle.raft_voter_store.proofs.Serving.{answers_in, cuts_in, of_answer, open_in}
