-- The lemmas that other crates may import. `tools/names` fails on an import of any other module of these proofs.
pub use Rattle.raft_voter_world.proofs.Believed.{runs_go_by}
pub use Rattle.raft_voter_world.proofs.Beside.{stores_answer_as_models}
pub use Rattle.raft_voter_world.proofs.Rest.{stores_answer_taken_as_models}
pub use Rattle.raft_voter_world.proofs.Serves.{serve_first, stores_of_runs_serve}
pub use Rattle.raft_voter_world.proofs.Told.{each_purge_has_its_cause, run_happened}
