-- The lemmas that other crates may import. `tools/names` fails on an import of any other module of these proofs.
pub use Rattle.raft_log_replay_context.proofs.Contexts.{over_means, plain_counted}
pub use Rattle.raft_log_replay_context.proofs.OpenGroups.{records_append}
pub use Rattle.raft_log_replay_context.proofs.Opening.{entry_stands, made_of, map_is, recovered, sound, stands_as}
pub use Rattle.raft_log_replay_context.proofs.Told.{appended_told, rewritten_told}
