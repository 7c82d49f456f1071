-- The lemmas that other crates may import. `tools/names` fails on an import of any other module of these proofs.
pub use Rattle.raft_voter_rounds.proofs.Within.{rising_facts, within_before, within_here, within_none, within_past, within_round}
