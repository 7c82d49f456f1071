-- The lemmas that other crates may import. `tools/names` fails on an import of any other module of these proofs.
pub use Rattle.raft_voter_records.proofs.EncodingSaying.{changes_are_said}
pub use Rattle.raft_voter_records.proofs.Entries.{content_above, content_below, drop_here}
pub use Rattle.raft_voter_records.proofs.Leading.{empty_maps_are_fresh, other_items, own_items, records_lead, shown}
pub use Rattle.raft_voter_records.proofs.Owning.{entry_of, holders_same, one_world}
pub use Rattle.raft_voter_records.proofs.Pending.{among_more, among_none, among_rest, among_wider, taken_in_two}
pub use Rattle.raft_voter_records.proofs.Reading.{ends, entry_stored, foreign_groups_are_foreign, read_groups_hold_voters, unmapped}
pub use Rattle.raft_voter_records.proofs.Saying.{decided, put_of, put_unless, retire_writes}
pub use Rattle.raft_voter_records.proofs.Short.{block_short, changes_are_short, item_room, items_short, length-laid_run, put_short, run_short}
