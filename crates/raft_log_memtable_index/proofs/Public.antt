-- The lemmas that other crates may import. `tools/names` fails on an import of any other module of these proofs.
pub use Rattle.raft_log_memtable_index.proofs.Alone.{nothing_left, rewrite_alone, same_held, same_note, shows}
pub use Rattle.raft_log_memtable_index.proofs.Covering.{both_cover, joined_cover, merged_cover}
pub use Rattle.raft_log_memtable_index.proofs.Grow.{batch_grows, orderly_after}
pub use Rattle.raft_log_memtable_index.proofs.Joining.{healthy_fits, healthy_joint, joined_is, same_content}
pub use Rattle.raft_log_memtable_index.proofs.LeastValues.{from_value, lesser_is_one, lesser_left, lesser_right, same_number, shown_file}
pub use Rattle.raft_log_memtable_index.proofs.Marking.{marks_carry}
pub use Rattle.raft_log_memtable_index.proofs.Meant.{batch_meant}
pub use Rattle.raft_log_memtable_index.proofs.Merging.{means, merged_stands, recovers}
pub use Rattle.raft_log_memtable_index.proofs.Moving.{move_orderly, moves_carry, moves_meant, moves_orderly}
pub use Rattle.raft_log_memtable_index.proofs.Noting.{appended_shrink, are_in, group_carries, least_is_noted, move_shrinks, rewritten_carry, rewritten_stay, written_grow}
pub use Rattle.raft_log_memtable_index.proofs.Queues.{located_length}
pub use Rattle.raft_log_memtable_index.proofs.Replays.{or_false, read_noted, read_nothing, read_one}
pub use Rattle.raft_log_memtable_index.proofs.Rising.{copies_rise, rises_on}
pub use Rattle.raft_log_memtable_index.proofs.Spans.{orderly_stepped, span_stepped}
pub use Rattle.raft_log_memtable_index.proofs.Telling.{directory_told, says_told, solid_told, there}
