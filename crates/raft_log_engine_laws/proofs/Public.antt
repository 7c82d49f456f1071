-- The lemmas that other crates may import. `tools/names` fails on an import of any other module of these proofs.
pub use Rattle.raft_log_engine_laws.proofs.Calling.{synced_all}
pub use Rattle.raft_log_engine_laws.proofs.Copying.{copies_refused, copies_written}
pub use Rattle.raft_log_engine_laws.proofs.Ending.{end_refused, end_taken}
pub use Rattle.raft_log_engine_laws.proofs.Exits.{empty_unsynced, refuses, sync_answers, sync_refuses, write_unsynced, writes, writes_synced}
pub use Rattle.raft_log_engine_laws.proofs.Fetching.{all_told, all_untold, fetched_from, first_untold, told_of, untold_at_stop, untold_of}
pub use Rattle.raft_log_engine_laws.proofs.Keeping.{holds_runs}
pub use Rattle.raft_log_engine_laws.proofs.OpenOrClosed.{closed_engines_are_durable, closed_engines_are_left, engines_lie_on_disks}
pub use Rattle.raft_log_engine_laws.proofs.Raising.{raise_refused, raised}
pub use Rattle.raft_log_engine_laws.proofs.Reading.{tables_tell}
pub use Rattle.raft_log_engine_laws.proofs.Refusing.{unsynced_left}
pub use Rattle.raft_log_engine_laws.proofs.Renaming.{placed_items}
pub use Rattle.raft_log_engine_laws.proofs.Restating.{in_one_copies, restated_whole}
pub use Rattle.raft_log_engine_laws.proofs.Rewriting.{bytes_of, marks_refused, marks_written, record_taken, says_marked, IsTaken}
pub use Rattle.raft_log_engine_laws.proofs.Settling.{append_rotates, failed_sync, rewrite_rotates, settled_held, settled_rotates, sync_keeps, sync_settles_log, turn_refused}
pub use Rattle.raft_log_engine_laws.proofs.Taking.{end_over_tables, nothing_moved, one_part_moves, shows_read}
pub use Rattle.raft_log_engine_laws.proofs.Whole.{all_filed, all_parts, first_pieces_move, one_part}
pub use Rattle.raft_log_engine_laws.proofs.Writing.{begin_refused, middle_refused, part_begins, part_goes_on, says_part, sync_leaves_open}
