use Rattle.std.proofs.Common.{◌≡◌, ◌<◌, drop, reverse}
use Rattle.std.specs.List.{All}
use Rattle.raft_log_fs.specs.Disk.{file_limit}
use Rattle.raft_log_fs.specs.Image.{end_of}
use Rattle.raft_log_fs_state.specs.Held.{held, changes_in, made_in, all_written, items_of}
use Rattle.raft_log_fs_state.specs.Stamps.{left_own, left_of_file, place_in}
use Rattle.raft_log_fs_state.proofs.remains.left_bytes.Given as goal

-- the changes still to come, with the bytes that they wrote, leave of the content what all leave of the synced one
abbrev pub invariant-loop-stamped : goal.invariant-loop-stamped
invariant-loop-stamped l = record {
  same : left_own l.what (place_in l.stamps) (made_in (drop l.stamped-index l.stored.changes.items) l.stored.content) l.content
      ≡ left_of_file l.what l.stamps (held l.stored);
  pieces : items_of l.pieces.items ≡ reverse (all_written (drop l.stamped-index l.stored.changes.items) l.stored.content);
  ends : All (λ c. end_of c < file_limit) (changes_in (made_in (drop l.stamped-index l.stored.changes.items) l.stored.content));
}
