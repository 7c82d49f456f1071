use Rattle.std.proofs.Common.{◌≡◌, ◌<◌, ◌-◌, drop, length, take}
use Rattle.raft_log_record_batches.specs.AtomicGroup.{IsGroupOpen}
use Rattle.raft_log_purge_copy.specs.Pieces.{MakeOnePiece, piece_count}
use Rattle.raft_log_purge_copy.specs.Steps.{GoesOnInGroup}
use Rattle.raft_log_purge_copy.specs.Syncing.{HandsCountOn}
use Rattle.raft_log_purge_copy.proofs.parts.write_middles.Given as goal

-- the group stands open with the parts so far, and the next piece is known
abbrev pub invariant-loop-count : goal.invariant-loop-count
invariant-loop-count g l = record {
  goes : GoesOnInGroup l.group l.fn.builder.id l.entries l.begin l.done l.fn.parts.items l.parts.items (g.P.PipeLog.shown l.fn.pipes) l.fn.cache (g.P.PipeLog.shown l.pipes) l.cache;
  within : l.done < length l.entries;
  some : 0 < l.count;
  piece : MakeOnePiece (take l.count (drop l.done l.entries));
  most : l.count ≡ piece_count (drop l.done l.entries);
  begun : IsGroupOpen l.builder.status;
  same : l.builder.id ≡ l.fn.builder.id;
  handed : HandsCountOn l.fn.unsynced l.unsynced (g.P.PipeLog.shown l.fn.pipes) (g.P.PipeLog.shown l.pipes);
}

abbrev pub decreases-loop-count : goal.decreases-loop-count
decreases-loop-count g l = length l.entries - l.done
