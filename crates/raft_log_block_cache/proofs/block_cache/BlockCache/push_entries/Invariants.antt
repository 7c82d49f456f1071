use Rattle.std.proofs.Common.{◌≡◌, ◌+◌, ◌-◌, ◌≤◌, List, ◌++◌, drop, length, vec_capacity, vec_len}
use Rattle.raft_log_record_base.specs.declared.errors.Error.{Error}
use Rattle.raft_log_block_cache.specs.declared.block_cache.BlockCache.{BlockCache}
use Rattle.raft_log_block_cache.specs.Blocks.{AreUnread, ReadsEntries}
use Rattle.raft_log_block_cache.proofs.block_cache.BlockCache.push_entries.Given as goal

-- what comes of the entries that are left comes of all, behind those that were read
abbrev pub invariant-loop-done : goal.invariant-loop-done
invariant-loop-done g l = record {
  got : List g.row.M.Denot;
  adds : l.messages.items ≡ l.fn.messages.items ++ got;
  read : (last : BlockCache) (more : List g.row.M.Denot) → ReadsEntries g.M.Message.reading (g.P.PipeLog.shown l.pipes) (drop l.done l.entries) l.self last more
      → ReadsEntries g.M.Message.reading (g.P.PipeLog.shown l.pipes) l.entries l.fn.self last (got ++ more);
  unread : (last : BlockCache) (error : Error) → AreUnread g.M.Message.reading (g.P.PipeLog.shown l.pipes) (drop l.done l.entries) l.self last error
      → AreUnread g.M.Message.reading (g.P.PipeLog.shown l.pipes) l.entries l.fn.self last error;
  within : l.done ≤ length l.entries;
  room : vec_len l.messages + length l.entries ≤ vec_capacity l.messages + l.done;
}

abbrev pub decreases-loop-done : goal.decreases-loop-done
decreases-loop-done g l = length l.entries - l.done
