use Rattle.std.proofs.Common.{◌≡◌, ◌+◌, ◌-◌, ◌≤◌, List, ◌++◌, vec_capacity, vec_len}
use Rattle.raft_log_record_base.specs.declared.errors.Error.{Error}
use Rattle.raft_log_memtable.specs.Table.{shown}
use Rattle.raft_log_block_cache.specs.declared.block_cache.BlockCache.{BlockCache}
use Rattle.raft_log_block_cache.specs.Blocks.{AreUnread, ReadsEntries}
use Rattle.raft_log_engine_core.specs.Reads.{AreNext, entries_on}
use Rattle.raft_log_engine_core.proofs.engine.entries.push_entries.Given as goal

-- what comes of the entries that are left comes of all, behind those that were read; and where the next ones lie
abbrev pub invariant-loop-next : goal.invariant-loop-next
invariant-loop-next g l = record {
  got : List g.row.M.Denot;
  adds : l.messages.items ≡ l.fn.messages.items ++ got;
  read : (last : BlockCache) (more : List g.row.M.Denot) → ReadsEntries g.M.Message.reading (g.P.PipeLog.shown l.pipes) (entries_on (shown l.table) (l.index + l.done) (l.count - l.done)) l.cache last more
      → ReadsEntries g.M.Message.reading (g.P.PipeLog.shown l.pipes) (entries_on (shown l.table) l.index l.count) l.fn.cache last (got ++ more);
  unread : (last : BlockCache) (error : Error) → AreUnread g.M.Message.reading (g.P.PipeLog.shown l.pipes) (entries_on (shown l.table) (l.index + l.done) (l.count - l.done)) l.cache last error
      → AreUnread g.M.Message.reading (g.P.PipeLog.shown l.pipes) (entries_on (shown l.table) l.index l.count) l.fn.cache last error;
  within : l.done ≤ l.count;
  ahead : AreNext (shown l.table) (l.index + l.done) (l.count - l.done) l.next;
  room : vec_len l.messages + l.count ≤ vec_capacity l.messages + l.done;
}

abbrev pub decreases-loop-next : goal.decreases-loop-next
decreases-loop-next g l = l.count - l.done
