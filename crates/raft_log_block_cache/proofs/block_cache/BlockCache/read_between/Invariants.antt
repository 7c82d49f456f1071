use Rattle.std.proofs.Common.{◌≡◌, ◌+◌, ℕ, List, ◌++◌, slice_index, take, vec_capacity, vec_len}
use Rattle.raft_log_extents.specs.Bounds.{bounds_of}
use Rattle.raft_log_extents.specs.Entries.{entries_between}
use Rattle.raft_log_block_cache.specs.Blocks.{ReadsEntries}
use Rattle.raft_log_block_cache.specs.declared.block_cache.BlockCache.{BlockCache}
use Rattle.raft_log_block_cache.proofs.Bounds.{HasEntries}
use Rattle.raft_log_block_cache.proofs.block_cache.BlockCache.read_between.Given as goal

-- so many entries were read of the block, whichever cache keeps it; the next one starts there
abbrev pub invariant-loop-i : goal.invariant-loop-i
invariant-loop-i g l = record {
  got : List g.row.M.Denot;
  adds : l.messages.items ≡ l.fn.messages.items ++ got;
  read : (cache : BlockCache) → HasEntries l.fn.block l.entries cache → (n : ℕ)
      → ReadsEntries g.M.Message.reading (g.P.PipeLog.shown l.pipes) (take l.i (entries_between l.fn.block n (bounds_of l.bounds))) cache cache got;
  from : l.start ≡ slice_index (bounds_of l.bounds) l.i;
  len : vec_len l.messages ≡ vec_len l.fn.messages + l.i;
  capacity : vec_capacity l.messages ≡ vec_capacity l.fn.messages;
}
