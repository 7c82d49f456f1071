use Rattle.std.proofs.Common.{◌≡◌, ◌+◌, List, ◌++◌, take, vec_capacity, vec_len}
use Rattle.raft_log_block_cache.specs.Blocks.{ReadsEntries}
use Rattle.raft_log_block_cache.proofs.block_cache.BlockCache.push_piece.Given as goal

-- the entries up to here were read of the block that is kept
abbrev pub invariant-loop-i : goal.invariant-loop-i
invariant-loop-i g l = record {
  got : List g.row.M.Denot;
  adds : l.messages.items ≡ l.fn.messages.items ++ got;
  read : ReadsEntries g.M.Message.reading (g.P.PipeLog.shown l.pipes) (take l.i l.entries) l.self l.self got;
  len : vec_len l.messages ≡ vec_len l.fn.messages + l.i;
  capacity : vec_capacity l.messages ≡ vec_capacity l.fn.messages;
}
