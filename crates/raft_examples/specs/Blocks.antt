-- What the example of a block cache reads.
use Rattle.std.specs.Prelude.{◌≡◌, ℕ, None, List, Option}
use Rattle.raft_log_record_items.specs.declared.entry.EntryIndex.{EntryIndex}
use Rattle.raft_log_dual_pipes.specs.Pipes.{LogPipes}
use Rattle.raft_log_block_cache.specs.Blocks.{ReadsEntry}
use Rattle.raft_log_block_cache.specs.declared.block_cache.BlockCache.{BlockCache}

-- From the files of the pipes `v`, the entry `first` was read as the message `one`, and then the entry `last` as
-- `other`. The cache was empty before. `last` was read with the cache that the read of `first` left.
pub record ReadsEnds {M : Type 0} (reading : List ℕ → Option M) (v : LogPipes) (first last : EntryIndex)
    (one other : M) : Type 0 where
  pub empty : BlockCache
  pub nothing : empty.place ≡ None
  pub kept : BlockCache
  pub behind : BlockCache
  pub reads_first : ReadsEntry reading v first empty kept one
  pub reads_last : ReadsEntry reading v last kept behind other
