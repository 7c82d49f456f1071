-- The entries of a group, and their places.
use Rattle.std.specs.Prelude.{ℕ, ◌+◌, ◌*◌, List, [], ◌∷◌, Option, Some, None, map, if◌then◌else◌, Bool}
use Rattle.raft_log_record_base.specs.declared.pipe_log.LogQueue.{LogQueue}
use Rattle.raft_log_record_base.specs.declared.pipe_log.LogQueue.TheVariants.{Append, Rewrite}
use Rattle.raft_log_record_base.specs.declared.pipe_log.FileBlockHandle.{FileBlockHandle}
use Rattle.raft_log_record_items.specs.declared.entry.EntryIndex.{EntryIndex}
use Rattle.raft_log_record_items.specs.declared.compression.CompressionType.TheVariants as kinds
use Rattle.raft_log_model_laws.specs.Item.{Item}
use Rattle.raft_log_model_laws.specs.Item.Item.{Run}
use Rattle.raft_log_extents.specs.declared.place.Place.{Place}
use Rattle.raft_log_extents.specs.Blocks.{between}

-- The places of the entries of a memtable. `runs` and `starts` are how many runs and starts store these places
-- (`Runs.antt` says what runs and starts are). Memory is reserved in advance for `wanted` more places, and for `moves`
-- replacements of places.
pub record PlaceList : Type 0 where
  pub items : List Place
  pub runs : ℕ
  pub starts : ℕ
  pub wanted : ℕ
  pub moves : ℕ

-- the bytes that store these places: 64 for each run, and four for each start
abbrev pub kept_bytes : PlaceList → ℕ
kept_bytes p = p.runs * 64 + p.starts * 4

-- The place of entry `e`, whose block is at this location. An entry without a location has file 0 and a block of length
-- 0 at offset 0.
abbrev pub place_in : Option FileBlockHandle → EntryIndex → Place
place_in None e =
    record { file = 0; offset = 0; len = 0; entry_offset = e.entry_offset; entry_len = e.entry_len }
place_in (Some block) e = record {
  file = block.id.seq;
  offset = block.offset;
  len = block.len;
  entry_offset = e.entry_offset;
  entry_len = e.entry_len;
}

-- the place of entry `e`
abbrev pub place_of : EntryIndex → Place
place_of e = place_in e.entries e

-- the queue of an entry: Rewrite if a purge copied the entry there (`rewritten`), else Append
abbrev pub queue_of : Bool → LogQueue
queue_of rewritten = if rewritten then Rewrite else Append

-- the entry of this index at place `p` in this queue
abbrev pub entry_of : LogQueue → ℕ → Place → EntryIndex
entry_of queue index p = record {
  index = index;
  entries = Some (record { id = record { queue = queue; seq = p.file }; offset = p.offset; len = p.len });
  compression_type = kinds.None;
  entry_offset = p.entry_offset;
  entry_len = p.entry_len;
}

-- the entries at these places in this queue; their indexes rise by one from `index`
abbrev pub entries_of : LogQueue → ℕ → List Place → List EntryIndex
entries_of queue index [] = []
entries_of queue index (p ∷ ps) = entry_of queue index p ∷ entries_of queue (index + 1) ps

-- the item of the model for these entries: a run of their places, with consecutive indexes from the first entry's index
-- on
abbrev pub run_of : List EntryIndex → Item Place (List ℕ)
run_of [] = Run 0 []
run_of (e ∷ es) = Run e.index (map place_of (e ∷ es))

-- the location `block` as a place, with an entry of length 0 at the beginning of the block
abbrev pub place_at : FileBlockHandle → Place
place_at block = record {
  file = block.id.seq;
  offset = block.offset;
  len = block.len;
  entry_offset = 0;
  entry_len = 0;
}

-- Adjacent entries in the block at the location `block`. Each begins at one of the offsets `bounds` and ends at the
-- next. Their indexes rise by one from `index`.
abbrev pub entries_between : FileBlockHandle → ℕ → List ℕ → List EntryIndex
entries_between block index bounds = entries_of block.id.queue index (between (place_at block) bounds)
