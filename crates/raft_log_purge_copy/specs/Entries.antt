-- Entries of Append are copied to Rewrite, one batch at a time.
use Rattle.std.specs.Prelude.{◌≡◌, ◌+◌, ℕ, min, List, [], ◌∷◌, Option, Some, length, take, drop}
use Rattle.raft_log_record_items.specs.declared.entry.EntryIndex.{EntryIndex}
use Rattle.raft_log_model_laws.specs.Meaning.Slot.{Index}
use Rattle.raft_log_model_laws.specs.Meaning.Content.{Entry}
use Rattle.raft_log_record_batches.specs.declared.log_batch.BatchState.TheVariants.{Filling}
use Rattle.raft_log_record_batches.specs.Batch.{Batch}
use Rattle.raft_log_record_batches.specs.Entries.{entries_items, joined}
use Rattle.raft_log_record_batches.specs.Places.{bytes_in}
use Rattle.raft_log_extents.specs.Counts.{passing, sized}
use Rattle.raft_log_extents.specs.declared.place.Place.{Place}
use Rattle.raft_log_memtable_index.specs.Shown.{Shown}
use Rattle.raft_log_engine_laws.specs.raft_log_memtable.specs.Reads.{entries_from}
use Rattle.raft_log_engine_laws.specs.EngineState.{LogMap}
use Rattle.raft_log_record_items.specs.declared.raw_message.RawMessage.{RawMessage}

-- the most bytes of entries in one record that a purge writes to Rewrite, unless a single entry is longer
abbrev pub max_piece : ℕ
max_piece = 131072

-- How many of the entries at these locations are copied in one batch. They are the first ones, as many as one record
-- may have, and all of them come before the first entry in a file after the gate. A record may have one entry, however
-- long.
abbrev pub copied_count : ℕ → List Place → ℕ
copied_count gate ps = min (sized (Some max_piece) ps) (passing gate ps)

-- the locations of the group's entries in Append that the next batch copies
abbrev pub next_places : ℕ → Shown → List Place
next_places gate v = take (copied_count gate (drop v.rewritten v.places)) (drop v.rewritten v.places)

-- `es` are the entries that the next batch copies
abbrev pub AreNext : ℕ → Shown → List EntryIndex → Type 0
AreNext gate v es = es ≡ entries_from v v.rewritten (next_places gate v)

-- how an entry's bytes are read: as raw bytes, without parsing
abbrev pub as_bytes : List ℕ → Option RawMessage
as_bytes bytes = Some (record { bytes = bytes })

-- group `g` has entries with these bytes in the contents `m`, one after another from index `i` on
abbrev pub AreEntryBytes : LogMap → ℕ → ℕ → List (List ℕ) → Type 0
AreEntryBytes m g i [] = Unit {0}
AreEntryBytes m g i (x ∷ xs) = (m g (Index i) ≡ Some (Entry x)) × AreEntryBytes m g (i + 1) xs

-- The batch is being filled, and has one run of entries of group `g`, with these indexes and bytes.
pub record IsRunBatch (g : ℕ) (indexes : List ℕ) (bytes : List (List ℕ)) (b : Batch) : Type 0 where
  pub state : b.state ≡ Filling
  pub items : b.items ≡ entries_items g 0 indexes bytes
  pub joins : b.entries ≡ joined bytes
  pub says : bytes_in b ≡ bytes
  pub same : length indexes ≡ length bytes
