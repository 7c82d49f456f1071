-- An engine's log while an atomic group of copies is open in Rewrite: begun, and not ended. The group's records take
-- effect together when it ends, or not at all.
use Rattle.std.specs.Prelude.{◌≡◌, ℕ, ◌≤◌, List, [], ◌∷◌, ◌++◌, map}
use Rattle.raft_log_model_laws.specs.Item.{Item, Tagged}
use Rattle.raft_log_model_laws.specs.Item.Item.{Run}
use Rattle.raft_log_model_laws.specs.Groups.{of_group}
use Rattle.raft_log_machine_laws.specs.Machine.{AllFit}
use Rattle.raft_log_record_base.specs.declared.pipe_log.FileBlockHandle.{FileBlockHandle}
use Rattle.raft_log_record_frames.specs.declared.marking.Marking.TheVariants.{Part}
use Rattle.raft_log_record_frames.specs.declared.status.AtomicGroupStatus.{AtomicGroupStatus}
use Rattle.raft_log_record_frames.specs.Marking.{marking_of_items}
use Rattle.raft_log_record_frames.specs.Meaning.{tagged_items}
use Rattle.raft_log_record_batches.specs.Batch.{Batch}
use Rattle.raft_log_record_batches.specs.Places.{entry_bytes}
use Rattle.raft_log_block_cache.specs.Signing.{SaysItself, signed_for}
use Rattle.raft_log_machine_laws.specs.Notes.{GoesOnFrom}
use Rattle.raft_log_extents.specs.declared.place.Place.{Place}
use Rattle.raft_log_memtable_index.specs.Bridge.{Located}
use Rattle.raft_log_memtable_index.specs.Noted.{FilesRise}
use Rattle.raft_log_block_cache.specs.raft_log_memtables.specs.Rewriting.{copied_items}
use Rattle.raft_log_block_cache.specs.Stored.{Each, EntryLiesIn, entries_at}
use Rattle.raft_log_block_cache.specs.raft_log_dual_pipes.specs.Pipes.{State}
use Rattle.raft_log_engine_laws.specs.EngineState.{LogDirectories, IsLaidOut, LogMap, EngineState}
use Rattle.raft_log_engine_laws.specs.Holding.{Represents}
use Rattle.raft_log_engine_laws.specs.Writing.{items_at}

-- a part of an atomic group: the location of its record's entry block, and its batch
pub record WrittenPart : Type 0 where
  pub block : FileBlockHandle
  pub batch : Batch

-- an atomic group that has begun and not ended: its number, its first part, and the parts after that
pub record UnendedGroup : Type 0 where
  pub number : ℕ
  pub first : WrittenPart
  pub more : List WrittenPart

-- all parts of the group that were written, in order
abbrev pub parts_of : UnendedGroup → List WrittenPart
parts_of o = o.first ∷ o.more

-- the group `number` with `p` as its only part
abbrev pub begun_by : ℕ → WrittenPart → UnendedGroup
begun_by number p = record { number = number; first = p; more = [] }

-- the group with `p` as one more part
abbrev pub gone_on_by : UnendedGroup → WrittenPart → UnendedGroup
gone_on_by o p = record { number = o.number; first = o.first; more = o.more ++ p ∷ [] }

-- the items of a batch, with the bytes of each entry
abbrev pub said_items : Batch → List (Tagged (List ℕ) (List ℕ))
said_items b = tagged_items (entry_bytes b.entries) b.items

-- The batch may be written as a part of atomic group `number`: it isn't empty, and its mark has this number and
-- status. Its record is read back with its contents. No run of entries in it ends past the greatest index that an
-- entry may have.
pub record IsGroupPart (number : ℕ) (status : AtomicGroupStatus) (b : Batch) : Type 0 where
  pub some : b.items ≡ [] → ⊥
  pub part : marking_of_items b.items ≡ Part number status
  pub says : SaysItself (signed_for b) b
  pub laid : IsLaidOut b
  pub fits : AllFit (said_items b)

-- if the item is a run of entries, `P` holds for the location of each entry
abbrev pub OfEntries : (Place → Type 0) → Item Place (List ℕ) → Type 0
OfEntries P (Run f ps) = Each P ps
OfEntries P x = Unit {0}

-- for each group, the bytes in Rewrite at the locations of the part's entries are those in its batch
abbrev pub SaysPart : (Located → List ℕ) → WrittenPart → Type 0
SaysPart at p =
    (g : ℕ) → copied_items at (of_group g (items_at p.block p.batch)) ≡ of_group g (said_items p.batch)

-- the part's entries were written to the live range of Rewrite, and the bytes at their locations are those in its
-- batch
pub record LiesInRewrite (s : State) (p : WrittenPart) : Type 0 where
  pub entries : (g : ℕ) → Each (OfEntries (EntryLiesIn s.rewrite)) (of_group g (items_at p.block p.batch))
  pub says : SaysPart (entries_at s) p

-- the file numbers of the parts never fall from one to the next, and are between `low` and `high`
abbrev pub FilesGoUp : ℕ → ℕ → List WrittenPart → Type 0
FilesGoUp low high [] = low ≤ high
FilesGoUp low high (p ∷ ps) = (low ≤ p.block.id.seq) × FilesGoUp p.block.id.seq high ps

-- An atomic group `o` of copies is open in Rewrite. The log has the contents `m`, and the tables show them, as if no
-- part of `o` had been written.
-- - The group's records are the last ones of Rewrite. They are in the file of its first part and in later files.
-- - The entries of each part are in these files.
-- - No entry that the tables show in Rewrite is in a later file than the first part.
pub record HoldsInGroup (home : LogDirectories) (e : EngineState) (m : LogMap) (o : UnendedGroup) : Type 0 where
  pub holds : Represents home e m []
  pub unended : GoesOnFrom holds.at.files.rewrite o.first.block.id.seq o.number (said_items o.first.batch)
      (map (λ p. said_items p.batch) o.more)
  pub parts : Each (LiesInRewrite holds.state) (parts_of o)
  pub files : FilesGoUp o.first.block.id.seq holds.state.rewrite.files.last (parts_of o)
  pub rises : (g : ℕ)
      → FilesRise holds.state.append.files.last o.first.block.id.seq (e.tables g)
