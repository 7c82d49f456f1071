-- The parts of an atomic group of records, by which one Raft group is restated: written again in Rewrite.
use Rattle.std.specs.Prelude.{◌≡◌, ◌+◌, ◌<◌, ◌≤◌, ℕ, false, List, [], ◌∷◌, ◌++◌, length}
use Rattle.raft_log_fs.specs.Causes.{IsLater}
use Rattle.raft_log_record_items.specs.declared.item.LogItem.{LogItem}
use Rattle.raft_log_record_items.specs.Placed.{written}
use Rattle.raft_log_record_frames.specs.declared.status.AtomicGroupStatus.{AtomicGroupStatus}
use Rattle.raft_log_record_frames.specs.declared.marking.Marking.TheVariants.{Part}
use Rattle.raft_log_record_frames.specs.Marking.{mark_item, marking_of_items}
use Rattle.raft_log_record_batches.specs.declared.log_batch.BatchState.TheVariants.{Filling}
use Rattle.raft_log_record_batches.specs.Batch.{Batch, block_place}
use Rattle.raft_log_engine_laws.specs.EngineState.{LogDirectories, LogMap, EngineState, has_failed}
use Rattle.raft_log_engine_laws.specs.Holding.{Represents}
use Rattle.raft_log_engine_laws.specs.Parts.{HoldsInGroup, UnendedGroup, WrittenPart, parts_of}
use Rattle.raft_log_engine_laws.specs.Restating.{entries_of_pieces}
use Rattle.raft_log_purge_copy.specs.Entries.{AreEntryBytes}
use Rattle.raft_log_purge_copy.specs.Lengths.{AreOfGroup}
use Rattle.raft_log_purge_copy.specs.declared.parts.RestatedPart.{RestatedPart}
use Rattle.raft_log_purge_copy.specs.Pieces.{IsPiece}
use Rattle.raft_log_purge_copy.specs.Restated.{last_file}

-- Each part has one of the pieces, in order, and no other items. The pieces are the bytes of entries of group `g` with
-- consecutive indexes from `f` on, and none is empty.
abbrev pub SayPieces : ℕ → ℕ → List (List (List ℕ)) → List WrittenPart → Type 0
SayPieces g f [] [] = Unit {0}
SayPieces g f (es ∷ more) (p ∷ ps) =
    (0 < length es) × IsPiece g f es [] p.batch × SayPieces g (f + length es) more ps
SayPieces g f pieces ps = ⊥

-- the first list keeps, for each written part, its location, and its items with the locations of their entries
abbrev pub ArePartsKept : List RestatedPart → List WrittenPart → Type 0
ArePartsKept [] [] = Unit {0}
ArePartsKept (x ∷ xs) (p ∷ ps) =
    (x.block ≡ p.block) × (x.items.items ≡ written (block_place p.block p.batch.entries) p.batch.items)
    × ArePartsKept xs ps
ArePartsKept xs ps = ⊥

-- the items of all parts, in order
abbrev pub items_of_all : List RestatedPart → List LogItem
items_of_all [] = []
items_of_all (x ∷ xs) = x.items.items ++ items_of_all xs

-- The batch is being filled as a part of atomic group `number`. Its items are entries of group `g` with these bytes
-- from index `f` on, and these keys with their values. The last item is the atomic group's mark, with this status.
pub record IsMarkedPiece (g f number : ℕ) (status : AtomicGroupStatus) (bytes : List (List ℕ))
    (pairs : List (List ℕ × List ℕ)) (b : Batch) : Type 0 where
  pub state : b.state ≡ Filling
  pub piece : IsPiece g f bytes pairs b
  pub made : AreOfGroup g f bytes pairs (mark_item number status ∷ []) b.items b.entries
  pub part : marking_of_items b.items ≡ Part number status
  pub some : b.items ≡ [] → ⊥

-- Atomic group `number` is open in `t`, and its parts have the first `done` of the entries that group `g` has in
-- Rewrite. None of these parts counts yet: the tables are those of `s`, from before the atomic group began.
pub record HasParts (g number done : ℕ) (parts : List RestatedPart) (s t : EngineState) : Type 0 where
  pub group : UnendedGroup
  pub numbered : group.number ≡ number
  pub pieces : List (List (List ℕ))
  pub are : SayPieces g (s.tables g).first pieces (parts_of group)
  pub kept : ArePartsKept parts (parts_of group)
  pub many : length (entries_of_pieces pieces) ≡ done
  pub same : t ≡ record s { pipes = t.pipes; cache = t.cache }
  pub alive : has_failed t ≡ false
  pub later : IsLater s.pipes.disk t.pipes.disk
  pub stands : (home : LogDirectories) (m : LogMap) → Represents home s m [] → HoldsInGroup home t m group
  pub bytes : (home : LogDirectories) (m : LogMap) → Represents home s m []
      → AreEntryBytes m g (s.tables g).first (entries_of_pieces pieces)
  pub low : (home : LogDirectories) (m : LogMap) → Represents home s m [] → last_file s ≤ group.first.block.id.seq
