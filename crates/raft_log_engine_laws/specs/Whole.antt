-- What an atomic group of records changes in the tables. Each part of the atomic group is a record of Rewrite. Once the
-- last part is written, the table of each raft group gets the new locations of the items of all parts. A run of entries
-- may be split over several parts, each piece in the file of its part's record. The gate is the last file of Append
-- from which a purge copies; without a gate, it copies only what is in Rewrite already.
use Rattle.std.specs.Prelude.{◌≡◌, ℕ, ◌+◌, false, List, [], ◌∷◌, ◌++◌, length, map, Option}
use Rattle.raft_log_model_laws.specs.Item.{Item}
use Rattle.raft_log_model_laws.specs.Item.Item.{Run}
use Rattle.raft_log_model_laws.specs.Groups.{of_group}
use Rattle.raft_log_model_laws.specs.Renamed.{renamed}
use Rattle.raft_log_machine_laws.specs.Machine.{IsJoined}
use Rattle.raft_log_record_batches.specs.Batch.{Batch}
use Rattle.raft_log_extents.specs.declared.place.Place.{Place}
use Rattle.raft_log_memtable_index.specs.Shown.{IsOrderly, Shown}
use Rattle.raft_log_memtable_index.specs.Bridge.{CanAllMove, Located, Move, all_moved, in_queue, items_of as copies_of}
use Rattle.raft_log_memtable_index.specs.Noted.{FilesRise}
use Rattle.raft_log_block_cache.specs.raft_log_memtables.specs.Rewriting.{IsCopy, all_rewritten, moves_of, rewritten_item}
use Rattle.raft_log_block_cache.specs.Stored.{Each}
use Rattle.raft_log_block_cache.specs.raft_log_memtables.specs.Views.{AreMeant}
use Rattle.raft_log_engine_laws.specs.EngineState.{LogMap}
use Rattle.raft_log_engine_laws.specs.Writing.{items_at}
use Rattle.raft_log_engine_laws.specs.Parts.{FilesGoUp, SaysPart, WrittenPart}

-- an item of a record in file `file` of Rewrite
pub record Filed : Type 0 where
  pub file : ℕ
  pub item : Item Place (List ℕ)

-- items of a record in file `n`, each with this file number
abbrev pub filed_in : ℕ → List (Item Place (List ℕ)) → List Filed
filed_in n [] = []
filed_in n (x ∷ xs) = record { file = n; item = x } ∷ filed_in n xs

-- the items of group `g` in all parts, each with the file number of its part's record
abbrev pub filed_items : ℕ → List WrittenPart → List Filed
filed_items g [] = []
filed_items g (p ∷ ps) = filed_in p.block.id.seq (of_group g (items_at p.block p.batch)) ++ filed_items g ps

-- what the table of group `g` shows after it applied the group's items of each part, in order; it showed `v` before
abbrev pub parts_moved : Option ℕ → ℕ → List WrittenPart → Shown → Shown
parts_moved gate g [] v = v
parts_moved gate g (p ∷ ps) v =
    parts_moved gate g ps (all_rewritten gate p.block.id.seq v (of_group g (items_at p.block p.batch)))

-- the items with each entry's bytes in place of its location; `at` gives the bytes at a location in Rewrite
abbrev pub filed_copies : {E : Type 0} → (Located → E) → List Filed → List (Item E (List ℕ))
filed_copies at [] = []
filed_copies at (x ∷ xs) = renamed (λ p. at (in_queue false p)) x.item ∷ filed_copies at xs

-- the items as moves of entries and values to their files of Rewrite
abbrev pub filed_moves : List Filed → List Move
filed_moves [] = []
filed_moves (x ∷ xs) = moves_of x.file (x.item ∷ []) ++ filed_moves xs

-- Each item is a copy that the gate lets move. It is a copy of what the table shows after the table applied all earlier
-- items. Before the first item, the table showed `v`.
abbrev pub AreFiledCopies : {E : Type 0} → (Located → E) → Option ℕ → Shown → List Filed → Type 0
AreFiledCopies at gate v [] = Unit {0}
AreFiledCopies at gate v (x ∷ xs) =
    IsCopy at gate v x.item × AreFiledCopies at gate (rewritten_item gate x.file v x.item) xs

-- the locations of consecutive entries of a group in one record, and the file of that record
pub record RunPiece : Type 0 where
  pub file : ℕ
  pub places : List Place

-- a run of entries from index `f` on, as one item for each piece
abbrev pub in_pieces : ℕ → List RunPiece → List Filed
in_pieces f [] = []
in_pieces f (p ∷ ps) =
    record { file = p.file; item = Run f p.places } ∷ in_pieces (f + length p.places) ps

-- the locations of the entries of all pieces
abbrev pub all_places : List RunPiece → List Place
all_places [] = []
all_places (p ∷ ps) = p.places ++ all_places ps

-- a run of entries from index `f` on, as one item with the entries of all pieces; no item if there is no piece
abbrev pub in_one : ℕ → List RunPiece → List Filed
in_one f [] = []
in_one f (p ∷ ps) = record { file = p.file; item = Run f (all_places (p ∷ ps)) } ∷ []

-- The items `xs` are a run of entries in pieces, and then other items. If the pieces are put together as one run, each
-- item is a copy that the gate lets move. (A run that is a copy reaches at least to the last entry in Rewrite. A single
-- piece needn't.)
pub record IsWholeCopy {E : Type 0} (at : Located → E) (gate : Option ℕ) (v : Shown) (xs : List Filed)
    : Type 0 where
  pub first : ℕ
  pub pieces : List RunPiece
  pub rest : List Filed
  pub items : xs ≡ in_pieces first pieces ++ rest
  pub copies : AreFiledCopies at gate v (in_one first pieces ++ rest)

-- the moves of these items, with the pieces put together as one run
abbrev pub whole_moves : {E : Type 0} {at : Located → E} {gate : Option ℕ} {v : Shown} {xs : List Filed}
    → IsWholeCopy at gate v xs → List Move
whole_moves w = filed_moves (in_one w.first w.pieces ++ w.rest)

-- Let the items of the parts be a whole copy (`IsWholeCopy`). Applying them part after part gives the same table as the
-- moves in which the pieces are one run (`whole_moves`). These moves are allowed. They give each index and key the same
-- content as the parts' items.
abbrev pub WholeGroupsAreMoved : Type 0 → Type 0
WholeGroupsAreMoved E = (at : Located → E) (gate : Option ℕ) (v : Shown) (g : ℕ) (ps : List WrittenPart)
    → IsOrderly v → (w : IsWholeCopy at gate v (filed_items g ps))
    → (parts_moved gate g ps v ≡ all_moved v (whole_moves w)) × CanAllMove at v (whole_moves w)
    × IsJoined (filed_copies at (filed_items g ps)) (copies_of at v (whole_moves w))

-- The parts are a whole copy, in files from `r` to `n` of Rewrite. In each queue, the file numbers of a group's entries
-- never fall as the index rises. They are at most `a` in Append, and at most `r` in Rewrite. After the items of the
-- parts moved, the same is true with `n` in place of `r`.
abbrev pub MovedFilesRise : Type 0 → Type 0
MovedFilesRise E = (at : Located → E) (gate : Option ℕ) (a r n : ℕ) (v : Shown) (g : ℕ)
    (ps : List WrittenPart) → IsOrderly v → FilesRise a r v → FilesGoUp r n ps
    → IsWholeCopy at gate v (filed_items g ps) → FilesRise a n (parts_moved gate g ps v)

-- the batch of each part
abbrev pub batches_of : List WrittenPart → List Batch
batches_of ps = map (λ p. p.batch) ps

-- Taken as the parts of one atomic group, the batches `bs` are copies of what the tables show of the contents `m`. The
-- gate lets these copies move. This holds wherever the batches are written, and whatever bytes are at other locations.
abbrev pub HasWhole : Option ℕ → List Batch → (ℕ → Shown) → LogMap → Type 0
HasWhole gate bs v m = (ps : List WrittenPart) (at : Located → List ℕ) → batches_of ps ≡ bs → AreMeant at v m
    → Each (SaysPart at) ps → (g : ℕ) → IsWholeCopy at gate (v g) (filed_items g ps)
