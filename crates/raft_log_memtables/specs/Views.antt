-- What an engine knows from its groups' tables; the log model calls this a view. How the view changes with each batch,
-- each copy and each owed tombstone that is written.
use Rattle.std.specs.Prelude.{◌≡◌, ℕ, Bool, true, false, if◌then◌else◌, List, [], ◌∷◌, ◌++◌}
use Rattle.raft_log_model_laws.specs.Item.{Record, Tagged, items_of}
use Rattle.raft_log_model_laws.specs.Groups.{Map, of_group, taken}
use Rattle.raft_log_machine_laws.specs.Log.{View}
use Rattle.raft_log_machine_laws.specs.Machine.{AllFit, IsJoined}
use Rattle.raft_log_machine_laws.specs.Unbroken.{joined}
use Rattle.raft_log_machine_laws.specs.Tables.{CarriesTo, EndsGroupTo, GrowsTo}
use Rattle.raft_log_extents.specs.declared.place.Place.{Place}
use Rattle.raft_log_memtable_index.specs.declared.group_files.GroupFiles.{GroupFiles}
use Rattle.raft_log_memtable_index.specs.Shown.{Shown, IsOrderly, whereabouts}
use Rattle.raft_log_memtable_index.specs.Noted.{AreInFile, AreUpTo, IsLeastInRewrite, file_at, noted_at, with_note}
use Rattle.raft_log_memtable_index.specs.Bridge.{AllOwed, CanAllMove, IsMeant, Located, Move, all_moved, items_of as copies_of, marks, unmarked, without}
use Rattle.raft_log_memtables.specs.Batch.{MayFollowAll, all_shown, all_written}

-- The view of an engine with the tables `v` and the contents `m`. `noted` has the file of each slot's content. If the
-- content is in Rewrite, `noted_in_rewrite` has the first file of Rewrite that must be kept to recover it.
abbrev pub view_of : {E : Type 0} → (ℕ → Shown) → Map E (List ℕ) → View E (List ℕ)
view_of v m = record {
  whereabouts = λ g. whereabouts (v g);
  noted = λ g s. file_at (v g) s;
  noted_in_rewrite = λ g s. noted_at (v g) s;
  map = m;
}

-- The tables `v` are well formed, and represent the contents `m`, if `at` gives the entry at each place.
pub record AreMeant {E : Type 0} (at : Located → E) (v : ℕ → Shown) (m : Map E (List ℕ)) : Type 0 where
  pub orderly : (g : ℕ) → IsOrderly (v g)
  pub meant : (g : ℕ) → IsMeant at (v g) (m g)

-- every entry of the items is in file `n`
abbrev pub LieIn : ℕ → List (Tagged Place (List ℕ)) → Type 0
LieIn n xs = (g : ℕ) → AreInFile n (of_group g xs)

-- Applying the items `xs` to the tables `v` changes the view as appending the record `y` to file `n` of Append does.
-- The tables then represent what `y` makes of the contents `m`.
pub record ViewGrows {E : Type 0} (at : Located → E) (n : ℕ) (v : ℕ → Shown) (m : Map E (List ℕ))
    (xs : List (Tagged Place (List ℕ))) (y : Record E (List ℕ)) : Type 0 where
  pub grows : GrowsTo y n (view_of v m) (view_of (all_shown n v xs) (taken m (y ∷ [])))
  pub meant : AreMeant at (all_shown n v xs) (taken m (y ∷ []))

-- Suppose the tables represent the contents, the items `xs` leave no hole and no index too high, and their entries are
-- in file `n`. Then applying `xs` changes the view as appending a record of these items, with their bytes, does.
abbrev pub BatchGrowsTheView : Type 0 → Type 0
BatchGrowsTheView E = (at : Located → E) (n : ℕ) (v : ℕ → Shown) (m : Map E (List ℕ))
    (xs : List (Tagged Place (List ℕ))) (y : Record E (List ℕ)) → AreMeant at v m → MayFollowAll v xs
    → LieIn n xs → items_of y ≡ all_written at xs → ViewGrows at n v m xs y

-- Changing the tables from `v` to `u` changes the view as writing a record with the items `xs` to file `n` of Rewrite
-- does. The new tables represent the same contents `m`.
pub record ViewCarries {E : Type 0} (at : Located → E) (n : ℕ) (v u : ℕ → Shown) (m : Map E (List ℕ))
    (xs : List (Tagged E (List ℕ))) : Type 0 where
  pub carries : CarriesTo xs n (view_of v m) (view_of u m)
  pub meant : AreMeant at u m

-- Suppose the tables represent the contents, and the copies are allowed in each group and go to files up to `n`. Then
-- applying the copies changes the view as writing their items `xs` to file `n` of Rewrite does.
abbrev pub CopiesCarryTheView : Type 0 → Type 0
CopiesCarryTheView E = (at : Located → E) (n : ℕ) (v : ℕ → Shown) (m : Map E (List ℕ)) (moves : ℕ → List Move)
    (xs : List (Tagged E (List ℕ))) → AreMeant at v m → ((g : ℕ) → CanAllMove at (v g) (moves g))
    → ((g : ℕ) → AreUpTo n (moves g)) → ((g : ℕ) → of_group g xs ≡ copies_of at (v g) (moves g))
    → ViewCarries at n v (λ g. all_moved (v g) (moves g)) m xs

-- Suppose the tables represent the contents, and `xs` are all tombstones that the tables owe. Then dropping the owed
-- tombstones changes the view as writing `xs` to file `n` of Rewrite does.
abbrev pub MarksCarryTheView : Type 0 → Type 0
MarksCarryTheView E = (at : Located → E) (n : ℕ) (v : ℕ → Shown) (m : Map E (List ℕ))
    (keys : ℕ → List (List ℕ)) (xs : List (Tagged E (List ℕ))) → AreMeant at v m
    → ((g : ℕ) → AllOwed (v g).deleted (keys g))
    → ((g : ℕ) (k : List ℕ) → without (v g).deleted (keys g) k ≡ false)
    → ((g : ℕ) → of_group g xs ≡ marks (v g) (keys g)) → ViewCarries at n v (λ g. unmarked (v g)) m xs

-- How the end of an atomic group of Rewrite changes the tables. `files` are the atomic group's files. `about` is true
-- for the raft groups that the end changes. `moves` has the copies in each of these raft groups. After the copies, such
-- a raft group has nothing in a file of Rewrite below `least`.
pub record GroupEnd : Type 0 where
  pub files : GroupFiles
  pub about : ℕ → Bool
  pub moves : ℕ → List Move
  pub least : ℕ → ℕ

-- the tables after the atomic group ended: the copies are made, and its files are recorded
abbrev pub ended : GroupEnd → (ℕ → Shown) → ℕ → Shown
ended e v g = if e.about g then with_note (all_moved (v g) (e.moves g)) (e.least g) e.files else v g

-- In raft group `g`, with the table `v g`, the copies of the end `e` are allowed, and go to files up to `e.files.to`.
-- After the copies, the raft group has nothing in a file of Rewrite below `e.least g`. The copies may replace the raft
-- group's part of `items`, the items of all records of the atomic group.
pub record MayEndIn {E : Type 0} (at : Located → E) (e : GroupEnd) (v : ℕ → Shown)
    (items : List (Tagged E (List ℕ))) (g : ℕ) : Type 0 where
  pub can : CanAllMove at (v g) (e.moves g)
  pub lie : AreUpTo e.files.to (e.moves g)
  pub least : IsLeastInRewrite (all_moved (v g) (e.moves g)) (e.least g)
  pub taken_as : IsJoined (of_group g items) (copies_of at (v g) (e.moves g))

-- The end `e` is allowed in each raft group that it changes. `items` are the items of all records of the atomic group.
-- Raft groups that the end doesn't change have no item among them.
pub record MayEnd {E : Type 0} (at : Located → E) (e : GroupEnd) (v : ℕ → Shown)
    (items : List (Tagged E (List ℕ))) : Type 0 where
  pub about : (g : ℕ) → e.about g ≡ true → MayEndIn at e v items g
  pub others : (g : ℕ) → e.about g ≡ false → of_group g items ≡ []

-- Changing the tables from `v` to `u` changes the view as the end of an atomic group does. The group began in file `n`.
-- Its earlier records have the items `first` and `more`, and its last record has `xs`. The new tables represent the
-- same contents `m`.
pub record ViewEnds {E : Type 0} (at : Located → E) (n : ℕ) (v u : ℕ → Shown) (m : Map E (List ℕ))
    (first : List (Tagged E (List ℕ))) (more : List (List (Tagged E (List ℕ))))
    (xs : List (Tagged E (List ℕ))) : Type 0 where
  pub ends : EndsGroupTo first more xs n (view_of v m) (view_of u m)
  pub meant : AreMeant at u m

-- Suppose the tables represent the contents, the end `e` of an atomic group is allowed, and no index in `xs` is too
-- high. Then the change from `v` to `ended e v` changes the view as the end does. Here `first` and `more` are the items
-- of the group's earlier records, and `xs` those of the last one.
abbrev pub GroupEndsTheView : Type 0 → Type 0
GroupEndsTheView E = (at : Located → E) (e : GroupEnd) (v : ℕ → Shown) (m : Map E (List ℕ))
    (first : List (Tagged E (List ℕ))) (more : List (List (Tagged E (List ℕ)))) (xs : List (Tagged E (List ℕ)))
    → AreMeant at v m → MayEnd at e v (joined first more ++ xs) → AllFit xs
    → ViewEnds at e.files.from v (ended e v) m first more xs
