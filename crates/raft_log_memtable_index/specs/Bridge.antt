-- Which contents a group's table represents, if the bytes at each place are known. Also how a table changes if its
-- entries or values are copied into Rewrite.
use Rattle.std.specs.Prelude.{◌≡◌, ℕ, zero, suc, ◌+◌, ◌-◌, ◌≤◌, ◌⊎◌, Bool, true, false, List, [], ◌∷◌, ◌++◌, map, length, take, drop, Option, Some, None, option_map, if◌then◌else◌, nat_lt, bytes_eq}
use Rattle.raft_log_model_laws.specs.Item.{Item}
use Rattle.raft_log_model_laws.specs.Item.Item.{Run, Clean, Compact, Put, Del}
use Rattle.raft_log_model_laws.specs.Meaning.{Slot, Content}
use Rattle.raft_log_model_laws.specs.Table.{Table, content}
use Rattle.raft_log_model_laws.specs.Renamed.{renamed, renamed_content}
use Rattle.raft_log_machine_laws.specs.Whereabouts.{top}
use Rattle.raft_log_extents.specs.declared.place.Place.{Place}
use Rattle.raft_log_memtable_index.specs.Shown.{KeyValue, Shown, with_held}

-- a place and its queue: Append if `appended` is true, else Rewrite
pub record Located : Type 0 where
  pub appended : Bool
  pub place : Place

-- the place `p` in Append if the flag is true, else in Rewrite
abbrev pub in_queue : Bool → Place → Located
in_queue appended p = record { appended = appended; place = p }

-- the places with their queue: the first `n` (the first argument) are in Rewrite, the others in Append
abbrev pub located : ℕ → List Place → List Located
located zero ps = map (in_queue true) ps
located (suc n) [] = []
located (suc n) (p ∷ ps) = in_queue false p ∷ located n ps

-- the bytes of a value, if there is one
abbrev pub bytes_held : Option KeyValue → Option (List ℕ)
bytes_held None = None
bytes_held (Some h) = Some h.bytes

-- the table in the form of the log model: its entries are places with their queue, and its values are bytes
abbrev pub table_of : Shown → Table Located (List ℕ)
table_of v = record {
  first = v.first;
  entries = located v.rewritten v.places;
  values = λ k. bytes_held (v.held k);
}

-- the item as it is written to Append: with the bytes of its entries, which `at` gives for each place
abbrev pub written : {E : Type 0} → (Located → E) → Item Place (List ℕ) → Item E (List ℕ)
written at x = renamed (λ p. at (in_queue true p)) x

-- The table `v` represents the contents `m` of its group: in each slot (an index or a key), `m` has the same content as
-- the table. `at` gives the bytes at each place.
abbrev pub IsMeant : {E : Type 0} → (Located → E) → Shown → (Slot → Option (Content E (List ℕ))) → Type 0
IsMeant at v m = (s : Slot) → option_map (renamed_content at) (content (table_of v) s) ≡ m s

-- the bytes of `count` entries of the table, from index `f` on, if `at` gives the bytes at each place
abbrev pub read : {E : Type 0} → (Located → E) → Shown → ℕ → ℕ → List E
read at v f count = map at (take count (drop (f - v.first) (located v.rewritten v.places)))

-- One copy into Rewrite. `MoveRun` copies entries with consecutive indexes, from this index on, to these new places.
-- `MoveKey` copies the value of this key into the file with this number.
pub data Move : Type 0 where
  MoveRun : ℕ → List Place → Move
  MoveKey : List ℕ → ℕ → Move

-- The table after entries were copied to Rewrite, one to each place in `ps`. The first of these entries has the index
-- `f`. All entries before `f` are in Rewrite too.
abbrev pub moved_run : Shown → ℕ → List Place → Shown
moved_run v f ps = record v {
  places = take (f - v.first) v.places ++ (ps ++ drop ((f - v.first) + length ps) v.places);
  rewritten = (f - v.first) + length ps;
}

-- the value in file `n` of Rewrite, if there is one
abbrev pub rewritten_value : ℕ → Option KeyValue → Option KeyValue
rewritten_value n None = None
rewritten_value n (Some h) = Some (record { bytes = h.bytes; appended = false; file = n })

-- the table after the value of key `k` was copied into file `n` of Rewrite
abbrev pub moved_key : Shown → List ℕ → ℕ → Shown
moved_key v k n = record v { held = with_held v.held k (rewritten_value n (v.held k)) }

-- the table after one copy
abbrev pub moved : Shown → Move → Shown
moved v (MoveRun f ps) = moved_run v f ps
moved v (MoveKey k n) = moved_key v k n

-- the table after these copies, one after another
abbrev pub all_moved : Shown → List Move → Shown
all_moved v [] = v
all_moved v (x ∷ xs) = all_moved (moved v x) xs

-- The copy is allowed.
-- - `MoveRun`: the table has these entries. They start at or before the end of the entries in Rewrite, and end at or
--   after it. They may include entries of Append only if the table owes neither a Clean nor a Compact. The bytes at the
--   new places are those at the old ones.
-- - `MoveKey`: the key has a value. If the value is in Append, the table owes neither a Clean nor the Del of this key.
abbrev pub CanMove : {E : Type 0} → (Located → E) → Shown → Move → Type 0
CanMove at v (MoveRun f ps) =
    (v.first ≤ f) × (f ≤ v.first + v.rewritten) × (v.first + v.rewritten ≤ f + length ps)
    × (f + length ps ≤ v.first + length v.places)
    × ((v.first + v.rewritten ≡ f + length ps) ⊎ ((v.cleaned ≡ false) × (v.compacted ≡ false)))
    × (map (λ p. at (in_queue false p)) ps ≡ read at v f (length ps))
CanMove at v (MoveKey k n) =
    (h : KeyValue) × (v.held k ≡ Some h)
    × (h.appended ≡ true → (v.cleaned ≡ false) × (v.deleted k ≡ false))

-- each copy is allowed after those before it
abbrev pub CanAllMove : {E : Type 0} → (Located → E) → Shown → List Move → Type 0
CanAllMove at v [] = Unit {0}
CanAllMove at v (x ∷ xs) = CanMove at v x × CanAllMove at (moved v x) xs

-- the item that copies key `k`: a put of its value, or an empty run if it has none
abbrev pub item_of_key : {E : Type 0} → List ℕ → Option KeyValue → Item E (List ℕ)
item_of_key k None = Run 0 []
item_of_key k (Some h) = Put k h.bytes

-- the item that one copy writes
abbrev pub item_of : {E : Type 0} → (Located → E) → Shown → Move → Item E (List ℕ)
item_of at v (MoveRun f ps) = Run f (map (λ p. at (in_queue false p)) ps)
item_of at v (MoveKey k n) = item_of_key k (v.held k)

-- the items that these copies write, one after another
abbrev pub items_of : {E : Type 0} → (Located → E) → Shown → List Move → List (Item E (List ℕ))
items_of at v [] = []
items_of at v (x ∷ xs) = item_of at v x ∷ items_of at (moved v x) xs

-- a Del for each of these keys
abbrev pub dels : {E : Type 0} → List (List ℕ) → List (Item E (List ℕ))
dels [] = []
dels (k ∷ ks) = Del k ∷ dels ks

-- The Compact that the table owes, if any. It deletes the indexes below the table's first entry if some entries are
-- in Rewrite, else all.
abbrev pub compact_owed : {E : Type 0} → Shown → List (Item E (List ℕ))
compact_owed v =
    if v.compacted then Compact (if nat_lt 0 v.rewritten then v.first else top) ∷ [] else []

-- the tombstones that the table owes to Rewrite: the Clean first, then the Compact, then a Del for each key in `ks`
abbrev pub marks : {E : Type 0} → Shown → List (List ℕ) → List (Item E (List ℕ))
marks v ks = (if v.cleaned then Clean ∷ [] else []) ++ (compact_owed v ++ dels ks)

-- `deleted` is true for each of these keys, and none of them comes twice
abbrev pub AllOwed : (List ℕ → Bool) → List (List ℕ) → Type 0
AllOwed deleted [] = Unit {0}
AllOwed deleted (k ∷ ks) =
    (deleted k ≡ true) × AllOwed (λ j. if bytes_eq k j then false else deleted j) ks

-- `deleted`, changed to false for each of these keys
abbrev pub without : (List ℕ → Bool) → List (List ℕ) → List ℕ → Bool
without deleted [] = deleted
without deleted (k ∷ ks) = without (λ j. if bytes_eq k j then false else deleted j) ks

-- the table after all its tombstones were written to Rewrite
abbrev pub unmarked : Shown → Shown
unmarked v = record v { cleaned = false; compacted = false; deleted = λ k. false }
