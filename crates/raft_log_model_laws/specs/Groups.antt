-- Items of many raft groups in one queue, and atomic groups: several records whose items count together or not at all.
use Rattle.std.specs.Prelude.{ℕ, List, [], ◌∷◌, ◌++◌, Option, Some, None, unwrap_or, if◌then◌else◌, ◌==◌}
use Rattle.raft_log_model_laws.specs.Item.{Item, Tagged, Record, items_of}
use Rattle.raft_log_model_laws.specs.Item.Record.{Plain, Part}
use Rattle.raft_log_model_laws.specs.Item.Mark.{Begin, Middle, End}
use Rattle.raft_log_model_laws.specs.Meaning.{Slot, Content, directory, after}

-- the items of raft group `g`, in their order
abbrev pub of_group : {E V : Type 0} → ℕ → List (Tagged E V) → List (Item E V)
of_group g [] = []
of_group g (x ∷ xs) = if x.group == g then x.item ∷ of_group g xs else of_group g xs

-- all items of these records, whether or not they are parts of atomic groups; in Append, all of them count
abbrev pub contents : {E V : Type 0} → List (Record E V) → List (Tagged E V)
contents [] = []
contents (r ∷ rs) = items_of r ++ contents rs

-- the atomic groups that have begun and not ended: for the number of each, the items of its records so far
abbrev pub Open : Type 0 → Type 0 → Type 0
Open E V = ℕ → Option (List (Tagged E V))

-- no atomic group has begun and not ended
abbrev pub none_open : {E V : Type 0} → Open E V
none_open n = None

-- the open atomic groups `o`, with `v` for the one of number `n`
abbrev pub set_open : {E V : Type 0} → Open E V → ℕ → Option (List (Tagged E V)) → Open E V
set_open o n v k = if n == k then v else o k

-- an atomic group with the items `ys` added, if it is open; `None` if it isn't
abbrev pub onto : {E V : Type 0} → Option (List (Tagged E V)) → List (Tagged E V) → Option (List (Tagged E V))
onto None ys = None
onto (Some xs) ys = Some (xs ++ ys)

-- The items that begin to count with this record, if the atomic groups `o` are open before it. The items of a plain
-- record count at once. All items of an open atomic group count at the record that ends it.
abbrev pub counts : {E V : Type 0} → Open E V → Record E V → List (Tagged E V)
counts o (Plain xs) = xs
counts o (Part (Begin n) xs) = []
counts o (Part (Middle n) xs) = []
counts o (Part (End n) xs) = unwrap_or (onto (o n) xs) []

-- the open atomic groups after this record; a begin replaces an open one of the same number, whose items are dropped
abbrev pub opens : {E V : Type 0} → Open E V → Record E V → Open E V
opens o (Plain xs) = o
opens o (Part (Begin n) xs) = set_open o n (Some xs)
opens o (Part (Middle n) xs) = set_open o n (onto (o n) xs)
opens o (Part (End n) xs) = set_open o n None

-- the items that count in these records, in the order in which they start to count; the atomic groups `o` are open
-- before the records
abbrev pub settle : {E V : Type 0} → Open E V → List (Record E V) → List (Tagged E V)
settle o [] = []
settle o (r ∷ rs) = counts o r ++ settle (opens o r) rs

-- the open atomic groups after these records, if `o` are open before them
abbrev pub opened : {E V : Type 0} → Open E V → List (Record E V) → Open E V
opened o [] = o
opened o (r ∷ rs) = opened (opens o r) rs

-- The items that count in these records of Rewrite. An atomic group counts at its end. It doesn't count if its begin or
-- its end is missing, or if another atomic group of its number begins before it ends.
abbrev pub settled : {E V : Type 0} → List (Record E V) → List (Tagged E V)
settled rs = settle none_open rs

-- the items of raft group `g` in these records of Append
abbrev pub appended : {E V : Type 0} → ℕ → List (Record E V) → List (Item E V)
appended g rs = of_group g (contents rs)

-- the items of raft group `g` that count in these records of Rewrite
abbrev pub rewritten : {E V : Type 0} → ℕ → List (Record E V) → List (Item E V)
rewritten g rs = of_group g (settled rs)

-- a log's map: for each raft group, what is in each slot
abbrev pub Map : Type 0 → Type 0 → Type 0
Map E V = ℕ → Slot → Option (Content E V)

-- the map of a directory whose queues have these records
abbrev pub directory_meaning : {E V : Type 0} → List (Record E V) → List (Record E V) → Map E V
directory_meaning rewrite append g s = directory s (rewritten g rewrite) (appended g append)

-- map `m` after Append took these records
abbrev pub taken : {E V : Type 0} → Map E V → List (Record E V) → Map E V
taken m rs g = after (m g) (appended g rs)
