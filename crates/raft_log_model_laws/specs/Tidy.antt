-- Tidy records. Take an atomic group, and the raft groups that have items in it. Between the atomic group's begin and
-- its end, no other item takes effect for these raft groups. Items of atomic groups that began earlier aren't
-- considered.
use Rattle.std.specs.Prelude.{ℕ, List, [], ◌∷◌, ◌++◌, ◌≡◌, ◌⊎◌, ◌==◌, MatchBool, ⊤}
use Rattle.raft_log_model_laws.specs.Item.{Tagged, Record}
use Rattle.raft_log_model_laws.specs.Item.Record.{Plain, Part}
use Rattle.raft_log_model_laws.specs.Item.Mark.{Begin, Middle, End}
use Rattle.raft_log_model_laws.specs.Groups.{of_group, Open, none_open, counts, opens}

-- no raft group has items in both lists
abbrev pub Apart : {E V : Type 0} → List (Tagged E V) → List (Tagged E V) → Type 0
Apart xs ys = (g : ℕ) → (of_group g xs ≡ []) ⊎ (of_group g ys ≡ [])

-- Atomic group `n` has begun, and has the items `xs` so far. The list `said` has the items of other records that took
-- effect since group `n` began. `o` are the other atomic groups that are open. If group `n` ends in these records,
-- before another begin of it, no raft group has items both in group `n` and among those that took effect since its
-- begin.
abbrev pub Undisturbed : {E V : Type 0} → ℕ → List (Tagged E V) → List (Tagged E V) → Open E V
    → List (Record E V) → Type 0
Undisturbed n xs said o [] = ⊤
Undisturbed n xs said o (Plain ys ∷ rs) = Undisturbed n xs (said ++ ys) o rs
Undisturbed n xs said o (Part (Begin k) ys ∷ rs) =
    MatchBool (k == n) ⊤ (Undisturbed n xs said (opens o (Part (Begin k) ys)) rs)
Undisturbed n xs said o (Part (Middle k) ys ∷ rs) =
    MatchBool (k == n) (Undisturbed n (xs ++ ys) said o rs)
    (Undisturbed n xs said (opens o (Part (Middle k) ys)) rs)
Undisturbed n xs said o (Part (End k) ys ∷ rs) =
    MatchBool (k == n) (Apart (xs ++ ys) said)
    (Undisturbed n xs (said ++ counts o (Part (End k) ys)) (opens o (Part (End k) ys)) rs)

-- Take each atomic group that begins and ends in these records, and the records between its begin and its end. No raft
-- group has items both in the atomic group and among those that start to count in the records between. Items of an
-- atomic group that began before this one aren't considered.
abbrev pub Tidy : {E V : Type 0} → List (Record E V) → Type 0
Tidy [] = ⊤
Tidy (Plain xs ∷ rs) = Tidy rs
Tidy (Part (Begin n) xs ∷ rs) = Undisturbed n xs [] none_open rs × Tidy rs
Tidy (Part (Middle n) xs ∷ rs) = Tidy rs
Tidy (Part (End n) xs ∷ rs) = Tidy rs

-- these records end no atomic group
abbrev pub EndsNone : {E V : Type 0} → List (Record E V) → Type 0
EndsNone [] = ⊤
EndsNone (Plain xs ∷ rs) = EndsNone rs
EndsNone (Part (Begin n) xs ∷ rs) = EndsNone rs
EndsNone (Part (Middle n) xs ∷ rs) = EndsNone rs
EndsNone (Part (End n) xs ∷ rs) = ⊥

-- the records between the first and the last of atomic group `n`, with these items
abbrev pub middles : {E V : Type 0} → ℕ → List (List (Tagged E V)) → List (Record E V)
middles n [] = []
middles n (xs ∷ xss) = Part (Middle n) xs ∷ middles n xss

-- all records of atomic group `n`, without others between them
abbrev pub whole_group : {E V : Type 0} → ℕ → List (Tagged E V) → List (List (Tagged E V)) → List (Tagged E V)
    → List (Record E V)
whole_group n first between last = Part (Begin n) first ∷ (middles n between ++ (Part (End n) last ∷ []))

-- the items of these lists, in one list
abbrev pub joined : {E V : Type 0} → List (List (Tagged E V)) → List (Tagged E V)
joined [] = []
joined (xs ∷ xss) = xs ++ joined xss

-- all items of an atomic group, from its first record to its last
abbrev pub group_items : {E V : Type 0} → List (Tagged E V) → List (List (Tagged E V)) → List (Tagged E V)
    → List (Tagged E V)
group_items first between last = first ++ (joined between ++ last)
