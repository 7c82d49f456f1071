-- What a list of items says, item by item.
use Rattle.std.proofs.lemmas.List.{take_more, drop_more, take-append-drop}
use Rattle.std.proofs.Common.{◌≡◌, ℕ, ◌+◌, ◌<◌, length, take, drop, get_or, ◌==◌, ◌||◌, if◌then◌else◌, Bool, true, false, List, [], ◌∷◌, ◌++◌, refl, sym, ap, ◌∙◌, Option, Some, None}
use Rattle.raft_log_model_laws.specs.Item.{Tagged}
use Rattle.raft_log_model_laws.specs.Groups.{of_group}
use Rattle.raft_log_record_items.specs.declared.entry.EntryIndex.{EntryIndex}
use Rattle.raft_log_record_items.specs.declared.item.LogItem.{LogItem}
use Rattle.raft_log_record_frames.specs.Marking.{has_mark_key, mark_of, marking_of, part_or_broken}
use Rattle.raft_log_record_frames.specs.declared.marking.Marking.{Marking}
use Rattle.raft_log_record_frames.specs.declared.status.AtomicGroupStatus.{AtomicGroupStatus}
use Rattle.raft_log_record_frames.specs.declared.marking.Marking.TheVariants.{Unmarked, Part, Broken}
use Rattle.raft_log_record_frames.specs.Meaning.{meaning, tagged, tagged_items, unless_mark}
use Rattle.raft_log_memtables.specs.Batch.{mentions}

module _ {E : Type 0} (entry : EntryIndex → E) where
  unless_push : (b : Bool) (t : Tagged E (List ℕ)) (xs ys : List (Tagged E (List ℕ))) → unless_mark b t (xs ++ ys) ≡ unless_mark b t xs ++ ys
  unless_push true t xs ys = refl
  unless_push false t xs ys = refl

  tagged_push : (xs : List LogItem) (x : LogItem) → tagged_items entry (xs ++ x ∷ []) ≡ tagged_items entry xs ++ unless_mark (has_mark_key x) (tagged entry x) []
  tagged_push [] x = refl
  tagged_push (y ∷ ys) x =
      ap (λ (l : List (Tagged E (List ℕ))). unless_mark (has_mark_key y) (tagged entry y) l) (tagged_push ys x)
      ∙ unless_push (has_mark_key y) (tagged entry y) (tagged_items entry ys) (unless_mark (has_mark_key x) (tagged entry x) [])

  -- the first items and one more
  pub tagged_more : (xs : List LogItem) (i : ℕ) (d x : LogItem) (b : Bool) → i < length xs → x ≡ get_or xs i d → b ≡ has_mark_key x → tagged_items entry (take (i + 1) xs) ≡ tagged_items entry (take i xs) ++ unless_mark b (tagged entry x) []
  tagged_more xs i d x b lt is h =
      ap (tagged_items entry) (take_more xs i d lt ∙ ap (λ (y : LogItem). take i xs ++ y ∷ []) (sym is)) ∙ tagged_push (take i xs) x
      ∙ ap (λ (c : Bool). tagged_items entry (take i xs) ++ unless_mark c (tagged entry x) []) (sym h)

  -- the first items, one more that is no mark, and the others
  pub tagged_split : (xs : List LogItem) (i : ℕ) (d x : LogItem) → i < length xs → x ≡ get_or xs i d → has_mark_key x ≡ false
      → tagged_items entry xs ≡ tagged_items entry (take i xs) ++ (tagged entry x ∷ tagged_items entry (drop (i + 1) xs))
  tagged_split xs i d x lt is h =
      ap (tagged_items entry) (sym (take-append-drop i xs) ∙ ap (λ (l : List LogItem). take i xs ++ l) (drop_more xs i d lt ∙ ap (λ (y : LogItem). y ∷ drop (i + 1) xs) (sym is)))
      ∙ tagged_append (take i xs) (x ∷ drop (i + 1) xs)
      ∙ ap (λ (b : Bool). tagged_items entry (take i xs) ++ unless_mark b (tagged entry x) (tagged_items entry (drop (i + 1) xs))) h
    where
      tagged_append : (ys zs : List LogItem) → tagged_items entry (ys ++ zs) ≡ tagged_items entry ys ++ tagged_items entry zs
      tagged_append [] zs = refl
      tagged_append (y ∷ ys) zs =
          ap (λ (l : List (Tagged E (List ℕ))). unless_mark (has_mark_key y) (tagged entry y) l) (tagged_append ys zs)
          ∙ unless_push (has_mark_key y) (tagged entry y) (tagged_items entry ys) (tagged_items entry zs)

-- An item is a mark where it says something as one.
abbrev pub is_marking : Marking → Bool
is_marking Unmarked = false
is_marking (Part id status) = true
is_marking Broken = true

part_is_marking : (o : Option (ℕ × AtomicGroupStatus)) → is_marking (part_or_broken o) ≡ true
part_is_marking None = refl
part_is_marking (Some m) = refl

said_as_mark : (b : Bool) (o : Option (ℕ × AtomicGroupStatus)) → is_marking (if b then part_or_broken o else Unmarked) ≡ b
said_as_mark true o = part_is_marking o
said_as_mark false o = refl

pub marking_is : (x : LogItem) (m : Marking) → m ≡ marking_of x → is_marking m ≡ has_mark_key x
unfolding marking_of
marking_is x m h = ap is_marking h ∙ said_as_mark (has_mark_key x) (mark_of x)

-- Which groups items are of.
mentions_push : (g : ℕ) (xs : List LogItem) (x : LogItem) → mentions g (xs ++ x ∷ []) ≡ (mentions g xs || (x.raft_group_id == g))
mentions_push g [] x = or_false (x.raft_group_id == g)
  where
    or_false : (b : Bool) → (b || false) ≡ b
    or_false true = refl
    or_false false = refl
mentions_push g (y ∷ ys) x = ap (λ (b : Bool). (y.raft_group_id == g) || b) (mentions_push g ys x) ∙ or_assoc (y.raft_group_id == g) (mentions g ys) (x.raft_group_id == g)
  where
    or_assoc : (a b c : Bool) → (a || (b || c)) ≡ ((a || b) || c)
    or_assoc true b c = refl
    or_assoc false b c = refl

-- the first items and one more
pub mentions_more : (g : ℕ) (xs : List LogItem) (i : ℕ) (d x : LogItem) → i < length xs → x ≡ get_or xs i d → mentions g (take (i + 1) xs) ≡ (mentions g (take i xs) || (x.raft_group_id == g))
mentions_more g xs i d x lt is = ap (mentions g) (take_more xs i d lt ∙ ap (λ (y : LogItem). take i xs ++ y ∷ []) (sym is)) ∙ mentions_push g (take i xs) x

pub neither : (a b : Bool) → (a || b) ≡ false → (a ≡ false) × (b ≡ false)
neither true b h = (h, absurd (let clash : true ≡ false = h in let never : ⊥ = cc in never))
neither false b h = (refl, h)

-- a group that isn't among the items isn't among the first of them
pub none_of_first : (g : ℕ) (xs : List LogItem) (i : ℕ) → mentions g xs ≡ false → mentions g (take i xs) ≡ false
none_of_first g xs i h = (neither (mentions g (take i xs)) (mentions g (drop i xs)) (sym (mentions_append (take i xs) (drop i xs)) ∙ ap (mentions g) (take-append-drop i xs) ∙ h)).0
  where
    or_assoc : (a b c : Bool) → (a || (b || c)) ≡ ((a || b) || c)
    or_assoc true b c = refl
    or_assoc false b c = refl

    mentions_append : (ys zs : List LogItem) → mentions g (ys ++ zs) ≡ (mentions g ys || mentions g zs)
    mentions_append [] zs = refl
    mentions_append (y ∷ ys) zs = ap (λ (b : Bool). (y.raft_group_id == g) || b) (mentions_append ys zs) ∙ or_assoc (y.raft_group_id == g) (mentions g ys) (mentions g zs)

-- Nothing is said of a group that isn't among the items.
pub none_said : {E : Type 0} (entry : EntryIndex → E) (g : ℕ) (xs : List LogItem) → mentions g xs ≡ false → of_group g (tagged_items entry xs) ≡ []
none_said entry g [] h = refl
none_said {E = E} entry g (x ∷ xs) h =
    let parts = neither (x.raft_group_id == g) (mentions g xs) h in
    passed (has_mark_key x) (none_said entry g xs parts.1) parts.0
  where
    passed : (b : Bool) → of_group g (tagged_items entry xs) ≡ [] → (x.raft_group_id == g) ≡ false → of_group g (unless_mark b (tagged entry x) (tagged_items entry xs)) ≡ []
    passed true k e = k
    passed false k e = ap (λ (t : Bool). if t then meaning entry x.content ∷ of_group g (tagged_items entry xs) else of_group g (tagged_items entry xs)) e ∙ k
