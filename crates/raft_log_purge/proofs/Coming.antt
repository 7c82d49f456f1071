-- The marks that are owed came of the batches that were written.
use Rattle.std.proofs.Common.{◌≡◌, ◌==◌, ◌⊎◌, ◌∙◌, ℕ, Bool, true, false, if◌then◌else◌, bytes_eq, List, [], ◌∷◌, ◌++◌, map, inl, inr, refl, sym, ap, subst}
use Rattle.std.specs.List.{Contains}
use Rattle.std.proofs.lemmas.Bool.{false≢true}
use Rattle.std.proofs.lemmas.List.Elements.{Contains-append_left, Contains-append_right}
use Rattle.raft_log_model_laws.specs.Item.{Item, Tagged}
use Rattle.raft_log_model_laws.specs.Item.Item.{Run, Clean, Compact, Put, Del}
use Rattle.raft_log_model_laws.specs.Groups.{of_group}
use Rattle.raft_log_model_laws.specs.Renamed.{renamed}
use Rattle.raft_log_model_laws.proofs.Public.{at_bool, from_same_key, of_group_renamed}
use Rattle.raft_log_record_items.specs.declared.entry.EntryIndex.{EntryIndex}
use Rattle.raft_log_record_items.specs.declared.item.LogItem.{LogItem}
use Rattle.raft_log_record_items.specs.Placed.{written_entry}
use Rattle.raft_log_record_frames.specs.Marking.{has_mark_key}
use Rattle.raft_log_record_frames.specs.Meaning.{tagged, tagged_items, unless_mark}
use Rattle.raft_log_record_batches.specs.Batch.{Batch, block_place}
use Rattle.raft_log_extents.specs.declared.place.Place.{Place}
use Rattle.raft_log_extents.specs.Entries.{place_of}
use Rattle.raft_log_memtable_index.specs.Shown.{Shown, all_stepped, stepped}
use Rattle.raft_log_record_base.specs.declared.errors.Error.{Error}
use Rattle.raft_log_engine_laws.specs.EngineState.{EngineState, has_failed}
use Rattle.raft_log_engine_laws.specs.Writing.{NotWritten, Writes, items_at}
use Rattle.raft_log_engine_laws.proofs.Public.{placed_items}
use Rattle.raft_log_purge.specs.Marks.{CameOf, said_in}
use Rattle.raft_log_purge.specs.Laws.{MarksComeOfBatches}
use Rattle.raft_log_purge.proofs.Within.{Among, contained}

-- The items of one group.

module _ (n : ℕ) where
  clean_came : (v : Shown) (xs : List (Item Place (List ℕ))) → (all_stepped n v xs).cleaned ≡ true → (v.cleaned ≡ true) ⊎ Among Clean xs
  clean_came v [] owed = inl owed
  clean_came v (x ∷ xs) owed = elim (clean_came (stepped n v x) xs owed) [ inl before ↦ step x before | inr among ↦ inr (inr among) ]
    where
      step : (y : Item Place (List ℕ)) → (stepped n v y).cleaned ≡ true → (v.cleaned ≡ true) ⊎ Among Clean (y ∷ xs)
      step (Run f []) before = inl before
      step (Run f (p ∷ ps)) before = inl before
      step Clean before = inr (inl refl)
      step (Compact c) before = inl before
      step (Put k w) before = inl before
      step (Del k) before = inl before

  compact_came : (v : Shown) (xs : List (Item Place (List ℕ))) → (all_stepped n v xs).compacted ≡ true → (v.compacted ≡ true) ⊎ ((index : ℕ) × Among (Compact index) xs)
  compact_came v [] owed = inl owed
  compact_came v (x ∷ xs) owed = elim (compact_came (stepped n v x) xs owed) [ inl before ↦ step x before | inr among ↦ inr (among.0, inr among.1) ]
    where
      step : (y : Item Place (List ℕ)) → (stepped n v y).compacted ≡ true → (v.compacted ≡ true) ⊎ ((index : ℕ) × Among (Compact index) (y ∷ xs))
      step (Run f []) before = inl before
      step (Run f (p ∷ ps)) before = inl before
      step Clean before = absurd (false≢true before)
      step (Compact c) before = inr (c, inl refl)
      step (Put k w) before = inl before
      step (Del k) before = inl before

  deletion_came : (k : List ℕ) (v : Shown) (xs : List (Item Place (List ℕ))) → (all_stepped n v xs).deleted k ≡ true → (v.deleted k ≡ true) ⊎ Among (Del k) xs
  deletion_came k v [] owed = inl owed
  deletion_came k v (x ∷ xs) owed = elim (deletion_came k (stepped n v x) xs owed) [ inl before ↦ step x before | inr among ↦ inr (inr among) ]
    where
      step : (y : Item Place (List ℕ)) → (stepped n v y).deleted k ≡ true → (v.deleted k ≡ true) ⊎ Among (Del k) (y ∷ xs)
      step (Run f []) before = inl before
      step (Run f (p ∷ ps)) before = inl before
      step Clean before = inl before
      step (Compact c) before = inl before
      step (Put j w) before = inl before
      step (Del j) before =
          at_bool (bytes_eq j k) (λ b. (if b then true else v.deleted k) ≡ true → (v.deleted k ≡ true) ⊎ Among (Del k) (Del j ∷ xs)) (λ same _. inr (inl (ap Del (from_same_key j k same))))
          (λ _ still. inl still) before

-- What a mark is called stays where entries are called by their places.

clean_named : {E F : Type 0} (f : E → F) (xs : List (Item E (List ℕ))) → Among Clean (map (renamed f) xs) → Among Clean xs
clean_named f [] never = absurd never
clean_named f (Run n es ∷ xs) (inl same) = absurd (let never : ⊥ = cc in never)
clean_named f (Clean ∷ xs) (inl same) = inl refl
clean_named f (Compact c ∷ xs) (inl same) = absurd (let never : ⊥ = cc in never)
clean_named f (Put k w ∷ xs) (inl same) = absurd (let never : ⊥ = cc in never)
clean_named f (Del k ∷ xs) (inl same) = absurd (let never : ⊥ = cc in never)
clean_named f (x ∷ xs) (inr later) = inr (clean_named f xs later)

compact_named : {E F : Type 0} (f : E → F) (index : ℕ) (xs : List (Item E (List ℕ))) → Among (Compact index) (map (renamed f) xs) → Among (Compact index) xs
compact_named f index [] never = absurd never
compact_named f index (Run n es ∷ xs) (inl same) = absurd (let never : ⊥ = cc in never)
compact_named f index (Clean ∷ xs) (inl same) = absurd (let never : ⊥ = cc in never)
compact_named f index (Compact c ∷ xs) (inl same) = (let is : c ≡ index = cc in inl (ap Compact is))
compact_named f index (Put k w ∷ xs) (inl same) = absurd (let never : ⊥ = cc in never)
compact_named f index (Del k ∷ xs) (inl same) = absurd (let never : ⊥ = cc in never)
compact_named f index (x ∷ xs) (inr later) = inr (compact_named f index xs later)

deletion_named : {E F : Type 0} (f : E → F) (k : List ℕ) (xs : List (Item E (List ℕ))) → Among (Del k) (map (renamed f) xs) → Among (Del k) xs
deletion_named f k [] never = absurd never
deletion_named f k (Run n es ∷ xs) (inl same) = absurd (let never : ⊥ = cc in never)
deletion_named f k (Clean ∷ xs) (inl same) = absurd (let never : ⊥ = cc in never)
deletion_named f k (Compact c ∷ xs) (inl same) = absurd (let never : ⊥ = cc in never)
deletion_named f k (Put j w ∷ xs) (inl same) = absurd (let never : ⊥ = cc in never)
deletion_named f k (Del j ∷ xs) (inl same) = (let is : j ≡ k = cc in inl (ap Del is))
deletion_named f k (x ∷ xs) (inr later) = inr (deletion_named f k xs later)

-- More items.

items_if : {E V : Type 0} (b : Bool) (x : Item E V) (xs ys : List (Item E V)) → (if b then x ∷ (xs ++ ys) else xs ++ ys) ≡ (if b then x ∷ xs else xs) ++ ys
items_if true x xs ys = refl
items_if false x xs ys = refl

of_group_both : {E V : Type 0} (g : ℕ) (xs ys : List (Tagged E V)) → of_group g (xs ++ ys) ≡ of_group g xs ++ of_group g ys
of_group_both g [] ys = refl
of_group_both g (x ∷ xs) ys =
    ap (λ l. if x.group == g then x.item ∷ l else l) (of_group_both g xs ys) ∙ items_if (x.group == g) x.item (of_group g xs) (of_group g ys)

unless_both : {X : Type 0} (b : Bool) (x : X) (xs ys : List X) → unless_mark b x (xs ++ ys) ≡ unless_mark b x xs ++ ys
unless_both true x xs ys = refl
unless_both false x xs ys = refl

tagged_both : (xs ys : List LogItem) → ◌≡◌ {A = List (Tagged EntryIndex (List ℕ))} (tagged_items (λ e. e) (xs ++ ys)) (tagged_items (λ e. e) xs ++ tagged_items (λ e. e) ys)
tagged_both [] ys = refl
tagged_both (x ∷ xs) ys =
    ap (unless_mark (has_mark_key x) (tagged (λ e. e) x)) (tagged_both xs ys) ∙ unless_both (has_mark_key x) (tagged (λ e. e) x) (tagged_items (λ e. e) xs) (tagged_items (λ e. e) ys)

said_both : (xs ys : List LogItem) (g : ℕ) → said_in (xs ++ ys) g ≡ said_in xs g ++ said_in ys g
said_both xs ys g = ap (of_group g) (tagged_both xs ys) ∙ of_group_both g (tagged_items (λ e. e) xs) (tagged_items (λ e. e) ys)

module _ (items : List LogItem) (b : Batch) (g : ℕ) (x : Item EntryIndex (List ℕ)) where
  said_before : Contains (said_in items g) x → Contains (said_in (items ++ b.items) g) x
  said_before there = subst (λ (l : List (Item EntryIndex (List ℕ))). Contains l x) (sym (said_both items b.items g)) (Contains-append_left (said_in items g) (said_in b.items g) x there)

  said_now : Among x (said_in b.items g) → Contains (said_in (items ++ b.items) g) x
  said_now there =
      subst (λ (l : List (Item EntryIndex (List ℕ))). Contains l x) (sym (said_both items b.items g)) (Contains-append_right (said_in items g) (said_in b.items g) x (contained (said_in b.items g) x there))

-- A batch.

module _ (items : List LogItem) (b : Batch) (sync : Bool) (s t : EngineState) (came : CameOf items s.tables) (wrote : Writes b sync s t) (g : ℕ) where
  abbrev name : EntryIndex → Place
  name e = place_of (written_entry (block_place wrote.block b.entries) e)

  -- what the tables took of the group
  abbrev taken : List (Item Place (List ℕ))
  taken = of_group g (items_at wrote.block b)

  named : taken ≡ map (renamed name) (said_in b.items g)
  named = ap (of_group g) (placed_items (block_place wrote.block b.entries) b.items) ∙ of_group_renamed name g (tagged_items (λ e. e) b.items)

  shown : t.tables g ≡ all_stepped wrote.block.id.seq (s.tables g) taken
  shown = ap (λ (f : ℕ → Shown). f g) wrote.tables

  cleans_came : (t.tables g).cleaned ≡ true → Contains (said_in (items ++ b.items) g) Clean
  cleans_came owed = elim (clean_came wrote.block.id.seq (s.tables g) taken (sym (ap (λ (v : Shown). v.cleaned) shown) ∙ owed)) [
    | inl before ↦ said_before items b g Clean (came.cleans g before)
    | inr now ↦ said_now items b g Clean (clean_named name (said_in b.items g) (subst (λ (l : List (Item Place (List ℕ))). Among Clean l) named now))
  ]

  compacts_came : (t.tables g).compacted ≡ true → (index : ℕ) × Contains (said_in (items ++ b.items) g) (Compact index)
  compacts_came owed = elim (compact_came wrote.block.id.seq (s.tables g) taken (sym (ap (λ (v : Shown). v.compacted) shown) ∙ owed)) [
    | inl before ↦ (let (index, there) = came.compacts g before in (index, said_before items b g (Compact index) there))
    | inr now ↦ (now.0, said_now items b g (Compact now.0) (compact_named name now.0 (said_in b.items g) (subst (λ (l : List (Item Place (List ℕ))). Among (Compact now.0) l) named now.1)))
  ]

  deletions_came : (k : List ℕ) → (t.tables g).deleted k ≡ true → Contains (said_in (items ++ b.items) g) (Del k)
  deletions_came k owed = elim (deletion_came wrote.block.id.seq k (s.tables g) taken (sym (ap (λ (v : Shown). v.deleted k) shown) ∙ owed)) [
    | inl before ↦ said_before items b g (Del k) (came.deletions g k before)
    | inr now ↦ said_now items b g (Del k) (deletion_named name k (said_in b.items g) (subst (λ (l : List (Item Place (List ℕ))). Among (Del k) l) named now))
  ]

-- A refusal.

refused_none : (items : List LogItem) (b : Batch) (error : Error) (s t : EngineState) → CameOf items s.tables → NotWritten b error s t → has_failed t ≡ false → CameOf items t.tables
refused_none items b error s t came refused lives = elim refused [
  | inl unfit ↦ subst (λ (x : EngineState). CameOf items x.tables) (sym unfit.1) came
  | inr (inl failed) ↦ subst (λ (x : EngineState). CameOf items x.tables) (sym failed.2) came
  | inr (inr pipes) ↦ subst (CameOf items) (sym (pipes.same lives).tables) came
]

pub marks_come_of_batches : MarksComeOfBatches
marks_come_of_batches = record {
  none = λ v owes. record {
    cleans = λ g owed. absurd (false≢true (sym (owes g).0 ∙ owed));
    compacts = λ g owed. absurd (false≢true (sym (owes g).1 ∙ owed));
    deletions = λ g k owed. absurd (false≢true (sym ((owes g).2 k) ∙ owed));
  };
  written = λ items b sync s t came wrote. record {
    cleans = cleans_came items b sync s t came wrote;
    compacts = compacts_came items b sync s t came wrote;
    deletions = deletions_came items b sync s t came wrote;
  };
  unwritten = refused_none;
  purged = λ items v w came no_more. record {
    cleans = λ g owed. came.cleans g ((no_more g).cleaned owed);
    compacts = λ g owed. came.compacts g ((no_more g).compacted owed);
    deletions = λ g k owed. came.deletions g k ((no_more g).deleted k owed);
  };
}
