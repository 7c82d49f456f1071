-- What an engine's tables show is what its map has.
use Rattle.std.proofs.Common.{◌≡◌, ℕ, ◌+◌, ◌-◌, ◌<◌, ◌≤◌, zero, suc, Bool, true, false, List, [], ◌∷◌, length, Option, Some, None, refl, sym, ap, subst, ◌∙◌, arith, if◌then◌else◌, nat_le, nat_lt, option_map, slice_get, bytes_eq}
use Rattle.std.specs.Map.{lookup}
use Rattle.std.proofs.lemmas.Bool.{cases_Bool, false≢true}
use Rattle.raft_log_model_laws.specs.Groups.{taken}
use Rattle.raft_log_model_laws.specs.Meaning.{Content, Slot}
use Rattle.raft_log_model_laws.specs.Meaning.Slot.{Index, Key}
use Rattle.raft_log_model_laws.specs.Meaning.Content.{Entry, Value}
use Rattle.raft_log_model_laws.specs.Renamed.{renamed_content}
use Rattle.raft_log_model_laws.specs.Table.{content}
use Rattle.raft_log_extents.specs.declared.place.Place.{Place}
use Rattle.raft_log_memtable_index.specs.Shown.{KeyValue, Shown}
use Rattle.raft_log_memtable_index.specs.Bridge.{IsMeant, Located, bytes_held, located, table_of}
use Rattle.raft_log_memtable_index.proofs.Public.{located_length}
use Rattle.raft_log_memtable_index.specs.Listing.{ListsAll, values_within}
use Rattle.raft_log_memtable.specs.Reads.{first_of, last_of}
use Rattle.raft_log_block_cache.specs.Stored.{entries_at}
use Rattle.raft_log_block_cache.specs.raft_log_dual_pipes.specs.Pipes.{LogRecordValue}
use Rattle.raft_log_engine_laws.specs.EngineState.{LogDirectories, LogMap, EngineState}
use Rattle.raft_log_engine_laws.specs.Holding.{Represents}
use Rattle.raft_log_engine_laws.specs.Reading.{AreKeysOf, IsFirstIn, IsLastIn, StandsUnder, TablesTell, is_within}

-- an element of a list, by its index
got : {A : Type 0} (xs : List A) (i : ℕ) → i < length xs → (x : A) × (slice_get xs i ≡ Some x)
got [] i less = absurd (omega (arith, less))
got (x ∷ xs) zero less = (x, refl)
got (x ∷ xs) (suc i) less = got xs i (omega (arith, less))

not_got : {A : Type 0} (xs : List A) (i : ℕ) → length xs ≤ i → slice_get xs i ≡ None
not_got [] i past = refl
not_got (x ∷ xs) zero past = absurd (omega (arith, past))
not_got (x ∷ xs) (suc i) past = not_got xs i (omega (arith, past))

module _ (at : Located → List ℕ) (v : Shown) where
  none_below : (i : ℕ) → i < v.first → option_map (renamed_content {V = List ℕ} at) (content (table_of v) (Index i)) ≡ None
  none_below i less =
      ap (λ (b : Bool). option_map (renamed_content {V = List ℕ} at) (if b then option_map Entry (slice_get (located v.rewritten v.places) (i - v.first)) else None))
      (let no : nat_le v.first i ≡ false = grind (arith, less) in no)

  none_past : (i : ℕ) → v.first + length v.places ≤ i → option_map (renamed_content {V = List ℕ} at) (content (table_of v) (Index i)) ≡ None
  none_past i past =
      let long = located_length v.rewritten v.places in
      ap (λ (b : Bool). option_map (renamed_content {V = List ℕ} at) (if b then option_map Entry (slice_get (located v.rewritten v.places) (i - v.first)) else None))
      (let yes : nat_le v.first i ≡ true = grind (arith, past) in yes)
      ∙ ap (λ (o : Option Located). option_map (renamed_content {V = List ℕ} at) (option_map Entry o)) (not_got (located v.rewritten v.places) (i - v.first) (omega (arith, past, long)))

  some_at : (i : ℕ) → v.first ≤ i → i < v.first + length v.places → option_map (renamed_content {V = List ℕ} at) (content (table_of v) (Index i)) ≡ None → ⊥
  some_at i low high none =
      let long = located_length v.rewritten v.places in
      let (x, is) = got (located v.rewritten v.places) (i - v.first) (omega (arith, low, high, long)) in
      let there : option_map (renamed_content {V = List ℕ} at) (content (table_of v) (Index i)) ≡ Some (Entry (at x)) =
      ap (λ (b : Bool). option_map (renamed_content {V = List ℕ} at) (if b then option_map Entry (slice_get (located v.rewritten v.places) (i - v.first)) else None))
      (let yes : nat_le v.first i ≡ true = grind (arith, low) in yes)
      ∙ ap (λ (o : Option Located). option_map (renamed_content {V = List ℕ} at) (option_map Entry o)) is in
      is_not (sym there ∙ none)
    where
      is_not : {x : Content (List ℕ) (List ℕ)} → Some x ≡ None → ⊥
      is_not h = let never : ⊥ = cc in never

held_value : (at : Located → List ℕ) (o : Option (List ℕ)) → option_map (renamed_content at) (option_map Value o) ≡ option_map Value o
held_value at None = refl
held_value at (Some w) = refl

module _ (at : Located → List ℕ) (v : Shown) (m : LogMap) (g : ℕ) (meant : IsMeant at v (m g)) where
  first_in : (b : Bool) → nat_lt 0 (length v.places) ≡ b → IsFirstIn m g (if b then Some v.first else None)
  first_in true h = (
    λ none. some_at at v v.first (omega arith) (let some : 0 < length v.places = grind (arith, h) in omega (arith, some)) (meant (Index v.first) ∙ none),
    λ j less. sym (meant (Index j)) ∙ none_below at v j less,
  )
  first_in false h = λ i. sym (meant (Index i)) ∙ nothing i
    where
      empty : length v.places ≡ 0
      empty = grind (arith, h)

      nothing : (i : ℕ) → option_map (renamed_content {V = List ℕ} at) (content (table_of v) (Index i)) ≡ None
      nothing i = by (nat_lt i v.first) refl
        where
          by : (c : Bool) → nat_lt i v.first ≡ c → option_map (renamed_content {V = List ℕ} at) (content (table_of v) (Index i)) ≡ None
          by true c = none_below at v i (grind (arith, c))
          by false c = none_past at v i (let e = empty in grind (arith, c, e))

  last_in : (b : Bool) → nat_lt 0 (length v.places) ≡ b → IsLastIn m g (if b then Some (v.first + (length v.places - 1)) else None)
  last_in true h =
      let some : 0 < length v.places = grind (arith, h) in (
        λ none. some_at at v (v.first + (length v.places - 1)) (omega arith) (omega (arith, some)) (meant (Index (v.first + (length v.places - 1))) ∙ none),
        λ j less. sym (meant (Index j)) ∙ none_past at v j (omega (arith, less, some)),
      )
  last_in false h = first_in false h

module _ (e : EngineState) (g : ℕ) where
  first_told : (home : LogDirectories) (m : LogMap) (pending : List LogRecordValue) → Represents home e m pending → IsFirstIn (taken m pending) g (first_of (e.tables g))
  first_told home m pending h =
      subst (λ k. IsFirstIn k g (first_of (e.tables g))) h.at.stands.map (first_in (entries_at h.state) (e.tables g) h.map g (h.meant.meant g) (nat_lt 0 (length (e.tables g).places)) refl)

  last_told : (home : LogDirectories) (m : LogMap) (pending : List LogRecordValue) → Represents home e m pending → IsLastIn (taken m pending) g (last_of (e.tables g))
  last_told home m pending h =
      subst (λ k. IsLastIn k g (last_of (e.tables g))) h.at.stands.map (last_in (entries_at h.state) (e.tables g) h.map g (h.meant.meant g) (nat_lt 0 (length (e.tables g).places)) refl)

  value_told : (key : List ℕ) (home : LogDirectories) (m : LogMap) (pending : List LogRecordValue) → Represents home e m pending → StandsUnder (taken m pending) g key (bytes_held ((e.tables g).held key))
  value_told key home m pending h =
      subst (λ (n : LogMap). StandsUnder n g key (bytes_held ((e.tables g).held key))) h.at.stands.map
      (sym (h.meant.meant g (Key key)) ∙ held_value (entries_at h.state) (bytes_held ((e.tables g).held key)))

  keys_told : (start end : Option (List ℕ)) (es : List (List ℕ × List ℕ)) → ListsAll (values_within start end (e.tables g)) es → (home : LogDirectories) (m : LogMap) (pending : List LogRecordValue) → Represents home e m pending
      → AreKeysOf (taken m pending) g start end es
  keys_told start end es listed home m pending h = record {
    rising = listed.rising;
    inside = λ k yes. subst (StandsUnder (taken m pending) g k) (sym (at k true yes)) (value_told k home m pending h);
    outside = λ k no. at k false no;
  }
    where
      at : (k : List ℕ) (b : Bool) → is_within start end k ≡ b → lookup (bytes_eq k) es ≡ (if b then bytes_held ((e.tables g).held k) else None)
      at k b is = listed.exact k ∙ ap (λ (c : Bool). if c then bytes_held ((e.tables g).held k) else None) is

pub tables_tell : TablesTell
tables_tell = record {
  first = λ e g. record { shown = refl; exact = first_told e g };
  last = λ e g. record { shown = refl; exact = last_told e g };
  value = λ e g key. record { shown = refl; exact = value_told e g key };
  keys = λ e g start end es listed. record { shown = listed; exact = keys_told e g start end es listed };
}
