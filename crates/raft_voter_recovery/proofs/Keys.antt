-- What a group's keys say of its voter.
use Rattle.std.proofs.Common.{◌≡◌, ◌∙◌, ℕ, ◌<◌, ◌≤◌, not, Bool, true, false, cond, List, [], ◌∷◌, length, get_or, Option, Some, None, option_map, bytes_eq, refl, sym, ap, subst, inl, inr, arith}
use Rattle.std.specs.Cmp.Lexicographic.{slice_cmp}
use Rattle.std.specs.declared.cmp.Ordering.TheVariants.{Less}
use Rattle.std.specs.List.Sorted.{IsStrictlySortedBy}
use Rattle.std.specs.Map.{keys_of, lookup}
use Rattle.std.specs.Ordering.{nat_cmp}
use Rattle.std.proofs.lemmas.Bool.{cases_Bool}
use Rattle.std.proofs.lemmas.List.{get_or_default}
use Rattle.std.proofs.lemmas.Map.Keys.{sorted_head}
use Rattle.std.proofs.lemmas.Slice.Eq.{bytes_eq-Decides}
use Rattle.raft_log_model_laws.specs.Meaning.{Content}
use Rattle.raft_log_model_laws.specs.Meaning.Slot.{Key}
use Rattle.raft_log_model_laws.specs.Meaning.Content.{Value}
use Rattle.raft_voter_durability_laws.specs.raft_log_engine_laws.specs.EngineState.{LogDirectories, LogMap, EngineState}
use Rattle.raft_voter_durability_laws.specs.raft_log_engine_laws.specs.Holding.{Represents}
use Rattle.raft_voter_durability_laws.specs.raft_log_engine_laws.specs.Reading.{AreKeysOf, ReadsKeys}
use Rattle.raft_voter_messages.specs.declared.reply.VoterState.{VoterState}
use Rattle.raft_voter_messages.specs.declared.stored.StoredFault.{StoredFault}
use Rattle.raft_voter_messages.specs.StoredForms.{IsState, StateFault}
use Rattle.raft_voter_records.specs.Voters.{voter_key}
use Rattle.raft_voter_records.specs.Readings.{HasForeign}
use Rattle.raft_voter_records.specs.Readings.HasForeign.{broken_state, other_key}
use Rattle.raft_voter_records.proofs.Public.{foreign_groups_are_foreign}
use Rattle.raft_voter_recovery.specs.declared.unread.Unread.{Unread}
use Rattle.raft_voter_recovery.specs.declared.unread.Unread.TheVariants as causes
use Rattle.raft_voter_recovery.specs.Groups.{ArePairsForeign, ForeignPairs, HasNoKey, HasOneKey, PairsTell, ReadsKey}
use Rattle.raft_voter_recovery.specs.Reading.{IsUnreadFor, Tells}

abbrev Pairs : Type 0
Pairs = List (List ℕ × List ℕ)

-- a key is itself, and no other
same : (k : List ℕ) → bytes_eq k k ≡ true
same k = (bytes_eq-Decides k k).1 refl

others : (k j : List ℕ) → (j ≡ k → ⊥) → bytes_eq k j ≡ false
others k j apart = elim (cases_Bool (bytes_eq k j)) [
  | inl hit ↦ absurd (apart (sym ((bytes_eq-Decides k j).0 hit)))
  | inr miss ↦ miss
]

-- what the pairs have a value for stands under a key
there : (m : LogMap) (g : ℕ) (es : Pairs) → AreKeysOf m g None None es → (k : List ℕ) → (lookup (bytes_eq k) es ≡ None → ⊥) → m g (Key k) ≡ None → ⊥
there m g es keys k some none = some (gone (lookup (bytes_eq k) es) (sym (keys.inside k refl) ∙ none))
  where
    gone : (o : Option (List ℕ)) → ◌≡◌ {A = Option (Content (List ℕ) (List ℕ))} (option_map Value o) None → o ≡ None
    gone None h = refl
    gone (Some bytes) h = cc

-- no key, or one.

no_pair : (s : EngineState) (g : ℕ) (es : Pairs) → ReadsKeys s g None None es → es ≡ [] → Tells s (λ m. HasNoKey (m g))
no_pair s g es read none = λ home m h k. (read.exact home m [] h).inside k refl ∙ ap (λ (ps : Pairs). option_map Value (lookup (bytes_eq k) ps)) none

one_pair : (s : EngineState) (g : ℕ) (es : Pairs) (bytes : List ℕ) → ReadsKeys s g None None es → es ≡ (voter_key, bytes) ∷ [] → Tells s (λ m. HasOneKey (m g) bytes)
one_pair s g es bytes read is = λ home m h.
    let keys = (read.exact home m [] h).inside in
    record {
      head = keys voter_key refl ∙ ap (λ (ps : Pairs). option_map Value (lookup (bytes_eq voter_key) ps)) is;
      keys = λ k apart. keys k refl ∙ ap (λ (ps : Pairs). option_map Value (lookup (bytes_eq k) ps)) is
          ∙ ap (λ (b : Bool). option_map Value (cond b (Some bytes) None)) (others k voter_key apart);
    }

pub keys_read : (s : EngineState) (g : ℕ) (es : Pairs) (state : Option VoterState) → ReadsKeys s g None None es → PairsTell state es → ReadsKey s g state
keys_read s g es None read none = no_pair s g es read none
keys_read s g es (Some state) read one = record { bytes = one.0; state = one.2; tells = one_pair s g es one.0 read one.1 }

-- Another one.

-- of two keys that rise one is another one
second : (a b : List ℕ × List ℕ) (es : Pairs) → IsStrictlySortedBy (slice_cmp nat_cmp) (keys_of (a ∷ b ∷ es)) → (k : List ℕ) × (voter_key ≡ k → ⊥) × (lookup (bytes_eq k) (a ∷ b ∷ es) ≡ None → ⊥)
second a b es rising = elim (cases_Bool (bytes_eq voter_key a.0)) [
  | inr miss ↦ (
    a.0,
    λ is. let hit = (bytes_eq-Decides voter_key a.0).1 is in absurd (let no : ⊥ = cc in no),
    λ none. let hit = ap (λ (x : Bool). cond x (Some a.1) (lookup (bytes_eq a.0) (b ∷ es))) (same a.0) in absurd (let no : ⊥ = cc in no),
  )
  | inl hit ↦ (
    b.0,
    λ is. apart (sym ((bytes_eq-Decides voter_key a.0).0 hit)) (sym is),
    λ none. behind (bytes_eq b.0 a.0) none,
  )
]
  where
    less : slice_cmp nat_cmp a.0 b.0 ≡ Less
    less = (sorted_head (slice_cmp nat_cmp) a.0 (b.0 ∷ keys_of es) rising).0

    apart : a.0 ≡ voter_key → b.0 ≡ voter_key → ⊥
    apart at bt =
        let equal : slice_cmp nat_cmp voter_key voter_key ≡ Less = subst (λ (k : List ℕ). slice_cmp nat_cmp k voter_key ≡ Less) at (subst (λ (k : List ℕ). slice_cmp nat_cmp a.0 k ≡ Less) bt less) in
        let no : ⊥ = cc in
        no

    here : lookup (bytes_eq b.0) (b ∷ es) ≡ Some b.1
    here = ap (λ (x : Bool). cond x (Some b.1) (lookup (bytes_eq b.0) es)) (same b.0)

    behind : (x : Bool) → cond x (Some a.1) (lookup (bytes_eq b.0) (b ∷ es)) ≡ None → ⊥
    behind true none = let no : ⊥ = cc in no
    behind false none = let is = here in let no : ⊥ = cc in no

more_keys : (m : LogMap) (g : ℕ) (es : Pairs) → 2 ≤ length es → AreKeysOf m g None None es → HasForeign (m g)
more_keys m g [] many keys = absurd (omega (arith, many))
more_keys m g (a ∷ []) many keys = absurd (omega (arith, many))
more_keys m g (a ∷ b ∷ es) many keys =
    let one = second a b es keys.rising in
    other_key one.0 one.1 (there m g (a ∷ b ∷ es) keys one.0 one.2)

other_one : (m : LogMap) (g : ℕ) (es : Pairs) (k bytes : List ℕ) → es ≡ (k, bytes) ∷ [] → (voter_key ≡ k → ⊥) → AreKeysOf m g None None es → HasForeign (m g)
other_one m g es k bytes is apart keys =
    other_key k apart (there m g es keys k (λ none.
    let found : lookup (bytes_eq k) es ≡ Some bytes =
    ap (λ (ps : Pairs). lookup (bytes_eq k) ps) is ∙ ap (λ (x : Bool). cond x (Some bytes) None) (same k) in
    let no : ⊥ = cc in no))

pub keys_foreign : (s : EngineState) (g : ℕ) (es : Pairs) (cause : Unread) → ReadsKeys s g None None es → ForeignPairs g es cause → IsUnreadFor cause s
keys_foreign s g es cause read told = subst (λ (c : Unread). IsUnreadFor c s) (sym told.0) (λ home m h.
    foreign_groups_are_foreign (m g) (by_case home m h told.1))
  where
    by_case : (home : LogDirectories) (m : LogMap) → Represents home s m [] → ArePairsForeign es → HasForeign (m g)
    by_case home m h (inl one) = other_one m g es one.0 one.1 one.2 one.3 (read.exact home m [] h)
    by_case home m h (inr (inl one)) = broken_state one.0 one.1 (one_pair s g es one.0 read one.2 home m h).head one.3
    by_case home m h (inr (inr many)) = more_keys m g es many (read.exact home m [] h)

-- What is told of the pairs.

-- a list of no pair
pub no_pairs : (es : Pairs) → length es < 1 → es ≡ []
no_pairs [] less = refl
no_pairs (e ∷ es) less = absurd (omega (arith, less))

-- a list of one pair
one_pair_in : (es : Pairs) (d : List ℕ × List ℕ) → 1 ≤ length es → length es < 2 → es ≡ get_or es 0 d ∷ []
one_pair_in [] d some few = absurd (omega (arith, some))
one_pair_in (e ∷ []) d some few = refl
one_pair_in (e ∷ f ∷ es) d some few = absurd (omega (arith, few))

-- its key was told to be the voter's, or another
key_is : (k j : List ℕ) (differs : Bool) → j ≡ voter_key → differs ≡ not (bytes_eq k j) → differs ≡ false → k ≡ voter_key
key_is k j differs at is none = (bytes_eq-Decides k j).0 (equal (bytes_eq k j) (sym is ∙ none)) ∙ at
  where
    equal : (b : Bool) → not b ≡ false → b ≡ true
    equal true h = refl
    equal false h = cc

key_is_not : (k j : List ℕ) (differs : Bool) → j ≡ voter_key → differs ≡ not (bytes_eq k j) → differs ≡ true → voter_key ≡ k → ⊥
key_is_not k j differs at is some own = apart (bytes_eq k j) (sym is ∙ some) ((bytes_eq-Decides k j).1 (sym own ∙ sym at))
  where
    apart : (b : Bool) → not b ≡ true → b ≡ true → ⊥
    apart true h t = let no : ⊥ = cc in no
    apart false h t = let no : ⊥ = cc in no

pub told_of_other_key : (g : ℕ) (es : Pairs) (d : List ℕ × List ℕ) (k j : List ℕ) (differs : Bool) → 1 ≤ length es → length es < 2 → k ≡ (get_or es 0 d).0 → j ≡ voter_key → differs ≡ not (bytes_eq k j)
    → differs ≡ true → ForeignPairs g es (causes.Foreign g)
told_of_other_key g es d k j differs some few key at is apart =
    let one : List ℕ × List ℕ = get_or es 0 d in (refl, inl (one.0, one.1, one_pair_in es d some few, λ same. key_is_not k j differs at is apart (same ∙ sym key)))

module _ (es : Pairs) (d e : List ℕ × List ℕ) (k j bytes : List ℕ) (differs : Bool) (some : 1 ≤ length es) (few : length es < 2) (key : k ≡ (get_or es 0 d).0) (at : j ≡ voter_key)
    (is : differs ≡ not (bytes_eq k j)) (same : differs ≡ false) (value : bytes ≡ (get_or es 0 e).1) where
  -- they are the one key with these bytes
  keyed : es ≡ (voter_key, bytes) ∷ []
  keyed =
      let own : (get_or es 0 d).0 ≡ voter_key = sym key ∙ key_is k j differs at is same in
      one_pair_in es d some few ∙ ap (λ (x : List ℕ). (x, (get_or es 0 d).1) ∷ []) own
      ∙ ap (λ (x : List ℕ). (voter_key, x) ∷ []) (ap (λ (p : List ℕ × List ℕ). p.1) (get_or_default es 0 d e (omega (arith, some))) ∙ sym value)

  pub told_of_state : (s : VoterState) → IsState bytes s → PairsTell (Some s) es
  told_of_state s state = (bytes, keyed, state)

  pub told_of_broken_state : (g : ℕ) (fault : StoredFault) → StateFault fault bytes → ForeignPairs g es (causes.Foreign g)
  told_of_broken_state g fault broken = (refl, inr (inl (bytes, fault, keyed, broken)))
