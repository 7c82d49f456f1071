-- What is known of a log grows by what its batches put.
use Rattle.std.proofs.Common.{◌≡◌, ◌⊎◌, ◌∙◌, ◌-◌, ◌≤◌, ◌<◌, ◌^◌, ℕ, if◌then◌else◌, nat_le, nat_lt, bytes_eq, slice_get, List, [], ◌∷◌, length, Option, Some, None, option_map, inl, inr, sym, ap₂, arith}
use Rattle.std.specs.Prelude.{unwrap_or}
use Rattle.std.proofs.lemmas.List.Elements.{Contains-append_left, Contains-append_right}
use Rattle.std.proofs.lemmas.Option.{slice_get_within}
use Rattle.raft_log_model_laws.specs.Item.{Item}
use Rattle.raft_log_model_laws.specs.Item.Item.{Run, Clean, Compact, Put, Del}
use Rattle.raft_log_model_laws.specs.Meaning.{Content, says, write}
use Rattle.raft_log_model_laws.specs.Meaning.Slot.{Index, Key}
use Rattle.raft_log_model_laws.specs.Meaning.Content.{Entry, Value}
use Rattle.raft_log_model_laws.specs.Groups.{appended}
use Rattle.raft_log_model_laws.proofs.Public.{at_bool, from_same_key, unwrap_or_option_or}
use Rattle.raft_log_record_batches.specs.Batch.{max_entries_len}
use Rattle.raft_log_purge.specs.Lengths.{AreShortRuns, IsShortRun, puts_of}
use Rattle.raft_log_purge.specs.Laws.{KnownPairsGrow}
use Rattle.raft_log_purge.proofs.Within.{Among, contained}

abbrev Stands : Type 0
Stands = Content (List ℕ) (List ℕ)

abbrev LogRecordValue : Type 0
LogRecordValue = Item (List ℕ) (List ℕ)

no_content : (c : Stands) → ◌≡◌ {A = Option Stands} None (Some c) → ⊥
no_content c is = (let never : ⊥ = cc in never)

-- a value that stands was there, or is put
module _ (k w : List ℕ) where
  put_more : (y : LogRecordValue) (xs : List LogRecordValue) → Among (k, w) (puts_of xs) → Among (k, w) (puts_of (y ∷ xs))
  put_more (Run f es) xs later = later
  put_more Clean xs later = later
  put_more (Compact c) xs later = later
  put_more (Put l v) xs later = inr later
  put_more (Del l) xs later = later

  put_now : (y : LogRecordValue) (xs : List LogRecordValue) (o : Option Stands) → unwrap_or (write (Key k) y) o ≡ Some (Value w) → (o ≡ Some (Value w)) ⊎ Among (k, w) (puts_of (y ∷ xs))
  put_now (Run f es) xs o is = inl is
  put_now Clean xs o is = absurd (no_content (Value w) is)
  put_now (Compact c) xs o is = inl is
  put_now (Put l v) xs o is =
      at_bool (bytes_eq l k) (λ b. unwrap_or (if b then Some (Some (Value v)) else None) o ≡ Some (Value w) → (o ≡ Some (Value w)) ⊎ Among (k, w) (puts_of (Put l v ∷ xs)))
      (λ same here. (let value : v ≡ w = cc in inr (inl (ap₂ (λ (a b : List ℕ). (a, b)) (from_same_key l k same) value)))) (λ apart still. inl still) is
  put_now (Del l) xs o is =
      at_bool (bytes_eq l k) (λ b. unwrap_or (if b then Some None else None) o ≡ Some (Value w) → (o ≡ Some (Value w)) ⊎ Among (k, w) (puts_of (Del l ∷ xs))) (λ same gone. absurd (no_content (Value w) gone))
      (λ apart still. inl still) is

  put_or_there : (xs : List LogRecordValue) (o : Option Stands) → unwrap_or (says (Key k) xs) o ≡ Some (Value w) → (o ≡ Some (Value w)) ⊎ Among (k, w) (puts_of xs)
  put_or_there [] o is = inl is
  put_or_there (x ∷ xs) o is = elim (put_or_there xs (unwrap_or (write (Key k) x) o) (sym (unwrap_or_option_or (says (Key k) xs) (write (Key k) x) o) ∙ is)) [
    | inl before ↦ put_now x xs o before
    | inr later ↦ inr (put_more x xs later)
  ]

-- an entry that stands was there, or is low and short
abbrev IsLow : ℕ → List ℕ → Type 0
IsLow i bytes = (i < 2 ^ 52) × (length bytes ≤ max_entries_len)

entry_got : (o : Option (List ℕ)) (bytes : List ℕ) → ◌≡◌ {A = Option Stands} (option_map Entry o) (Some (Entry bytes)) → o ≡ Some bytes
entry_got None bytes is = absurd (no_content (Entry bytes) is)
entry_got (Some x) bytes is = (let same : ◌≡◌ {A = Option (List ℕ)} (Some x) (Some bytes) = cc in same)

module _ (i : ℕ) (bytes : List ℕ) where
  run_now : (y : LogRecordValue) (o : Option Stands) → IsShortRun y → unwrap_or (write (Index i) y) o ≡ Some (Entry bytes) → (o ≡ Some (Entry bytes)) ⊎ IsLow i bytes
  run_now (Run f []) o short is = inl is
  run_now (Run f (e ∷ es)) o short is =
      at_bool (nat_le f i) (λ b. unwrap_or (if b then Some (option_map Entry (slice_get (e ∷ es) (i - f))) else None) o ≡ Some (Entry bytes) → (o ≡ Some (Entry bytes)) ⊎ IsLow i bytes)
      (λ from here.
      inr (let got = entry_got (slice_get (e ∷ es) (i - f)) bytes here in
      let within = slice_get_within (e ∷ es) (i - f) bytes got in
      let end = short.0 in (omega (arith, within, end), short.1 (i - f) bytes got))) (λ before still. inl still) is
  run_now Clean o short is = absurd (no_content (Entry bytes) is)
  run_now (Compact c) o short is =
      at_bool (nat_lt i c) (λ b. unwrap_or (if b then Some None else None) o ≡ Some (Entry bytes) → (o ≡ Some (Entry bytes)) ⊎ IsLow i bytes) (λ below gone. absurd (no_content (Entry bytes) gone)) (λ from still. inl still)
      is
  run_now (Put l v) o short is = inl is
  run_now (Del l) o short is = inl is

  low_or_there : (xs : List LogRecordValue) (o : Option Stands) → AreShortRuns xs → unwrap_or (says (Index i) xs) o ≡ Some (Entry bytes) → (o ≡ Some (Entry bytes)) ⊎ IsLow i bytes
  low_or_there [] o short is = inl is
  low_or_there (x ∷ xs) o (short, rest) is = elim (low_or_there xs (unwrap_or (write (Index i) x) o) rest (sym (unwrap_or_option_or (says (Index i) xs) (write (Index i) x) o) ∙ is)) [
    | inl before ↦ run_now x o short before
    | inr low ↦ inr low
  ]

pub known_pairs_grow : KnownPairsGrow
known_pairs_grow = record {
  none = record { entries = λ g i bytes is. absurd (no_content (Entry bytes) is); values = λ g k value is. absurd (no_content (Value value) is) };
  more = λ m known said knows short. record {
    entries = λ g i bytes is. elim (low_or_there i bytes (appended g (said ∷ [])) (m g (Index i)) (short g) is) [ inl before ↦ knows.entries g i bytes before | inr low ↦ low ];
    values = λ g k value is. elim (put_or_there k value (appended g (said ∷ [])) (m g (Key k)) is) [
      | inl before ↦ Contains-append_left (known g) (puts_of (appended g (said ∷ []))) (k, value) (knows.values g k value before)
      | inr put ↦ Contains-append_right (known g) (puts_of (appended g (said ∷ []))) (k, value) (contained (puts_of (appended g (said ∷ []))) (k, value) put)
    ];
  };
}
