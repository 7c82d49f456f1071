-- What stands at an index once a write was made.
use Rattle.std.proofs.Common.{◌≡◌, ◌∙◌, ◌⊎◌, ℕ, ◌+◌, ◌-◌, ◌<◌, ◌≤◌, List, [], ◌∷◌, ◌++◌, length, take, drop, map, slice_get, Option, None, option_map, unwrap_or, refl, sym, ap, inl, inr, arith}
use Rattle.std.proofs.lemmas.Bool.{cases_lt}
use Rattle.std.proofs.lemmas.Option.{slice_get_past}
use Rattle.std.proofs.lemmas.List.{drop_all}
use Rattle.raft_log_model_laws.specs.Item.Item.{Compact}
use Rattle.raft_log_model_laws.specs.Meaning.{Content, says}
use Rattle.raft_log_model_laws.specs.Meaning.Slot.{Index, Key}
use Rattle.raft_log_model_laws.specs.Meaning.Content.{Entry}
use Rattle.raft_log_model_laws.proofs.Public.{compact_leaves, compact_removes, run_leaves, run_sets}
use Rattle.raft_voter_messages.specs.StoredForms.{entry_text}
use Rattle.raft_voter_outline.specs.Rules.{numbered}
use Rattle.raft_voter_outline.proofs.Public.{get_back, get_drop, get_front, Pair}
use Rattle.raft_voter_records.specs.Voters.{stored_entry}
use Rattle.raft_voter_records.specs.MeaningChanges.{Words, run_items}
use Rattle.raft_voter_records.proofs.Entries.{as_entry, content_above, content_at, content_below, content_none, text_at}

-- what stands at an index once these items were taken
abbrev pub once_taken : ℕ → List Words → Option (Content (List ℕ) (List ℕ)) → Option (Content (List ℕ) (List ℕ))
once_taken i xs old = unwrap_or (says (Index i) xs) old

-- a run says nothing of a key
pub run_no_key : (index : ℕ) (es : List Pair) (k : List ℕ) → says (Key k) (run_items index es) ≡ None
run_no_key index [] k = refl
run_no_key index (e ∷ es) k = refl

-- below the first index of a run all stays
below_run : (b n : ℕ) (log new : List Pair) (i : ℕ) → n ≤ length log → i < b + n + 1
    → content_at b log i ≡ content_at b (take n log ++ new) i
below_run b n log new i within below = elim (cases_lt b i) [
  | inl above ↦
      content_above b log i above
      ∙ ap (option_map (λ e. Entry (stored_entry i e))) (sym (get_front n log new (i - b - 1) (omega arith) within))
      ∙ sym (content_above b (take n log ++ new) i above)
  | inr low ↦ content_below b log i low ∙ sym (content_below b (take n log ++ new) i low)
]

-- from there on the run stands
in_run : (b n : ℕ) (log new : List Pair) (i index : ℕ) → n ≤ length log → index ≡ b + n + 1 → index ≤ i
    → option_map Entry (slice_get (map entry_text (numbered index new)) (i - index)) ≡ content_at b (take n log ++ new) i
in_run b n log new i index within is above =
    let high : b < i = omega (arith, is) in
    let place : i - b - 1 ≡ n + (i - index) = omega (arith, is) in
    let back : index + (i - index) ≡ i = omega arith in
    ap (option_map Entry) (text_at index new (i - index))
    ∙ ap (λ j. option_map Entry (option_map (stored_entry j) (slice_get new (i - index)))) back
    ∙ as_entry i (slice_get new (i - index))
    ∙ ap (option_map (λ e. Entry (stored_entry i e))) (sym (get_back n log new (i - index) within))
    ∙ ap (λ k. option_map (λ e. Entry (stored_entry i e)) (slice_get (take n log ++ new) k)) (sym place)
    ∙ sym (content_above b (take n log ++ new) i high)

-- entries come in behind those that stay
pub run_stands : (b n : ℕ) (log new : List Pair) (index : ℕ) → n ≤ length log → index ≡ b + n + 1 → 0 < length new
    → (i : ℕ) → once_taken i (run_items index new) (content_at b log i) ≡ content_at b (take n log ++ new) i
run_stands b n log [] index within is some i = absurd (omega arith)
run_stands b n log (e ∷ es) index within is some i = elim (cases_lt i index) [
  | inl below ↦
      ap (λ a. unwrap_or a (content_at b log i)) (run_leaves i index (map entry_text (numbered index (e ∷ es))) below)
      ∙ below_run b n log (e ∷ es) i within (omega (arith, is))
  | inr above ↦
      ap (λ a. unwrap_or a (content_at b log i)) (run_sets i index (map entry_text (numbered index (e ∷ es))) above (omega arith))
      ∙ in_run b n log (e ∷ es) i index within is above
]

-- what is gone up to an index, to the base there, or to the last one
abbrev pub RestsBehind : ℕ → List Pair → ℕ → ℕ → Type 0
RestsBehind b log index base = (base ≡ index) ⊎ (index ≡ b + length log)

all_gone : (b : ℕ) (log : List Pair) (index base i : ℕ) → index ≡ b + length log → content_at base (drop (index - b) log) i ≡ None
all_gone b log index base i last =
    let far : length log ≤ index - b = omega (arith, last) in
    ap (λ l. content_at base l i) (drop_all (index - b) log far) ∙ content_none base i

gone_below : (b : ℕ) (log : List Pair) (index base i : ℕ) → RestsBehind b log index base → i ≤ index → content_at base (drop (index - b) log) i ≡ None
gone_below b log index base i (inl is) h = content_below base (drop (index - b) log) i (omega (arith, is))
gone_below b log index base i (inr last) h = all_gone b log index base i last

stays_above : (b : ℕ) (log : List Pair) (index base i : ℕ) → b < index → RestsBehind b log index base → index < i
    → content_at b log i ≡ content_at base (drop (index - b) log) i
stays_above b log index base i high (inl is) h =
    let old : b < i = omega arith in
    let new : base < i = omega (arith, is) in
    let place : i - b - 1 ≡ (index - b) + (i - base - 1) = omega (arith, is) in
    content_above b log i old
    ∙ ap (λ k. option_map (λ e. Entry (stored_entry i e)) (slice_get log k)) place
    ∙ ap (option_map (λ e. Entry (stored_entry i e))) (sym (get_drop (index - b) log (i - base - 1)))
    ∙ sym (content_above base (drop (index - b) log) i new)
stays_above b log index base i high (inr last) h =
    let old : b < i = omega arith in
    let past : length log ≤ i - b - 1 = omega (arith, last) in
    content_above b log i old
    ∙ ap (option_map (λ e. Entry (stored_entry i e))) (slice_get_past log (i - b - 1) past)
    ∙ sym (all_gone b log index base i last)

-- entries up to an index go
pub compact_stands : (b : ℕ) (log : List Pair) (index base : ℕ) → b < index → RestsBehind b log index base
    → (i : ℕ) → once_taken i (Compact (index + 1) ∷ []) (content_at b log i) ≡ content_at base (drop (index - b) log) i
compact_stands b log index base high rests i = elim (cases_lt index i) [
  | inl above ↦
      ap (λ a. unwrap_or a (content_at b log i)) (compact_leaves i (index + 1) (omega arith))
      ∙ stays_above b log index base i high rests above
  | inr below ↦
      ap (λ a. unwrap_or a (content_at b log i)) (compact_removes i (index + 1) (omega arith))
      ∙ sym (gone_below b log index base i rests below)
]
