-- What stands for a voter's entries, place by place.
use Rattle.std.proofs.Common.{◌≡◌, ◌∙◌, ℕ, zero, suc, ◌+◌, ◌-◌, ◌<◌, ◌≤◌, nat_lt, Bool, true, false, List, [], ◌∷◌, drop, map, slice_get, Option, Some, None, option_map, if◌then◌else◌, refl, sym, ap, arith, add-zero}
use Rattle.raft_log_model_laws.specs.Meaning.{Content}
use Rattle.raft_log_model_laws.specs.Meaning.Content.{Entry}
use Rattle.raft_log_model_laws.proofs.Public.{if_false, if_true, lt_false, lt_true}
use Rattle.raft_voter_messages.specs.StoredForms.{entry_text}
use Rattle.raft_voter_outline.specs.Rules.{numbered}
use Rattle.raft_voter_outline.proofs.Public.{Pair}
use Rattle.raft_voter_records.specs.Voters.{stored_entry}

-- what stands at an index for a log of this base
abbrev pub content_at : ℕ → List Pair → ℕ → Option (Content (List ℕ) (List ℕ))
content_at base log i =
    option_map (λ e. Entry (stored_entry i e)) (if nat_lt base i then slice_get log (i - base - 1) else None)

pub content_below : (base : ℕ) (log : List Pair) (i : ℕ) → i ≤ base → content_at base log i ≡ None
content_below base log i h = ap (option_map (λ e. Entry (stored_entry i e))) (if_false (nat_lt base i) _ _ (lt_false base i h))

pub content_above : (base : ℕ) (log : List Pair) (i : ℕ) → base < i
    → content_at base log i ≡ option_map (λ e. Entry (stored_entry i e)) (slice_get log (i - base - 1))
content_above base log i h = ap (option_map (λ e. Entry (stored_entry i e))) (if_true (nat_lt base i) _ _ (lt_true base i h))

nothing : (b : Bool) → ◌≡◌ {A = Option Pair} (if b then None else None) None
nothing true = refl
nothing false = refl

pub content_none : (base i : ℕ) → content_at base [] i ≡ None
content_none base i = ap (option_map (λ e. Entry (stored_entry i e))) (nothing (nat_lt base i))

-- the bytes that are written of entries, the first at this index
pub text_at : (index : ℕ) (es : List Pair) (k : ℕ)
    → slice_get (map entry_text (numbered index es)) k ≡ option_map (stored_entry (index + k)) (slice_get es k)
text_at index [] k = refl
text_at index (e ∷ es) zero = ap (λ n. Some (stored_entry n e)) (sym (add-zero index))
text_at index (e ∷ es) (suc k) =
    let same : index + 1 + k ≡ index + suc k = omega arith in
    text_at (index + 1) es k ∙ ap (λ n. option_map (stored_entry n) (slice_get es k)) same

-- an entry stands as its bytes
pub as_entry : (i : ℕ) (o : Option Pair)
    → ◌≡◌ {A = Option (Content (List ℕ) (List ℕ))} (option_map Entry (option_map (stored_entry i) o)) (option_map (λ e. Entry (stored_entry i e)) o)
as_entry i None = refl
as_entry i (Some e) = refl

-- a list from a place on begins with what stands there
pub drop_here : (log : List Pair) (k : ℕ) (e : Pair) → slice_get log k ≡ Some e → drop k log ≡ e ∷ drop (k + 1) log
drop_here [] k e h = absurd (cc)
drop_here (x ∷ log) zero e h = let one : 0 + 1 ≡ 1 = refl in cc
drop_here (x ∷ log) (suc k) e h =
    let one : suc k + 1 ≡ suc (k + 1) = omega arith in
    drop_here log k e h ∙ ap (λ n. e ∷ drop n (x ∷ log)) (sym one)
