-- A group has one voter at most, and is foreign where it has none and holds something.
use Rattle.std.proofs.Common.{◌≡◌, ◌∙◌, ℕ, zero, suc, ◌+◌, ◌-◌, ◌<◌, true, List, [], ◌∷◌, slice_get, Option, Some, None, option_map, refl, sym, ap, ap₂, inl, inr, arith, add-zero}
use Rattle.std.proofs.Math.Path.{fun_ext}
use Rattle.std.proofs.lemmas.Bool.{and_parts}
use Rattle.std.specs.List.{list_all}
use Rattle.raft_log_model_laws.specs.Meaning.{Content}
use Rattle.raft_log_model_laws.specs.Meaning.Slot.{Key}
use Rattle.raft_log_model_laws.specs.Meaning.Content.{Entry}
use Rattle.raft_voter_messages.specs.declared.reply.Entry.{Entry as VoterEntry}
use Rattle.raft_voter_messages.specs.declared.reply.VoterState.{VoterState}
use Rattle.raft_voter_messages.specs.StoredForms.{entry_text, stored_entry_fits}
use Rattle.raft_voter_messages.proofs.Public.{one_entry, one_state}
use Rattle.raft_voter_outline.specs.Outlines.{stored_state}
use Rattle.raft_voter_outline.specs.Restoring.{with_log}
use Rattle.raft_voter_outline.specs.Rules.{numbered}
use Rattle.raft_voter_outline.specs.State.{State, fresh}
use Rattle.raft_voter_outline.proofs.Public.{Pair}
use Rattle.raft_voter.proofs.Public.{entries_in_range}
use Rattle.raft_voter_records.specs.Voters.{Group, HoldsVoter, IsForeign, IsVoid, stored_entry, voter_key}
use Rattle.raft_voter_records.specs.Laws.{ForeignExactly, OneVoter, OneWorld}
use Rattle.raft_voter_records.proofs.Entries.{content_above, content_at}

-- an entry with its index
abbrev pub entry_of : ℕ → Pair → VoterEntry
entry_of i e = record { index = i; term = e.0; bytes = e.1 }

-- each entry of a log that is in range is, with its index
pub fits_at : (index : ℕ) (es : List Pair) → list_all stored_entry_fits (numbered index es) ≡ true
    → (k : ℕ) (e : Pair) → slice_get es k ≡ Some e → stored_entry_fits (entry_of (index + k) e) ≡ true
fits_at index [] h k e is = cc
fits_at index (d ∷ es) h zero e is =
    let parts = and_parts (stored_entry_fits (entry_of index d)) (list_all stored_entry_fits (numbered (index + 1) es)) h in
    let same : d ≡ e = cc in
    ap (λ n. stored_entry_fits (entry_of n e)) (add-zero index) ∙ ap (λ p. stored_entry_fits (entry_of index p)) (sym same) ∙ parts.0
fits_at index (d ∷ es) h (suc k) e is =
    let parts = and_parts (stored_entry_fits (entry_of index d)) (list_all stored_entry_fits (numbered (index + 1) es)) h in
    let place : index + suc k ≡ index + 1 + k = omega arith in
    ap (λ n. stored_entry_fits (entry_of n e)) place ∙ fits_at (index + 1) es parts.1 k e is

-- what stands at an index of one log and of another is one entry, where both are in range
same_at : (i : ℕ) (o p : Option Pair) → ((e : Pair) → o ≡ Some e → stored_entry_fits (entry_of i e) ≡ true)
    → ((e : Pair) → p ≡ Some e → stored_entry_fits (entry_of i e) ≡ true)
    → ◌≡◌ {A = Option (Content (List ℕ) (List ℕ))} (option_map (λ e. Entry (stored_entry i e)) o) (option_map (λ e. Entry (stored_entry i e)) p)
    → o ≡ p
same_at i None None a b is = refl
same_at i None (Some e) a b is = cc
same_at i (Some e) None a b is = cc
same_at i (Some e) (Some f) a b is =
    let texts : entry_text (entry_of i e) ≡ entry_text (entry_of i f) = cc in
    let one = one_entry (entry_text (entry_of i e)) i i (entry_of i e) (entry_of i f)
    (record { text = refl; in_range = a e refl; at_index = refl }) (record { text = texts; in_range = b f refl; at_index = refl }) in
    ap (λ (z : VoterEntry). Some (z.term, z.bytes)) one.1

pub lists_same : (xs ys : List Pair) → ((k : ℕ) → slice_get xs k ≡ slice_get ys k) → xs ≡ ys
lists_same [] [] h = refl
lists_same [] (y ∷ ys) h = let none = h zero in cc
lists_same (x ∷ xs) [] h = let none = h zero in cc
lists_same (x ∷ xs) (y ∷ ys) h =
    let first = h zero in
    let others = lists_same xs ys (λ k. h (suc k)) in
    cc

logs_same : (base : ℕ) (xs ys : List Pair) → list_all stored_entry_fits (numbered (base + 1) xs) ≡ true
    → list_all stored_entry_fits (numbered (base + 1) ys) ≡ true → ((i : ℕ) → content_at base xs i ≡ content_at base ys i) → xs ≡ ys
logs_same base xs ys a b same = lists_same xs ys at
  where
    at : (k : ℕ) → slice_get xs k ≡ slice_get ys k
    at k =
        let high : base < base + 1 + k = omega arith in
        let place : base + 1 + k - base - 1 ≡ k = omega arith in
        let f : Option Pair → Option (Content (List ℕ) (List ℕ)) = option_map (λ e. Entry (stored_entry (base + 1 + k) e)) in
        same_at (base + 1 + k) (slice_get xs k) (slice_get ys k) (fits_at (base + 1) xs a k) (fits_at (base + 1) ys b k)
        (ap (λ n. option_map (λ e. Entry (stored_entry (base + 1 + k) e)) (slice_get xs n)) (sym place)
        ∙ sym (content_above base xs (base + 1 + k) high) ∙ same (base + 1 + k) ∙ content_above base ys (base + 1 + k) high
        ∙ ap (λ n. option_map (λ e. Entry (stored_entry (base + 1 + k) e)) (slice_get ys n)) place)

pub holders_same : {grp : _} (v w : State) → HoldsVoter grp v → HoldsVoter grp w → v ≡ w
holders_same v w a b =
    let bytes : b.bytes ≡ a.bytes = cc (a.head, b.head) in
    let state : stored_state v ≡ stored_state w = one_state a.bytes (stored_state v) (stored_state w) a.state (rw bytes at b.state) in
    let base : v.base_index ≡ w.base_index = ap (λ (s : VoterState). s.base_index) state in
    let log : v.log ≡ w.log =
    logs_same v.base_index v.log w.log (entries_in_range v a.storable) (ap (λ n. list_all stored_entry_fits (numbered (n + 1) w.log)) base ∙ entries_in_range w b.storable)
    (λ i. sym (a.entries i) ∙ b.entries i ∙ ap (λ n. content_at n w.log i) (sym base)) in
    ap₂ with_log state log

pub one_voter : OneVoter
one_voter grp v w (inl a) (inl b) = a.1 ∙ sym b.1
one_voter grp v w (inl a) (inr b) = let none = a.0 (Key voter_key) in let some = b.head in absurd (cc)
one_voter grp v w (inr a) (inl b) = let none = b.0 (Key voter_key) in let some = a.head in absurd (cc)
one_voter grp v w (inr a) (inr b) = holders_same v w a b

pub one_world : OneWorld
one_world m V W a b = fun_ext (λ g. one_voter (m g) (V g) (W g) (a g) (b g))

not_foreign : (grp : Group) → (IsVoid grp → ⊥) → ((v : State) → ¬ HoldsVoter grp v) → IsForeign grp
not_foreign grp some none v (inl void) = some void.0
not_foreign grp some none v (inr holds) = none v holds

pub foreign_exactly : ForeignExactly
foreign_exactly grp = (
  λ foreign. (λ void. foreign fresh (inl (void, refl)), λ v holds. foreign v (inr holds)),
  λ parts. not_foreign grp parts.0 parts.1,
)
