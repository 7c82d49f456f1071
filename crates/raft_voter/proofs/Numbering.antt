-- Entries with their indexes, and voters that can be stored.
use Rattle.std.proofs.Common.{◌≡◌, ℕ, ◌+◌, ◌≤◌, ◌^◌, true, nat_le, List, [], ◌∷◌, map, length, refl, ap, arith}
use Rattle.std.proofs.lemmas.Bool.Decides.{nat_tests}
use Rattle.std.specs.List.{list_all}
use Rattle.raft_voter_messages.specs.Ranges.{entry_fits, fits}
use Rattle.raft_voter_messages.specs.StoredForms.{state_fits, stored_entry_fits}
use Rattle.raft_voter_outline.specs.Restoring.{are_in_order}
use Rattle.raft_voter_outline.specs.Rules.{numbered}
use Rattle.raft_voter_outline.specs.State.{State, state_of}
use Rattle.raft_voter.specs.InRange.{IsInRange, IsStorable}

pub numbered_fit : (i : ℕ) (es : List (ℕ × List ℕ)) → list_all entry_fits es ≡ true → i + length es ≤ 2 ^ 63 → list_all stored_entry_fits (numbered i es) ≡ true
numbered_fit i [] h small = refl
numbered_fit i (e ∷ es) h small =
    let facts : (fits e.0 ≡ true) × (entry_fits e ≡ true) × (list_all entry_fits es ≡ true) = grind (arith, nat_tests) in
    let first : fits i ≡ true = grind (arith, nat_tests) in
    let more = numbered_fit (i + 1) es facts.2 (omega arith) in
    grind (arith, nat_tests)

pub unnumbered : (i : ℕ) (es : List (ℕ × List ℕ)) → map (λ e. (e.term, e.bytes)) (numbered i es) ≡ es
unnumbered i [] = refl
unnumbered i (e ∷ es) = ap (λ more. e ∷ more) (unnumbered (i + 1) es)

pub length-numbered : (i : ℕ) (es : List (ℕ × List ℕ)) → length (numbered i es) ≡ length es
length-numbered i [] = refl
length-numbered i (e ∷ es) = let more = length-numbered (i + 1) es in omega arith

pub numbered_in_order : (i : ℕ) (es : List (ℕ × List ℕ)) → are_in_order i (numbered i es) ≡ true
numbered_in_order i [] = refl
numbered_in_order i (e ∷ es) = let others = numbered_in_order (i + 1) es in grind (arith, nat_tests)

pub state_in_range : (v : State) → IsInRange v → state_fits (state_of v) ≡ true
state_in_range v r =
    let ends : nat_le v.base_index v.commit ≡ true = grind (arith, nat_tests, r.committed) in
    rw (r.term, r.vote, r.base_index, r.base_term, r.commit, ends) refl

pub entries_in_range : (v : State) → IsStorable v → list_all stored_entry_fits (numbered (v.base_index + 1) v.log) ≡ true
entries_in_range v h = numbered_fit (v.base_index + 1) v.log h.in_range.log (omega (arith, h.end_fits))
