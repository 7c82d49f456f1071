use Rattle.std.proofs.Common.{◌≡◌, ℕ, ◌+◌, ◌<◌, ◌^◌, List, [], ◌∷◌, length, map, Ok, true, refl, arith}
use Rattle.std.specs.List.{list_all}
use Rattle.std.proofs.lemmas.Bool.Decides.{nat_tests}
use Rattle.raft_voter_messages.specs.declared.reply.Entry.{Entry}
use Rattle.raft_voter_messages.specs.declared.reply.VoterState.{VoterState}
use Rattle.raft_voter_messages.specs.StoredForms.{state_fits, stored_entry_fits}
use Rattle.raft_voter_outline.specs.Restoring.{are_in_order, restored}

-- entries in range that stand in order end in range
pub last_in_range :
    (es : List Entry) (base : ℕ) → list_all stored_entry_fits es ≡ true → are_in_order (base + 1) es ≡ true
    → base < 2 ^ 63 → base + length es < 2 ^ 63
last_in_range [] base fit order small = omega arith
last_in_range (e ∷ es) base fit order small =
    let here : (e.index ≡ base + 1) × (e.index < 2 ^ 63) × (are_in_order (base + 1 + 1) es ≡ true) × (list_all stored_entry_fits es ≡ true) = grind (arith, nat_tests) in
    omega (arith, last_in_range es (base + 1) here.3 here.2 (omega arith))

-- what is in range and in order is restored
pub restored_ok :
    (s : VoterState) (es : List Entry) → state_fits s ≡ true → list_all stored_entry_fits es ≡ true
    → are_in_order (s.base_index + 1) es ≡ true
    → restored s es ≡ Ok (record {
      term = s.term;
      vote = s.vote;
      base_index = s.base_index;
      base_term = s.base_term;
      commit = s.commit;
      log = map (λ e. (e.term, e.bytes)) es;
    })
restored_ok s es fit each order = rw (fit, each, order) refl
