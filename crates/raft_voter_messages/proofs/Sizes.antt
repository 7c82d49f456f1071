use Rattle.std.proofs.Common.{◌≡◌, ℕ, ◌*◌, ◌≤◌, List, [], ◌∷◌, length, true, arith}
use Rattle.std.specs.List.{list_all}
use Rattle.std.proofs.lemmas.List.Sums.{sum_by-cons}
use Rattle.raft_voter_messages.specs.Ranges.{entry_fits, total_bytes}

-- one entry that fits has at most 65,535 bytes
length-le-entry_fits : (e : ℕ × List ℕ) → entry_fits e ≡ true → length e.1 ≤ 65535
length-le-entry_fits e h = grind arith

-- entries that fit have at most that many bytes each
pub total_bytes-le-entry_fits :
    (es : List (ℕ × List ℕ)) → list_all entry_fits es ≡ true → total_bytes es ≤ 65535 * length es
total_bytes-le-entry_fits [] h = omega arith
total_bytes-le-entry_fits (e ∷ es) h =
    let split : (entry_fits e ≡ true) × (list_all entry_fits es ≡ true) = grind arith in
    rw sum_by-cons (omega (arith, length-le-entry_fits e split.0, total_bytes-le-entry_fits es split.1))
