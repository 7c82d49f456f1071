-- The refused positions of one round, among those of rounds that were cut off together.
use Rattle.std.proofs.Common.{◌≡◌, ◌≤◌, ◌<◌, ℕ, ◌+◌, ◌-◌, true, List, [], ◌∷◌, length, refl, ap, subst, ◌∙◌, inl, inr, arith}
use Rattle.std.specs.Prelude.{◌&&◌, nat_le, nat_lt, if◌then◌else◌}
use Rattle.std.specs.Cmp.Derive.{both_true}
use Rattle.std.proofs.lemmas.Bool.{and_parts, cases_lt, le-leb, le-ltb, leb-true, lt-leb, lt-ltb, ltb-true}
use Rattle.raft_voter.specs.Rounds.{are_rising}
use Rattle.raft_voter_rounds.specs.Noting.{places_within}

-- Rising positions.

pub rising_facts : (low high p : ℕ) (ps : List ℕ) → are_rising low high (p ∷ ps) ≡ true
    → (low ≤ p) × (p < high) × (are_rising (p + 1) high ps ≡ true)
rising_facts low high p ps rise =
    let both = and_parts _ (are_rising (p + 1) high ps) rise in
    let ends = and_parts _ _ both.0 in
    (leb-true low p ends.0, ltb-true p high ends.1, both.1)

rising_made : (low high p : ℕ) (ps : List ℕ) → low ≤ p → p < high → are_rising (p + 1) high ps ≡ true
    → are_rising low high (p ∷ ps) ≡ true
rising_made low high p ps above below rise = both_true (both_true (le-leb low p above) (lt-ltb p high below)) rise

rising_from : (low other high : ℕ) (ps : List ℕ) → other ≤ low → are_rising low high ps ≡ true → are_rising other high ps ≡ true
rising_from low other high [] lower rise = refl
rising_from low other high (p ∷ ps) lower rise =
    let (above, below, rest) = rising_facts low high p ps rise in
    rising_made other high p ps (omega (arith, lower, above)) below rest

rising_few : (low high : ℕ) (ps : List ℕ) → are_rising low high ps ≡ true → length ps ≤ high - low
rising_few low high [] rise = omega arith
rising_few low high (p ∷ ps) rise =
    let (above, below, rest) = rising_facts low high p ps rise in
    omega (arith, above, below, rising_few (p + 1) high ps rest)

-- The positions of one round among those of all.

pub within_here : (k n p : ℕ) (ps : List ℕ) → k ≤ p → p < k + n → places_within k n (p ∷ ps) ≡ (p - k) ∷ places_within k n ps
within_here k n p ps above below =
    let here : (nat_le k p && nat_lt p (k + n)) ≡ true = both_true (le-leb k p above) (lt-ltb p (k + n) below) in
    rw here refl

pub within_before : (k n p : ℕ) (ps : List ℕ) → p < k → places_within k n (p ∷ ps) ≡ places_within k n ps
within_before k n p ps before = rw (lt-leb k p before) refl

pub within_past : (k n p : ℕ) (ps : List ℕ) → k + n ≤ p → places_within k n (p ∷ ps) ≡ places_within k n ps
within_past k n p ps past = rw (le-leb k p (omega (arith, past)), le-ltb p (k + n) past) refl

pub within_none : (k n low high : ℕ) (ps : List ℕ) → are_rising low high ps ≡ true → k + n ≤ low → places_within k n ps ≡ []
within_none k n low high [] rise past = refl
within_none k n low high (p ∷ ps) rise past =
    let (above, below, rest) = rising_facts low high p ps rise in
    within_past k n p ps (omega (arith, above, past)) ∙ within_none k n (p + 1) high ps rest (omega (arith, above, past))

-- they rise, from the first of the round on
within_rises : (k n low high : ℕ) (ps : List ℕ) → are_rising low high ps ≡ true → are_rising (low - k) n (places_within k n ps) ≡ true
within_rises k n low high [] rise = refl
within_rises k n low high (p ∷ ps) rise =
    let (above, below, rest) = rising_facts low high p ps rise in
    let later = within_rises k n (p + 1) high ps rest in
    elim (cases_lt p k) [
      | inl before ↦
          ap (are_rising (low - k) n) (within_before k n p ps before)
          ∙ rising_from (p + 1 - k) (low - k) n (places_within k n ps) (omega (arith, above)) later
      | inr reaches ↦ elim (cases_lt p (k + n)) [
        | inl inside ↦
            let next : p + 1 - k ≡ p - k + 1 = omega (arith, reaches) in
            ap (are_rising (low - k) n) (within_here k n p ps reaches inside)
            ∙ rising_made (low - k) n (p - k) (places_within k n ps) (omega (arith, above)) (omega (arith, inside, reaches))
            (subst (λ (j : ℕ). are_rising j n (places_within k n ps) ≡ true) next later)
        | inr past ↦
            ap (are_rising (low - k) n) (within_past k n p ps past)
            ∙ rising_from (p + 1 - k) (low - k) n (places_within k n ps) (omega (arith, above)) later
      ]
    ]

pub within_round : (k n low high : ℕ) (ps : List ℕ) → are_rising low high ps ≡ true → are_rising 0 n (places_within k n ps) ≡ true
within_round k n low high ps rise = rising_from (low - k) 0 n (places_within k n ps) (omega arith) (within_rises k n low high ps rise)

-- so there are at most as many as the round has requests
pub few_within : (k n low high : ℕ) (ps : List ℕ) → are_rising low high ps ≡ true → length (places_within k n ps) ≤ n
few_within k n low high ps rise = let few = rising_few 0 n (places_within k n ps) (within_round k n low high ps rise) in omega (arith, few)
