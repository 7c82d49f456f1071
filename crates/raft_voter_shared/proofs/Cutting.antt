-- Records of rounds that were cut off together: each has its own part of the refused positions.
use Rattle.std.proofs.Common.{◌≡◌, ◌≤◌, ◌<◌, ℕ, suc, ◌+◌, ◌-◌, true, List, [], ◌∷◌, ◌++◌, length, length-drop, map, take, drop, sum, None, refl, sym, ap, ◌∙◌, inl, inr, arith}
use Rattle.std.specs.Prelude.{nat_le, if◌then◌else◌}
use Rattle.std.proofs.lemmas.Bool.{cases_lt, le-leb, lt-leb}
use Rattle.std.proofs.lemmas.List.{length-take-le, nil_from_length, take-append-drop}
use Rattle.std.proofs.lemmas.List.Sums.{sum_by-cons}
use Rattle.raft_voter_messages.specs.declared.request.Request.{Request}
use Rattle.raft_voter.specs.Rounds.{World, are_rising}
use Rattle.raft_voter_rounds.specs.Journal.{IsLegal, reached}
use Rattle.raft_voter_rounds.specs.Noting.{cut_each, cut_off, places_within}
use Rattle.raft_voter_rounds.proofs.Public.{rising_facts, within_before, within_here, within_none, within_past, within_round}
use Rattle.raft_voter_shared.specs.Standing.{are_cut, refused_of, requests_of}
use Rattle.raft_voter_shared.proofs.Journals.{AreCutOff, legal_first}

-- The positions from one on.

abbrev from_on : ℕ → List ℕ → List ℕ
from_on k [] = []
from_on k (p ∷ ps) = if nat_le k p then p ∷ from_on k ps else from_on k ps

from_here : (k p : ℕ) (ps : List ℕ) → k ≤ p → from_on k (p ∷ ps) ≡ p ∷ from_on k ps
from_here k p ps above = rw (le-leb k p above) refl

from_before : (k p : ℕ) (ps : List ℕ) → p < k → from_on k (p ∷ ps) ≡ from_on k ps
from_before k p ps before = rw (lt-leb k p before) refl

from_all : (ps : List ℕ) → from_on 0 ps ≡ ps
from_all [] = refl
from_all (p ∷ ps) = from_here 0 p ps (omega arith) ∙ ap (λ (l : List ℕ). p ∷ l) (from_all ps)

from_none : (k low high : ℕ) (ps : List ℕ) → are_rising low high ps ≡ true → high ≤ k → from_on k ps ≡ []
from_none k low high [] rise past = refl
from_none k low high (p ∷ ps) rise past =
    let (above, below, rest) = rising_facts low high p ps rise in
    from_before k p ps (omega (arith, below, past)) ∙ from_none k (p + 1) high ps rest past

-- those of a round, and those from the next round on, are those from the round on
within_from : (k n low high : ℕ) (ps : List ℕ) → are_rising low high ps ≡ true
    → map (λ p. k + p) (places_within k n ps) ++ from_on (k + n) ps ≡ from_on k ps
within_from k n low high [] rise = refl
within_from k n low high (p ∷ ps) rise =
    let (above, below, rest) = rising_facts low high p ps rise in
    let later = within_from k n (p + 1) high ps rest in
    let shifted : List ℕ → List ℕ = λ l. map (λ p. k + p) l in
    elim (cases_lt p k) [
      | inl before ↦
          ap (λ (l : List ℕ). shifted l ++ from_on (k + n) (p ∷ ps)) (within_before k n p ps before)
          ∙ ap (λ (l : List ℕ). shifted (places_within k n ps) ++ l) (from_before (k + n) p ps (omega (arith, before)))
          ∙ later ∙ sym (from_before k p ps before)
      | inr reaches ↦ elim (cases_lt p (k + n)) [
        | inl inside ↦
            let back : k + (p - k) ≡ p = omega (arith, reaches) in
            ap (λ (l : List ℕ). shifted l ++ from_on (k + n) (p ∷ ps)) (within_here k n p ps reaches inside)
            ∙ ap (λ (l : List ℕ). shifted ((p - k) ∷ places_within k n ps) ++ l) (from_before (k + n) p ps inside)
            ∙ ap (λ (j : ℕ). j ∷ (shifted (places_within k n ps) ++ from_on (k + n) ps)) back
            ∙ ap (λ (l : List ℕ). p ∷ l) later ∙ sym (from_here k p ps reaches)
        | inr past ↦
            let none : places_within k n ps ≡ [] = within_none k n (p + 1) high ps rest (omega (arith, past)) in
            ap (λ (l : List ℕ). shifted l ++ from_on (k + n) (p ∷ ps)) (within_past k n p ps past ∙ none)
            ∙ from_here (k + n) p ps past
            ∙ ap (λ (l : List ℕ). p ∷ l) (ap (λ (l : List ℕ). shifted l ++ from_on (k + n) ps) (sym none) ∙ later)
            ∙ sym (from_here k p ps reaches)
      ]
    ]

-- The records.

length-cut_each : (k : ℕ) (counts : List ℕ) (qs : List (ℕ × Request)) (ps : List ℕ) → length (cut_each k counts qs ps) ≡ length counts
length-cut_each k [] qs ps = refl
length-cut_each k (n ∷ counts) qs ps = ap suc (length-cut_each (k + n) counts (drop n qs) ps)

each_cut : (k : ℕ) (counts : List ℕ) (qs : List (ℕ × Request)) (ps : List ℕ) → are_cut (cut_each k counts qs ps) ≡ true
each_cut k [] qs ps = refl
each_cut k (n ∷ counts) qs ps = each_cut (k + n) counts (drop n qs) ps

each_asked : (k : ℕ) (counts : List ℕ) (qs : List (ℕ × Request)) (ps : List ℕ) → sum counts ≡ length qs
    → requests_of (cut_each k counts qs ps) ≡ qs
each_asked k [] qs ps all = sym (nil_from_length qs (sym all))
each_asked k (n ∷ counts) qs ps all =
    let is = sum_by-cons (λ (m : ℕ). m) n counts in
    ap (λ (l : List (ℕ × Request)). take n qs ++ l) (each_asked (k + n) counts (drop n qs) ps (omega (arith, is, all, length-drop n qs)))
    ∙ take-append-drop n qs

each_stays : (k : ℕ) (counts : List ℕ) (qs : List (ℕ × Request)) (ps : List ℕ) (W : World) → reached W (cut_each k counts qs ps) ≡ W
each_stays k [] qs ps W = refl
each_stays k (n ∷ counts) qs ps W = each_stays (k + n) counts (drop n qs) ps W

each_legal : (k low high : ℕ) (counts : List ℕ) (qs : List (ℕ × Request)) (ps : List ℕ) (W : World) → sum counts ≡ length qs
    → are_rising low high ps ≡ true → IsLegal W (cut_each k counts qs ps)
each_legal k low high [] qs ps W all rise = refl
each_legal k low high (n ∷ counts) qs ps W all rise =
    let is = sum_by-cons (λ (m : ℕ). m) n counts in
    let long : length (take n qs) ≡ n = length-take-le n qs (omega (arith, is, all)) in
    legal_first W (cut_off (take n qs) (places_within k n ps)) (cut_each (k + n) counts (drop n qs) ps)
    (ap (λ b. (b, None)) (ap (λ (m : ℕ). are_rising 0 m (places_within k n ps)) long ∙ within_round k n low high ps rise))
    (each_legal (k + n) low high counts (drop n qs) ps W (omega (arith, is, all, length-drop n qs)) rise)

each_places : (k low high : ℕ) (counts : List ℕ) (qs : List (ℕ × Request)) (ps : List ℕ) → sum counts ≡ length qs
    → high ≡ k + length qs → are_rising low high ps ≡ true → refused_of k (cut_each k counts qs ps) ≡ from_on k ps
each_places k low high [] qs ps all end rise = sym (from_none k low high ps rise (omega (arith, all, end)))
each_places k low high (n ∷ counts) qs ps all end rise =
    let is = sum_by-cons (λ (m : ℕ). m) n counts in
    let long : length (take n qs) ≡ n = length-take-le n qs (omega (arith, is, all)) in
    let later = cut_each (k + n) counts (drop n qs) ps in
    ap (λ (m : ℕ). map (λ p. k + p) (places_within k n ps) ++ refused_of (k + m) later) long
    ∙ ap (λ (l : List ℕ). map (λ p. k + p) (places_within k n ps) ++ l)
    (each_places (k + n) low high counts (drop n qs) ps (omega (arith, is, all, length-drop n qs)) (omega (arith, is, all, end, length-drop n qs)) rise)
    ∙ within_from k n low high ps rise

-- The records of rounds that were cut off together have all their requests and all their refused positions.
pub each_is_cut : (counts : List ℕ) (qs : List (ℕ × Request)) (ps : List ℕ) → 0 < length counts → sum counts ≡ length qs
    → are_rising 0 (length qs) ps ≡ true → AreCutOff qs ps (cut_each 0 counts qs ps)
each_is_cut counts qs ps some all rise = record {
  some = omega (arith, some, length-cut_each 0 counts qs ps);
  cut = each_cut 0 counts qs ps;
  asked = each_asked 0 counts qs ps all;
  places = each_places 0 0 (length qs) counts qs ps all (omega arith) rise ∙ from_all ps;
  legal = λ W. each_legal 0 0 (length qs) counts qs ps W all rise;
  stays = each_stays 0 counts qs ps;
}
