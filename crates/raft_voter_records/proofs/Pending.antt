-- Which voters a map may mean, through what happens to its pending batches. The tests on voters are any.
use Rattle.std.proofs.Common.{◌≡◌, ◌∙◌, ℕ, zero, suc, ◌+◌, ◌≤◌, List, [], ◌∷◌, ◌++◌, length, take, sym, ap, subst, inl, inr, arith, length-append, take_all}
use Rattle.std.proofs.Math.Path.{fun_ext}
use Rattle.std.proofs.lemmas.Bool.{cases_lt}
use Rattle.std.proofs.lemmas.List.{take-append-le}
use Rattle.raft_log_model_laws.specs.Item.{Record}
use Rattle.raft_log_model_laws.specs.Groups.{taken}
use Rattle.raft_log_model_laws.proofs.Public.{taken_append}
use Rattle.raft_voter.specs.Rounds.{World}
use Rattle.raft_voter_records.specs.Voters.{Groups, Means}
use Rattle.raft_voter_records.specs.Among.{MeansAmong}

-- what a log's batches say
abbrev pub Batches : Type 0
Batches = List (Record (List ℕ) (List ℕ))

-- batches that are taken one list after the other
pub taken_in_two : (m : Groups) (xs ys : Batches) → taken m (xs ++ ys) ≡ taken (taken m xs) ys
taken_in_two m xs ys = fun_ext (λ g. fun_ext (λ s. taken_append m g s xs ys))

-- some first batches, and some of those behind
pub take_behind : (done rest : Batches) (k : ℕ) → take (length done + k) (done ++ rest) ≡ done ++ take k rest
take_behind [] rest k = let none : 0 + k ≡ k = omega arith in ap (λ n. take n rest) none
take_behind (x ∷ done) rest k =
    let one : suc (length done) + k ≡ suc (length done + k) = omega arith in
    ap (λ n. take n (x ∷ (done ++ rest))) one ∙ ap (λ l. x ∷ l) (take_behind done rest k)

module _ (P : World → Type 0) where
  -- nothing is pending
  pub among_none : (m : Groups) (W : World) → P W → Means m W → MeansAmong P m []
  among_none m W p means zero h = (W, p, means)
  among_none m W p means (suc k) h = absurd (omega arith)

  -- some first batches came to the map
  pub among_rest : (m : Groups) (done rest : Batches) → MeansAmong P m (done ++ rest) → MeansAmong P (taken m done) rest
  among_rest m done rest among k h =
      let within : length done + k ≤ length (done ++ rest) = omega (arith, length-append done rest) in
      let found = among (length done + k) within in
      let is : taken m (take (length done + k) (done ++ rest)) ≡ taken (taken m done) (take k rest) =
      ap (taken m) (take_behind done rest k) ∙ taken_in_two m done (take k rest) in
      (found.0, found.1, subst (λ (n : Groups). Means n found.0) is found.2)

  -- one batch more, or none, and the voters behind all of them
  pub among_more : (m : Groups) (pending said : Batches) (X : World) → length said ≤ 1 → MeansAmong P m pending → P X
      → Means (taken m (pending ++ said)) X → MeansAmong P m (pending ++ said)
  among_more m pending said X short among p means k h = elim (cases_lt (length pending) k) [
    | inr old ↦
        let found = among k old in
        let is : taken m (take k pending) ≡ taken m (take k (pending ++ said)) = ap (taken m) (sym (take-append-le k pending said old)) in
        (found.0, found.1, subst (λ (n : Groups). Means n found.0) is found.2)
    | inl new ↦
        let all : length (pending ++ said) ≤ k = omega (arith, length-append pending said, short) in
        let is : taken m (pending ++ said) ≡ taken m (take k (pending ++ said)) = ap (taken m) (sym (take_all k (pending ++ said) all)) in
        (X, p, subst (λ (n : Groups). Means n X) is means)
  ]

-- what passes one test passes the other
pub among_wider : (P Q : World → Type 0) (m : Groups) (pending : Batches) → ((X : World) → P X → Q X) → MeansAmong P m pending → MeansAmong Q m pending
among_wider P Q m pending wider among k h = let found = among k h in (found.0, wider found.0 found.1, found.2)
