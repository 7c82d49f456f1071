-- A log with one value is modest.
use Rattle.std.proofs.Common.{◌==◌, ◌+◌, ◌<◌, ◌^◌, ℕ, Bool, if◌then◌else◌, List, [], ◌∷◌, length, None, arith}
use Rattle.std.proofs.lemmas.List.Sums.{sum_by-cons}
use Rattle.raft_log_model_laws.specs.Item.Item.{Put}
use Rattle.raft_log_model_laws.specs.Item.Record.{Plain}
use Rattle.raft_log_model_laws.proofs.Public.{at_bool}
use Rattle.raft_log_purge.specs.Lengths.{AreShortRuns, pairs_bound, puts_of}
use Rattle.raft_log_purge.specs.Laws.{OneValueIsModest}
use Rattle.raft_log_purge.proofs.Known.{known_logs_are_modest}
use Rattle.raft_log_purge.proofs.Growing.{known_pairs_grow}

pub one_value_is_modest : OneValueIsModest
one_value_is_modest g k value few =
    known_logs_are_modest _ _ (known_pairs_grow.more (λ h s. None) (λ h. []) (Plain (record { group = g; item = Put k value } ∷ [])) known_pairs_grow.none (λ h. short (g == h))) (λ h. less (g == h))
  where
    short : (b : Bool) → AreShortRuns (if b then Put k value ∷ [] else [])
    short b = at_bool b (λ c. AreShortRuns (if c then Put k value ∷ [] else [])) (λ _. (tt, tt)) (λ _. tt)

    less : (b : Bool) → pairs_bound (puts_of (if b then Put k value ∷ [] else [])) < 2 ^ 54
    less b =
        at_bool b (λ c. pairs_bound (puts_of (if c then Put k value ∷ [] else [])) < 2 ^ 54) (λ _. omega (arith, few, sum_by-cons (λ (e : List ℕ × List ℕ). 32 + length e.0 + length e.1) (k, value) []))
        (λ _. omega arith)
