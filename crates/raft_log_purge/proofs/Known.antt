-- A log's groups are modest whose values are known.
use Rattle.std.proofs.Common.{◌≡◌, ◌∙◌, ◌+◌, ℕ, List, [], ◌∷◌, length, inl, inr, sym, ap, subst, arith}
use Rattle.std.specs.Cmp.Lexicographic.{slice_cmp}
use Rattle.std.specs.List.Sorted.{IsStrictlySortedBy}
use Rattle.std.specs.List.{AllByRecursion}
use Rattle.std.specs.Map.{keys_of}
use Rattle.std.specs.Ordering.{is_eq, nat_cmp}
use Rattle.std.specs.declared.cmp.Ordering.TheVariants.{Less}
use Rattle.std.proofs.lemmas.Bool.{false≢true}
use Rattle.std.proofs.lemmas.Map.Text.{is_eq-slice_cmp}
use Rattle.raft_log_model_laws.proofs.Public.{same_key}
use Rattle.raft_log_engine_laws.specs.EngineState.{LogMap}
use Rattle.raft_log_purge_copy.specs.Lengths.{AreValuesIn}
use Rattle.raft_log_purge.specs.Lengths.{AreKnown}
use Rattle.raft_log_purge.specs.Laws.{KnownLogsAreModest}
use Rattle.raft_log_purge.proofs.Within.{Among, AreApart, among, sum_within}

each_known : (m : LogMap) (known : ℕ → List (List ℕ × List ℕ)) → AreKnown m known → (g : ℕ) (pairs : List (List ℕ × List ℕ)) → AreValuesIn m g pairs → (e : List ℕ × List ℕ) → Among e pairs → Among e (known g)
each_known m known knows g [] values e never = absurd never
each_known m known knows g (p ∷ ps) (value, rest) e (inl same) = subst (λ (q : List ℕ × List ℕ). Among q (known g)) same (among (known g) p (knows.values g p.0 p.1 value))
each_known m known knows g (p ∷ ps) (value, rest) e (inr later) = each_known m known knows g ps rest e later

-- keys that rise are different
below_all : (e : List ℕ × List ℕ) (es : List (List ℕ × List ℕ)) → AllByRecursion (λ j. slice_cmp nat_cmp e.0 j ≡ Less) (keys_of es) → Among e es → ⊥
below_all e [] above never = never
below_all e (x ∷ xs) (less, rest) (inl same) = false≢true (sym (ap is_eq less) ∙ is_eq-slice_cmp e.0 x.0 ∙ same_key e.0 x.0 (ap (λ (q : List ℕ × List ℕ). q.0) (sym same)))
below_all e (x ∷ xs) (less, rest) (inr later) = below_all e xs rest later

pairs_apart : (pairs : List (List ℕ × List ℕ)) → IsStrictlySortedBy (slice_cmp nat_cmp) (keys_of pairs) → AreApart pairs
unfolding IsStrictlySortedBy
pairs_apart [] rises = tt
pairs_apart (e ∷ es) rises = (λ there. below_all e es rises.0 there, pairs_apart es rises.1)

pub known_logs_are_modest : KnownLogsAreModest
known_logs_are_modest m known knows few = record {
  entries = knows.entries;
  values = λ g pairs values once.
      (let within = sum_within (λ (e : List ℕ × List ℕ). 32 + length e.0 + length e.1) pairs (known g) (pairs_apart pairs once) (each_known m known knows g pairs values) in
      let less = few g in
      omega (arith, within, less));
}
