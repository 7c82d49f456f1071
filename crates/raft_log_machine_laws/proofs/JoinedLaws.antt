-- Several runs, each at the end of the one before, may be taken as one.
use Rattle.std.proofs.Common.{◌≡◌, ℕ, ◌+◌, ◌-◌, ◌<◌, false, ◌&&◌, if◌then◌else◌, nat_lt, nat_le, List, ◌∷◌, ◌++◌, length, Some, option_map, refl, sym, ap, ◌∙◌, subst, inl, inr, arith, length-append}
use Rattle.std.proofs.lemmas.Bool.{cases_lt}
use Rattle.std.proofs.lemmas.Bool.Decides.{nat_tests}
use Rattle.std.specs.Option.{option_or}
use Rattle.raft_log_model_laws.specs.Item.{Item}
use Rattle.raft_log_model_laws.specs.Item.Item.{Run}
use Rattle.raft_log_model_laws.specs.Meaning.{Slot, write, says}
use Rattle.raft_log_model_laws.specs.Meaning.Slot.{Index, Key}
use Rattle.raft_log_model_laws.specs.Meaning.Content.{Entry}
use Rattle.raft_log_model_laws.specs.Holes.{Window, next_window, window, NoHole}
use Rattle.raft_log_model_laws.proofs.Public.{get_back, get_front, no_hole_append, no_hole_end, no_hole_front, run_leaves, run_sets}
use Rattle.raft_log_machine_laws.specs.Machine.{IsJoined}
use Rattle.raft_log_machine_laws.proofs.Words.{option_or_assoc, says_append}

second_first : (wf we f n : ℕ) → 0 < n
    → (if nat_lt (if nat_lt wf f && nat_le f we then wf else f) (f + n) && nat_le (f + n) (f + n) then (if nat_lt wf f && nat_le f we then wf else f) else f + n)
    ≡ (if nat_lt wf f && nat_le f we then wf else f)
second_first wf we f n some = grind (arith, nat_tests)

second_fits : (a f n : ℕ) → (nat_lt a (f + n) && nat_lt (f + n) (f + n)) ≡ false
second_fits a f n = grind (arith, nat_tests)

same_window : {E : Type 0} (V : Type 0) (w : Window) (f : ℕ) (e : E) (es : List E) (d : E) (ds : List E)
    → next_window {V = V} (next_window {V = V} w (Run f (e ∷ es))) (Run (f + length (e ∷ es)) (d ∷ ds)) ≡ next_window {V = V} w (Run f (e ∷ es ++ d ∷ ds))
same_window V w f e es d ds = λ i. record {
  first = second_first w.first w.end f (length (e ∷ es)) (omega arith) i;
  end = ends i;
}
  where
    ends : (f + length (e ∷ es)) + length (d ∷ ds) ≡ f + length (e ∷ es ++ d ∷ ds)
    ends = omega (arith, length-append (e ∷ es) (d ∷ ds))

module _ {E V : Type 0} where
  -- items may be taken as themselves, step by step, and behind others
  pub joined_same : (xs : List (Item E V)) → IsJoined xs xs
  joined_same xs = record { same_words = λ s. refl; no_more_holes = λ w h. h }

  pub joined_twice : (xs ys zs : List (Item E V)) → IsJoined xs ys → IsJoined ys zs → IsJoined xs zs
  joined_twice xs ys zs h k = record { same_words = λ s. h.same_words s ∙ k.same_words s; no_more_holes = λ w n. h.no_more_holes w (k.no_more_holes w n) }

  pub joined_behind : (front xs ys : List (Item E V)) → IsJoined xs ys → IsJoined (front ++ xs) (front ++ ys)
  joined_behind front xs ys h = record {
    same_words = λ s. says_append s front xs ∙ ap (λ o. option_or o (says s front)) (h.same_words s) ∙ sym (says_append s front ys);
    no_more_holes = λ w n. no_hole_append w front xs (no_hole_front w front ys n) (h.no_more_holes (window w front) (no_hole_end w front ys n));
  }

  -- the word of two runs, the second at the end of the first
  run_word : (f : ℕ) (e : E) (es : List E) (d : E) (ds : List E) (i : ℕ)
      → option_or (write {V = V} (Index i) (Run (f + length (e ∷ es)) (d ∷ ds))) (write {V = V} (Index i) (Run f (e ∷ es))) ≡ write (Index i) (Run f (e ∷ es ++ d ∷ ds))
  run_word f e es d ds i = elim (cases_lt i f) [
    | inl before ↦
        ap (λ o. option_or o (write {V = V} (Index i) (Run f (e ∷ es)))) (run_leaves i (f + length (e ∷ es)) (d ∷ ds) (omega arith))
        ∙ run_leaves i f (e ∷ es) before ∙ sym (run_leaves i f (e ∷ es ++ d ∷ ds) before)
    | inr from ↦ elim (cases_lt i (f + length (e ∷ es))) [
      | inl within ↦
          ap (λ o. option_or o (write {V = V} (Index i) (Run f (e ∷ es)))) (run_leaves i (f + length (e ∷ es)) (d ∷ ds) within)
          ∙ run_sets i f (e ∷ es) from (omega arith) ∙ ap (λ o. Some (option_map Entry o)) (sym (get_front (e ∷ es) (d ∷ ds) (i - f) (omega arith)))
          ∙ sym (run_sets i f (e ∷ es ++ d ∷ ds) from (omega arith))
      | inr past ↦
          ap (λ o. option_or o (write {V = V} (Index i) (Run f (e ∷ es)))) (run_sets i (f + length (e ∷ es)) (d ∷ ds) past (omega arith))
          ∙ ap (λ o. Some (option_map Entry o)) (sym (get_back (e ∷ es) (d ∷ ds) (i - f) (i - (f + length (e ∷ es))) (omega arith)))
          ∙ sym (run_sets i f (e ∷ es ++ d ∷ ds) from (omega arith))
    ]
  ]

  run_words : (f : ℕ) (e : E) (es : List E) (d : E) (ds : List E) (s : Slot)
      → option_or (write {V = V} s (Run (f + length (e ∷ es)) (d ∷ ds))) (write {V = V} s (Run f (e ∷ es))) ≡ write s (Run f (e ∷ es ++ d ∷ ds))
  run_words f e es d ds (Index i) = run_word f e es d ds i
  run_words f e es d ds (Key k) = refl

  pub two_runs : (f : ℕ) (e : E) (es : List E) (d : E) (ds : List E) (rest : List (Item E V))
      → IsJoined (Run f (e ∷ es) ∷ Run (f + length (e ∷ es)) (d ∷ ds) ∷ rest) (Run f (e ∷ es ++ d ∷ ds) ∷ rest)
  two_runs f e es d ds rest = record {
    same_words = λ s.
        option_or_assoc (says s rest) (write s (Run (f + length (e ∷ es)) (d ∷ ds))) (write s (Run f (e ∷ es)))
        ∙ ap (λ o. option_or (says s rest) o) (run_words f e es d ds s);
    no_more_holes = λ w h. (
      h.0,
      (
        second_fits (next_window {V = V} w (Run f (e ∷ es))).first f (length (e ∷ es)),
        subst (λ v. NoHole v rest) (sym (same_window V w f e es d ds)) h.1,
      ),
    );
  }
