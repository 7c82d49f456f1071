-- Unbroken records are tidy: nothing counts between a group's begin and its end.
use Rattle.std.proofs.Common.{◌≡◌, ℕ, ◌==◌, false, List, [], ◌∷◌, ◌++◌, Option, Some, None, MatchBool, refl, sym, ap, ◌∙◌, inr}
use Rattle.raft_log_model_laws.specs.Item.{Tagged, Record}
use Rattle.raft_log_model_laws.specs.Item.Record.{Plain, Part}
use Rattle.raft_log_model_laws.specs.Item.Mark.{Begin, Middle, End}
use Rattle.raft_log_model_laws.specs.Groups.{Open, none_open, counts, opens}
use Rattle.raft_log_model_laws.specs.Tidy.{Apart, Undisturbed, Tidy}
use Rattle.raft_log_model_laws.proofs.Public.{at_bool, from_eq_false, from_eq_true}
use Rattle.raft_log_machine_laws.specs.Unbroken.{UnbrokenFrom, IsUnbroken}

other : (k n : ℕ) → (k == n) ≡ false → ◌≡◌ {A = Option ℕ} (Some k) (Some n) → ⊥
other k n e h = let same : k ≡ n = cc in from_eq_false k n e same

shut : (n : ℕ) → ◌≡◌ {A = Option ℕ} None (Some n) → ⊥
shut n h = cc

module _ {E V : Type 0} where
  -- a group that can't go on is never disturbed
  ended : (going : Option ℕ) (n : ℕ) (xs said : List (Tagged E V)) (o : Open E V) (rs : List (Record E V)) → UnbrokenFrom going rs → (going ≡ Some n → ⊥) → Undisturbed n xs said o rs
  ended going n xs said o [] h no_more = tt
  ended going n xs said o (Plain ys ∷ rs) h no_more = ended None n xs (said ++ ys) o rs h (shut n)
  ended going n xs said o (Part (Begin k) ys ∷ rs) h no_more =
      at_bool (k == n) (λ b. MatchBool b (Unit {0}) (Undisturbed n xs said (opens o (Part (Begin k) ys)) rs)) (λ e. tt)
      (λ e. ended (Some k) n xs said (opens o (Part (Begin k) ys)) rs h (other k n e))
  ended going n xs said o (Part (Middle k) ys ∷ rs) h no_more =
      at_bool (k == n) (λ b. MatchBool b (Undisturbed n (xs ++ ys) said o rs) (Undisturbed n xs said (opens o (Part (Middle k) ys)) rs))
      (λ e. absurd (no_more (h.0 ∙ ap Some (from_eq_true k n e)))) (λ e. ended going n xs said (opens o (Part (Middle k) ys)) rs h.1 no_more)
  ended going n xs said o (Part (End k) ys ∷ rs) h no_more =
      at_bool (k == n) (λ b. MatchBool b (Apart (xs ++ ys) said) (Undisturbed n xs (said ++ counts o (Part (End k) ys)) (opens o (Part (End k) ys)) rs))
      (λ e. absurd (no_more (h.0 ∙ ap Some (from_eq_true k n e))))
      (λ e. ended None n xs (said ++ counts o (Part (End k) ys)) (opens o (Part (End k) ys)) rs h.1 (shut n))

  -- a group that goes on is not: its records follow at once
  goes_on : (n : ℕ) (xs : List (Tagged E V)) (o : Open E V) (rs : List (Record E V)) → UnbrokenFrom (Some n) rs → Undisturbed n xs [] o rs
  goes_on n xs o [] h = tt
  goes_on n xs o (Plain ys ∷ rs) h = ended None n xs ys o rs h (shut n)
  goes_on n xs o (Part (Begin k) ys ∷ rs) h =
      at_bool (k == n) (λ b. MatchBool b (Unit {0}) (Undisturbed n xs [] (opens o (Part (Begin k) ys)) rs)) (λ e. tt)
      (λ e. ended (Some k) n xs [] (opens o (Part (Begin k) ys)) rs h (other k n e))
  goes_on n xs o (Part (Middle k) ys ∷ rs) h =
      at_bool (k == n) (λ b. MatchBool b (Undisturbed n (xs ++ ys) [] o rs) (Undisturbed n xs [] (opens o (Part (Middle k) ys)) rs))
      (λ e. goes_on n (xs ++ ys) o rs h.1) (λ e. absurd (other k n e (sym h.0)))
  goes_on n xs o (Part (End k) ys ∷ rs) h =
      at_bool (k == n) (λ b. MatchBool b (Apart (xs ++ ys) []) (Undisturbed n xs ([] ++ counts o (Part (End k) ys)) (opens o (Part (End k) ys)) rs))
      (λ e g. inr refl) (λ e. absurd (other k n e (sym h.0)))

  tidy_from : (going : Option ℕ) (rs : List (Record E V)) → UnbrokenFrom going rs → Tidy rs
  tidy_from going [] h = tt
  tidy_from going (Plain ys ∷ rs) h = tidy_from None rs h
  tidy_from going (Part (Begin n) ys ∷ rs) h = (goes_on n ys none_open rs h, tidy_from (Some n) rs h)
  tidy_from going (Part (Middle n) ys ∷ rs) h = tidy_from going rs h.1
  tidy_from going (Part (End n) ys ∷ rs) h = tidy_from None rs h.1

  pub unbroken_tidy : (rs : List (Record E V)) → IsUnbroken rs → Tidy rs
  unbroken_tidy rs h = tidy_from h.0 rs h.1
