-- What is said of a group where records follow on others.
use Rattle.std.proofs.Common.{◌≡◌, ℕ, List, [], ◌∷◌, ◌++◌, unwrap_or, ap, ◌∙◌, append-nil}
use Rattle.std.specs.Option.{option_or}
use Rattle.raft_log_model_laws.specs.Item.{Record}
use Rattle.raft_log_model_laws.specs.Meaning.{Slot, says, holds}
use Rattle.raft_log_model_laws.specs.Groups.{of_group, settled, opened, counts, none_open, appended, rewritten, directory_meaning}
pub use Rattle.raft_log_model_laws.proofs.Public.{appended_append, contents_append, of_group_append, opened_append, option_or_assoc, option_or_none, says_append, settle_append, unwrap_or_option_or}

module _ {E V : Type 0} where
  -- what later records of Append say, else what earlier ones say
  pub says_appended : (g : ℕ) (s : Slot) (xs ys : List (Record E V))
      → says s (appended g (xs ++ ys)) ≡ option_or (says s (appended g ys)) (says s (appended g xs))
  says_appended g s xs ys = ap (says s) (appended_append g xs ys) ∙ says_append s (appended g xs) (appended g ys)

  -- one more record in Rewrite adds what counts by it
  pub rewritten_more : (g : ℕ) (xs : List (Record E V)) (y : Record E V)
      → rewritten g (xs ++ y ∷ []) ≡ rewritten g xs ++ of_group g (counts (opened none_open xs) y)
  rewritten_more g xs y =
      ap (of_group g) (settle_append none_open xs (y ∷ []) ∙ ap (λ l. settled xs ++ l) (append-nil (counts (opened none_open xs) y)))
      ∙ of_group_append g (settled xs) (counts (opened none_open xs) y)

  -- what Append takes goes over what the directory meant
  pub directory_more : (g : ℕ) (s : Slot) (r xs ys : List (Record E V))
      → directory_meaning r (xs ++ ys) g s ≡ unwrap_or (says s (appended g ys)) (directory_meaning r xs g s)
  directory_more g s r xs ys =
      ap (λ w. unwrap_or w (holds s (rewritten g r))) (says_appended g s xs ys)
      ∙ unwrap_or_option_or (says s (appended g ys)) (says s (appended g xs)) (holds s (rewritten g r))
