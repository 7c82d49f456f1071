-- What is said of a group in the queues after a step.
use Rattle.std.proofs.Common.{◌≡◌, ℕ, List, [], ◌∷◌, ◌++◌, Option, unwrap_or, sym, ap, ◌∙◌, append_assoc, append-nil}
use Rattle.std.specs.Option.{option_or}
use Rattle.raft_log_model_laws.specs.Item.{Item, Record, items_of}
use Rattle.raft_log_model_laws.specs.Meaning.{Slot, Content, says}
use Rattle.raft_log_model_laws.specs.Groups.{of_group, counts, opened, none_open, appended, rewritten, Map, taken}
use Rattle.raft_log_machine_laws.specs.Unbroken.{IsUnbroken}
use Rattle.raft_log_machine_laws.specs.Queue.{Queue, all_records}
use Rattle.raft_log_machine_laws.proofs.Words.{says_append, says_appended, rewritten_more, unwrap_or_option_or}
use Rattle.raft_log_machine_laws.proofs.UnbrokenLaws.{rewritten_end}

module _ {E V : Type 0} where
  -- one more record of Append
  pub appended_one : (g : ℕ) (s : Slot) (xs : List (Record E V)) (y : Record E V)
      → says s (appended g (xs ++ y ∷ [])) ≡ option_or (says s (of_group g (items_of y))) (says s (appended g xs))
  appended_one g s xs y =
      says_appended g s xs (y ∷ []) ∙ ap (λ l. option_or (says s (of_group g l)) (says s (appended g xs))) (append-nil (items_of y))

  pub taken_one : (m : Map E V) (g : ℕ) (s : Slot) (xs : List (Record E V)) (y : Record E V)
      → taken m (xs ++ y ∷ []) g s ≡ unwrap_or (says s (of_group g (items_of y))) (taken m xs g s)
  taken_one m g s xs y =
      ap (λ w. unwrap_or w (m g s)) (appended_one g s xs y)
      ∙ unwrap_or_option_or (says s (of_group g (items_of y))) (says s (appended g xs)) (m g s)

  -- one more record of Rewrite, by which these items count
  pub rewritten_one : (g : ℕ) (s : Slot) (xs : List (Record E V)) (y : Record E V) (items : List (Item E V))
      → says s (of_group g (counts (opened none_open xs) y)) ≡ says s items
      → says s (rewritten g (xs ++ y ∷ [])) ≡ option_or (says s items) (says s (rewritten g xs))
  rewritten_one g s xs y items e =
      ap (says s) (rewritten_more g xs y) ∙ says_append s (rewritten g xs) (of_group g (counts (opened none_open xs) y))
      ∙ ap (λ w. option_or w (says s (rewritten g xs))) e

  -- what an end of Rewrite's records says, and under it what the others say
  pub says_end : (g : ℕ) (s : Slot) (xs ys : List (Record E V)) → IsUnbroken (xs ++ ys)
      → (older : Option (Option (Content E V))) × (says s (rewritten g (xs ++ ys)) ≡ option_or (says s (rewritten g ys)) older)
  says_end g s xs ys h =
      let front = rewritten_end g xs ys h in
      (says s front.0, ap (says s) (sym front.1) ∙ says_append s front.0 (rewritten g ys))

  -- one more record at the end of all, and of the span
  pub all_more : (q : Queue E V) (y : Record E V) → q.gone ++ (q.live ++ (q.pending ++ y ∷ [])) ≡ all_records q ++ y ∷ []
  all_more q y = ap (λ l. q.gone ++ l) (sym (append_assoc q.live q.pending (y ∷ []))) ∙ sym (append_assoc q.gone (q.live ++ q.pending) (y ∷ []))

  pub span_more : (q : Queue E V) (y : Record E V) → q.live ++ (q.pending ++ y ∷ []) ≡ (q.live ++ q.pending) ++ y ∷ []
  span_more q y = sym (append_assoc q.live q.pending (y ∷ []))
