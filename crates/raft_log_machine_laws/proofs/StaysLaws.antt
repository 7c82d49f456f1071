-- What the records that stay in a queue say.
use Rattle.std.proofs.Common.{◌≡◌, ℕ, List, [], ◌∷◌, ◌++◌, unwrap_or, sym, ap, ◌∙◌, subst, append_assoc}
use Rattle.std.specs.Option.{option_or}
use Rattle.raft_log_model_laws.specs.Item.{Tagged, Record, items_of}
use Rattle.raft_log_model_laws.specs.Item.Record.{Plain, Part}
use Rattle.raft_log_model_laws.specs.Item.Mark.{End}
use Rattle.raft_log_model_laws.specs.Meaning.{Slot, says}
use Rattle.raft_log_model_laws.specs.Groups.{of_group, contents, counts, opened, none_open, onto, appended, rewritten}
use Rattle.raft_log_machine_laws.specs.Unbroken.{IsUnbroken, begun, joined}
use Rattle.raft_log_machine_laws.specs.Survival.{IsSpoken}
use Rattle.raft_log_machine_laws.proofs.Words.{says_append, says_appended, of_group_append, rewritten_more}
use Rattle.raft_log_machine_laws.proofs.UnbrokenLaws.{opened-begun}
use Rattle.raft_log_machine_laws.proofs.Starts.{spoken_newer}
use Rattle.raft_log_machine_laws.proofs.TruthGrows.{spoken_after}
use Rattle.raft_log_machine_laws.proofs.MachineWords.{says_end}
use Rattle.raft_log_machine_laws.proofs.ReplayLaws.{rewritten_front}

module _ {E V : Type 0} where
  -- where the records that stay speak of a slot, they say what all say
  pub stay_says : (g : ℕ) (s : Slot) (out stay : List (Record E V)) → IsUnbroken (out ++ stay) → IsSpoken (says s (rewritten g stay))
      → says s (rewritten g stay) ≡ says s (rewritten g (out ++ stay))
  stay_says g s out stay unbroken spoken =
      let whole = says_end g s out stay unbroken in
      spoken.1 ∙ sym (whole.1 ∙ ap (λ w. option_or w whole.0) spoken.1)

  -- what counts by a record that stays is spoken of, whatever follows
  counted_stays : (g : ℕ) (s : Slot) (xs : List (Record E V)) (y : Record E V) (zs : List (Record E V))
      → IsSpoken (says s (of_group g (counts (opened none_open xs) y))) → IsSpoken (says s (rewritten g (xs ++ y ∷ zs)))
  counted_stays g s xs y zs spoken =
      let front = rewritten_front g (xs ++ y ∷ []) zs in
      subst (λ l. IsSpoken (says s (rewritten g l))) (append_assoc xs (y ∷ []) zs)
      (subst (λ l. IsSpoken (says s l)) front.1
      (subst (λ w. IsSpoken w) (sym (says_append s (rewritten g (xs ++ y ∷ [])) front.0))
      (spoken_after (says s front.0) (says s (rewritten g (xs ++ y ∷ [])))
      (spoken_newer (says s (of_group g (counts (opened none_open xs) y))) (says s (rewritten g xs)) (says s (rewritten g (xs ++ y ∷ [])))
      (ap (says s) (rewritten_more g xs y) ∙ says_append s (rewritten g xs) (of_group g (counts (opened none_open xs) y))) spoken))))

  pub plain_stays : (g : ℕ) (s : Slot) (xs : List (Record E V)) (ys : List (Tagged E V)) (zs : List (Record E V))
      → IsSpoken (says s (of_group g ys)) → IsSpoken (says s (rewritten g (xs ++ Plain ys ∷ zs)))
  plain_stays g s xs ys zs spoken = counted_stays g s xs (Plain ys) zs spoken

  pub group_stays : (g : ℕ) (s : Slot) (xs : List (Record E V)) (n : ℕ) (first : List (Tagged E V)) (more : List (List (Tagged E V))) (last : List (Tagged E V)) (zs : List (Record E V))
      → IsSpoken (says s (of_group g (joined first more ++ last))) → IsSpoken (says s (rewritten g ((xs ++ begun n first more) ++ Part (End n) last ∷ zs)))
  group_stays g s xs n first more last zs spoken =
      counted_stays g s (xs ++ begun n first more) (Part (End n) last) zs
      (subst (λ o. IsSpoken (says s (of_group g (unwrap_or (onto o last) [])))) (sym (opened-begun none_open xs n first more)) spoken)

  -- of Append: a record that stays and speaks of a slot makes what stays speak of it
  pub record_stays : (g : ℕ) (s : Slot) (xs : List (Record E V)) (y : Record E V) (zs : List (Record E V))
      → IsSpoken (says s (of_group g (items_of y))) → IsSpoken (says s (appended g (xs ++ y ∷ zs)))
  record_stays g s xs y zs spoken =
      spoken_newer (says s (appended g (y ∷ zs))) (says s (appended g xs)) (says s (appended g (xs ++ y ∷ zs))) (says_appended g s xs (y ∷ zs))
      (subst (λ w. IsSpoken w) (sym (ap (says s) (of_group_append g (items_of y) (contents zs)) ∙ says_append s (of_group g (items_of y)) (appended g zs)))
      (spoken_after (says s (appended g zs)) (says s (of_group g (items_of y))) spoken))

  -- and what stays says what all of the span said
  pub append_stay_says : (g : ℕ) (s : Slot) (out stay : List (Record E V)) → IsSpoken (says s (appended g stay))
      → says s (appended g stay) ≡ says s (appended g (out ++ stay))
  append_stay_says g s out stay spoken =
      spoken.1 ∙ sym (says_appended g s out stay ∙ ap (λ w. option_or w (says s (appended g out))) spoken.1)
