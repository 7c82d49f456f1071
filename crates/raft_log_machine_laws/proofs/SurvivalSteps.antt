-- Each step keeps what the directory holds.
use Rattle.std.proofs.Common.{◌≡◌, ℕ, ◌≤◌, length, take, List, [], ◌∷◌, ◌++◌, Option, None, unwrap_or, sym, ap, ◌∙◌, subst, inl, inr, append_assoc, append-nil, arith, length-append}
use Rattle.std.proofs.Math.Seq.{take-append_seam}
use Rattle.raft_log_model_laws.specs.Item.{Item, Record}
use Rattle.raft_log_model_laws.specs.Meaning.{Slot, Content, says, holds}
use Rattle.raft_log_model_laws.specs.Groups.{of_group, counts, opened, none_open, appended, rewritten, Map, directory_meaning, taken}
use Rattle.raft_log_machine_laws.specs.Queue.{Store, takes, synced, raised, left, reread, with_append, with_rewrite}
use Rattle.raft_log_machine_laws.specs.Survival.{HoldsMap, Survives, IsSpoken, IsHarmless, MayRewrite, MayRaiseAppend, MayRaiseRewrite}
use Rattle.raft_log_machine_laws.specs.Unbroken.{IsUnbroken}
use Rattle.raft_log_machine_laws.proofs.Words.{says_appended, says_append, rewritten_more, directory_more}
use Rattle.raft_log_machine_laws.proofs.UnbrokenLaws.{IsUnbroken-back, rewritten_end}
use Rattle.raft_log_machine_laws.proofs.Starts.{cuts, beginnings, no_front, spoken_newer, harmless, start_in_append, start_in_rewrite}

module _ {E V : Type 0} where
  -- what comes after the synced records goes over the map
  pub holds_more : (q : Store E V) (m : Map E V) → HoldsMap q m → (g : ℕ) (s : Slot) (r_kept r_lost r_cut r_back a_cut a_back more : List (Record E V))
      → r_kept ++ r_lost ≡ q.rewrite.pending → r_cut ++ r_back ≡ q.rewrite.gone → a_cut ++ a_back ≡ q.append.gone
      → directory_meaning (r_back ++ (q.rewrite.live ++ r_kept)) (a_back ++ (q.append.live ++ more)) g s ≡ taken m more g s
  holds_more q m h g s r_kept r_lost r_cut r_back a_cut a_back more kept r_start a_start =
      let r : List (Record E V) = r_back ++ (q.rewrite.live ++ r_kept) in
      ap (λ a. directory_meaning r a g s) (sym (append_assoc a_back q.append.live more))
      ∙ directory_more g s r (a_back ++ q.append.live) more
      ∙ ap (unwrap_or (says s (appended g more))) (h g s r_kept r_lost r_cut r_back a_cut a_back kept r_start a_start)

  pub survives : (q : Store E V) (m : Map E V) → HoldsMap q m → Survives q m q.append.pending
  survives q m h r_kept r_lost a_kept a_lost r_image a_image = (
    length a_kept,
    fits,
    λ g s r_cut r_back a_cut a_back r_start a_start.
        holds_more q m h g s r_kept r_lost r_cut r_back a_cut a_back a_kept r_image r_start a_start ∙ ap (λ b. taken m b g s) (sym front),
  )
    where
      front : take (length a_kept) q.append.pending ≡ a_kept
      front = subst (λ b. take (length a_kept) b ≡ a_kept) a_image (take-append_seam a_kept a_lost)

      fits : length a_kept ≤ length q.append.pending
      fits = subst (λ b. length a_kept ≤ length b) a_image (omega (arith, length-append a_kept a_lost))

  pub holds_append_synced : (q : Store E V) (m : Map E V) → HoldsMap q m → HoldsMap (with_append q (synced q.append)) (taken m q.append.pending)
  holds_append_synced q m h g s r_kept r_lost r_cut r_back a_cut a_back kept r_start a_start =
      holds_more q m h g s r_kept r_lost r_cut r_back a_cut a_back q.append.pending kept r_start a_start

  pub holds_rewrite_synced : (q : Store E V) (m : Map E V) → HoldsMap q m → HoldsMap (with_rewrite q (synced q.rewrite)) m
  holds_rewrite_synced q m h g s r_kept r_lost r_cut r_back a_cut a_back kept r_start a_start =
      let nothing : r_kept ≡ [] = no_front r_kept r_lost kept in
      ap (λ k. directory_meaning (r_back ++ ((q.rewrite.live ++ q.rewrite.pending) ++ k)) (a_back ++ q.append.live) g s) nothing
      ∙ ap (λ r. directory_meaning (r_back ++ r) (a_back ++ q.append.live) g s) (append-nil (q.rewrite.live ++ q.rewrite.pending))
      ∙ h g s q.rewrite.pending [] r_cut r_back a_cut a_back (append-nil q.rewrite.pending) r_start a_start

  pub holds_rewrite_takes : (q : Store E V) (m : Map E V) (y : Record E V) → MayRewrite q m y → HoldsMap q m → HoldsMap (with_rewrite q (takes q.rewrite y)) m
  holds_rewrite_takes q m y may h g s r_kept r_lost r_cut r_back a_cut a_back kept r_start a_start =
      elim (beginnings r_kept r_lost q.rewrite.pending y kept)
      [ inl before ↦ h g s r_kept before.0 r_cut r_back a_cut a_back before.1 r_start a_start | inr whole ↦ all whole ]
    where
      r : List (Record E V)
      r = r_back ++ (q.rewrite.live ++ q.rewrite.pending)

      a_word : Option (Option (Content E V))
      a_word = says s (appended g (a_back ++ q.append.live))

      word : Option (Option (Content E V))
      word = says s (of_group g (counts (opened none_open r) y))

      overruled : IsSpoken (says s (appended g q.append.live)) → IsSpoken a_word
      overruled = spoken_newer (says s (appended g q.append.live)) (says s (appended g a_back)) a_word (says_appended g s a_back q.append.live)

      is_harmless : IsHarmless word (m g s) a_word
      is_harmless = elim (may g s r_cut r_back r_start) [ inl none ↦ inl none | inr (inl same) ↦ inr (inl same) | inr (inr spoken) ↦ inr (inr (overruled spoken)) ]

      all : r_kept ≡ q.rewrite.pending ++ y ∷ [] → directory_meaning (r_back ++ (q.rewrite.live ++ r_kept)) (a_back ++ q.append.live) g s ≡ m g s
      all whole =
          ap (λ k. directory_meaning (r_back ++ (q.rewrite.live ++ k)) (a_back ++ q.append.live) g s) whole
          ∙ ap (λ k. directory_meaning k (a_back ++ q.append.live) g s)
          (ap (λ k. r_back ++ k) (sym (append_assoc q.rewrite.live q.rewrite.pending (y ∷ []))) ∙ sym (append_assoc r_back (q.rewrite.live ++ q.rewrite.pending) (y ∷ [])))
          ∙ ap (λ w. unwrap_or a_word (unwrap_or w None))
          (ap (says s) (rewritten_more g r y) ∙ says_append s (rewritten g r) (of_group g (counts (opened none_open r) y)))
          ∙ harmless a_word (says s (rewritten g r)) word (m g s)
          (h g s q.rewrite.pending [] r_cut r_back a_cut a_back (append-nil q.rewrite.pending) r_start a_start) is_harmless

  pub holds_append_raised : (q : Store E V) (m : Map E V) (n1 n2 : List (Record E V)) → n1 ++ n2 ≡ q.append.live → q.rewrite.pending ≡ []
      → MayRaiseAppend q m n2 → HoldsMap q m → HoldsMap (with_append q (raised q.append n1 n2)) m
  holds_append_raised q m n1 n2 whole nothing may h g s r_kept r_lost r_cut r_back a_cut a_back kept r_start a_start =
      elim (cuts a_cut a_back q.append.gone n1 a_start) [ inl w ↦ within w.0 w.2 | inr w ↦ below w.0 w.1 w.2 ]
    where
      r : List (Record E V)
      r = r_back ++ (q.rewrite.live ++ r_kept)

      nothing_kept : r_kept ≡ []
      nothing_kept = no_front r_kept r_lost (kept ∙ nothing)

      r_is : r ≡ r_back ++ q.rewrite.live
      r_is = ap (λ k. r_back ++ k) (ap (λ k. q.rewrite.live ++ k) nothing_kept ∙ append-nil q.rewrite.live)

      below : (x : List (Record E V)) → a_cut ++ x ≡ q.append.gone → x ++ n1 ≡ a_back → directory_meaning r (a_back ++ n2) g s ≡ m g s
      below x start e =
          ap (λ a. directory_meaning r (a ++ n2) g s) (sym e) ∙ ap (λ a. directory_meaning r a g s) (append_assoc x n1 n2 ∙ ap (λ a. x ++ a) whole)
          ∙ h g s r_kept r_lost r_cut r_back a_cut x kept r_start start

      within : (x : List (Record E V)) → x ++ a_back ≡ n1 → directory_meaning r (a_back ++ n2) g s ≡ m g s
      within x e =
          start_in_append (says s (appended g (a_back ++ n2))) (says s (appended g x)) (holds s (rewritten g r)) (m g s)
          (ap (λ w. unwrap_or w (holds s (rewritten g r))) (sym (says_appended g s x (a_back ++ n2)))
          ∙ ap (λ a. directory_meaning r a g s) (sym (append_assoc x a_back n2) ∙ ap (λ a. a ++ n2) e ∙ whole)
          ∙ h g s r_kept r_lost r_cut r_back q.append.gone [] kept r_start (append-nil q.append.gone))
          (elim (may g s) [
            | inl spoken ↦ inl (spoken_newer (says s (appended g n2)) (says s (appended g a_back)) (says s (appended g (a_back ++ n2))) (says_appended g s a_back n2) spoken)
            | inr right ↦ inr (ap (λ k. holds s (rewritten g k)) r_is ∙ right r_cut r_back r_start)
          ])

  pub holds_rewrite_raised : (q : Store E V) (m : Map E V) (n1 n2 : List (Record E V)) → n1 ++ n2 ≡ q.rewrite.live → q.rewrite.pending ≡ []
      → IsUnbroken (q.rewrite.gone ++ q.rewrite.live) → MayRaiseRewrite q m n2 → HoldsMap q m → HoldsMap (with_rewrite q (raised q.rewrite n1 n2)) m
  holds_rewrite_raised q m n1 n2 whole nothing unbroken may h g s r_kept r_lost r_cut r_back a_cut a_back kept r_start a_start =
      elim (cuts r_cut r_back q.rewrite.gone n1 r_start) [ inl w ↦ within w.0 w.2 | inr w ↦ below w.0 w.1 w.2 ]
    where
      a_word : Option (Option (Content E V))
      a_word = says s (appended g (a_back ++ q.append.live))

      below : (x : List (Record E V)) → r_cut ++ x ≡ q.rewrite.gone → x ++ n1 ≡ r_back → directory_meaning (r_back ++ (n2 ++ r_kept)) (a_back ++ q.append.live) g s ≡ m g s
      below x start e =
          ap (λ r. directory_meaning r (a_back ++ q.append.live) g s)
          (ap (λ k. k ++ (n2 ++ r_kept)) (sym e) ∙ append_assoc x n1 (n2 ++ r_kept)
          ∙ ap (λ k. x ++ k) (sym (append_assoc n1 n2 r_kept) ∙ ap (λ k. k ++ r_kept) whole))
          ∙ h g s r_kept r_lost r_cut x a_cut a_back kept start a_start

      no_more : n2 ++ r_kept ≡ n2
      no_more = ap (λ k. n2 ++ k) (no_front r_kept r_lost (kept ∙ nothing)) ∙ append-nil n2

      live_unbroken : IsUnbroken (n1 ++ n2)
      live_unbroken = subst (λ k. IsUnbroken k) (sym whole) (IsUnbroken-back q.rewrite.gone q.rewrite.live unbroken)

      within : (x : List (Record E V)) → x ++ r_back ≡ n1 → directory_meaning (r_back ++ (n2 ++ r_kept)) (a_back ++ q.append.live) g s ≡ m g s
      within x e =
          ap (λ k. directory_meaning (r_back ++ k) (a_back ++ q.append.live) g s) no_more
          ∙ start_in_rewrite a_word (says s (rewritten g (r_back ++ n2))) (says s longer.0) (m g s)
          (ap (λ w. unwrap_or a_word (unwrap_or w None)) (sym (says_append s longer.0 (rewritten g (r_back ++ n2))) ∙ ap (says s) longer.1)
          ∙ ap (λ r. directory_meaning r (a_back ++ q.append.live) g s) (live_is ∙ sym (append-nil q.rewrite.live) ∙ ap (λ k. q.rewrite.live ++ k) (sym (no_front r_kept r_lost (kept ∙ nothing))))
          ∙ h g s r_kept r_lost q.rewrite.gone [] a_cut a_back kept (append-nil q.rewrite.gone) a_start)
          (elim (may g s) [
            | inl spoken ↦ inl (spoken_newer (says s (rewritten g n2)) (says s shorter.0) (says s (rewritten g (r_back ++ n2)))
                (ap (says s) (sym shorter.1) ∙ says_append s shorter.0 (rewritten g n2)) spoken)
            | inr (inl none) ↦ inr (inl none)
            | inr (inr spoken) ↦ inr (inr (spoken_newer (says s (appended g q.append.live)) (says s (appended g a_back)) a_word (says_appended g s a_back q.append.live) spoken))
          ])
        where
          live_is : x ++ (r_back ++ n2) ≡ q.rewrite.live
          live_is = sym (append_assoc x r_back n2) ∙ ap (λ k. k ++ n2) e ∙ whole

          end_unbroken : IsUnbroken (x ++ (r_back ++ n2))
          end_unbroken = subst (λ k. IsUnbroken k) (sym (live_is ∙ sym whole)) live_unbroken

          longer : (front : List (Item E V)) × (front ++ rewritten g (r_back ++ n2) ≡ rewritten g (x ++ (r_back ++ n2)))
          longer = rewritten_end g x (r_back ++ n2) end_unbroken

          shorter : (front : List (Item E V)) × (front ++ rewritten g n2 ≡ rewritten g (r_back ++ n2))
          shorter = rewritten_end g r_back n2 (IsUnbroken-back x (r_back ++ n2) end_unbroken)

  pub holds_append_left : (q : Store E V) (m : Map E V) (lost back : List (Record E V)) → lost ++ back ≡ q.append.gone → HoldsMap q m → HoldsMap (with_append q (left q.append back)) m
  holds_append_left q m lost back e h g s r_kept r_lost r_cut r_back a_cut a_back kept r_start a_start =
      h g s r_kept r_lost r_cut r_back (lost ++ a_cut) a_back kept r_start (append_assoc lost a_cut a_back ∙ ap (λ k. lost ++ k) a_start ∙ e)

  pub holds_rewrite_left : (q : Store E V) (m : Map E V) (lost back : List (Record E V)) → lost ++ back ≡ q.rewrite.gone → HoldsMap q m → HoldsMap (with_rewrite q (left q.rewrite back)) m
  holds_rewrite_left q m lost back e h g s r_kept r_lost r_cut r_back a_cut a_back kept r_start a_start =
      h g s r_kept r_lost (lost ++ r_cut) r_back a_cut a_back kept (append_assoc lost r_cut r_back ∙ ap (λ k. lost ++ k) r_start ∙ e) a_start

  -- a crash, and a reading of what it left from any starts
  pub holds_reread : (q : Store E V) (m : Map E V) (r_kept r_lost r_cut r_back a_kept a_lost a_cut a_back : List (Record E V))
      → r_kept ++ r_lost ≡ q.rewrite.pending → r_cut ++ r_back ≡ q.rewrite.gone → a_kept ++ a_lost ≡ q.append.pending → a_cut ++ a_back ≡ q.append.gone
      → HoldsMap q m → HoldsMap (record { rewrite = reread q.rewrite r_cut r_back r_kept; append = reread q.append a_cut a_back a_kept }) (taken m a_kept)
  holds_reread q m r_kept r_lost r_cut r_back a_kept a_lost a_cut a_back r_image r_start a_image a_start h g s kept lost rc rb ac ab e r_below a_below =
      ap (λ r. directory_meaning r (ab ++ (a_back ++ (q.append.live ++ a_kept))) g s)
      (ap (λ k. rb ++ ((r_back ++ (q.rewrite.live ++ r_kept)) ++ k)) (no_front kept lost e)
      ∙ ap (λ k. rb ++ k) (append-nil (r_back ++ (q.rewrite.live ++ r_kept))) ∙ sym (append_assoc rb r_back (q.rewrite.live ++ r_kept)))
      ∙ ap (λ a. directory_meaning ((rb ++ r_back) ++ (q.rewrite.live ++ r_kept)) a g s) (sym (append_assoc ab a_back (q.append.live ++ a_kept)))
      ∙ holds_more q m h g s r_kept r_lost rc (rb ++ r_back) ac (ab ++ a_back) a_kept r_image
      (sym (append_assoc rc rb r_back) ∙ ap (λ k. k ++ r_back) r_below ∙ r_start)
      (sym (append_assoc ac ab a_back) ∙ ap (λ k. k ++ a_back) a_below ∙ a_start)
