-- Each event keeps the machine's invariant.
use Rattle.std.proofs.Common.{◌≡◌, ℕ, ◌≤◌, ◌⊎◌, true, false, List, [], ◌∷◌, ◌++◌, Option, Some, None, unwrap_or, refl, sym, ap, ◌∙◌, subst, inl, inr, append_assoc, append-nil}
use Rattle.std.specs.Option.{option_or}
use Rattle.raft_log_model_laws.specs.Item.{Item, Tagged, Record, items_of}
use Rattle.raft_log_model_laws.specs.Item.Record.{Plain, Part}
use Rattle.raft_log_model_laws.specs.Item.Mark.{Begin, Middle, End}
use Rattle.raft_log_model_laws.specs.Meaning.{Slot, Content, says, holds, after}
use Rattle.raft_log_model_laws.specs.Meaning.Slot.{Index}
use Rattle.raft_log_model_laws.specs.Groups.{of_group, counts, opened, none_open, onto, appended, rewritten, taken}
use Rattle.raft_log_machine_laws.specs.Unbroken.{going_on, UnbrokenFrom, IsUnbroken, begun, joined}
use Rattle.raft_log_machine_laws.specs.Queue.{Store, all_records, takes, synced, raised, left, reread, with_append, with_rewrite}
use Rattle.raft_log_machine_laws.specs.Survival.{HoldsMap, IsSpoken, IsHarmless, MayRewrite, MayRaiseAppend, MayRaiseRewrite}
use Rattle.raft_log_machine_laws.specs.Whereabouts.{Whereabouts, top, GrowsBy, CarriesAll, OwesNothing, HasAppended, HasRewritten}
use Rattle.raft_log_machine_laws.specs.Truth.{IsRightInRewrite}
use Rattle.raft_log_machine_laws.specs.Recovery.{IsRecovered}
use Rattle.raft_log_machine_laws.specs.Machine.{AllFit, RecordsFit, Machine, Event, Step, Steps, GoesOnWith, IsJoined, said_of, IsKept}
use Rattle.raft_log_machine_laws.specs.Machine.Event.{Take, SyncAppend, SyncRewrite, WritePlain, WriteBegin, WriteMiddle, WriteEnd, RaiseAppend, RaiseRewrite, LoseAppend, LoseRewrite, Fail, Reopen}
use Rattle.raft_log_machine_laws.proofs.UnbrokenLaws.{UnbrokenFrom-append, IsUnbroken-front, IsUnbroken-back, going_on-begun, opened-begun}
use Rattle.raft_log_machine_laws.proofs.SurvivalSteps.{holds_append_synced, holds_rewrite_synced, holds_rewrite_takes, holds_append_raised, holds_rewrite_raised, holds_append_left, holds_rewrite_left, holds_reread}
use Rattle.raft_log_machine_laws.proofs.TruthGrows.{true_along, append_said_all, grows_by}
use Rattle.raft_log_machine_laws.proofs.TruthCarries.{differ, rewrite_said_all, carries_all, all_harmless}
use Rattle.raft_log_machine_laws.proofs.TruthRaises.{append_raised, may_append, rewrite_raised, may_rewrite, rewrite_left, between_right}
use Rattle.raft_log_machine_laws.proofs.TruthReread.{recovered_truth}
use Rattle.raft_log_machine_laws.proofs.FitLaws.{RecordsFit-append, RecordsFit-front, RecordsFit-back, nothing_past}
use Rattle.raft_log_machine_laws.proofs.MachineWords.{appended_one, taken_one, rewritten_one, says_end, all_more, span_more}

module _ {E V : Type 0} (w : Machine E V) (k : IsKept w) where
  keeps_take : (y : Record E V) (whereabouts : ℕ → Whereabouts) → ((g : ℕ) → GrowsBy (w.whereabouts g) (of_group g (items_of y)) (whereabouts g))
      → IsKept (record w { store = with_append w.store (takes w.store.append y); whereabouts = whereabouts })
  keeps_take y whereabouts grow = record {
    holds = k.holds;
    unbroken = k.unbroken;
    fits = k.fits;
    whereabouts = λ alive g. true_along (append_said_all (said_of g w.store) (of_group g (items_of y)))
        (said_of g (with_append w.store (takes w.store.append y)))
        (after (taken w.map w.store.append.pending g) (of_group g (items_of y))) (taken w.map (w.store.append.pending ++ y ∷ []) g) (whereabouts g)
        (λ s. refl) (λ s. refl)
        (λ s. sym (ap (λ l. says s (appended g l)) (span_more w.store.append y) ∙ appended_one g s (w.store.append.live ++ w.store.append.pending) y))
        (λ s. sym (taken_one w.map g s w.store.append.pending y))
        (grows_by (said_of g w.store) (taken w.map w.store.append.pending g) (w.whereabouts g) (of_group g (items_of y)) (whereabouts g) (grow g) (k.whereabouts alive g));
  }

  keeps_sync_append : IsKept (record w { store = with_append w.store (synced w.store.append); map = taken w.map w.store.append.pending })
  keeps_sync_append = record {
    holds = holds_append_synced w.store w.map k.holds;
    unbroken = k.unbroken;
    fits = k.fits;
    whereabouts = λ alive g. true_along (said_of g w.store) (said_of g (with_append w.store (synced w.store.append)))
        (taken w.map w.store.append.pending g) (taken (taken w.map w.store.append.pending) [] g) (w.whereabouts g)
        (λ s. refl) (λ s. refl) (λ s. ap (λ l. says s (appended g l)) (sym (append-nil (w.store.append.live ++ w.store.append.pending))))
        (λ s. refl) (k.whereabouts alive g);
  }

  keeps_sync_rewrite : IsKept (record w { store = with_rewrite w.store (synced w.store.rewrite) })
  keeps_sync_rewrite = record {
    holds = holds_rewrite_synced w.store w.map k.holds;
    unbroken = subst (λ l. IsUnbroken l) (sym all_same) k.unbroken;
    fits = subst (λ l. RecordsFit l) (sym all_same) k.fits;
    whereabouts = λ alive g. true_along (said_of g w.store) (said_of g (with_rewrite w.store (synced w.store.rewrite)))
        (taken w.map w.store.append.pending g) (taken w.map w.store.append.pending g) (w.whereabouts g)
        (λ s. ap (λ l. says s (rewritten g l)) (sym all_same)) (λ s. ap (λ l. says s (rewritten g l)) (sym span_same)) (λ s. refl)
        (λ s. refl) (k.whereabouts alive g);
  }
    where
      span_same : (w.store.rewrite.live ++ w.store.rewrite.pending) ++ [] ≡ w.store.rewrite.live ++ w.store.rewrite.pending
      span_same = append-nil (w.store.rewrite.live ++ w.store.rewrite.pending)

      all_same : w.store.rewrite.gone ++ ((w.store.rewrite.live ++ w.store.rewrite.pending) ++ []) ≡ all_records w.store.rewrite
      all_same = ap (λ l. w.store.rewrite.gone ++ l) span_same

  -- by the record these items of the group count, from each start of Rewrite
  abbrev CountsAs : Record E V → ℕ → List (Item E V) → Type 0
  CountsAs y g items =
      (cut back : List (Record E V)) → cut ++ back ≡ w.store.rewrite.gone → (s : Slot)
      → says s (of_group g (counts (opened none_open (back ++ (w.store.rewrite.live ++ w.store.rewrite.pending))) y)) ≡ says s items

  may_write : (y : Record E V) (items : ℕ → List (Item E V)) (whereabouts : ℕ → Whereabouts) → w.failed ≡ false → w.store.append.pending ≡ []
      → ((g : ℕ) → CountsAs y g (items g)) → ((g : ℕ) → CarriesAll (w.map g) (w.whereabouts g) (items g) (whereabouts g)) → MayRewrite w.store w.map y
  may_write y items whereabouts alive nothing counted carry g s cut back start =
      subst (λ word. IsHarmless word (w.map g s) (says s (appended g w.store.append.live))) (sym (counted g cut back start s))
      (subst (λ l. IsHarmless (says s (items g)) (w.map g s) (says s (appended g l))) (append-nil w.store.append.live)
      (subst (λ p. IsHarmless (says s (items g)) (taken w.map p g s) (says s (appended g (w.store.append.live ++ p)))) nothing
      (all_harmless (said_of g w.store) (taken w.map w.store.append.pending g) (w.whereabouts g) (items g) (whereabouts g) (pending_carry g) (k.whereabouts alive g) s)))
    where
      pending_carry : (g : ℕ) → CarriesAll (taken w.map w.store.append.pending g) (w.whereabouts g) (items g) (whereabouts g)
      pending_carry g = subst (λ p. CarriesAll (taken w.map p g) (w.whereabouts g) (items g) (whereabouts g)) (sym nothing) (carry g)

  keeps_write : (y : Record E V) (items : ℕ → List (Item E V)) (whereabouts : ℕ → Whereabouts) → MayRewrite w.store w.map y
      → UnbrokenFrom (going_on k.unbroken.0 (all_records w.store.rewrite)) (y ∷ []) → AllFit (items_of y) → ((g : ℕ) → CountsAs y g (items g))
      → ((g : ℕ) → CarriesAll (taken w.map w.store.append.pending g) (w.whereabouts g) (items g) (whereabouts g))
      → IsKept (record w { store = with_rewrite w.store (takes w.store.rewrite y); whereabouts = whereabouts })
  keeps_write y items whereabouts may unbroken fits counted carry = record {
    holds = holds_rewrite_takes w.store w.map y may k.holds;
    unbroken = (
      k.unbroken.0,
      subst (λ l. UnbrokenFrom k.unbroken.0 l) (sym (all_more w.store.rewrite y))
          (UnbrokenFrom-append k.unbroken.0 (all_records w.store.rewrite) (y ∷ []) k.unbroken.1 unbroken),
    );
    fits = subst (λ l. RecordsFit l) (sym (all_more w.store.rewrite y)) (RecordsFit-append (all_records w.store.rewrite) (y ∷ []) k.fits (fits, tt));
    whereabouts = λ alive g. true_along (rewrite_said_all (said_of g w.store) (items g)) (said_of g (with_rewrite w.store (takes w.store.rewrite y)))
        (taken w.map w.store.append.pending g) (taken w.map w.store.append.pending g) (whereabouts g)
        (λ s. sym (ap (λ l. says s (rewritten g l)) (all_more w.store.rewrite y)
        ∙ rewritten_one g s (all_records w.store.rewrite) y (items g) (counted g [] w.store.rewrite.gone refl s)))
        (λ s. sym (ap (λ l. says s (rewritten g l)) (span_more w.store.rewrite y)
        ∙ rewritten_one g s (w.store.rewrite.live ++ w.store.rewrite.pending) y (items g) (counted g w.store.rewrite.gone [] (append-nil w.store.rewrite.gone) s)))
        (λ s. refl) (λ s. refl)
        (carries_all (said_of g w.store) (taken w.map w.store.append.pending g) (w.whereabouts g) (items g) (whereabouts g) (carry g) (k.whereabouts alive g));
  }

  -- a part of a group that is no end: nothing counts by it
  keeps_part : (y : Record E V) → ((g : ℕ) → CountsAs y g []) → UnbrokenFrom (going_on k.unbroken.0 (all_records w.store.rewrite)) (y ∷ []) → AllFit (items_of y)
      → IsKept (record w { store = with_rewrite w.store (takes w.store.rewrite y) })
  keeps_part y counted unbroken fits =
      keeps_write y (λ g. []) w.whereabouts (λ g s cut back start. inl (counted g cut back start s)) unbroken fits counted (λ g. refl)

  pending_carries : (items : ℕ → List (Item E V)) (whereabouts : ℕ → Whereabouts) → w.store.append.pending ≡ []
      → ((g : ℕ) → CarriesAll (w.map g) (w.whereabouts g) (items g) (whereabouts g)) → (g : ℕ) → CarriesAll (taken w.map w.store.append.pending g) (w.whereabouts g) (items g) (whereabouts g)
  pending_carries items whereabouts nothing carry g = subst (λ p. CarriesAll (taken w.map p g) (w.whereabouts g) (items g) (whereabouts g)) (sym nothing) (carry g)

  -- the group whose records are the last of the span may go on
  may_go_on : (n : ℕ) (first : List (Tagged E V)) (more : List (List (Tagged E V))) → GoesOnWith w.store.rewrite n first more
      → going_on k.unbroken.0 (all_records w.store.rewrite) ≡ Some n
  may_go_on n first more at_end =
      ap (going_on k.unbroken.0) (ap (λ l. w.store.rewrite.gone ++ l) at_end.1 ∙ sym (append_assoc w.store.rewrite.gone at_end.0 (begun n first more)))
      ∙ going_on-begun k.unbroken.0 (w.store.rewrite.gone ++ at_end.0) n first more

  keeps_end : (n : ℕ) (xs : List (Tagged E V)) (first : List (Tagged E V)) (more : List (List (Tagged E V))) (whereabouts : ℕ → Whereabouts)
      → w.failed ≡ false → w.store.append.pending ≡ [] → AllFit xs → GoesOnWith w.store.rewrite n first more
      → ((g : ℕ) → (items : List (Item E V)) × IsJoined (of_group g (joined first more ++ xs)) items × CarriesAll (w.map g) (w.whereabouts g) items (whereabouts g))
      → IsKept (record w { store = with_rewrite w.store (takes w.store.rewrite (Part (End n) xs)); whereabouts = whereabouts })
  keeps_end n xs first more whereabouts alive nothing fits at_end carry =
      keeps_write (Part (End n) xs) (λ g. (carry g).0) whereabouts (may_write (Part (End n) xs) (λ g. (carry g).0) whereabouts alive nothing counted (λ g. (carry g).2))
      (may_go_on n first more at_end, tt) fits counted (pending_carries (λ g. (carry g).0) whereabouts nothing (λ g. (carry g).2))
    where
      parts : (back : List (Record E V)) → opened none_open (back ++ (w.store.rewrite.live ++ w.store.rewrite.pending)) n ≡ Some (joined first more)
      parts back =
          ap (λ l. opened none_open l n) (ap (λ l. back ++ l) at_end.1 ∙ sym (append_assoc back at_end.0 (begun n first more)))
          ∙ opened-begun none_open (back ++ at_end.0) n first more

      counted : (g : ℕ) → CountsAs (Part (End n) xs) g (carry g).0
      counted g cut back start s = ap (λ o. says s (of_group g (unwrap_or (onto o xs) []))) (parts back) ∙ (carry g).1.same_words s

  keeps_raise_append : (out stay : List (Record E V)) → w.failed ≡ false → w.store.append.pending ≡ [] → w.store.rewrite.pending ≡ [] → out ++ stay ≡ w.store.append.live
      → ((g : ℕ) → OwesNothing (w.whereabouts g)) → ((g : ℕ) → HasAppended (w.whereabouts g) (appended g stay)) → IsKept (record w { store = with_append w.store (raised w.store.append out stay) })
  keeps_raise_append out stay alive nothing r_nothing whole owes has = record {
    holds = holds_append_raised w.store w.map out stay whole r_nothing may k.holds;
    unbroken = k.unbroken;
    fits = k.fits;
    whereabouts = λ still g. true_along (record { lowest = (said_of g w.store).lowest; rewrite = (said_of g w.store).rewrite; append = λ s. says s (appended g stay) })
        (said_of g (with_append w.store (raised w.store.append out stay)))
        (taken w.map w.store.append.pending g) (taken w.map w.store.append.pending g) (w.whereabouts g) (λ s. refl) (λ s. refl)
        (λ s. ap (λ l. says s (appended g l)) (sym (ap (λ p. stay ++ p) nothing ∙ append-nil stay))) (λ s. refl)
        (append_raised (said_of g w.store) (taken w.map w.store.append.pending g) (w.whereabouts g) (k.whereabouts still g) (appended g stay) (has g));
  }
    where
      span : List (Record E V)
      span = w.store.rewrite.live ++ w.store.rewrite.pending

      past : (g i : ℕ) → top ≤ i → (unwrap_or (says (Index i) (rewritten g (all_records w.store.rewrite))) None ≡ None) × (unwrap_or (says (Index i) (rewritten g span)) None ≡ None)
      past g i high = (nothing_past g (all_records w.store.rewrite) i k.fits high, nothing_past g span i (RecordsFit-back w.store.rewrite.gone span k.fits) high)

      from_each_start : (g : ℕ) (s : Slot) → IsRightInRewrite (said_of g w.store) (taken w.map w.store.append.pending g) s → (cut back : List (Record E V))
          → cut ++ back ≡ w.store.rewrite.gone → holds s (rewritten g (back ++ w.store.rewrite.live)) ≡ w.map g s
      from_each_start g s right cut back start =
          ap (λ l. holds s (rewritten g (back ++ l))) (sym (ap (λ p. w.store.rewrite.live ++ p) r_nothing ∙ append-nil w.store.rewrite.live))
          ∙ between_right (says s (rewritten g (all_records w.store.rewrite))) (says s (rewritten g (back ++ span))) (says s (rewritten g span))
          longer.0 shorter.0 (taken w.map w.store.append.pending g s) (ap (λ l. says s (rewritten g l)) (sym all_is) ∙ longer.1) shorter.1 right.0 right.1
          ∙ ap (λ p. taken w.map p g s) nothing
        where
          all_is : cut ++ (back ++ span) ≡ all_records w.store.rewrite
          all_is = sym (append_assoc cut back span) ∙ ap (λ l. l ++ span) start

          all_unbroken : IsUnbroken (cut ++ (back ++ span))
          all_unbroken = subst (λ l. IsUnbroken l) (sym all_is) k.unbroken

          longer : (older : Option (Option (Content E V))) × (says s (rewritten g (cut ++ (back ++ span))) ≡ option_or (says s (rewritten g (back ++ span))) older)
          longer = says_end g s cut (back ++ span) all_unbroken

          shorter : (older : Option (Option (Content E V))) × (says s (rewritten g (back ++ span)) ≡ option_or (says s (rewritten g span)) older)
          shorter = says_end g s back span (IsUnbroken-back cut (back ++ span) all_unbroken)

      may : MayRaiseAppend w.store w.map stay
      may g s = elim (may_append (said_of g w.store) (taken w.map w.store.append.pending g) (w.whereabouts g) (k.whereabouts alive g) (appended g stay) (has g) (owes g) (past g) s)
          [ inl spoken ↦ inl spoken | inr right ↦ inr (from_each_start g s right) ]

  keeps_raise_rewrite : (out stay : List (Record E V)) → w.failed ≡ false → w.store.append.pending ≡ [] → w.store.rewrite.pending ≡ [] → out ++ stay ≡ w.store.rewrite.live
      → ((g : ℕ) → HasRewritten (w.map g) (w.whereabouts g) (rewritten g stay)) → IsKept (record w { store = with_rewrite w.store (raised w.store.rewrite out stay) })
  keeps_raise_rewrite out stay alive nothing r_nothing whole has = record {
    holds = holds_rewrite_raised w.store w.map out stay whole r_nothing (IsUnbroken-front (w.store.rewrite.gone ++ w.store.rewrite.live) w.store.rewrite.pending
        (subst (λ l. IsUnbroken l) (sym (append_assoc w.store.rewrite.gone w.store.rewrite.live w.store.rewrite.pending)) k.unbroken)) may k.holds;
    unbroken = subst (λ l. IsUnbroken l) (sym all_same) k.unbroken;
    fits = subst (λ l. RecordsFit l) (sym all_same) k.fits;
    whereabouts = λ still g. true_along (record { lowest = (said_of g w.store).lowest; rewrite = λ s. says s (rewritten g stay); append = (said_of g w.store).append })
        (said_of g (with_rewrite w.store (raised w.store.rewrite out stay)))
        (taken w.map w.store.append.pending g) (taken w.map w.store.append.pending g) (w.whereabouts g)
        (λ s. ap (λ l. says s (rewritten g l)) (sym all_same)) (λ s. ap (λ l. says s (rewritten g l)) (sym stay_same)) (λ s. refl) (λ s. refl)
        (rewrite_raised (said_of g w.store) (taken w.map w.store.append.pending g) (w.whereabouts g) (k.whereabouts still g) (rewritten g stay) (λ s. (older g s).0) (λ s. (older g s).1) (pending_has g));
  }
    where
      stay_same : stay ++ w.store.rewrite.pending ≡ stay
      stay_same = ap (λ p. stay ++ p) r_nothing ∙ append-nil stay

      span_same : w.store.rewrite.live ++ w.store.rewrite.pending ≡ out ++ stay
      span_same = ap (λ p. w.store.rewrite.live ++ p) r_nothing ∙ append-nil w.store.rewrite.live ∙ sym whole

      all_same : (w.store.rewrite.gone ++ out) ++ (stay ++ w.store.rewrite.pending) ≡ all_records w.store.rewrite
      all_same = append_assoc w.store.rewrite.gone out (stay ++ w.store.rewrite.pending)
          ∙ ap (λ l. w.store.rewrite.gone ++ l) (ap (λ l. out ++ l) stay_same ∙ sym span_same)

      span_unbroken : IsUnbroken (out ++ stay)
      span_unbroken = subst (λ l. IsUnbroken l) span_same (IsUnbroken-back w.store.rewrite.gone (w.store.rewrite.live ++ w.store.rewrite.pending) k.unbroken)

      older : (g : ℕ) (s : Slot) → (word : Option (Option (Content E V))) × (says s (rewritten g (w.store.rewrite.live ++ w.store.rewrite.pending)) ≡ option_or (says s (rewritten g stay)) word)
      older g s = let both = says_end g s out stay span_unbroken in (both.0, ap (λ l. says s (rewritten g l)) span_same ∙ both.1)

      pending_has : (g : ℕ) → HasRewritten (taken w.map w.store.append.pending g) (w.whereabouts g) (rewritten g stay)
      pending_has g = subst (λ p. HasRewritten (taken w.map p g) (w.whereabouts g) (rewritten g stay)) (sym nothing) (has g)

      may : MayRaiseRewrite w.store w.map stay
      may g s =
          subst (λ l. IsSpoken (says s (rewritten g stay)) ⊎ ((w.map g s ≡ None) ⊎ IsSpoken (says s (appended g l)))) (append-nil w.store.append.live)
          (subst (λ p. IsSpoken (says s (rewritten g stay)) ⊎ ((taken w.map p g s ≡ None) ⊎ IsSpoken (says s (appended g (w.store.append.live ++ p))))) nothing
          (may_rewrite (said_of g w.store) (taken w.map w.store.append.pending g) (w.whereabouts g) (k.whereabouts alive g) (rewritten g stay) (λ s. (older g s).0) (λ s. (older g s).1) (pending_has g) s))

  keeps_lose_append : (lost rest : List (Record E V)) → lost ++ rest ≡ w.store.append.gone → IsKept (record w { store = with_append w.store (left w.store.append rest) })
  keeps_lose_append lost rest e = record { holds = holds_append_left w.store w.map lost rest e k.holds; unbroken = k.unbroken; fits = k.fits; whereabouts = k.whereabouts }

  keeps_lose_rewrite : (lost rest : List (Record E V)) → lost ++ rest ≡ w.store.rewrite.gone → IsKept (record w { store = with_rewrite w.store (left w.store.rewrite rest) })
  keeps_lose_rewrite lost rest e = record {
    holds = holds_rewrite_left w.store w.map lost rest e k.holds;
    unbroken = IsUnbroken-back lost (rest ++ span) all_unbroken;
    fits = RecordsFit-back lost (rest ++ span) (subst (λ l. RecordsFit l) (sym all_is) k.fits);
    whereabouts = λ alive g. rewrite_left (said_of g w.store) (taken w.map w.store.append.pending g) (w.whereabouts g) (k.whereabouts alive g)
        (λ s. says s (rewritten g (rest ++ span))) (λ s. (longer g s).0) (λ s. (shorter g s).0)
        (λ s. ap (λ l. says s (rewritten g l)) (sym all_is) ∙ (longer g s).1) (λ s. (shorter g s).1);
  }
    where
      span : List (Record E V)
      span = w.store.rewrite.live ++ w.store.rewrite.pending

      all_is : lost ++ (rest ++ span) ≡ all_records w.store.rewrite
      all_is = sym (append_assoc lost rest span) ∙ ap (λ l. l ++ span) e

      all_unbroken : IsUnbroken (lost ++ (rest ++ span))
      all_unbroken = subst (λ l. IsUnbroken l) (sym all_is) k.unbroken

      longer : (g : ℕ) (s : Slot) → (older : Option (Option (Content E V))) × (says s (rewritten g (lost ++ (rest ++ span))) ≡ option_or (says s (rewritten g (rest ++ span))) older)
      longer g s = says_end g s lost (rest ++ span) all_unbroken

      shorter : (g : ℕ) (s : Slot) → (older : Option (Option (Content E V))) × (says s (rewritten g (rest ++ span)) ≡ option_or (says s (rewritten g span)) older)
      shorter g s = says_end g s rest span (IsUnbroken-back lost (rest ++ span) all_unbroken)

  keeps_fail : IsKept (record w { failed = true })
  keeps_fail = record { holds = k.holds; unbroken = k.unbroken; fits = k.fits; whereabouts = λ alive. differ alive }

  module _ (r_kept r_lost r_cut r_back a_kept a_lost a_cut a_back : List (Record E V)) (r_image : r_kept ++ r_lost ≡ w.store.rewrite.pending)
      (r_start : r_cut ++ r_back ≡ w.store.rewrite.gone) (a_image : a_kept ++ a_lost ≡ w.store.append.pending) (a_start : a_cut ++ a_back ≡ w.store.append.gone)
      (whereabouts : ℕ → Whereabouts) (recovered : (g : ℕ) → IsRecovered (taken w.map a_kept g) (appended g (a_back ++ (w.store.append.live ++ a_kept))) (whereabouts g)) where
    abbrev reopened : Store E V
    reopened = record { rewrite = reread w.store.rewrite r_cut r_back r_kept; append = reread w.store.append a_cut a_back a_kept }

    still_holds : HoldsMap reopened (taken w.map a_kept)
    still_holds = holds_reread w.store w.map r_kept r_lost r_cut r_back a_kept a_lost a_cut a_back r_image r_start a_image a_start k.holds

    -- with what was lost, all is as before
    all_before : all_records reopened.rewrite ++ r_lost ≡ all_records w.store.rewrite
    all_before =
        ap (λ l. (r_cut ++ l) ++ r_lost) (append-nil (r_back ++ (w.store.rewrite.live ++ r_kept)))
        ∙ ap (λ l. l ++ r_lost) (sym (append_assoc r_cut r_back (w.store.rewrite.live ++ r_kept)) ∙ ap (λ l. l ++ (w.store.rewrite.live ++ r_kept)) r_start)
        ∙ append_assoc w.store.rewrite.gone (w.store.rewrite.live ++ r_kept) r_lost
        ∙ ap (λ l. w.store.rewrite.gone ++ l) (append_assoc w.store.rewrite.live r_kept r_lost ∙ ap (λ l. w.store.rewrite.live ++ l) r_image)

    keeps_reopen : IsKept (record { store = reopened; map = taken w.map a_kept; whereabouts = whereabouts; failed = false })
    keeps_reopen = record {
      holds = still_holds;
      unbroken = IsUnbroken-front (all_records reopened.rewrite) r_lost (subst (λ l. IsUnbroken l) (sym all_before) k.unbroken);
      fits = RecordsFit-front (all_records reopened.rewrite) r_lost (subst (λ l. RecordsFit l) (sym all_before) k.fits);
      whereabouts = λ alive g. true_along (said_of g reopened) (said_of g reopened) (taken w.map a_kept g) (taken (taken w.map a_kept) [] g) (whereabouts g)
          (λ s. refl) (λ s. refl) (λ s. refl) (λ s. refl)
          (recovered_truth (said_of g reopened) (taken w.map a_kept g) (whereabouts g) (appended g (a_back ++ (w.store.append.live ++ a_kept))) (recovered g)
          (λ s. still_holds g s [] [] [] r_cut a_cut [] refl refl (append-nil a_cut))
          (λ s. still_holds g s [] [] r_cut [] a_cut [] refl (append-nil r_cut) (append-nil a_cut))
          (λ s. ap (λ l. says s (appended g l)) (append-nil (a_back ++ (w.store.append.live ++ a_kept)))));
    }

-- each event keeps the invariant
pub step_keeps : {E V : Type 0} (e : Event E V) (w v : Machine E V) → Step e w v → IsKept w → IsKept v
step_keeps (Take y) w v h k = subst (λ x. IsKept x) (sym h.1.2) (keeps_take w k y h.1.0 h.1.1)
step_keeps SyncAppend w v h k = subst (λ x. IsKept x) (sym h.1) (keeps_sync_append w k)
step_keeps SyncRewrite w v h k = subst (λ x. IsKept x) (sym h.1) (keeps_sync_rewrite w k)
step_keeps (WritePlain xs) w v h k = subst (λ x. IsKept x) (sym h.3.2)
    (keeps_write w k (Plain xs) (λ g. of_group g xs) h.3.0
    (may_write w k (Plain xs) (λ g. of_group g xs) h.3.0 h.0 h.1 (λ g cut back start s. refl) h.3.1) tt h.2 (λ g cut back start s. refl)
    (pending_carries w k (λ g. of_group g xs) h.3.0 h.1 h.3.1))
step_keeps (WriteBegin n xs) w v h k = subst (λ x. IsKept x) (sym h.2) (keeps_part w k (Part (Begin n) xs) (λ g cut back start s. refl) tt h.1)
step_keeps (WriteMiddle n xs) w v h k = subst (λ x. IsKept x) (sym h.2.3)
    (keeps_part w k (Part (Middle n) xs) (λ g cut back start s. refl) (may_go_on w k n h.2.0 h.2.1 h.2.2, tt) h.1)
step_keeps (WriteEnd n xs) w v h k = subst (λ x. IsKept x) (sym h.3.3.2) (keeps_end w k n xs h.3.0 h.3.1 h.3.3.0 h.0 h.1 h.2 h.3.2 h.3.3.1)
step_keeps (RaiseAppend out stay) w v h k = subst (λ x. IsKept x) (sym h.6) (keeps_raise_append w k out stay h.0 h.1 h.2 h.3 h.4 h.5)
step_keeps (RaiseRewrite out stay) w v h k = subst (λ x. IsKept x) (sym h.5) (keeps_raise_rewrite w k out stay h.0 h.1 h.2 h.3 h.4)
step_keeps (LoseAppend lost rest) w v h k = subst (λ x. IsKept x) (sym h.1) (keeps_lose_append w k lost rest h.0)
step_keeps (LoseRewrite lost rest) w v h k = subst (λ x. IsKept x) (sym h.1) (keeps_lose_rewrite w k lost rest h.0)
step_keeps Fail w v h k = subst (λ x. IsKept x) (sym h) (keeps_fail w k)
step_keeps (Reopen r_kept r_lost r_cut r_back a_kept a_lost a_cut a_back) w v h k =
    subst (λ x. IsKept x) (sym h.4.2) (keeps_reopen w k r_kept r_lost r_cut r_back a_kept a_lost a_cut a_back h.0 h.1 h.2 h.3 h.4.0 h.4.1)

-- so does each schedule
pub steps_keep : {E V : Type 0} (es : List (Event E V)) (w v : Machine E V) → Steps w es v → IsKept w → IsKept v
steps_keep [] w v h k = subst (λ x. IsKept x) (sym h) k
steps_keep (e ∷ es) w v h k = steps_keep es h.0 v h.2 (step_keeps e w h.0 h.1 k)
