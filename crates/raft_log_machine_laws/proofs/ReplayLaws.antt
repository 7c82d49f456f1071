-- Each event keeps what a reading of the files asks.
use Rattle.std.proofs.Common.{◌≡◌, ℕ, false, List, [], ◌∷◌, ◌++◌, Option, Some, None, unwrap_or, refl, sym, ap, ◌∙◌, subst, inl, inr, append_assoc, append-nil, arith}
use Rattle.raft_log_model_laws.specs.Item.{Item, Tagged, Record, items_of}
use Rattle.raft_log_model_laws.specs.Item.Record.{Plain, Part}
use Rattle.raft_log_model_laws.specs.Item.Mark.{Begin, Middle, End}
use Rattle.raft_log_model_laws.specs.Meaning.{Slot, Content, says}
use Rattle.raft_log_model_laws.specs.Groups.{of_group, counts, settle, settled, opened, none_open, onto, appended, rewritten, taken}
use Rattle.raft_log_model_laws.specs.Holes.{Window, nothing, window, NoHole}
use Rattle.raft_log_model_laws.proofs.Public.{no_hole_append, no_hole_end, no_hole_front, no_hole_later, tail_no_hole, window_append, IsTail}
use Rattle.raft_log_machine_laws.specs.Unbroken.{IsUnbroken, begun, joined}
use Rattle.raft_log_machine_laws.specs.Queue.{Queue, Store, all_records, takes, left, reread, with_append, with_rewrite}
use Rattle.raft_log_machine_laws.specs.Whereabouts.{Whereabouts, GrowsBy, CarriesAll}
use Rattle.raft_log_machine_laws.specs.Machine.{Machine, Event, Step, Steps, GoesOnWith, IsJoined, IsKept, said_of}
use Rattle.raft_log_machine_laws.specs.Machine.Event.{Take, SyncAppend, SyncRewrite, WritePlain, WriteBegin, WriteMiddle, WriteEnd, RaiseAppend, RaiseRewrite, LoseAppend, LoseRewrite, Fail, Reopen}
use Rattle.raft_log_machine_laws.specs.Replay.{ReadsThrough, IsTopOf, IsReplayable}
use Rattle.raft_log_machine_laws.specs.Fresh.{fresh_machine}
use Rattle.raft_log_machine_laws.proofs.Words.{appended_append, settle_append, of_group_append, rewritten_more}
use Rattle.raft_log_machine_laws.proofs.UnbrokenLaws.{IsUnbroken-front, IsUnbroken-back, rewritten_end, opened-begun}
use Rattle.raft_log_machine_laws.proofs.TruthCarries.{differ}
use Rattle.raft_log_machine_laws.proofs.MachineWords.{all_more}
use Rattle.raft_log_machine_laws.proofs.MachineKeeps.{step_keeps}
use Rattle.raft_log_machine_laws.proofs.FreshKeeps.{fresh_keeps}
use Rattle.raft_log_machine_laws.proofs.ReplayItems.{items_fit, all_written_fit, carries_all_ends, recovered_top}

-- what is upper part of an upper part
top_of_tail : (a b : Window) (t : Whereabouts) → IsTail a b → IsTopOf b t → IsTopOf a t
top_of_tail a b t (inl h) k = inl h
top_of_tail a b t (inr h) (inl k) = inl (omega (arith, h.0, h.1))
top_of_tail a b t (inr h) (inr k) = inr (h.0 ∙ k.0, omega (arith, h.1, k.1))

same_top : (w : Window) (t u : Whereabouts) → u.first ≡ t.first → u.end ≡ t.end → IsTopOf w t → IsTopOf w u
same_top w t u e f (inl h) = inl h
same_top w t u e f (inr h) = inr (h.0 ∙ sym f, omega (arith, h.1))

module _ {E V : Type 0} where
  pub rewritten_front : (g : ℕ) (xs ys : List (Record E V)) → (more : List (Item E V)) × (rewritten g xs ++ more ≡ rewritten g (xs ++ ys))
  rewritten_front g xs ys = (
    of_group g (settle (opened none_open xs) ys),
    sym (of_group_append g (settled xs) (settle (opened none_open xs) ys)) ∙ ap (of_group g) (sym (settle_append none_open xs ys)),
  )

  -- no hole in all, then none in a beginning, and none in an end
  appended_front_fits : (g : ℕ) (xs ys : List (Record E V)) → NoHole nothing (appended g (xs ++ ys)) → NoHole nothing (appended g xs)
  appended_front_fits g xs ys h = no_hole_front nothing (appended g xs) (appended g ys) (subst (λ l. NoHole nothing l) (appended_append g xs ys) h)

  appended_back_fits : (g : ℕ) (xs ys : List (Record E V)) → NoHole nothing (appended g (xs ++ ys)) → NoHole nothing (appended g ys)
  appended_back_fits g xs ys h = no_hole_later (appended g xs) (appended g ys) (subst (λ l. NoHole nothing l) (appended_append g xs ys) h)

  rewritten_front_fits : (g : ℕ) (xs ys : List (Record E V)) → NoHole nothing (rewritten g (xs ++ ys)) → NoHole nothing (rewritten g xs)
  rewritten_front_fits g xs ys h =
      let front = rewritten_front g xs ys in no_hole_front nothing (rewritten g xs) front.0 (subst (λ l. NoHole nothing l) (sym front.1) h)

  rewritten_back_fits : (g : ℕ) (xs ys : List (Record E V)) → IsUnbroken (xs ++ ys) → NoHole nothing (rewritten g (xs ++ ys)) → NoHole nothing (rewritten g ys)
  rewritten_back_fits g xs ys u h =
      let front = rewritten_end g xs ys u in no_hole_later front.0 (rewritten g ys) (subst (λ l. NoHole nothing l) (sym front.1) h)

  -- the run that stands from a later start on
  later_top : (g : ℕ) (xs ys : List (Record E V)) (t : Whereabouts) → NoHole nothing (appended g (xs ++ ys)) → IsTopOf (window nothing (appended g (xs ++ ys))) t
      → IsTopOf (window nothing (appended g ys)) t
  later_top g xs ys t h top =
      top_of_tail (window nothing (appended g ys)) (window (window nothing (appended g xs)) (appended g ys)) t
      (tail_no_hole nothing (window nothing (appended g xs)) (appended g ys) (inl (omega arith))
      (no_hole_end nothing (appended g xs) (appended g ys) (subst (λ l. NoHole nothing l) (appended_append g xs ys) h))).1
      (subst (λ w. IsTopOf w t) (ap (window nothing) (appended_append g xs ys) ∙ window_append nothing (appended g xs) (appended g ys)) top)

  -- an image from a start: of all = cut ++ (back ++ (live ++ kept)) ++ lost
  image_is : (q : Queue E V) (kept lost cut back : List (Record E V)) → kept ++ lost ≡ q.pending → cut ++ back ≡ q.gone
      → (cut ++ (back ++ (q.live ++ kept))) ++ lost ≡ all_records q
  image_is q kept lost cut back image start =
      append_assoc cut (back ++ (q.live ++ kept)) lost
      ∙ ap (λ l. cut ++ l) (append_assoc back (q.live ++ kept) lost ∙ ap (λ l. back ++ l) (append_assoc q.live kept lost ∙ ap (λ l. q.live ++ l) image))
      ∙ sym (append_assoc cut back (q.live ++ q.pending)) ∙ ap (λ l. l ++ (q.live ++ q.pending)) start

  pub replays : (w : Machine E V) → IsKept w → IsReplayable w → ReadsThrough w.store
  replays w k p = record {
    append = λ g kept lost cut back image start.
        appended_back_fits g cut (back ++ (w.store.append.live ++ kept))
        (appended_front_fits g (cut ++ (back ++ (w.store.append.live ++ kept))) lost
        (subst (λ l. NoHole nothing (appended g l)) (sym (image_is w.store.append kept lost cut back image start)) (p.append_whole g)));
    rewrite = λ g kept lost cut back image start.
        rewritten_back_fits g cut (back ++ (w.store.rewrite.live ++ kept)) (front_unbroken kept lost cut back image start)
        (rewritten_front_fits g (cut ++ (back ++ (w.store.rewrite.live ++ kept))) lost
        (subst (λ l. NoHole nothing (rewritten g l)) (sym (image_is w.store.rewrite kept lost cut back image start)) (p.rewrite_whole g)));
    groups = λ kept lost cut back image start. IsUnbroken-back cut (back ++ (w.store.rewrite.live ++ kept)) (front_unbroken kept lost cut back image start);
  }
    where
      front_unbroken : (kept lost cut back : List (Record E V)) → kept ++ lost ≡ w.store.rewrite.pending → cut ++ back ≡ w.store.rewrite.gone
          → IsUnbroken (cut ++ (back ++ (w.store.rewrite.live ++ kept)))
      front_unbroken kept lost cut back image start =
          IsUnbroken-front (cut ++ (back ++ (w.store.rewrite.live ++ kept))) lost
          (subst (λ l. IsUnbroken l) (sym (image_is w.store.rewrite kept lost cut back image start)) k.unbroken)

module _ {E V : Type 0} (w : Machine E V) (k : IsKept w) (p : IsReplayable w) where
  replay_take : (y : Record E V) (whereabouts : ℕ → Whereabouts) → w.failed ≡ false → ((g : ℕ) → GrowsBy (w.whereabouts g) (of_group g (items_of y)) (whereabouts g))
      → IsReplayable (record w { store = with_append w.store (takes w.store.append y); whereabouts = whereabouts })
  replay_take y whereabouts alive grow = record {
    append_whole = λ g. subst (λ l. NoHole nothing l) (sym (list_is g)) (no_hole_append nothing (appended g (all_records w.store.append)) (of_group g (items_of y)) (p.append_whole g) (fit g).0);
    rewrite_whole = p.rewrite_whole;
    top_part = λ still g. subst (λ v. IsTopOf v (whereabouts g))
        (sym (ap (window nothing) (list_is g) ∙ window_append nothing (appended g (all_records w.store.append)) (of_group g (items_of y)))) (fit g).1;
  }
    where
      list_is : (g : ℕ) → appended g (w.store.append.gone ++ (w.store.append.live ++ (w.store.append.pending ++ y ∷ []))) ≡ appended g (all_records w.store.append) ++ of_group g (items_of y)
      list_is g =
          ap (appended g) (all_more w.store.append y) ∙ appended_append g (all_records w.store.append) (y ∷ [])
          ∙ ap (λ l. appended g (all_records w.store.append) ++ of_group g l) (append-nil (items_of y))

      fit : (g : ℕ) → NoHole (window nothing (appended g (all_records w.store.append))) (of_group g (items_of y))
          × IsTopOf (window (window nothing (appended g (all_records w.store.append))) (of_group g (items_of y))) (whereabouts g)
      fit g = items_fit (said_of g w.store) (taken w.map w.store.append.pending g) (w.whereabouts g) (of_group g (items_of y)) (whereabouts g)
          (window nothing (appended g (all_records w.store.append))) (grow g) (k.whereabouts alive g) (p.top_part alive g)

  -- the same records of both queues, and whereabouts that end where they did
  replay_same : (v : Machine E V) → all_records v.store.append ≡ all_records w.store.append → all_records v.store.rewrite ≡ all_records w.store.rewrite
      → (v.failed ≡ false → (w.failed ≡ false) × ((g : ℕ) → v.whereabouts g ≡ w.whereabouts g)) → IsReplayable v
  replay_same v a r t = record {
    append_whole = λ g. subst (λ l. NoHole nothing (appended g l)) (sym a) (p.append_whole g);
    rewrite_whole = λ g. subst (λ l. NoHole nothing (rewritten g l)) (sym r) (p.rewrite_whole g);
    top_part = λ alive g. subst (λ l. IsTopOf (window nothing (appended g l)) (v.whereabouts g)) (sym a)
        (subst (λ u. IsTopOf (window nothing (appended g (all_records w.store.append))) u) (sym ((t alive).1 g)) (p.top_part (t alive).0 g));
  }

  replay_write : (y : Record E V) (whereabouts : ℕ → Whereabouts) → w.failed ≡ false
      → ((g : ℕ) → NoHole (window nothing (rewritten g (all_records w.store.rewrite))) (of_group g (counts (opened none_open (all_records w.store.rewrite)) y)))
      → ((g : ℕ) → ((whereabouts g).first ≡ (w.whereabouts g).first) × ((whereabouts g).end ≡ (w.whereabouts g).end))
      → IsReplayable (record w { store = with_rewrite w.store (takes w.store.rewrite y); whereabouts = whereabouts })
  replay_write y whereabouts alive fit ends = record {
    append_whole = p.append_whole;
    rewrite_whole = λ g. subst (λ l. NoHole nothing l) (sym (ap (rewritten g) (all_more w.store.rewrite y) ∙ rewritten_more g (all_records w.store.rewrite) y))
        (no_hole_append nothing (rewritten g (all_records w.store.rewrite)) (of_group g (counts (opened none_open (all_records w.store.rewrite)) y)) (p.rewrite_whole g) (fit g));
    top_part = λ still g. same_top (window nothing (appended g (all_records w.store.append))) (w.whereabouts g) (whereabouts g) (ends g).0 (ends g).1 (p.top_part alive g);
  }

  -- items that the whereabouts allow leave no hole in Rewrite
  carried_fit : (items : ℕ → List (Item E V)) (whereabouts : ℕ → Whereabouts) → w.failed ≡ false → w.store.append.pending ≡ []
      → ((g : ℕ) → CarriesAll (w.map g) (w.whereabouts g) (items g) (whereabouts g)) → (g : ℕ) → NoHole (window nothing (rewritten g (all_records w.store.rewrite))) (items g)
  carried_fit items whereabouts alive none carry g =
      all_written_fit (said_of g w.store) (taken w.map w.store.append.pending g) (w.whereabouts g) (rewritten g (all_records w.store.rewrite)) (items g) (whereabouts g) (k.whereabouts alive g)
      (λ s. refl) (p.rewrite_whole g) (subst (λ l. CarriesAll (taken w.map l g) (w.whereabouts g) (items g) (whereabouts g)) (sym none) (carry g))

  replay_end : (n : ℕ) (xs first : List (Tagged E V)) (more : List (List (Tagged E V))) (whereabouts : ℕ → Whereabouts) → w.failed ≡ false → w.store.append.pending ≡ []
      → GoesOnWith w.store.rewrite n first more
      → ((g : ℕ) → (items : List (Item E V)) × IsJoined (of_group g (joined first more ++ xs)) items × CarriesAll (w.map g) (w.whereabouts g) items (whereabouts g))
      → IsReplayable (record w { store = with_rewrite w.store (takes w.store.rewrite (Part (End n) xs)); whereabouts = whereabouts })
  replay_end n xs first more whereabouts alive none at_end carry =
      replay_write (Part (End n) xs) whereabouts alive
      (λ g. subst (λ o. NoHole (window nothing (rewritten g (all_records w.store.rewrite))) (of_group g (unwrap_or (onto o xs) []))) (sym parts)
      ((carry g).1.no_more_holes (window nothing (rewritten g (all_records w.store.rewrite)))
      (carried_fit (λ j. (carry j).0) whereabouts alive none (λ j. (carry j).2) g)))
      (λ g. carries_all_ends (w.map g) (w.whereabouts g) (carry g).0 (whereabouts g) (carry g).2)
    where
      parts : opened none_open (all_records w.store.rewrite) n ≡ Some (joined first more)
      parts =
          ap (λ l. opened none_open l n) (ap (λ l. w.store.rewrite.gone ++ l) at_end.1 ∙ sym (append_assoc w.store.rewrite.gone at_end.0 (begun n first more)))
          ∙ opened-begun none_open (w.store.rewrite.gone ++ at_end.0) n first more

  replay_lose_append : (lost rest : List (Record E V)) → lost ++ rest ≡ w.store.append.gone → IsReplayable (record w { store = with_append w.store (left w.store.append rest) })
  replay_lose_append lost rest e = record {
    append_whole = λ g. appended_back_fits g lost (rest ++ span) (whole g);
    rewrite_whole = p.rewrite_whole;
    top_part = λ alive g. later_top g lost (rest ++ span) (w.whereabouts g) (whole g)
        (subst (λ l. IsTopOf (window nothing (appended g l)) (w.whereabouts g)) (sym all_is) (p.top_part alive g));
  }
    where
      span : List (Record E V)
      span = w.store.append.live ++ w.store.append.pending

      all_is : lost ++ (rest ++ span) ≡ all_records w.store.append
      all_is = sym (append_assoc lost rest span) ∙ ap (λ l. l ++ span) e

      whole : (g : ℕ) → NoHole nothing (appended g (lost ++ (rest ++ span)))
      whole g = subst (λ l. NoHole nothing (appended g l)) (sym all_is) (p.append_whole g)

  replay_lose_rewrite : (lost rest : List (Record E V)) → lost ++ rest ≡ w.store.rewrite.gone → IsReplayable (record w { store = with_rewrite w.store (left w.store.rewrite rest) })
  replay_lose_rewrite lost rest e = record {
    append_whole = p.append_whole;
    rewrite_whole = λ g. rewritten_back_fits g lost (rest ++ span) (subst (λ l. IsUnbroken l) (sym all_is) k.unbroken)
        (subst (λ l. NoHole nothing (rewritten g l)) (sym all_is) (p.rewrite_whole g));
    top_part = p.top_part;
  }
    where
      span : List (Record E V)
      span = w.store.rewrite.live ++ w.store.rewrite.pending

      all_is : lost ++ (rest ++ span) ≡ all_records w.store.rewrite
      all_is = sym (append_assoc lost rest span) ∙ ap (λ l. l ++ span) e

  replay_reopen : (r_kept r_lost r_cut r_back a_kept a_lost a_cut a_back : List (Record E V)) → r_kept ++ r_lost ≡ w.store.rewrite.pending → r_cut ++ r_back ≡ w.store.rewrite.gone
      → a_kept ++ a_lost ≡ w.store.append.pending → a_cut ++ a_back ≡ w.store.append.gone → (whereabouts : ℕ → Whereabouts)
      → IsKept (record { store = record { rewrite = reread w.store.rewrite r_cut r_back r_kept; append = reread w.store.append a_cut a_back a_kept }; map = taken w.map a_kept; whereabouts = whereabouts; failed = false })
      → IsReplayable (record { store = record { rewrite = reread w.store.rewrite r_cut r_back r_kept; append = reread w.store.append a_cut a_back a_kept }; map = taken w.map a_kept; whereabouts = whereabouts; failed = false })
  replay_reopen r_kept r_lost r_cut r_back a_kept a_lost a_cut a_back r_image r_start a_image a_start whereabouts next = record {
    append_whole = whole;
    rewrite_whole = λ g. rewritten_front_fits g (r_cut ++ ((r_back ++ (w.store.rewrite.live ++ r_kept)) ++ [])) r_lost
        (subst (λ l. NoHole nothing (rewritten g l)) (sym (ap (λ l. (r_cut ++ l) ++ r_lost) (append-nil (r_back ++ (w.store.rewrite.live ++ r_kept))) ∙ image_is w.store.rewrite r_kept r_lost r_cut r_back r_image r_start))
        (p.rewrite_whole g));
    top_part = λ alive g. recovered_top (said_of g reopened) (taken (taken w.map a_kept) [] g) (whereabouts g) (appended g (a_cut ++ ((a_back ++ (w.store.append.live ++ a_kept)) ++ [])))
        (next.whereabouts alive g) (whole g)
        (λ s v e. sym (next.holds g s [] [] r_cut [] [] a_cut refl (append-nil r_cut) refl) ∙ tells g s v e);
  }
    where
      reopened : Store E V
      reopened = record { rewrite = reread w.store.rewrite r_cut r_back r_kept; append = reread w.store.append a_cut a_back a_kept }

      whole : (g : ℕ) → NoHole nothing (appended g (a_cut ++ ((a_back ++ (w.store.append.live ++ a_kept)) ++ [])))
      whole g = appended_front_fits g (a_cut ++ ((a_back ++ (w.store.append.live ++ a_kept)) ++ [])) a_lost
          (subst (λ l. NoHole nothing (appended g l)) (sym (ap (λ l. (a_cut ++ l) ++ a_lost) (append-nil (a_back ++ (w.store.append.live ++ a_kept))) ∙ image_is w.store.append a_kept a_lost a_cut a_back a_image a_start))
          (p.append_whole g))

      tells : (g : ℕ) (s : Slot) (v : Option (Content E V)) → says s (appended g (a_cut ++ ((a_back ++ (w.store.append.live ++ a_kept)) ++ []))) ≡ Some v
          → unwrap_or (says s (appended g (a_cut ++ (a_back ++ (w.store.append.live ++ a_kept)))))
          (unwrap_or (says s (rewritten g ([] ++ ((r_back ++ (w.store.rewrite.live ++ r_kept)) ++ [])))) None) ≡ v
      tells g s v e =
          ap (λ o. unwrap_or o (unwrap_or (says s (rewritten g ([] ++ ((r_back ++ (w.store.rewrite.live ++ r_kept)) ++ [])))) None))
          (ap (λ l. says s (appended g (a_cut ++ l))) (sym (append-nil (a_back ++ (w.store.append.live ++ a_kept)))) ∙ e)

-- each event keeps it
pub step_replays : {E V : Type 0} (e : Event E V) (w v : Machine E V) → Step e w v → IsKept w → IsReplayable w → IsReplayable v
step_replays (Take y) w v h k p = subst (λ x. IsReplayable x) (sym h.1.2) (replay_take w k p y h.1.0 h.0 h.1.1)
step_replays SyncAppend w v h k p = replay_same w k p v
    (ap (λ x. all_records x.store.append) h.1 ∙ ap (λ l. w.store.append.gone ++ l) (append-nil (w.store.append.live ++ w.store.append.pending)))
    (ap (λ x. all_records x.store.rewrite) h.1) (λ alive. (h.0, λ g. ap (λ x. x.whereabouts g) h.1))
step_replays SyncRewrite w v h k p = replay_same w k p v (ap (λ x. all_records x.store.append) h.1)
    (ap (λ x. all_records x.store.rewrite) h.1 ∙ ap (λ l. w.store.rewrite.gone ++ l) (append-nil (w.store.rewrite.live ++ w.store.rewrite.pending)))
    (λ alive. (h.0, λ g. ap (λ x. x.whereabouts g) h.1))
step_replays (WritePlain xs) w v h k p = subst (λ x. IsReplayable x) (sym h.3.2)
    (replay_write w k p (Plain xs) h.3.0 h.0 (carried_fit w k p (λ g. of_group g xs) h.3.0 h.0 h.1 h.3.1)
    (λ g. carries_all_ends (w.map g) (w.whereabouts g) (of_group g xs) (h.3.0 g) (h.3.1 g)))
step_replays (WriteBegin n xs) w v h k p = subst (λ x. IsReplayable x) (sym h.2) (replay_write w k p (Part (Begin n) xs) w.whereabouts h.0 (λ g. tt) (λ g. (refl, refl)))
step_replays (WriteMiddle n xs) w v h k p = subst (λ x. IsReplayable x) (sym h.2.3) (replay_write w k p (Part (Middle n) xs) w.whereabouts h.0 (λ g. tt) (λ g. (refl, refl)))
step_replays (WriteEnd n xs) w v h k p = subst (λ x. IsReplayable x) (sym h.3.3.2) (replay_end w k p n xs h.3.0 h.3.1 h.3.3.0 h.0 h.1 h.3.2 h.3.3.1)
step_replays (RaiseAppend out stay) w v h k p = replay_same w k p v
    (ap (λ x. all_records x.store.append) h.6 ∙ append_assoc w.store.append.gone out (stay ++ w.store.append.pending)
    ∙ ap (λ l. w.store.append.gone ++ l) (sym (append_assoc out stay w.store.append.pending) ∙ ap (λ l. l ++ w.store.append.pending) h.3))
    (ap (λ x. all_records x.store.rewrite) h.6) (λ alive. (h.0, λ g. ap (λ x. x.whereabouts g) h.6))
step_replays (RaiseRewrite out stay) w v h k p = replay_same w k p v (ap (λ x. all_records x.store.append) h.5)
    (ap (λ x. all_records x.store.rewrite) h.5 ∙ append_assoc w.store.rewrite.gone out (stay ++ w.store.rewrite.pending)
    ∙ ap (λ l. w.store.rewrite.gone ++ l) (sym (append_assoc out stay w.store.rewrite.pending) ∙ ap (λ l. l ++ w.store.rewrite.pending) h.3))
    (λ alive. (h.0, λ g. ap (λ x. x.whereabouts g) h.5))
step_replays (LoseAppend lost rest) w v h k p = subst (λ x. IsReplayable x) (sym h.1) (replay_lose_append w k p lost rest h.0)
step_replays (LoseRewrite lost rest) w v h k p = subst (λ x. IsReplayable x) (sym h.1) (replay_lose_rewrite w k p lost rest h.0)
step_replays Fail w v h k p = replay_same w k p v (ap (λ x. all_records x.store.append) h) (ap (λ x. all_records x.store.rewrite) h)
    (λ alive. differ (sym (ap (λ x. x.failed) h) ∙ alive))
step_replays (Reopen r_kept r_lost r_cut r_back a_kept a_lost a_cut a_back) w v h k p =
    subst (λ x. IsReplayable x) (sym h.4.2)
    (replay_reopen w k p r_kept r_lost r_cut r_back a_kept a_lost a_cut a_back h.0 h.1 h.2 h.3 h.4.0
    (subst (λ x. IsKept x) h.4.2 (step_keeps (Reopen r_kept r_lost r_cut r_back a_kept a_lost a_cut a_back) w v h k)))

pub steps_replay : {E V : Type 0} (es : List (Event E V)) (w v : Machine E V) → Steps w es v → IsKept w → IsReplayable w → IsKept v × IsReplayable v
steps_replay [] w v h k p = (subst (λ x. IsKept x) (sym h) k, subst (λ x. IsReplayable x) (sym h) p)
steps_replay (e ∷ es) w v h k p = steps_replay es h.0 v h.2 (step_keeps e w h.0 h.1 k) (step_replays e w h.0 h.1 k p)

pub fresh_replays : {E V : Type 0} → IsReplayable (fresh_machine {E = E} {V = V})
fresh_replays = record { append_whole = λ g. tt; rewrite_whole = λ g. tt; top_part = λ alive g. inl (omega arith) }

pub schedule_replays : {E V : Type 0} (es : List (Event E V)) (v : Machine E V) → Steps fresh_machine es v → ReadsThrough v.store
schedule_replays es v h = let both = steps_replay es fresh_machine v h fresh_keeps fresh_replays in replays v both.0 both.1
