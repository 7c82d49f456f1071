-- A group without entries may have any number in its whereabouts.
use Rattle.std.proofs.Common.{◌≡◌, ℕ, ◌≤◌, Option, None, sym, subst, inl, inr, refl, arith}
use Rattle.std.proofs.lemmas.Bool.{cases_lt}
use Rattle.raft_log_model_laws.specs.Meaning.{Slot, Content}
use Rattle.raft_log_model_laws.specs.Meaning.Slot.{Index}
use Rattle.raft_log_model_laws.specs.Groups.{appended, taken}
use Rattle.raft_log_model_laws.specs.Holes.{Window, nothing, window}
use Rattle.raft_log_machine_laws.specs.Queue.{all_records}
use Rattle.raft_log_machine_laws.specs.Whereabouts.{Whereabouts, top, IsRenumbered}
use Rattle.raft_log_machine_laws.specs.Truth.{SaysOfSlot, AreCorrect, IsSettledIndex}
use Rattle.raft_log_machine_laws.specs.Replay.{IsTopOf, IsReplayable}
use Rattle.raft_log_machine_laws.specs.Machine.{Machine, IsKept, said_of}
use Rattle.raft_log_machine_laws.specs.Images.{HasRuns}

module _ {E V : Type 0} (said : SaysOfSlot E V) (m : Slot → Option (Content E V)) (t : Whereabouts) (b : AreCorrect said m t) (empty : t.first ≡ t.end) (n : ℕ) (high : n ≤ top) where
  no_entry_at : (i : ℕ) → m (Index i) ≡ None
  no_entry_at i = elim (cases_lt i t.first) [ inl before ↦ b.below i before | inr from ↦ b.above i (omega arith) ]

  abbrev numbered : Whereabouts
  numbered = record t { first = n; split = n; end = n }

  settled : (i : ℕ) → IsSettledIndex said m t i → IsSettledIndex said m numbered i
  settled i (inl right) = inl right
  settled i (inr (inl cleaned)) = inr (inl cleaned)
  settled i (inr (inr (inl owed))) = inr (inr (inl (owed.0, inr refl)))
  settled i (inr (inr (inr newer))) = absurd (let order = b.in_order in omega (arith, newer.0, newer.1))

  pub renumbered_truth : AreCorrect said m numbered
  renumbered_truth = record {
    in_order = (omega arith, omega arith, high);
    below = λ i h. no_entry_at i;
    above = λ i h. no_entry_at i;
    solid = λ i from to. absurd (omega arith);
    rewritten = λ i from to. absurd (omega arith);
    newer = λ i from some. absurd (omega arith);
    key_newer = b.key_newer;
    key_older = b.key_older;
    after_clean = λ c. (refl, (b.after_clean c).1);
    after_delete = b.after_delete;
    index = λ i h. settled i (b.index i h);
    key = b.key;
  }

  pub renumbered_top : (w : Window) → IsTopOf w t → IsTopOf w numbered
  renumbered_top w (inl none) = inl none
  renumbered_top w (inr part) = inl (omega (arith, part.0, part.1))

module _ {E V : Type 0} (w : Machine E V) (whereabouts : ℕ → Whereabouts) (any : (g : ℕ) → IsRenumbered (w.whereabouts g) (whereabouts g)) where
  abbrev renumbered : Machine E V
  renumbered = record w { whereabouts = whereabouts }

  true_one : (g : ℕ) (t u : Whereabouts) → IsRenumbered t u → AreCorrect (said_of g w.store) (taken w.map w.store.append.pending g) t
      → AreCorrect (said_of g w.store) (taken w.map w.store.append.pending g) u
  true_one g t u (inl same) b = subst (λ x. AreCorrect (said_of g w.store) (taken w.map w.store.append.pending g) x) (sym same) b
  true_one g t u (inr h) b = subst (λ x. AreCorrect (said_of g w.store) (taken w.map w.store.append.pending g) x) (sym h.1.2)
      (renumbered_truth (said_of g w.store) (taken w.map w.store.append.pending g) t b h.0 h.1.0 h.1.1)

  top_one : (g : ℕ) (t u : Whereabouts) → IsRenumbered t u → AreCorrect (said_of g w.store) (taken w.map w.store.append.pending g) t
      → IsTopOf (window nothing (appended g (all_records w.store.append))) t → IsTopOf (window nothing (appended g (all_records w.store.append))) u
  top_one g t u (inl same) b p = subst (λ x. IsTopOf (window nothing (appended g (all_records w.store.append))) x) (sym same) p
  top_one g t u (inr h) b p = subst (λ x. IsTopOf (window nothing (appended g (all_records w.store.append))) x) (sym h.1.2)
      (renumbered_top (said_of g w.store) (taken w.map w.store.append.pending g) t b h.0 h.1.0 h.1.1 (window nothing (appended g (all_records w.store.append))) p)

  pub renumbered_kept : IsKept w → IsKept renumbered
  renumbered_kept k = record {
    holds = k.holds;
    unbroken = k.unbroken;
    fits = k.fits;
    whereabouts = λ alive g. true_one g (w.whereabouts g) (whereabouts g) (any g) (k.whereabouts alive g);
  }

  pub renumbered_replays : IsKept w → IsReplayable w → IsReplayable renumbered
  renumbered_replays k p = record {
    append_whole = p.append_whole;
    rewrite_whole = p.rewrite_whole;
    top_part = λ alive g. top_one g (w.whereabouts g) (whereabouts g) (any g) (k.whereabouts alive g) (p.top_part alive g);
  }

  pub renumbered_runs : HasRuns w → HasRuns renumbered
  renumbered_runs h = record { runs = h.runs }
