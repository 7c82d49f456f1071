-- Whatever image a crash left, it can be opened, and the wording by intervals says what it means.
use Rattle.std.proofs.Common.{◌≡◌, ℕ, ◌<◌, ◌≤◌, false, List, ◌++◌, Option, Some, unwrap_or, refl, sym, ap, ◌∙◌, subst, arith}
use Rattle.raft_log_model_laws.specs.Item.{Record}
use Rattle.raft_log_model_laws.specs.Meaning.{Slot, Content, says, holds, directory}
use Rattle.raft_log_model_laws.specs.Meaning.Slot.{Index}
use Rattle.raft_log_model_laws.specs.Groups.{appended, rewritten, taken}
use Rattle.raft_log_model_laws.specs.Holes.{directory_by_intervals, IsSolid}
use Rattle.raft_log_model_laws.proofs.Public.{by_intervals_solid}
use Rattle.raft_log_machine_laws.specs.Queue.{reread}
use Rattle.raft_log_machine_laws.specs.Whereabouts.{Whereabouts}
use Rattle.raft_log_machine_laws.specs.Recovery.{IsRecovered}
use Rattle.raft_log_machine_laws.specs.Replay.{IsReplayable}
use Rattle.raft_log_machine_laws.specs.Machine.{Machine, Step, IsKept}
use Rattle.raft_log_machine_laws.specs.Machine.Event.{Reopen}
use Rattle.raft_log_machine_laws.specs.Images.{IsOneRun, HasRuns, Recovery, rewrite_read, append_read}
use Rattle.raft_log_machine_laws.proofs.SurvivalSteps.{holds_more}
use Rattle.raft_log_machine_laws.proofs.ReplayLaws.{replays}
use Rattle.raft_log_machine_laws.proofs.RecoveryLaws.{in_run, recovery}
use Rattle.raft_log_machine_laws.proofs.RunLaws.{run_of_all}

module _ {E V : Type 0} (w : Machine E V) (k : IsKept w) (p : IsReplayable w)
    (r_kept r_lost r_cut r_back a_kept a_lost a_cut a_back : List (Record E V)) (r_image : r_kept ++ r_lost ≡ w.store.rewrite.pending)
    (r_start : r_cut ++ r_back ≡ w.store.rewrite.gone) (a_image : a_kept ++ a_lost ≡ w.store.append.pending) (a_start : a_cut ++ a_back ≡ w.store.append.gone)
    (run : (g : ℕ) → IsOneRun (taken w.map a_kept g)) where
  -- what was read means the map after the batches that were kept
  means_of : (g : ℕ) (s : Slot) → directory s (rewritten g (r_back ++ (w.store.rewrite.live ++ r_kept))) (appended g (a_back ++ (w.store.append.live ++ a_kept)))
      ≡ taken w.map a_kept g s
  means_of g s = holds_more w.store w.map k.holds g s r_kept r_lost r_cut r_back a_cut a_back a_kept r_image r_start a_start

  append_means : (g : ℕ) (s : Slot) (v : Option (Content E V)) → says s (appended g (a_back ++ (w.store.append.live ++ a_kept))) ≡ Some v → taken w.map a_kept g s ≡ v
  append_means g s v e = sym (means_of g s) ∙ ap (λ o. unwrap_or o (holds s (rewritten g (r_back ++ (w.store.rewrite.live ++ r_kept))))) e

  recovered : (g : ℕ) → (t : Whereabouts) × IsRecovered (taken w.map a_kept g) (appended g (a_back ++ (w.store.append.live ++ a_kept))) t
  recovered g = recovery (taken w.map a_kept g) (appended g (a_back ++ (w.store.append.live ++ a_kept))) (run g)
      ((replays w k p).append g a_kept a_lost a_cut a_back a_image a_start) (append_means g)

  opens_of : (v : Machine E V) × Step (Reopen r_kept r_lost r_cut r_back a_kept a_lost a_cut a_back) w v
  opens_of = (
    record {
      store = record { rewrite = reread w.store.rewrite r_cut r_back r_kept; append = reread w.store.append a_cut a_back a_kept };
      map = taken w.map a_kept;
      whereabouts = λ g. (recovered g).0;
      failed = false;
    },
    (r_image, r_start, a_image, a_start, ((λ g. (recovered g).0), (λ g. (recovered g).1), refl)),
  )

  solid : (g : ℕ) → IsSolid (λ i. directory (Index i) (rewritten g (r_back ++ (w.store.rewrite.live ++ r_kept))) (appended g (a_back ++ (w.store.append.live ++ a_kept))))
  solid g i j l a b ij jl low high =
      let from : (run g).first ≤ i = (in_run (taken w.map a_kept g) (run g) i a (sym (means_of g (Index i)) ∙ low)).0 in
      let to : l < (run g).end = (in_run (taken w.map a_kept g) (run g) l b (sym (means_of g (Index l)) ∙ high)).1 in
      let it = (run g).solid j (omega arith) (omega arith) in
      (it.0, means_of g (Index j) ∙ it.1)

  pub by_intervals_of : (g i : ℕ) → directory_by_intervals i (rewritten g (r_back ++ (w.store.rewrite.live ++ r_kept))) (appended g (a_back ++ (w.store.append.live ++ a_kept)))
      ≡ taken w.map a_kept g (Index i)
  by_intervals_of g i =
      by_intervals_solid i (rewritten g (r_back ++ (w.store.rewrite.live ++ r_kept))) (appended g (a_back ++ (w.store.append.live ++ a_kept)))
      ((replays w k p).rewrite g r_kept r_lost r_cut r_back r_image r_start) ((replays w k p).append g a_kept a_lost a_cut a_back a_image a_start) (solid g)
      ∙ means_of g (Index i)

module _ {E V : Type 0} (w : Machine E V) (k : IsKept w) (p : IsReplayable w) (h : HasRuns w)
    (r_kept r_lost r_cut r_back a_kept a_lost a_cut a_back : List (Record E V)) (r_image : r_kept ++ r_lost ≡ w.store.rewrite.pending)
    (r_start : r_cut ++ r_back ≡ w.store.rewrite.gone) (a_image : a_kept ++ a_lost ≡ w.store.append.pending) (a_start : a_cut ++ a_back ≡ w.store.append.gone) where
  -- what was read means the map after the batches that were kept
  pub means_kept : (g : ℕ) (s : Slot) → directory s (rewritten g (r_back ++ (w.store.rewrite.live ++ r_kept))) (appended g (a_back ++ (w.store.append.live ++ a_kept)))
      ≡ taken w.map a_kept g s
  means_kept g s = means_of w k p r_kept r_lost r_cut r_back a_kept a_lost a_cut a_back r_image r_start a_image a_start (λ j. h.runs j a_kept a_lost a_image) g s

  pub opens : (v : Machine E V) × Step (Reopen r_kept r_lost r_cut r_back a_kept a_lost a_cut a_back) w v
  opens = opens_of w k p r_kept r_lost r_cut r_back a_kept a_lost a_cut a_back r_image r_start a_image a_start (λ j. h.runs j a_kept a_lost a_image)

  pub by_intervals : (g i : ℕ) → directory_by_intervals i (rewritten g (r_back ++ (w.store.rewrite.live ++ r_kept))) (appended g (a_back ++ (w.store.append.live ++ a_kept)))
      ≡ taken w.map a_kept g (Index i)
  by_intervals g i = by_intervals_of w k p r_kept r_lost r_cut r_back a_kept a_lost a_cut a_back r_image r_start a_image a_start (λ j. h.runs j a_kept a_lost a_image) g i

-- of a running engine the batches that it has taken are enough
pub running_by_intervals : {E V : Type 0} (w : Machine E V) (r : Recovery w.store) → IsKept w → IsReplayable w → w.failed ≡ false → r.a_kept ≡ w.store.append.pending → (g i : ℕ)
    → directory_by_intervals i (rewritten g (rewrite_read w.store r)) (appended g (append_read w.store r)) ≡ taken w.map r.a_kept g (Index i)
running_by_intervals w r k p alive all g i =
    by_intervals_of w k p r.r_kept r.r_lost r.r_cut r.r_back r.a_kept r.a_lost r.a_cut r.a_back r.r_image r.r_start r.a_image r.a_start
    (λ j. subst (λ l. IsOneRun (taken w.map l j)) (sym all) (run_of_all w k alive j)) g i
