use Rattle.std.proofs.Common.{◌≡◌, ◌+◌, ◌<◌, false, List, [], ◌∷◌, ◌++◌, length, drop, sym, ap, subst, ◌∙◌, arith, append_assoc}
use Rattle.std.specs.Prelude.{slice_index_or}
use Rattle.std.proofs.lemmas.Bool.{false≢true}
use Rattle.raft_log_recovery_scan.specs.declared.scanning.found.FoundFile.{FoundFile}
use Rattle.raft_log_offline.specs.Sources.{lasts}
use Rattle.raft_log_offline.proofs.Lasts.{kept_here, passed_here}
use Rattle.raft_log_offline.proofs.choosing.last_of_each.Goals as goal
use Rattle.raft_log_offline.proofs.choosing.last_of_each.Goals.{then-is_next_another+in_ok-push, else-is_next_another}

pub loop-at-preserved : goal.loop-at-preserved
loop-at-preserved c =
    let files = c.args.found.now in
    let i = c.loop-at.at in
    let chosen = c.loop-at.chosen.items in
    let rest = lasts (drop (i + 1) files) in
    let none : FoundFile = record { seq = 0; path_id = 0; signed = false } in
    let lt : i < length files = omega arith in
    elim c.if-is_next_another.branch [
      | then-is_next_another+in_ok-push w ↦
          subst (λ (l : List FoundFile). l ++ rest ≡ lasts files) (sym (ap (λ v. v.items) w.chosen-is ∙ w.in_ok-push.ensures.items))
          (append_assoc chosen (slice_index_or files i none ∷ []) rest
          ∙ (ap (λ (l : List FoundFile). chosen ++ l) (sym (kept_here files i none lt (c.is_next_another.ensures.0 w.if-is_next_another.true))) ∙ c.loop-at.invariant))
      | else-is_next_another w ↦
          subst (λ (l : List FoundFile). l ++ rest ≡ lasts files) (sym (ap (λ v. v.items) w.chosen-is))
          (ap (λ (l : List FoundFile). chosen ++ l) (sym (passed_here files i lt (λ is. false≢true (sym w.if-is_next_another.false ∙ c.is_next_another.ensures.1 is)))) ∙ c.loop-at.invariant)
    ]
