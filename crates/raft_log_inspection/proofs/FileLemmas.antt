-- One file of a queue more was handed on.
use Rattle.std.specs.Prelude.{OnOk, IfOk}
use Rattle.std.specs.List.{AllZip}
use Rattle.std.proofs.Common.{◌≡◌, ℕ, ◌+◌, ◌<◌, Option, None, List, [], ◌∷◌, ◌++◌, length, take, get_or, Result, Ok, Err, sym, ap, subst, ◌∙◌, append_assoc, append-nil}
use Rattle.std.proofs.lemmas.List.{take_more}
use Rattle.std.proofs.lemmas.Grind.{flat_map-append}
use Rattle.raft_log_record_base.specs.declared.pipe_log.LogQueue.{LogQueue}
use Rattle.raft_log_fs.specs.Disk.{Disk}
use Rattle.raft_log_replay.specs.Machines.{Batch}
use Rattle.raft_log_replay.specs.Segments.{all_batches}
use Rattle.raft_log_recovery_scan.specs.declared.scanning.found.FoundFile.{FoundFile}
use Rattle.raft_log_recovery_scan.proofs.Public.{zip_push}
use Rattle.raft_log_recovery_read.specs.Batches.{TakesBatches}
use Rattle.raft_log_inspection.specs.Intact.{IsIntactFile}
use Rattle.raft_log_inspection.specs.Steps.{HandsFile, HandsFiles}
use Rattle.raft_log_inspection.specs.declared.damage.Damage.{Damage}

-- two facts of an answer, as one
pub both_then : {X E P : Type 0} {Q R : X → Type 0} (r : Result X E) → OnOk r P → IfOk r Q → ((x : X) → P → Q x → R x) → IfOk r R
both_then (Ok x) p q step = step x p q
both_then (Err e) p q step = tt

no_push : {X : Type 0} (xs : List X) (x : X) → xs ++ x ∷ [] ≡ [] → ⊥
no_push [] x e = absurd cc
no_push (y ∷ xs) x e = absurd cc

all_push : (segments : List (List Batch)) (batches : List Batch) → all_batches (segments ++ batches ∷ []) ≡ all_batches segments ++ batches
all_push segments batches = flat_map-append (λ bs. bs) segments (batches ∷ []) ∙ ap (λ l. all_batches segments ++ l) (append-nil batches)

module _ {M : Type 0} (reads : List Batch → M → Type 0) (queue : LogQueue) (directories : List (List ℕ)) (d : Disk) (newest : ℕ) (files : List FoundFile) (i : ℕ) (e : FoundFile) (lt : i < length files)
    (old mid new : M) (damages : List Damage) (damage : Option Damage) where
  takes : (segments : List (List Batch)) (batches : List Batch) → TakesBatches reads (all_batches segments) old mid → TakesBatches reads batches mid new
      → TakesBatches reads (all_batches (segments ++ batches ∷ [])) old new
  takes segments batches first next before has =
      subst (λ l. reads l new) (append_assoc before (all_batches segments) batches ∙ ap (λ l. before ++ l) (sym (all_push segments batches)))
      (next (before ++ all_batches segments) (first before has))

  -- without damage
  pub hands_sound : HandsFiles reads queue directories d newest (take i files) old mid damages → HandsFile reads queue directories d newest (get_or files i e) mid new damage → damage ≡ None
      → HandsFiles reads queue directories d newest (take (i + 1) files) old new damages
  hands_sound h f none = record {
    segments = h.segments ++ f.batches ∷ [];
    taken = takes h.segments f.batches h.taken f.taken;
    intact = λ clean. subst (λ l. AllZip (IsIntactFile queue directories d newest) l (h.segments ++ f.batches ∷ [])) (sym (take_more files i e lt))
        (zip_push (IsIntactFile queue directories d newest) (take i files) h.segments (get_or files i e) f.batches (h.intact clean) (f.intact none));
  }

  -- with damage, which is told
  pub hands_damaged : (told : Damage) → HandsFiles reads queue directories d newest (take i files) old mid damages
      → HandsFile reads queue directories d newest (get_or files i e) mid new damage → HandsFiles reads queue directories d newest (take (i + 1) files) old new (damages ++ told ∷ [])
  hands_damaged told h f = record {
    segments = h.segments ++ f.batches ∷ [];
    taken = takes h.segments f.batches h.taken f.taken;
    intact = λ clean. absurd (no_push damages told clean);
  }
