-- The last run, one file further, and what is kept.
use Rattle.std.proofs.Common.{◌≡◌, ℕ, ◌+◌, ◌-◌, ◌<◌, false, List, length, take, drop, get_or, sym, ◌∙◌, ap, subst, inl, inr, arith}
use Rattle.std.specs.List.Sorted.{IsPermutation, IsSorted}
use Rattle.std.proofs.lemmas.List.{take_more, drop_more, take-append-drop, get_or-drop, length-drop}
use Rattle.raft_log_recovery_scan.specs.Runs.{found_cmp, FollowsNumber, IsBreak, IsRunOf, IsBrokenAt, BeginsRun}
use Rattle.raft_log_recovery_scan.specs.declared.scanning.found.FoundFile.{FoundFile}

no_file : FoundFile
no_file = record { seq = 0; path_id = 0; signed = false }

break_at : (files : List FoundFile) (first : ℕ) → IsBrokenAt files first → IsBreak (take first files) (drop first files)
break_at files first (some, lt, breaks) =
    let next : first - 1 + 1 ≡ first = omega (arith, some) in
    let below : first - 1 < length files = omega (arith, lt) in
    record {
      before = take (first - 1) files;
      last = get_or files (first - 1) no_file;
      first = get_or files first no_file;
      behind = drop (first + 1) files;
      ends = ap (λ (n : ℕ). take n files) (sym next) ∙ take_more files (first - 1) no_file below;
      begins = drop_more files first no_file lt;
      breaks = breaks no_file;
    }

pub run_is : (found files : List FoundFile) (first : ℕ) → BeginsRun files (length files) first → IsPermutation found files → IsSorted found_cmp files → IsRunOf found (drop first files)
run_is found files first is same ordered =
    let whole = take-append-drop first files in
    record {
      dropped = take first files;
      same = subst (IsPermutation found) (sym whole) same;
      ordered = subst (IsSorted found_cmp) (sym whole) ordered;
      consecutive = λ k d lt.
          let next : first + (k + 1) ≡ first + k + 1 = omega arith in
          let follows = is.run (first + k) d (omega arith) (omega (arith, lt, length-drop first files)) in
          subst (λ (f : FoundFile). FollowsNumber f (get_or (drop first files) (k + 1) d)) (sym (get_or-drop first files k d))
          (subst (λ (f : FoundFile). FollowsNumber (get_or files (first + k) d) f) (sym (get_or-drop first files (k + 1) d ∙ ap (λ (n : ℕ). get_or files n d) next)) follows);
      broken = elim is.broken [
        | inl none ↦ inl (ap (λ (n : ℕ). take n files) none)
        | inr broken ↦ inr (break_at files first broken)
      ];
    }
