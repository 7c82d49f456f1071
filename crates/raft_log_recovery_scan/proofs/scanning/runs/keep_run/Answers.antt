use Rattle.std.proofs.Common.{rules, List, length, subst, sym}
use Rattle.std.proofs.lemmas.List.Sorted.{answers_always}
use Rattle.raft_log_recovery_scan.specs.Runs.{BeginsRun, IsRunOf}
use Rattle.raft_log_recovery_scan.specs.declared.scanning.found.FoundFile.{FoundFile}
use Rattle.raft_log_recovery_scan.proofs.RunLemmas.{run_is}
use Rattle.raft_log_recovery_scan.proofs.scanning.runs.keep_run.Goals as goal

pub returns-clause-ok : goal.returns-clause-ok
returns-clause-ok g c =
    let files = c.sort_by_key.new.self.items in
    let first = c.first_of_run-first.result in
    let begins = subst (λ (l : List FoundFile). BeginsRun l (length l) first) c.as_slice.ensures.value c.first_of_run-first.ensures.run in
    subst (IsRunOf c.args.files.items) (sym c.in_ok-kept.ensures.tail)
    (run_is c.args.files.items files first begins c.in_ok-sort_by_key.ensures.permutation
    (c.in_ok-sort_by_key.ensures.sorted (λ (file : FoundFile). (file.seq, file.path_id, file.signed)) (answers_always _ _ _ (λ f a r q k. search rules))))
