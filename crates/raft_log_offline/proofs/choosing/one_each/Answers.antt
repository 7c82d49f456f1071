use Rattle.std.proofs.Common.{rules, List, subst, sym}
use Rattle.std.proofs.lemmas.List.Sorted.{answers_always}
use Rattle.raft_log_recovery_scan.specs.declared.scanning.found.FoundFile.{FoundFile}
use Rattle.raft_log_offline.specs.Sources.{IsOneEach, lasts}
use Rattle.raft_log_offline.proofs.Lasts.{one_of_each}
use Rattle.raft_log_offline.proofs.choosing.one_each.Goals as goal

pub returns-clause-ok : goal.returns-clause-ok
returns-clause-ok c =
    let files = c.sort_by_key.new.self.items in
    let sorted = c.in_ok-sort_by_key.ensures.sorted (λ (file : FoundFile). (file.seq, file.path_id, file.signed)) (answers_always _ _ _ (λ f a r q k. search rules)) in
    let all = subst (λ (l : List FoundFile). IsOneEach c.args.found.items (lasts l)) (sym c.as_slice.ensures.value) (one_of_each c.args.found.items files c.in_ok-sort_by_key.ensures.permutation sorted) in
    subst (IsOneEach c.args.found.items) (sym c.in_ok-chosen.ensures.ok) all
