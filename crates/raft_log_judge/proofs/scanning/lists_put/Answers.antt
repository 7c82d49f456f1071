use Rattle.std.proofs.Common.{◌↔◌, ℕ, List, subst, sym}
use Rattle.std.specs.Prelude.{IsTrue}
use Rattle.raft_log_world.specs.Reads.{bytes_of, pairs_of}
use Rattle.raft_log_judge.specs.declared.change.ChangeKind.{ChangeKind}
use Rattle.raft_log_judge.specs.Changes.{item_of}
use Rattle.raft_log_judge.specs.Contents.{IsListed, ListsPut, after_all}
use Rattle.raft_log_judge.proofs.scanning.lists_put.Goals as goal

pub returns-in-Put : goal.returns-in-Put
returns-in-Put c =
    let m = after_all c.args.batches.now in
    let start = bytes_of c.args.start.now in
    let end = bytes_of c.args.end.now in
    let pairs = pairs_of c.args.pairs.now in
    subst (λ (kind : ChangeKind). IsTrue c.is_listed.result ↔ ListsPut m c.args.group start end pairs (item_of kind)) (sym c.in-Put.is)
    (subst (λ (k : List ℕ). IsTrue c.is_listed.result ↔ IsListed m c.args.group start end pairs k) c.as_slice.ensures c.is_listed.ensures)
