use Rattle.std.proofs.Common.{◌≡◌, ◌≤◌, ◌⊎◌, ◌↔◌, inl, inr, arith, subst, sym}
use Rattle.std.specs.Prelude.{IsTrue}
use Rattle.raft_log_judge.specs.declared.change.ChangeKind.{ChangeKind}
use Rattle.raft_log_judge.specs.Changes.{item_of}
use Rattle.raft_log_judge.specs.Contents.{IsGone, after_all}
use Rattle.raft_log_judge.proofs.Supporting.{gone_between}
use Rattle.raft_log_judge.proofs.reading.is_gone.Goals.{then-begin-first, else-begin-first}
use Rattle.raft_log_judge.proofs.reading.is_gone.Goals as goal

pub returns : goal.returns
returns c =
    let m = after_all c.args.batches.now in
    let first = c.in-Entries.first in
    let low = c.if-begin-first.low in
    let above : c.args.begin ≤ low = elim c.if-begin-first.branch [ then-begin-first w ↦ omega arith | else-begin-first w ↦ omega arith ] in
    let from : first ≤ low = elim c.if-begin-first.branch [ then-begin-first w ↦ omega arith | else-begin-first w ↦ omega arith ] in
    let which : (low ≡ c.args.begin) ⊎ (low ≡ first) = elim c.if-begin-first.branch [ then-begin-first w ↦ inr w.low-is | else-begin-first w ↦ inl w.low-is ] in
    let same = gone_between m c.args.group c.args.begin c.args.end first c.len.result low c.lower-high.result c.in-Entries.entries c.len.ensures above from which c.lower-high.ensures.below c.lower-high.ensures.all in
    subst (λ (kind : ChangeKind). IsTrue c.none_between.result ↔ IsGone m c.args.group c.args.begin c.args.end (item_of kind)) (sym c.in-Entries.is)
    (λ yes. same.0 (c.none_between.ensures.0 yes), λ gone. c.none_between.ensures.1 (same.1 gone))
