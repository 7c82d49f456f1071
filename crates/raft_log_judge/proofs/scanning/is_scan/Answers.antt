use Rattle.std.proofs.Common.{List, map, refl, subst, sym}
use Rattle.std.proofs.lemmas.List.{drop_all}
use Rattle.raft_log_world.specs.Reads.{bytes_of, pairs_of}
use Rattle.raft_log_judge.specs.declared.change.Change.{Change}
use Rattle.raft_log_judge.specs.Changes.{tagged}
use Rattle.raft_log_judge.specs.Contents.{ListsPuts, after_all}
use Rattle.raft_log_judge.proofs.Scans.{ListsAll, known_keys, puts_told, right, scanned}
use Rattle.raft_log_judge.proofs.Supporting.{first_left, to_not}
use Rattle.raft_log_judge.proofs.scanning.is_scan.Goals as goal

pub returns-then-not-are_rising : goal.returns-then-not-are_rising
returns-then-not-are_rising c = (
  λ no. absurd (let never : ⊥ = cc in never),
  λ scans. absurd (to_not c.are_rising.result c.if-not-are_rising.true (c.are_rising.ensures.1 scans.rising)),
)

pub returns-then-not-are_right : goal.returns-then-not-are_right
returns-then-not-are_right c = (
  λ no. absurd (let never : ⊥ = cc in never),
  λ scans. absurd (to_not c.are_right.result c.if-not-are_right.true (c.are_right.ensures.1 (right (after_all c.args.batches.now) c.args.group (bytes_of c.args.start.now) (bytes_of c.args.end.now) (pairs_of c.args.pairs.now) scans))),
)

pub returns-then-not-lists_puts : goal.returns-then-not-lists_puts
returns-then-not-lists_puts c = (
  λ no. absurd (let never : ⊥ = cc in never),
  λ scans. absurd (to_not c.lists_puts.result c.if-not-lists_puts.true (c.lists_puts.ensures.1 (puts_told (after_all c.args.batches.now) c.args.group (bytes_of c.args.start.now) (bytes_of c.args.end.now) (pairs_of c.args.pairs.now) scans _))),
)

pub loop-batch-init : goal.loop-batch-init
loop-batch-init c listed = listed

pub loop-batch-preserved : goal.loop-batch-preserved
loop-batch-preserved c rest =
    let listed = ListsAll (after_all c.args.batches.now) c.args.group (bytes_of c.args.start.now) (bytes_of c.args.end.now) (pairs_of c.args.pairs.now) in
    let batch = c.batch-item.result in
    let split = first_left c.args.batches.now c.loop-batch.batch-index batch batch c.loop-batch-test.true c.batch-item.is in
    let listed_here = λ (xs : List Change). ListsPuts (after_all c.args.batches.now) c.args.group (bytes_of c.args.start.now) (bytes_of c.args.end.now) (pairs_of c.args.pairs.now) (map tagged xs) in
    c.loop-batch.invariant (subst listed (sym split) (subst listed_here c.as_slice.ensures (c.lists_puts.ensures.0 c.if-not-lists_puts.false), rest))

pub returns : goal.returns
returns c =
    let m = after_all c.args.batches.now in
    let start = bytes_of c.args.start.now in
    let end = bytes_of c.args.end.now in
    let pairs = pairs_of c.args.pairs.now in
    let listed = ListsAll m c.args.group start end pairs in
    let done = drop_all c.loop-batch.batch-index c.args.batches.now c.loop-batch-test.false in (
      λ yes. scanned m c.args.group start end pairs (c.are_rising.ensures.0 c.if-not-are_rising.false) (c.are_right.ensures.0 c.if-not-are_right.false)
          (known_keys m c.args.group start end pairs c.args.batches.now refl (c.loop-batch.invariant (subst listed (sym done) tt))),
      λ scans. refl,
    )
