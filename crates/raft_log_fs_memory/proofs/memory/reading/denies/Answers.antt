use Rattle.std.proofs.Common.{◌<◌, ◌∙◌, length, arith, refl, get_or}
use Rattle.std.proofs.lemmas.Bool.{false≢true}
use Rattle.raft_log_fs_memory.proofs.Denied.{denied_here, denied_past, denied_none}
use Rattle.raft_log_fs_memory.proofs.memory.reading.denies.Goals as goal

pub loop-mark-preserved : goal.loop-mark-preserved
loop-mark-preserved c = λ place from below.
    let i = c.loop-mark.mark-index in
    let lt : i < length c.args.marks.now = omega arith in
    c.loop-mark.invariant place from below
    ∙ denied_past c.args.marks.now i c.args.file place lt (λ same at.
    absurd (false≢true (c.if-is_within.ensures.1 (same, omega (arith, at, from), omega (arith, at, below)))))

pub returns-then-is_within-clause-denied : goal.returns-then-is_within-clause-denied
returns-then-is_within-clause-denied c = λ yes.
    let i = c.loop-mark.mark-index in
    let lt : i < length c.args.marks.now = omega arith in
    let within = c.if-is_within.ensures.0 refl in
    record {
      place = (get_or c.args.marks.now i (0, 0)).1;
      from = within.1;
      below = within.2;
      denied = c.loop-mark.invariant (get_or c.args.marks.now i (0, 0)).1 within.1 within.2 ∙ denied_here c.args.marks.now i c.args.file lt within.0;
    }

pub returns-clause-free : goal.returns-clause-free
returns-clause-free c = λ no place from below.
    c.loop-mark.invariant place from below ∙ denied_none c.args.marks.now c.loop-mark.mark-index c.args.file place (omega arith)
