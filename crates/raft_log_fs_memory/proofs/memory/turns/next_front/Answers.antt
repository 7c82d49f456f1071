use Rattle.std.proofs.Common.{rules, ◌<◌, ◌∙◌, length, arith, sym}
use Rattle.raft_log_fs_memory.proofs.CountDown.{front_here, front_past, front_none}
use Rattle.raft_log_fs_memory.proofs.memory.turns.next_front.Goals as goal

pub loop-part-preserved : goal.loop-part-preserved
loop-part-preserved c =
    let i = c.loop-part.part-index in
    let lt : i < length c.args.parts.now = omega arith in
    c.loop-part.invariant ∙ front_past c.args.parts.now i lt (search rules)

pub returns-then-part-eq1 : goal.returns-then-part-eq1
returns-then-part-eq1 c =
    let i = c.loop-part.part-index in
    let lt : i < length c.args.parts.now = omega arith in
    sym (c.loop-part.invariant ∙ front_here c.args.parts.now i lt (search rules))

pub returns : goal.returns
returns c = sym (c.loop-part.invariant ∙ front_none c.args.parts.now c.loop-part.part-index (omega arith))
