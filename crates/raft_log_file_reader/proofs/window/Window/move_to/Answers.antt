use Rattle.std.proofs.Common.{◌+◌, ◌-◌, length, ◌≤◌, ap, arith}
use Rattle.std.proofs.lemmas.List.{length-drop}
use Rattle.raft_log_file_reader.proofs.Parts.{part_behind, nothing_held}
use Rattle.raft_log_file_reader.proofs.window.Window.move_to.Goals as goal

pub returns-then-offset-end-clause-part : goal.returns-then-offset-end-clause-part
returns-then-offset-end-clause-part c = λ content inside part.
    let old = c.args.self.now in
    let new = c.drop_front.new.self in
    let to : c.args.offset ≤ old.start + length old.bytes.items = omega arith in
    let moved = part_behind old.start old.bytes.items content c.args.offset part c.if-self-offset.true to in
    rw (c.drop_front.ensures.bytes, c.drop_front.ensures.start) moved

pub returns-else-self-offset-clause-part : goal.returns-else-self-offset-clause-part
returns-else-self-offset-clause-part c = λ content inside part.
    rw (c.begin.ensures.bytes, c.begin.ensures.start) (nothing_held c.args.offset content inside)

pub returns-then-offset-end-clause-inside : goal.returns-then-offset-end-clause-inside
returns-then-offset-end-clause-inside c = λ size offset old.
    let now = c.args.self.now in
    omega (arith, old, offset, c.drop_front.ensures.start, ap length c.drop_front.ensures.bytes, length-drop (c.args.offset - now.start) now.bytes.items)

pub returns-else-self-offset-clause-inside : goal.returns-else-self-offset-clause-inside
returns-else-self-offset-clause-inside c = λ size offset old.
    omega (arith, offset, c.begin.ensures.start, ap length c.begin.ensures.bytes)
