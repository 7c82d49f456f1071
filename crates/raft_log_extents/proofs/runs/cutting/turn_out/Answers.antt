use Rattle.std.proofs.Common.{◌-◌, arith, refl, ◌∙◌}
use Rattle.raft_log_extents.proofs.RunReplacing.{turned_out}
use Rattle.raft_log_extents.proofs.runs.cutting.turn_out.Goals as goal

pub returns-clause-items : goal.returns-clause-items
returns-clause-items g c =
    let q = c.args.queue.now in
    let ok = q.ok.0 in
    c.truncate.ensures.items
    ∙ turned_out q.items c.rotate_left.new.self.items c.args.from c.args.to c.len.result (c.len.result - (c.args.to - c.args.from)) c.requires.0 (omega (arith, ok, c.requires.1)) c.rotate_left.ensures.items
    (omega (arith, ok, c.len.ensures, c.rotate_left.ensures.len)) refl
