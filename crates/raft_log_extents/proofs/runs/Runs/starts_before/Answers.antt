use Rattle.std.proofs.Common.{arith, ◌∙◌}
use Rattle.raft_log_extents.proofs.RunTurns.{all_starts, base_at, starts_before}
use Rattle.raft_log_extents.proofs.runs.Runs.starts_before.Goals as goal

pub returns-then-count-len : goal.returns-then-count-len
returns-then-count-len c =
    let r = c.args.self.now in
    let ok = r.runs.ok.0 in
    c.len-then-count-len.ensures ∙ r.starts.ok.0 ∙ all_starts r.front r.base r.len r.runs.items r.starts.items r.sound c.args.count (omega (arith, ok, c.if-count-len.true, c.len.ensures))

pub overflow_sub-result : goal.overflow_sub-result
overflow_sub-result c =
    let r = c.args.self.now in
    let ok = r.runs.ok.0 in
    base_at r.front r.base r.len r.runs.items r.starts.items r.sound c.args.count c.index.result.now (omega (arith, ok, c.if-count-len.false, c.len.ensures, c.requires)) c.index.ensures

pub returns : goal.returns
returns c =
    let r = c.args.self.now in
    let ok = r.runs.ok.0 in
    starts_before r.front r.base r.len r.runs.items r.starts.items r.sound c.args.count c.index.result.now (omega (arith, ok, c.if-count-len.false, c.len.ensures, c.requires)) c.index.ensures
