use Rattle.std.proofs.Common.{◌≡◌, ◌<◌, ◌≤◌, ℕ, ap, subst, ◌∙◌}
use Rattle.raft_log_purge.specs.Append.{gate_of, up_to}
use Rattle.raft_log_purge.proofs.Whole.{gate_before_last, gate_is_last}
use Rattle.raft_log_purge.proofs.append.pass_gate.Goals as goal

pub returns-then-gate-last-clause-ok : goal.returns-then-gate-last-clause-ok
returns-then-gate-last-clause-ok g c =
    let v = g.P.PipeLog.shown c.args.pipes.now in
    let last = c.file_span-first.ensures.last in
    let is : c.up_to-gate.result ≡ gate_of c.args.watermark v = c.up_to-gate.ensures ∙ ap (up_to c.args.watermark) last in
    gate_before_last c.args.watermark c.up_to-gate.result v is (subst (λ (n : ℕ). c.up_to-gate.result < n) last c.if-gate-last.true)

pub returns-in-Ok-clause-ok : goal.returns-in-Ok-clause-ok
returns-in-Ok-clause-ok g c =
    let v = g.P.PipeLog.shown c.args.pipes.now in
    let w = g.P.PipeLog.shown c.rotate.new.self in
    let last = c.file_span-first.ensures.last in
    let e = c.in-Ok.ensures in
    let is : c.up_to-gate.result ≡ gate_of c.args.watermark v = c.up_to-gate.ensures ∙ ap (up_to c.args.watermark) last in
    gate_is_last tt c.args.watermark c.up_to-gate.result v w is (subst (λ (n : ℕ). n ≤ c.up_to-gate.result) last c.if-gate-last.false) e.fails e.ok e.later
