use Rattle.std.proofs.Common.{map, refl, sym, ◌∙◌, ap}
use Rattle.std.specs.String.{string_bytes}
use Rattle.raft_log_machine_laws.specs.Calls.Which.{InAppend, InRewrite}
use Rattle.raft_log_dual_pipes.specs.Pipes.{OnePipe}
use Rattle.raft_log_dual_pipes.proofs.PairNumbers.{ends_when}
use Rattle.raft_log_dual_pipes.proofs.PairSpans.{rotates_not_when, rotates_when}
use Rattle.raft_log_dual_pipes.proofs.Pairing.{either_false}
use Rattle.raft_log_dual_pipes.proofs.Telling.{nobody_hears}
use Rattle.raft_log_dual_pipes.proofs.dual_pipes.DualPipesPipeLog.rotate.Goals as goal

pub returns-in-Append-clause-ok : goal.returns-in-Append-clause-ok
returns-in-Append-clause-ok g c =
    let e = c.rotate.ensures in
    rw c.in-Append.is (rotates_when InAppend _ _ _ c.rotate.result e.ok e.turned e.fails (record { queue = ap (λ l. l.queue) e.same.0; directories = ap (λ l. map string_bytes l.paths.items) e.same.0; settings = e.same.1 }))

pub returns-in-Append-clause-err : goal.returns-in-Append-clause-err
returns-in-Append-clause-err g c =
    let e = c.rotate.ensures in
    let alive = (either_false _ _ (sym c.is_failed.ensures ∙ c.if-is_failed.false)).0 in
    rw c.in-Append.is (rotates_not_when InAppend _ _ _ c.rotate.result (e.err alive) e.fails (record { queue = ap (λ l. l.queue) e.same.0; directories = ap (λ l. map string_bytes l.paths.items) e.same.0; settings = e.same.1 }) (g.met.F.FileSystem.sound c.rotate.new.file_system))

pub returns-in-Rewrite-clause-ok : goal.returns-in-Rewrite-clause-ok
returns-in-Rewrite-clause-ok g c =
    let e = c.rotate-in-Rewrite.ensures in
    rw c.in-Rewrite.is (rotates_when InRewrite _ _ _ c.rotate-in-Rewrite.result e.ok e.turned e.fails (record { queue = ap (λ l. l.queue) e.same.0; directories = ap (λ l. map string_bytes l.paths.items) e.same.0; settings = e.same.1 }))

pub returns-in-Rewrite-clause-err : goal.returns-in-Rewrite-clause-err
returns-in-Rewrite-clause-err g c =
    let e = c.rotate-in-Rewrite.ensures in
    let alive = (either_false _ _ (sym c.is_failed.ensures ∙ c.if-is_failed.false)).1 in
    rw c.in-Rewrite.is (rotates_not_when InRewrite _ _ _ c.rotate-in-Rewrite.result (e.err alive) e.fails (record { queue = ap (λ l. l.queue) e.same.0; directories = ap (λ l. map string_bytes l.paths.items) e.same.0; settings = e.same.1 }) (g.met.F.FileSystem.sound c.rotate-in-Rewrite.new.file_system))

pub returns-in-Append-clause-range : goal.returns-in-Append-clause-range
returns-in-Append-clause-range g c =
    let alive = (either_false _ _ (sym c.is_failed.ensures ∙ c.if-is_failed.false)).0 in
    let p = c.rotate.new.self in
    let o : OnePipe = record { queue = p.layout.queue; directories = map string_bytes p.layout.paths.items; settings = p.settings; files = p.files; failed = p.failed } in
    rw c.in-Append.is (ends_when InAppend _ o _ c.rotate.result (c.rotate.ensures.err alive))

pub returns-in-Rewrite-clause-range : goal.returns-in-Rewrite-clause-range
returns-in-Rewrite-clause-range g c =
    let alive = (either_false _ _ (sym c.is_failed.ensures ∙ c.if-is_failed.false)).1 in
    let p = c.rotate-in-Rewrite.new.self in
    let o : OnePipe = record { queue = p.layout.queue; directories = map string_bytes p.layout.paths.items; settings = p.settings; files = p.files; failed = p.failed } in
    rw c.in-Rewrite.is (ends_when InRewrite _ o _ c.rotate-in-Rewrite.result (c.rotate-in-Rewrite.ensures.err alive))

pub returns-in-Append-clause-calls : goal.returns-in-Append-clause-calls
returns-in-Append-clause-calls g c = rw c.in-Append.is c.rotate.ensures.ok

pub returns-in-Rewrite-clause-calls : goal.returns-in-Rewrite-clause-calls
returns-in-Rewrite-clause-calls g c = rw c.in-Rewrite.is c.rotate-in-Rewrite.ensures.ok

pub returns-in-Append-clause-told : goal.returns-in-Append-clause-told
returns-in-Append-clause-told g c = nobody_hears _ _ _

pub returns-in-Rewrite-clause-told : goal.returns-in-Rewrite-clause-told
returns-in-Rewrite-clause-told g c = nobody_hears _ _ _
