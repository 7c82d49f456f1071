use Rattle.std.proofs.Common.{map, refl, sym, ◌∙◌, ap}
use Rattle.std.specs.String.{string_bytes}
use Rattle.raft_log_machine_laws.specs.Calls.Which.{InAppend, InRewrite}
use Rattle.raft_log_dual_pipes.specs.Pipes.{OnePipe}
use Rattle.raft_log_dual_pipes.proofs.PairNumbers.{purge_ends_when}
use Rattle.raft_log_dual_pipes.proofs.PairSpans.{purges_not_when, purges_when}
use Rattle.raft_log_dual_pipes.proofs.Pairing.{either_false}
use Rattle.raft_log_dual_pipes.proofs.Telling.{nobody_hears}
use Rattle.raft_log_dual_pipes.proofs.dual_pipes.DualPipesPipeLog.purge_to.Goals as goal

pub returns-in-Append-clause-ok : goal.returns-in-Append-clause-ok
returns-in-Append-clause-ok g c =
    let e = c.purge_to.ensures in
    rw c.in-Append.is (purges_when InAppend _ _ _ c.args.file_id.seq c.purge_to.result e.ok e.raised e.fails (record { queue = ap (λ l. l.queue) e.same.0; directories = ap (λ l. map string_bytes l.paths.items) e.same.0; settings = e.same.1 }))

pub returns-in-Append-clause-err : goal.returns-in-Append-clause-err
returns-in-Append-clause-err g c =
    let e = c.purge_to.ensures in
    let alive = (either_false _ _ (sym c.is_failed.ensures ∙ c.if-is_failed.false)).0 in
    rw c.in-Append.is (purges_not_when InAppend _ _ _ c.args.file_id.seq c.purge_to.result (e.err alive) e.fails (record { queue = ap (λ l. l.queue) e.same.0; directories = ap (λ l. map string_bytes l.paths.items) e.same.0; settings = e.same.1 }) (g.met.F.FileSystem.sound c.purge_to.new.file_system))

pub returns-in-Rewrite-clause-ok : goal.returns-in-Rewrite-clause-ok
returns-in-Rewrite-clause-ok g c =
    let e = c.purge_to-in-Rewrite.ensures in
    rw c.in-Rewrite.is (purges_when InRewrite _ _ _ c.args.file_id.seq c.purge_to-in-Rewrite.result e.ok e.raised e.fails (record { queue = ap (λ l. l.queue) e.same.0; directories = ap (λ l. map string_bytes l.paths.items) e.same.0; settings = e.same.1 }))

pub returns-in-Rewrite-clause-err : goal.returns-in-Rewrite-clause-err
returns-in-Rewrite-clause-err g c =
    let e = c.purge_to-in-Rewrite.ensures in
    let alive = (either_false _ _ (sym c.is_failed.ensures ∙ c.if-is_failed.false)).1 in
    rw c.in-Rewrite.is (purges_not_when InRewrite _ _ _ c.args.file_id.seq c.purge_to-in-Rewrite.result (e.err alive) e.fails (record { queue = ap (λ l. l.queue) e.same.0; directories = ap (λ l. map string_bytes l.paths.items) e.same.0; settings = e.same.1 }) (g.met.F.FileSystem.sound c.purge_to-in-Rewrite.new.file_system))

pub returns-in-Append-clause-range : goal.returns-in-Append-clause-range
returns-in-Append-clause-range g c =
    let alive = (either_false _ _ (sym c.is_failed.ensures ∙ c.if-is_failed.false)).0 in
    let p = c.purge_to.new.self in
    let o : OnePipe = record { queue = p.layout.queue; directories = map string_bytes p.layout.paths.items; settings = p.settings; files = p.files; failed = p.failed } in
    rw c.in-Append.is (purge_ends_when InAppend _ o _ c.args.file_id.seq c.purge_to.result (c.purge_to.ensures.err alive))

pub returns-in-Rewrite-clause-range : goal.returns-in-Rewrite-clause-range
returns-in-Rewrite-clause-range g c =
    let alive = (either_false _ _ (sym c.is_failed.ensures ∙ c.if-is_failed.false)).1 in
    let p = c.purge_to-in-Rewrite.new.self in
    let o : OnePipe = record { queue = p.layout.queue; directories = map string_bytes p.layout.paths.items; settings = p.settings; files = p.files; failed = p.failed } in
    rw c.in-Rewrite.is (purge_ends_when InRewrite _ o _ c.args.file_id.seq c.purge_to-in-Rewrite.result (c.purge_to-in-Rewrite.ensures.err alive))

pub returns-in-Append-clause-told : goal.returns-in-Append-clause-told
returns-in-Append-clause-told g c = nobody_hears _ _ _

pub returns-in-Rewrite-clause-told : goal.returns-in-Rewrite-clause-told
returns-in-Rewrite-clause-told g c = nobody_hears _ _ _
