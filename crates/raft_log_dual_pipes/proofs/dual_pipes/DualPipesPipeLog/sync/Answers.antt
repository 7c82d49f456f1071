use Rattle.std.proofs.Common.{map, refl, sym, ◌∙◌, ap}
use Rattle.std.specs.String.{string_bytes}
use Rattle.raft_log_machine_laws.specs.Calls.Which.{InAppend, InRewrite}
use Rattle.raft_log_dual_pipes.proofs.Exits.{sync_refused, syncs_when}
use Rattle.raft_log_dual_pipes.proofs.Pairing.{either_false}
use Rattle.raft_log_dual_pipes.proofs.dual_pipes.DualPipesPipeLog.sync.Goals as goal

pub returns-in-Append-clause-ok : goal.returns-in-Append-clause-ok
returns-in-Append-clause-ok g c =
    let e = c.sync.ensures in
    rw c.in-Append.is (syncs_when InAppend _ _ _ c.sync.result e.ok e.fails
    (record { queue = ap (λ l. l.queue) e.same.0; directories = ap (λ l. map string_bytes l.paths.items) e.same.0; settings = e.same.1 }) e.same.2)

pub returns-in-Append-clause-err : goal.returns-in-Append-clause-err
returns-in-Append-clause-err g c =
    let alive = (either_false _ _ (sym c.is_failed.ensures ∙ c.if-is_failed.false)).0 in
    rw c.in-Append.is (sync_refused InAppend _ _ c.sync.result (c.sync.ensures.err alive))

pub returns-in-Rewrite-clause-ok : goal.returns-in-Rewrite-clause-ok
returns-in-Rewrite-clause-ok g c =
    let e = c.sync-in-Rewrite.ensures in
    rw c.in-Rewrite.is (syncs_when InRewrite _ _ _ c.sync-in-Rewrite.result e.ok e.fails
    (record { queue = ap (λ l. l.queue) e.same.0; directories = ap (λ l. map string_bytes l.paths.items) e.same.0; settings = e.same.1 }) e.same.2)

pub returns-in-Rewrite-clause-err : goal.returns-in-Rewrite-clause-err
returns-in-Rewrite-clause-err g c =
    let alive = (either_false _ _ (sym c.is_failed.ensures ∙ c.if-is_failed.false)).1 in
    rw c.in-Rewrite.is (sync_refused InRewrite _ _ c.sync-in-Rewrite.result (c.sync-in-Rewrite.ensures.err alive))
