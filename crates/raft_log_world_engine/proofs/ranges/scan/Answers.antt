use Rattle.std.proofs.Common.{ℕ, List, subst}
use Rattle.raft_log_world_engine.specs.Calls.{HasCopiedKeys}
use Rattle.raft_log_engine.specs.raft_log_engine_core.specs.Reads.{shows_of}
use Rattle.raft_log_world.specs.declared.event.Call.TheVariants.{Scan}
use Rattle.raft_log_world_engine.proofs.Calling.{as_asked}
use Rattle.raft_log_world_engine.proofs.Reading.{not_scanned, scan_served}
use Rattle.raft_log_world_engine.proofs.ranges.scan.Goals as goal

pub returns-in-Ok : goal.returns-in-Ok
returns-in-Ok g c =
    let s = shows_of g.P.PipeLog.shown c.args.engine.now in
    scan_served s c.args.group c.args.start c.args.end c.in-Ok.pairs.items c.told_keys.result c.in-Ok.ensures.lived c.in-Ok.ensures.ok (subst (λ (ps : List (List ℕ × List ℕ)). HasCopiedKeys ps c.told_keys.result) c.as_slice.ensures.value c.told_keys.ensures)

pub returns : goal.returns
returns g c =
    let s = shows_of g.P.PipeLog.shown c.args.engine.now in
    as_asked s s (Scan c.args.group c.args.start c.args.end) c.failure.result c.is_failed.result c.failure.ensures c.is_failed.ensures (not_scanned s c.args.group c.args.start c.args.end)
