use Rattle.std.proofs.Common.{List, ℕ, Some, ap, sym, ◌∙◌}
use Rattle.raft_log_engine.specs.raft_log_engine_core.specs.Reads.{shows_of}
use Rattle.raft_log_world.specs.declared.event.Call.TheVariants.{GetEntry}
use Rattle.raft_log_world_engine.proofs.Calling.{as_asked, bytes_in, entry_found, entry_not_found}
use Rattle.raft_log_world_engine.proofs.calls.get_entry.Goals as goal

pub returns-in-Ok-Some : goal.returns-in-Ok-Some
returns-in-Ok-Some g c =
    entry_found (shows_of g.P.PipeLog.shown c.args.engine.now) (shows_of g.P.PipeLog.shown c.get_entry.new.self) c.args.group c.args.index c.in-Ok-Some.field-0 _
    (ap (λ (l : List ℕ). Some l) c.into_vec.ensures ∙ sym (ap bytes_in c.in-Ok-Some.field-0-is)) c.in-Ok-Some.ensures.model

pub returns-in-Ok-None : goal.returns-in-Ok-None
returns-in-Ok-None g c =
    entry_found (shows_of g.P.PipeLog.shown c.args.engine.now) (shows_of g.P.PipeLog.shown c.get_entry.new.self) c.args.group c.args.index c.in-Ok-None.field-0 _
    (sym (ap bytes_in c.in-Ok-None.field-0-is)) c.in-Ok-None.ensures.model

pub returns : goal.returns
returns g c =
    let s = shows_of g.P.PipeLog.shown c.args.engine.now in
    let t = shows_of g.P.PipeLog.shown c.get_entry.new.self in
    as_asked s t (GetEntry c.args.group c.args.index) c.failure.result c.is_failed.result c.failure.ensures c.is_failed.ensures (entry_not_found s t c.args.group c.args.index c.in-Err.field-0 c.in-Err.ensures.model)
