use Rattle.std.proofs.Common.{subst, sym}
use Rattle.raft_log_engine.specs.raft_log_engine_core.specs.Reads.{shows_of}
use Rattle.raft_log_world.specs.declared.event.Answer.{Answer}
use Rattle.raft_log_world.specs.declared.event.Call.TheVariants.{LastIndex}
use Rattle.raft_log_world_engine.specs.Calls.{ServesAs}
use Rattle.raft_log_world_engine.proofs.Calling.{as_asked, index_not_read, last_read}
use Rattle.raft_log_world_engine.proofs.calls.last_index.Goals.{in-Ok, in-Err}
use Rattle.raft_log_world_engine.proofs.calls.last_index.Goals as goal

pub returns : goal.returns
returns g c =
    let s = shows_of g.P.PipeLog.shown c.args.engine.now in
    let call = LastIndex c.args.group in
    elim c.match-last_index.branch [
      | in-Ok w ↦ subst (λ (a : Answer). ServesAs s call a s) (sym w.result-is) (last_read s c.args.group w.in-Ok.index w.in-Ok.ensures.lived w.in-Ok.ensures.ok)
      | in-Err w ↦
          subst (λ (a : Answer). ServesAs s call a s) (sym w.result-is)
          (as_asked s s call w.failure.result w.is_failed.result w.failure.ensures w.is_failed.ensures (index_not_read call s w.in-Err.ensures.err.1))
    ]
