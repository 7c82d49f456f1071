use Rattle.std.proofs.Common.{false}
use Rattle.raft_log_engine_core.specs.Reads.{shows_of}
use Rattle.raft_log_world.specs.declared.event.Call.TheVariants.{Write}
use Rattle.raft_log_shared.specs.Calls.{answer_of}
use Rattle.raft_log_shared.proofs.Leading.{all_lead_more, write_steps}
use Rattle.raft_log_shared.proofs.noted_engine.NotedEngine.write.Goals as goal

pub invariant_of-self : goal.invariant_of-self
invariant_of-self g c =
    let old = c.args.self.now in
    let s = shows_of g.P.PipeLog.shown old.engine in
    let t = shows_of g.P.PipeLog.shown c.written.new.engine in
    let made = c.written.ensures in
    record {
      leads = all_lead_more g.L.Opening.began old.keeper c.written.new.keeper (Write c.args.batch.now false) (answer_of c.written.result.0) s t
          (write_steps c.args.batch.now c.written.result.0 s t made.model) made.noted old.leads;
    }

pub returns-clause-home : goal.returns-clause-home
returns-clause-home g c = ∣ c.written.ensures.home ∣₁
