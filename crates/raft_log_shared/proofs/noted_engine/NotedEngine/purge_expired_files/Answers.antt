use Rattle.std.proofs.Common.{ℕ, ◌∷◌, [], ◌++◌, ap, ◌∙◌}
use Rattle.std.specs.Global.{Vec}
use Rattle.raft_log_engine_core.specs.Reads.{shows_of}
use Rattle.raft_log_world.specs.declared.event.Answer.{Answer}
use Rattle.raft_log_world.specs.declared.event.Call.TheVariants.{Purge}
use Rattle.raft_log_world.specs.declared.event.Purge.TheVariants.{Expired}
use Rattle.raft_log_shared.specs.Calls.{answer_of}
use Rattle.raft_log_shared.proofs.Leading.{all_lead_more, purge_steps, served_after}
use Rattle.raft_log_shared.proofs.noted_engine.NotedEngine.purge_expired_files.Goals as goal

pub invariant_of-self : goal.invariant_of-self
invariant_of-self g c =
    let old = c.args.self.now in
    let s = shows_of g.P.PipeLog.shown old.engine in
    let t = shows_of g.P.PipeLog.shown c.purge_expired_files-purged.new.self in
    record {
      leads = all_lead_more g.L.Opening.began old.keeper c.note-claim.new.self (Purge Expired) (answer_of c.purge_expired_files-purged.result) s t
          (purge_steps (Vec ℕ) Expired c.purge_expired_files-purged.result s t c.purge_expired_files-purged.ensures.model)
          (c.note-claim.ensures.noted ∙ ap (λ (a : Answer). old.keeper ++ record { call = Purge Expired; answer = a } ∷ []) c.answer_to-answer.ensures) old.leads;
    }

pub returns-clause-noted : goal.returns-clause-noted
returns-clause-noted g c =
    c.note-claim.ensures.noted ∙ ap (λ (a : Answer). c.args.self.now.keeper ++ record { call = Purge Expired; answer = a } ∷ []) c.answer_to-answer.ensures

pub returns-clause-served : goal.returns-clause-served
returns-clause-served g c =
    let old = c.args.self.now in
    let s = shows_of g.P.PipeLog.shown old.engine in
    let t = shows_of g.P.PipeLog.shown c.purge_expired_files-purged.new.self in
    served_after g.L.Opening.began old.keeper (Purge Expired) (answer_of c.purge_expired_files-purged.result) s t
    (purge_steps (Vec ℕ) Expired c.purge_expired_files-purged.result s t c.purge_expired_files-purged.ensures.model) old.leads
