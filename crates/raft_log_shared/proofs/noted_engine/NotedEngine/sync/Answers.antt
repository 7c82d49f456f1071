use Rattle.std.proofs.Common.{◌≡◌, ℕ, ◌∷◌, [], ◌++◌, List, sym, ap, ◌∙◌}
use Rattle.raft_log_engine_core.specs.Reads.{shows_of}
use Rattle.raft_log_world.specs.declared.event.Answer.{Answer}
use Rattle.raft_log_world.specs.declared.event.Call.TheVariants.{Sync}
use Rattle.raft_log_shared.specs.declared.served.Served.{Served}
use Rattle.raft_log_shared.specs.Calls.{answer_of}
use Rattle.raft_log_shared.specs.Receipts.{sync_answer}
use Rattle.raft_log_shared.proofs.Ending.{sync_answered}
use Rattle.raft_log_shared.proofs.Leading.{all_lead_more, sync_steps}
use Rattle.raft_log_shared.proofs.noted_engine.NotedEngine.sync.Goals as goal

pub invariant_of-self : goal.invariant_of-self
invariant_of-self g c =
    let old = c.args.self.now in
    let s = shows_of g.P.PipeLog.shown old.engine in
    let t = shows_of g.P.PipeLog.shown c.sync-synced.new.self in
    record {
      leads = all_lead_more g.L.Opening.began old.keeper c.note-claim.new.self Sync (answer_of c.sync-synced.result) s t
          (sync_steps c.sync-synced.result s t c.sync-synced.ensures.model)
          (c.note-claim.ensures.noted ∙ ap (λ (a : Answer). old.keeper ++ record { call = Sync; answer = a } ∷ []) c.answer_to-answer.ensures) old.leads;
    }

pub returns-clause-noted : goal.returns-clause-noted
returns-clause-noted g c =
    let old = c.args.self.now in
    let s = shows_of g.P.PipeLog.shown old.engine in
    let t = shows_of g.P.PipeLog.shown c.sync-synced.new.self in
    let answer : c.answer_to-answer.result ≡ sync_answer c.is_err.result =
    c.answer_to-answer.ensures ∙ sync_answered c.sync-synced.result s t c.sync-synced.ensures.err ∙ ap sync_answer (sym c.is_err.ensures.value) in
    c.note-claim.ensures.noted ∙ ap (λ (a : Answer). old.keeper ++ record { call = Sync; answer = a } ∷ []) answer

pub invariant_of-result : goal.invariant_of-result
invariant_of-result g c =
    let old = c.args.self.now in
    let s = shows_of g.P.PipeLog.shown old.engine in
    let t = shows_of g.P.PipeLog.shown c.sync-synced.new.self in
    let answer : c.answer_to-answer.result ≡ sync_answer c.is_err.result =
    c.answer_to-answer.ensures ∙ sync_answered c.sync-synced.result s t c.sync-synced.ensures.err ∙ ap sync_answer (sym c.is_err.ensures.value) in
    record { is = ap (λ (p : ℕ × List Served). p.1) c.note-claim.ensures.claim ∙ ap (λ (a : Answer). record { call = Sync; answer = a } ∷ []) answer }
