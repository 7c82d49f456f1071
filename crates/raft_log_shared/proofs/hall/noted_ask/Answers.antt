use Rattle.std.proofs.Common.{◌≡◌, ℕ, ◌∷◌, [], ◌++◌, List, length, sym, ap, ◌∙◌}
use Rattle.raft_log_record_batches.specs.Batch.{Batch}
use Rattle.raft_log_world.specs.declared.event.Answer.TheVariants.{Idle}
use Rattle.raft_log_world.specs.declared.event.Call.{Call}
use Rattle.raft_log_shared.specs.declared.served.Served.{Served}
use Rattle.raft_log_shared.specs.Requests.{asked, wish_of}
use Rattle.raft_log_shared.proofs.Ending.{claims_so}
use Rattle.raft_log_shared.proofs.hall.noted_ask.Goals as goal

pub new-requires-clause-number : goal.new-requires-clause-number
new-requires-clause-number g c = c.requires.number ∙ sym (ap (λ (p : ℕ × List Served). p.0) c.note-claim.ensures.claim)

pub new-requires-clause-claims : goal.new-requires-clause-claims
new-requires-clause-claims g c =
    claims_so c.note-claim.result (length c.args.asks.now) c.args._batch.now c.args._sync
    (c.note-claim.ensures.claim ∙ ap (λ (call : Call Batch). (length c.args.asks.now, record { call = call; answer = Idle } ∷ [])) c.requires.call)

pub returns-clause-noted : goal.returns-clause-noted
returns-clause-noted g c =
    c.note-claim.ensures.noted ∙ ap (λ (call : Call Batch). c.args.asks.now ++ record { call = call; answer = Idle } ∷ []) c.requires.call

pub returns-clause-ask : goal.returns-clause-ask
returns-clause-ask g c =
    let claim : c.note-claim.result ≡ (length c.args.asks.now, asked c.args._batch.now c.args._sync ∷ []) =
    c.note-claim.ensures.claim ∙ ap (λ (call : Call Batch). (length c.args.asks.now, record { call = call; answer = Idle } ∷ [])) c.requires.call in
    c.new.ensures ∙ ap wish_of claim
    ∙ ap (λ (n : ℕ). record { number = n; batch = c.args._batch.now; sync = c.args._sync }) (sym c.requires.number)
