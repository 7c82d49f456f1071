use Rattle.std.proofs.Common.{◌∷◌, [], ◌++◌, length, ◌∙◌}
use Rattle.raft_log_shared.proofs.noted_engine.written.Goals as goal

pub returns-clause-noted : goal.returns-clause-noted
returns-clause-noted g c =
    c.note-claim.ensures.noted ∙ (λ i. c.args.keeper.now ++ record { call = c.requires i; answer = c.answer_to-answer.ensures i } ∷ [])

pub returns-clause-claim : goal.returns-clause-claim
returns-clause-claim g c =
    c.note-claim.ensures.claim ∙ (λ i. (length c.args.keeper.now, record { call = c.requires i; answer = c.answer_to-answer.ensures i } ∷ []))

pub returns-clause-home : goal.returns-clause-home
returns-clause-home g c =
    let wrote = c.write-result.ensures in
    record { emptied = wrote.emptied; bounded = wrote.bounded; kept = wrote.kept; again = wrote.again }
