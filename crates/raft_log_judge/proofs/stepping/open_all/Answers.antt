use Rattle.std.proofs.Common.{◌≡◌, ◌∷◌, ◌++◌, ◌+◌, [], List, drop, map, ap, append_assoc, sym, rules, ◌∙◌}
use Rattle.raft_log_model_laws.specs.Groups.{taken}
use Rattle.raft_log_judge.specs.declared.candidate.Candidate.{Candidate}
use Rattle.raft_log_judge.specs.declared.change.Change.{Change}
use Rattle.raft_log_judge.specs.Candidates.{log_of, opened_logs, pending_of}
use Rattle.raft_log_judge.specs.Changes.{says_of}
use Rattle.raft_log_judge.proofs.Held.{one_more_log, one_opened}
use Rattle.raft_log_judge.proofs.Supporting.{first_left}
use Rattle.raft_log_judge.proofs.stepping.open_all.Goals as goal

pub loop-batch-preserved : goal.loop-batch-preserved
loop-batch-preserved c =
    let (at, more, is, adds, same) = c.loop-batch.invariant in
    let batch = c.batch-item.result in
    let copy = c.in_ok-copied.field-0 in
    let rest = drop (c.loop-batch.batch-index + 1) c.pending-pending.result.now in
    let split = first_left c.pending-pending.result.now c.loop-batch.batch-index batch batch c.loop-batch-test.true c.batch-item.is in
    let pushed : c.push_back.new.self.items ≡ c.loop-batch.nexts.items ++ copy ∷ [] = search rules in
    let copied = c.in_ok-copied_batch.ensures ∙ c.as_slice.ensures in (
      taken at (says_of batch ∷ []),
      more ++ copy ∷ [],
      c.turned-current.ensures ∙ one_more_log c.loop-batch.current c.in_ok-more.more at batch is c.in_ok-more.ensures.durable
          (c.in_ok-more.ensures.pending ∙ ap (λ (b : List Change). pending_of c.loop-batch.current ++ says_of b ∷ []) copied),
      pushed ∙ ap (λ (xs : List Candidate). xs ++ copy ∷ []) adds ∙ append_assoc c.args.nexts.now.items more (copy ∷ []),
      one_opened at more copy batch rest (c.in_ok-copied.ensures ∙ is) ∙ ap (λ (xs : List (List Change)). map log_of more ++ opened_logs at (map says_of xs)) (sym split) ∙ same,
    )
