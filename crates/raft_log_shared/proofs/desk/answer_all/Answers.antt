use Rattle.std.proofs.Common.{◌<◌, ℕ, sym, ap, subst, ◌∙◌}
use Rattle.std.specs.List.{All, list_any}
use Rattle.raft_log_shared.specs.Receipts.{waits}
use Rattle.raft_log_shared.proofs.Ending.{none_of}
use Rattle.raft_log_shared.proofs.desk.answer_all.Goals as goal

pub answer_unsynced-requires-clause-none : goal.answer_unsynced-requires-clause-none
answer_unsynced-requires-clause-none g c =
    none_of (λ part. waits part.sync part.result) c.args.parts.items
    (sym (c.any_waits.ensures ∙ ap (λ parts. list_any (λ part. waits part.sync part.result) parts) c.as_slice.ensures.value) ∙ c.if-not-any_waits.true)

pub answer_synced-requires-clause-before : goal.answer_synced-requires-clause-before
answer_synced-requires-clause-before g c =
    subst (λ (n : ℕ). All (λ part. part.claim.0 < n) c.args.parts.items) (sym c.sync-sync.ensures.claim) c.requires.before
