use Rattle.std.proofs.Common.{ap, ◌∙◌}
use Rattle.std.proofs.lemmas.Result.{err_from_is_err_and}
use Rattle.raft_log_record_batches.specs.Batch.{Batch}
use Rattle.raft_log_purge_copy.proofs.Marking.{item_for_memory}
use Rattle.raft_log_purge_copy.proofs.marks.marks_batch.Goals as goal

pub returns-clause-bare : goal.returns-clause-bare
returns-clause-bare c = c.in_ok-add_marks.ensures.bare ∙ ap (λ (b : Batch). b.entries) c.in_ok-batch.ensures

pub returns-in_err-batch-clause-errors : goal.returns-in_err-batch-clause-errors
returns-in_err-batch-clause-errors c =
    let p = err_from_is_err_and c.from_residual.result c.from_residual.ensures.1 in
    rw p.1 (item_for_memory c.args.marks.now p.0 p.2)

pub returns-in_err-add_marks-clause-errors : goal.returns-in_err-add_marks-clause-errors
returns-in_err-add_marks-clause-errors c =
    let p = err_from_is_err_and c.from_residual-in_err-add_marks.result c.from_residual-in_err-add_marks.ensures.1 in
    rw (p.1, p.2) c.in_err-add_marks.ensures.errors
