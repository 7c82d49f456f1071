use Rattle.std.proofs.Common.{◌≡◌, ℕ, List, ap, subst, ◌∙◌, length, map}
use Rattle.std.proofs.lemmas.Result.{err_from_is_err_and}
use Rattle.raft_log_record_batches.specs.Batch.{Batch}
use Rattle.raft_log_record_batches.specs.Entries.{IsEntriesRefusal, indexes_of, slices_bytes}
use Rattle.raft_log_purge_copy.proofs.entries.run_batch.Goals as goal

pub returns-in_err-add_raw_entries-clause-errors : goal.returns-in_err-add_raw_entries-clause-errors
returns-in_err-add_raw_entries-clause-errors c =
    let error = c.in_err-add_raw_entries.field-0.0 in
    let indexes = indexes_of c.args.entries.now in
    let none : length c.in_ok-batch.batch.entries ≡ 0 = ap (λ (b : Batch). length b.entries) c.in_ok-batch.ensures in
    let same : slices_bytes c.as_slice.result.now ≡ map (λ e. e.bytes) c.args.read.now = ap slices_bytes c.as_slice.ensures.value ∙ c.in_ok-slices.ensures in
    let p = err_from_is_err_and c.from_residual-in_err-add_raw_entries.result c.from_residual-in_err-add_raw_entries.ensures.1 in
    rw (p.1, p.2)
    (subst (λ (l : List (List ℕ)). IsEntriesRefusal error 0 indexes l) same
    (subst (λ (n : ℕ). IsEntriesRefusal error n indexes (slices_bytes c.as_slice.result.now)) none c.in_err-add_raw_entries.ensures.errors))
