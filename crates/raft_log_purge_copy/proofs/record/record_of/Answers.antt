use Rattle.std.proofs.Common.{ap, ◌∙◌}
use Rattle.raft_log_record_batches.specs.Batch.{Batch}
use Rattle.raft_log_purge_copy.proofs.PartExits.{record_is_made}
use Rattle.raft_log_purge_copy.proofs.record.record_of.Goals as goal

pub returns-clause-ok : goal.returns-clause-ok
returns-clause-ok c =
    let e = c.encoded_len.ensures in
    record_is_made c.args.batch c.new-signed.result.batch
    (ap (λ (b : Batch). b.items) c.new-signed.ensures ∙ ap (λ (b : Batch). b.items) c.in_ok-finish_populate.ensures.ok)
    (ap (λ (b : Batch). b.entries) c.new-signed.ensures ∙ ap (λ (b : Batch). b.entries) c.in_ok-finish_populate.ensures.ok)
    e.says e.laid e.adds
