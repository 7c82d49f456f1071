use Rattle.std.proofs.Common.{List, ap, sym, subst, ◌∙◌}
use Rattle.raft_log_record_items.specs.declared.item.LogItem.{LogItem}
use Rattle.raft_log_record_batches.specs.Batch.{roomy, Batch, IsBatch}
use Rattle.raft_log_record_batches.proofs.Items.{pushed}
use Rattle.raft_log_record_batches.proofs.log_batch.LogBatch.put_as_read.Goals as goal

pub invariant_of-self-2 : goal.invariant_of-self-2
invariant_of-self-2 c =
    subst (λ (l : List LogItem). IsBatch c.self.inside.state (roomy c.self.inside.buf.items) c.self.inside.entries_len c.self.inside.checksum l) (sym c.in_ok-put.ensures.ok.0)
    (pushed c.self.inside.state (roomy c.self.inside.buf.items) c.self.inside.entries_len c.self.inside.checksum c.self.inside.items.items _ (ap (λ (b : Batch). b.state) c.self.view_is ∙ c.requires) tt c.self.invariant)
