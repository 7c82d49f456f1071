use Rattle.std.proofs.Common.{ap, ◌∙◌}
use Rattle.raft_log_record_batches.specs.Batch.{roomy, Batch}
use Rattle.raft_log_record_batches.proofs.Items.{added_or_not, room_alone}
use Rattle.raft_log_record_batches.proofs.log_batch.LogBatch.delete_as_read.Goals as goal

pub invariant_of-self : goal.invariant_of-self
invariant_of-self c =
    added_or_not c.delete.result c.self.inside.state (roomy c.self.inside.buf.items) c.self.inside.entries_len c.self.inside.checksum c.self.inside.items c.delete.new.self _
    (ap (λ (b : Batch). b.state) c.self.view_is ∙ c.requires) tt c.self.invariant c.delete.ensures.ok (room_alone c.delete.result c.self.inside.items c.delete.new.self c.delete.ensures.err)
