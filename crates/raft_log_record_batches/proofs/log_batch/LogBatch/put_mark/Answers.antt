use Rattle.std.proofs.Common.{ap, ◌∙◌}
use Rattle.raft_log_record_batches.specs.Batch.{roomy, Batch}
use Rattle.raft_log_record_batches.proofs.Items.{added_or_not, room_alone}
use Rattle.raft_log_record_batches.proofs.log_batch.LogBatch.put_mark.Goals as goal

pub invariant_of-self : goal.invariant_of-self
invariant_of-self c =
    added_or_not c.put.result c.self.inside.state (roomy c.self.inside.buf.items) c.self.inside.entries_len c.self.inside.checksum c.self.inside.items c.put.new.self _
    (ap (λ (b : Batch). b.state) c.self.view_is ∙ c.requires) tt c.self.invariant c.put.ensures.ok (room_alone c.put.result c.self.inside.items c.put.new.self c.put.ensures.err)
