use Rattle.std.proofs.Common.{ap, ◌∙◌}
use Rattle.raft_log_record_batches.specs.Batch.{roomy, Batch}
use Rattle.raft_log_record_batches.proofs.Items.{added_or_not, same_items}
use Rattle.raft_log_record_batches.proofs.log_batch.LogBatch.add_command.Goals as goal

pub invariant_of-self : goal.invariant_of-self
invariant_of-self c =
    added_or_not c.add_command.result c.self.inside.state (roomy c.self.inside.buf.items) c.self.inside.entries_len c.self.inside.checksum c.self.inside.items c.add_command.new.self _
    (ap (λ (b : Batch). b.state) c.self.view_is ∙ c.requires) tt c.self.invariant c.add_command.ensures.ok (same_items c.add_command.result c.self.inside.items c.add_command.new.self c.add_command.ensures.err)
