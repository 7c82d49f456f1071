use Rattle.std.proofs.Common.{vec_capacity, ◌≡◌, ℕ, ◌+◌, List, take, drop, ap, ◌∙◌, arith}
use Rattle.raft_log_record_batches.specs.declared.log_batch.BatchState.TheVariants.{Filling}
use Rattle.raft_log_record_batches.specs.Batch.{Batch, roomy}
use Rattle.raft_log_record_batches.proofs.Buffer.{roomy_take}
use Rattle.raft_log_record_batches.proofs.Moves.{kept_entries}
use Rattle.raft_log_record_batches.proofs.log_batch.LogBatch.unpopulate.Goals as goal

pub returns : goal.returns
returns c =
    let len : ℕ = c.self.inside.entries_len in
    let raw : List ℕ = c.self.inside.buf.items in
    let kept : take len (drop 16 (roomy c.truncate.new.self.items)) ≡ take len (drop 16 (roomy raw)) =
    ap (λ (l : List ℕ). take len (drop 16 (roomy l))) c.truncate.ensures.items ∙ ap (λ (l : List ℕ). take len (drop 16 l)) (roomy_take raw (16 + len) (omega arith)) ∙ kept_entries (roomy raw) len c.self.invariant.room in
    ap (λ (l : List ℕ). record { state = Filling; items = c.self.inside.items.items; entries = l; capacity = c.self.inside.items.capacity; buffer = vec_capacity c.truncate.new.self }) kept
    ∙ ap (λ (n : ℕ). record { state = Filling; items = c.self.inside.items.items; entries = take len (drop 16 (roomy raw)); capacity = c.self.inside.items.capacity; buffer = n }) c.truncate.ensures.capacity
    ∙ ap (λ (b : Batch). record b { state = Filling }) c.self.view_is
