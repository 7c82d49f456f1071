use Rattle.std.proofs.Common.{vec_capacity, ◌≡◌, ◌<◌, ℕ, List, length, take, drop, sym, ap, subst, ◌∙◌}
use Rattle.raft_log_record_frames.specs.Written.{AreBytes}
use Rattle.raft_log_record_batches.specs.declared.log_batch.BatchState.{BatchState}
use Rattle.raft_log_record_batches.specs.Batch.{Batch, roomy, IsMade, IsReadyForEach}
use Rattle.raft_log_record_batches.proofs.Items.{some_items}
use Rattle.raft_log_record_batches.proofs.Buffer.{made_roomy}
use Rattle.raft_log_record_batches.proofs.Encoded.{batch_ready}
use Rattle.raft_log_record_batches.proofs.Places.{view_laid}
use Rattle.raft_log_record_batches.proofs.log_batch.LogBatch.encoded_len.Goals as goal

pub returns-clause-ready : goal.returns-clause-ready
returns-clause-ready c =
    let buffer : List ℕ = c.self.inside.buf.items in
    let some : 0 < length c.self.inside.items.items = some_items c.is_empty.result c.self.inside.items.items c.is_empty.ensures c.if-is_empty.false in
    let made : IsMade c.self.inside.state = subst (λ (s : BatchState). IsMade s) (sym (ap (λ (b : Batch). b.state) c.self.view_is)) c.requires in
    let n : ℕ = c.self.inside.entries_len in
    let same : roomy buffer ≡ buffer = made_roomy c.self.inside.state buffer c.self.inside.checksum c.self.inside.items.items (take n (drop 16 (roomy buffer))) made some c.self.invariant.holds in
    let all : AreBytes (roomy buffer) = subst (λ (l : List ℕ). AreBytes l) (c.as_slice.ensures.value ∙ sym same) c.are_bytes.ensures in
    let len : c.len.result ≡ length (roomy buffer) = c.len.ensures ∙ c.self.inside.buf.ok.0 ∙ ap (λ (l : List ℕ). length l) (sym same) in
    subst (λ (b : Batch). IsReadyForEach c.len.result b.items b.entries) c.self.view_is
    (subst (λ (n : ℕ). IsReadyForEach n c.self.inside.items.items (take c.self.inside.entries_len (drop 16 (roomy buffer)))) (sym len)
    (batch_ready c.self.inside.state (roomy buffer) c.self.inside.entries_len c.self.inside.checksum c.self.inside.items.items made some c.self.invariant all))

pub returns-clause-laid : goal.returns-clause-laid
returns-clause-laid c =
    (view_laid c.self.inside.state (roomy c.self.inside.buf.items) c.self.inside.entries_len c.self.inside.checksum c.self.inside.items.capacity (vec_capacity c.self.inside.buf) c.self.inside.items.items c.args.self.now c.self.view_is c.self.invariant).0

pub returns-clause-adds : goal.returns-clause-adds
returns-clause-adds c =
    (view_laid c.self.inside.state (roomy c.self.inside.buf.items) c.self.inside.entries_len c.self.inside.checksum c.self.inside.items.capacity (vec_capacity c.self.inside.buf) c.self.inside.items.items c.args.self.now c.self.view_is c.self.invariant).1
