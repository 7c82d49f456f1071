use Rattle.std.proofs.Common.{◌≡◌, ◌<◌, List, ℕ, [], length, take, drop, map, sym, ap, subst, ◌∙◌, arith}
use Rattle.raft_log_record_items.specs.declared.item.LogItem.{LogItem}
use Rattle.raft_log_record_items.specs.Writing.{plain_item}
use Rattle.raft_log_record_batches.specs.declared.log_batch.BatchState.{BatchState}
use Rattle.raft_log_record_frames.specs.Record.{IsRecord}
use Rattle.raft_log_record_frames.specs.Made.{HoldsRecordBytes}
use Rattle.raft_log_record_batches.specs.Batch.{Batch, IsSigned, batch_bytes, signature_in, roomy}
use Rattle.raft_log_record_frames.specs.Written.{AreBytes}
use Rattle.raft_log_record_batches.proofs.Buffer.{made_roomy, batch_record as bytes_of_some}
use Rattle.raft_log_record_batches.proofs.Items.{some_items, signed_is_made}
use Rattle.raft_log_record_batches.proofs.Encoded.{signed_holds, batch_record}
use Rattle.raft_log_record_batches.proofs.log_batch.LogBatch.encoded_bytes.Goals as goal

pub returns-clause-whole : goal.returns-clause-whole
returns-clause-whole c = λ some.
    let raw : List ℕ = c.self.inside.buf.items in
    let items : List LogItem = c.self.inside.items.items in
    let len : ℕ = c.self.inside.entries_len in
    let entries : List ℕ = take len (drop 16 (roomy raw)) in
    let signed : IsSigned c.self.inside.state = subst (λ (s : BatchState). IsSigned s) (sym (ap (λ (b : Batch). b.state) c.self.view_is)) c.requires in
    let there : 0 < length items = some_items c.is_empty.result items c.is_empty.ensures c.if-is_empty.false in
    let same : roomy raw ≡ raw = made_roomy c.self.inside.state raw c.self.inside.checksum items entries (signed_is_made c.self.inside.state signed) there c.self.invariant.holds in
    let whole : c.as_slice-bytes.result.now ≡ roomy raw = c.as_slice-bytes.ensures.value ∙ sym same in
    let is_record = λ (h : items ≡ [] → ⊥). batch_record c.self.inside.state (roomy raw) len c.self.inside.checksum items signed h c.self.invariant (subst (λ (l : List ℕ). AreBytes l) whole c.are_bytes.ensures) in
    subst (λ (b : Batch). (b.items ≡ [] → ⊥) → IsRecord (signature_in b.state) c.as_slice-bytes.result.now (map plain_item b.items) b.entries) c.self.view_is
    (λ (h : items ≡ [] → ⊥). subst (λ (l : List ℕ). IsRecord (signature_in c.self.inside.state) l (map plain_item items) entries) (sym whole) (is_record h)) some

pub returns-clause-exact : goal.returns-clause-exact
returns-clause-exact c =
    let raw : List ℕ = c.self.inside.buf.items in
    let items : List LogItem = c.self.inside.items.items in
    let entries : List ℕ = take c.self.inside.entries_len (drop 16 (roomy raw)) in
    let signed : IsSigned c.self.inside.state = subst (λ (s : BatchState). IsSigned s) (sym (ap (λ (b : Batch). b.state) c.self.view_is)) c.requires in
    let there : 0 < length items = some_items c.is_empty.result items c.is_empty.ensures c.if-is_empty.false in
    let same : roomy raw ≡ raw = made_roomy c.self.inside.state raw c.self.inside.checksum items entries (signed_is_made c.self.inside.state signed) there c.self.invariant.holds in
    let some : items ≡ [] → ⊥ = λ e. absurd (omega (arith, there, ap (λ (l : List LogItem). length l) e)) in
    let held : HoldsRecordBytes (signature_in c.self.inside.state) (roomy raw) c.self.inside.checksum items entries = signed_holds c.self.inside.state (roomy raw) c.self.inside.checksum items entries signed some c.self.invariant.holds in
    let exact : c.as_slice-bytes.result.now ≡ batch_bytes (signature_in c.self.inside.state) items entries =
    c.as_slice-bytes.ensures.value ∙ sym same ∙ held.bytes ∙ sym (bytes_of_some (signature_in c.self.inside.state) items entries there) in
    subst (λ (b : Batch). c.as_slice-bytes.result.now ≡ batch_bytes (signature_in b.state) b.items b.entries) c.self.view_is exact
