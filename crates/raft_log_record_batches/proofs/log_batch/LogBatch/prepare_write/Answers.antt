use Rattle.std.proofs.Common.{vec_capacity, ◌≡◌, ℕ, List, ◌-◌, ◌<◌, ◌^◌, ◌++◌, length, take, drop, Option, unwrap_or, bit_xor, sym, ap, subst, ◌∙◌, arith}
use Rattle.raft_log_record_base.specs.Number.{u32_le_bytes}
use Rattle.raft_log_record_batches.specs.declared.log_batch.BatchState.{BatchState}
use Rattle.raft_log_record_batches.specs.declared.log_batch.BatchState.TheVariants.{Signed}
use Rattle.raft_log_record_batches.specs.Batch.{Batch, IsBatch, roomy, IsMade}
use Rattle.raft_log_record_batches.proofs.Items.{some_items}
use Rattle.raft_log_record_batches.proofs.Buffer.{made_long, made_roomy, signed_populates}
use Rattle.raft_log_record_batches.proofs.log_batch.LogBatch.prepare_write.Goals as goal

pub write_checksum-requires : goal.write_checksum-requires
write_checksum-requires c =
    let some : 0 < length c.self.inside.items.items = some_items c.is_empty.result c.self.inside.items.items c.is_empty.ensures c.if-is_empty.false in
    let made : IsMade c.self.inside.state = subst (λ (s : BatchState). IsMade s) (sym (ap (λ (b : Batch). b.state) c.self.view_is)) c.requires in
    omega (arith, ap (λ (l : List ℕ). length l) c.as_mut_slice.ensures.value, made_long c.self.inside.state c.self.inside.buf.items c.self.inside.checksum c.self.inside.items.items _ made some c.self.invariant.holds)

pub invariant_of-self-2 : goal.invariant_of-self-2
invariant_of-self-2 c =
    let buffer : List ℕ = c.self.inside.buf.items in
    let next : Option ℕ = c.get_signature-signature.result in
    let some : 0 < length c.self.inside.items.items = some_items c.is_empty.result c.self.inside.items.items c.is_empty.ensures c.if-is_empty.false in
    let made : IsMade c.self.inside.state = subst (λ (s : BatchState). IsMade s) (sym (ap (λ (b : Batch). b.state) c.self.view_is)) c.requires in
    let len : ℕ = c.self.inside.entries_len in
    let same : roomy buffer ≡ buffer = made_roomy c.self.inside.state buffer c.self.inside.checksum c.self.inside.items.items (take len (drop 16 (roomy buffer))) made some c.self.invariant.holds in
    let held : IsBatch c.self.inside.state buffer len c.self.inside.checksum c.self.inside.items.items = subst (λ (l : List ℕ). IsBatch c.self.inside.state l len c.self.inside.checksum c.self.inside.items.items) same c.self.invariant in
    let new : c.write_checksum.new.bytes ≡ take (length buffer - 4) buffer ++ u32_le_bytes (bit_xor c.self.inside.checksum (unwrap_or next 0)) =
    c.write_checksum.ensures ∙ ap (λ (l : List ℕ). take (length l - 4) l ++ u32_le_bytes (bit_xor c.self.inside.checksum c.unwrap_or.result)) c.as_mut_slice.ensures.value
    ∙ ap (λ (s : ℕ). take (length buffer - 4) buffer ++ u32_le_bytes (bit_xor c.self.inside.checksum s)) c.unwrap_or.ensures in
    let fits : unwrap_or next 0 < 2 ^ 32 = omega (arith, c.unwrap_or.ensures) in
    let kept : length c.write_checksum.new.bytes ≡ c.self.inside.buf.len = c.write_checksum.auto.bytes ∙ c.as_mut_slice.ensures.len in
    let all = signed_populates c.self.inside.entries_len next buffer c.write_checksum.new.bytes (drop (length c.write_checksum.new.bytes) buffer) c.self.inside.buf.len c.self.inside.checksum c.self.inside.state c.self.inside.items.items
    fits made some held.room held.holds new kept in
    record { room = all.room; fits = c.self.invariant.fits; adds = c.self.invariant.adds; laid = c.self.invariant.laid; holds = all.holds }

pub returns : goal.returns
returns c =
    let buffer : List ℕ = c.self.inside.buf.items in
    let next : Option ℕ = c.get_signature-signature.result in
    let some : 0 < length c.self.inside.items.items = some_items c.is_empty.result c.self.inside.items.items c.is_empty.ensures c.if-is_empty.false in
    let made : IsMade c.self.inside.state = subst (λ (s : BatchState). IsMade s) (sym (ap (λ (b : Batch). b.state) c.self.view_is)) c.requires in
    let len : ℕ = c.self.inside.entries_len in
    let same : roomy buffer ≡ buffer = made_roomy c.self.inside.state buffer c.self.inside.checksum c.self.inside.items.items (take len (drop 16 (roomy buffer))) made some c.self.invariant.holds in
    let held : IsBatch c.self.inside.state buffer len c.self.inside.checksum c.self.inside.items.items = subst (λ (l : List ℕ). IsBatch c.self.inside.state l len c.self.inside.checksum c.self.inside.items.items) same c.self.invariant in
    let new : c.write_checksum.new.bytes ≡ take (length buffer - 4) buffer ++ u32_le_bytes (bit_xor c.self.inside.checksum (unwrap_or next 0)) =
    c.write_checksum.ensures ∙ ap (λ (l : List ℕ). take (length l - 4) l ++ u32_le_bytes (bit_xor c.self.inside.checksum c.unwrap_or.result)) c.as_mut_slice.ensures.value
    ∙ ap (λ (s : ℕ). take (length buffer - 4) buffer ++ u32_le_bytes (bit_xor c.self.inside.checksum s)) c.unwrap_or.ensures in
    let fits : unwrap_or next 0 < 2 ^ 32 = omega (arith, c.unwrap_or.ensures) in
    let kept : length c.write_checksum.new.bytes ≡ c.self.inside.buf.len = c.write_checksum.auto.bytes ∙ c.as_mut_slice.ensures.len in
    let all = signed_populates c.self.inside.entries_len next buffer c.write_checksum.new.bytes (drop (length c.write_checksum.new.bytes) buffer) c.self.inside.buf.len c.self.inside.checksum c.self.inside.state c.self.inside.items.items
    fits made some held.room held.holds new kept in
    ap (λ (e : List ℕ). record { state = Signed next; items = c.self.inside.items.items; entries = e; capacity = c.self.inside.items.capacity; buffer = vec_capacity c.self.inside.buf }) (all.same ∙ ap (λ (l : List ℕ). take len (drop 16 l)) (sym same))
    ∙ ap (λ (b : Batch). record b { state = Signed next }) c.self.view_is
    ∙ ap (λ (s : Option ℕ). record { state = Signed s; items = c.args.self.now.items; entries = c.args.self.now.entries; capacity = c.args.self.now.capacity; buffer = c.args.self.now.buffer }) c.get_signature-signature.ensures
