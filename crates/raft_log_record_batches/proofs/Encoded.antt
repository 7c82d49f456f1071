-- The bytes of a batch that is signed are a record.
use Rattle.std.proofs.Common.{◌≡◌, ℕ, ◌+◌, ◌<◌, ◌^◌, List, [], ◌∷◌, ◌++◌, length, take, drop, map, Option, refl, sym, ap, ◌∙◌, subst, arith}
use Rattle.std.proofs.lemmas.List.{length-take-le, length-drop}
use Rattle.raft_log_record_items.specs.declared.item.LogItem.{LogItem}
use Rattle.raft_log_record_items.specs.Placed.{entries_len}
use Rattle.raft_log_record_items.specs.Writing.{items_bytes, plain_item}
use Rattle.raft_log_record_base.specs.Number.{u32_le_bytes}
use Rattle.raft_log_record_batches.specs.declared.log_batch.BatchState.{BatchState}
use Rattle.raft_log_record_batches.specs.declared.log_batch.BatchState.TheVariants.{Filling, Populated, Signed, Written}
use Rattle.raft_log_record_frames.specs.Record.{signed, header_bytes, block_bytes, footer_bytes, record_len, record_bytes, IsRecord}
use Rattle.raft_log_record_frames.specs.Made.{HoldsRecordBytes}
use Rattle.raft_log_record_batches.specs.Batch.{HoldsIn, IsBatch, IsMade, IsSigned, IsReadyForEach, signature_in}
use Rattle.raft_log_record_frames.specs.Written.{AreBytes}
use Rattle.raft_log_record_batches.proofs.Buffer.{made_holds, batch_record as bytes_of_some}
use Rattle.raft_log_record_frames.proofs.Public.{block_more, record-length, written_is_record}

front_bytes : (a b : List ℕ) → AreBytes (a ++ b) → AreBytes a
front_bytes [] b h = tt
front_bytes (x ∷ xs) b h = (h.0, front_bytes xs b h.1)

back_bytes : (a b : List ℕ) → AreBytes (a ++ b) → AreBytes b
back_bytes [] b h = h
back_bytes (x ∷ xs) b h = back_bytes xs b h.1

item_part : (signature : Option ℕ) (items : List LogItem) (entries : List ℕ) → AreBytes (record_bytes signature items entries) → AreBytes (items_bytes items)
unfolding record_bytes footer_bytes
item_part signature items entries h =
    front_bytes (items_bytes items) (u32_le_bytes (signed signature (items_bytes items)))
    (back_bytes (header_bytes (record_len items entries) (16 + length (block_bytes entries)) ++ block_bytes entries) (footer_bytes signature items) h)

entry_part : (signature : Option ℕ) (items : List LogItem) (entries : List ℕ) → AreBytes (record_bytes signature items entries) → AreBytes entries
unfolding record_bytes
entry_part signature items entries h =
    let header : List ℕ = header_bytes (record_len items entries) (16 + length (block_bytes entries)) in
    let more = block_more entries in
    front_bytes entries more.0 (subst (λ (l : List ℕ). AreBytes l) more.1 (back_bytes header (block_bytes entries) (front_bytes (header ++ block_bytes entries) (footer_bytes signature items) h)))

held_record : (signature : Option ℕ) (buffer : List ℕ) (sum : ℕ) (items : List LogItem) (entries : List ℕ) → HoldsRecordBytes signature buffer sum items entries → entries_len items ≡ length entries → length entries < 2 ^ 32
    → AreBytes buffer → IsRecord signature buffer (map plain_item items) entries
held_record signature buffer sum items entries h adds fits all =
    let all' : AreBytes (record_bytes signature items entries) = subst (λ (l : List ℕ). AreBytes l) h.bytes all in
    subst (λ (l : List ℕ). IsRecord signature l (map plain_item items) entries) (sym h.bytes)
    (written_is_record signature items entries h.signs h.spelled (item_part signature items entries all') (entry_part signature items entries all') adds fits h.short)

pub signed_holds : (state : BatchState) (buffer : List ℕ) (sum : ℕ) (items : List LogItem) (entries : List ℕ) → IsSigned state → (items ≡ [] → ⊥) → HoldsIn state buffer sum items entries → HoldsRecordBytes (signature_in state) buffer sum items entries
signed_holds Filling buffer sum items entries h some held = absurd h
signed_holds Populated buffer sum items entries h some held = absurd h
signed_holds (Signed signature) buffer sum [] entries h some held = absurd (some refl)
signed_holds (Signed signature) buffer sum (x ∷ xs) entries h some held = held
signed_holds Written buffer sum items entries h some held = absurd h

pub batch_record : (state : BatchState) (buffer : List ℕ) (len sum : ℕ) (items : List LogItem) → IsSigned state → (items ≡ [] → ⊥) → IsBatch state buffer len sum items → AreBytes buffer
    → IsRecord (signature_in state) buffer (map plain_item items) (take len (drop 16 buffer))
batch_record state buffer len sum items h some b all =
    let entries : List ℕ = take len (drop 16 buffer) in
    let count : length entries ≡ len = length-take-le len (drop 16 buffer) (omega (arith, b.room, length-drop 16 buffer)) in
    held_record (signature_in state) buffer sum items entries (signed_holds state buffer sum items entries h some b.holds) (omega (arith, b.adds, count)) (omega (arith, b.fits, count)) all

-- the bytes of a batch that is made are a record of it in each file
pub batch_ready : (state : BatchState) (buffer : List ℕ) (len sum : ℕ) (items : List LogItem) → IsMade state → 0 < length items → IsBatch state buffer len sum items → AreBytes buffer
    → IsReadyForEach (length buffer) items (take len (drop 16 buffer))
batch_ready state buffer len sum items made some b all =
    let entries : List ℕ = take len (drop 16 buffer) in
    let count : length entries ≡ len = length-take-le len (drop 16 buffer) (omega (arith, b.room, length-drop 16 buffer)) in
    let held = made_holds state buffer sum items entries made some b.holds in
    let h = held.1 in
    let all' : AreBytes (record_bytes held.0 items entries) = subst (λ (l : List ℕ). AreBytes l) h.bytes all in
    let size : length buffer ≡ record_len items entries = ap (λ (l : List ℕ). length l) h.bytes ∙ record-length held.0 items entries in
    record {
      size = λ signature. ap (λ (l : List ℕ). length l) (bytes_of_some signature items entries some) ∙ record-length signature items entries ∙ sym size;
      whole = λ signature fits not_empty.
          subst (λ (l : List ℕ). IsRecord signature l (map plain_item items) entries) (sym (bytes_of_some signature items entries some))
          (written_is_record signature items entries fits h.spelled (item_part held.0 items entries all') (entry_part held.0 items entries all') (omega (arith, b.adds, count)) (omega (arith, b.fits, count)) h.short);
    }
