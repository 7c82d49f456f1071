-- A batch has more bytes than items.
use Rattle.std.proofs.Common.{◌≡◌, ℕ, zero, suc, ◌+◌, ◌<◌, ◌≤◌, List, [], ◌∷◌, ◌++◌, length, take, drop, Option, refl, ap, ◌∙◌, arith}
use Rattle.std.proofs.lemmas.List.{length-append, length-map, length-take-le}
use Rattle.raft_log_record_base.specs.Grammar.{Times}
use Rattle.raft_log_record_base.specs.Number.{IsVarU64}
use Rattle.raft_log_record_base.specs.Files.{signature_of}
use Rattle.raft_log_record_base.specs.declared.pipe_log.FileBlockHandle.{FileBlockHandle}
use Rattle.raft_log_record_items.specs.declared.item.LogItem.{LogItem}
use Rattle.raft_log_record_items.specs.Items.{IsItem, AreItems}
use Rattle.raft_log_record_items.specs.Placed.{laid_out, placed, written_item, content_len}
use Rattle.raft_log_record_frames.specs.ItemBatch.{IsPlacedFooter}
use Rattle.raft_log_record_frames.specs.Record.{Front}
use Rattle.raft_log_record_frames.proofs.Public.{frame_is_read}
use Rattle.raft_log_file_reader.specs.Batches.{GoesOnAt, block_at, context_of}
use Rattle.raft_log_file_reader.specs.Batches.GoesOnAt.{behind_padding, at_once}
use Rattle.raft_log_file_reader.specs.Laws.{BatchesOutweighItems}
use Rattle.raft_log_file_reader.proofs.FrameReadings.{frame_of_batch}

number_takes : (bytes : List ℕ) (n : ℕ) → IsVarU64 bytes n → 0 < length bytes
number_takes [] n is = absurd is.digits
number_takes (b ∷ bs) n is = omega arith

item_takes : (bytes : List ℕ) (x : LogItem) → IsItem bytes x → 0 < length bytes
item_takes bytes x is = omega (arith, number_takes is.1 is.0 is.3, ap length is.5, length-append is.1 is.2)

times_take : (n : ℕ) (bytes : List ℕ) (xs : List LogItem) → Times IsItem n bytes xs → length xs ≤ length bytes
unfolding Times
times_take zero bytes xs is = omega (arith, ap length is.1)
times_take (suc n) bytes xs is =
    omega (arith, item_takes is.1 is.0 is.3, times_take n is.4.1 is.4.0 is.4.3, ap length is.4.4.1, ap length is.5, length-append is.1 is.2, ap length is.4.5, length-append is.4.1 is.4.2)

items_take : (bytes : List ℕ) (xs : List LogItem) → AreItems bytes xs → length xs < length bytes
items_take bytes xs is = omega (arith, number_takes is.1 is.0 is.3, times_take is.0 is.2 xs is.4, ap length is.5, length-append is.1 is.2)

laid_len : (offset : ℕ) (xs : List LogItem) → length (laid_out offset xs) ≡ length xs
laid_len offset [] = refl
laid_len offset (x ∷ xs) = ap suc (laid_len (offset + content_len x.content) xs)

placed_len : (handle : FileBlockHandle) (xs : List LogItem) → length (placed handle xs) ≡ length xs
placed_len handle xs = length-map (laid_out 0 xs) (written_item handle) ∙ laid_len 0 xs

-- the footer of a batch has more bytes than items
pub footer_outweighs : (signature : Option ℕ) (block : FileBlockHandle) (bytes : List ℕ) (batch : List LogItem) → IsPlacedFooter signature block bytes batch → length batch < length bytes
footer_outweighs signature block bytes batch is =
    omega (
      arith,
      items_take is.footer.body is.items is.footer.items_spelled,
      ap length is.footer.joined,
      length-append is.footer.body is.footer.checksum,
      ap length is.places,
      placed_len block is.items,
    )

behind : (alignment : ℕ) (content : List ℕ) (offset at : ℕ) → GoesOnAt alignment content offset at → offset ≤ at
behind alignment content offset at (behind_padding padding is) = omega (arith, is)
behind alignment content offset at (at_once free is) = omega (arith, is)

pub batches_outweigh_items_is : BatchesOutweighItems
batches_outweigh_items_is file content offset end items has =
    let frame = frame_of_batch (context_of file) has.at has.len content items has.frame in
    let front : Front = frame.0 in
    let bytes = drop has.at content in
    let stands = (frame_is_read (signature_of (context_of file)) bytes front).0 frame.1 in
    let is = stands.1 in
    let more = items_take is.footer_spelled.body front.items is.footer_spelled.items_spelled in
    let footer = ap length is.footer_spelled.joined ∙ length-append is.footer_spelled.body is.footer_spelled.checksum in
    let all = ap length is.joined ∙ length-append (is.header ++ front.bytes) is.footer in
    let size : length (take front.len bytes) ≡ front.len = length-take-le front.len bytes stands.0 in
    let same : length items ≡ length front.items = ap length frame.3 ∙ placed_len (block_at (context_of file) has.at (length front.bytes)) front.items in
    omega (arith, behind file.format.alignment content offset has.at has.goes_on, has.ends, more, footer, all, length-append is.header front.bytes, size, same, frame.2)
