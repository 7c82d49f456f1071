-- What is written is a record.
use Rattle.std.proofs.Common.{◌≡◌, ℕ, zero, suc, ◌+◌, ◌*◌, ◌/◌, ◌%◌, ◌<◌, ◌^◌, List, [], ◌∷◌, ◌++◌, length, map, get_or, eqb, true, false, Bool, cond, Option, None, unwrap_or, ◌⊎◌, inl, inr, refl, sym, ap, ◌∙◌, subst, arith, bit_xor}
use Rattle.std.proofs.lemmas.Nat.{xor_of_32, from_le_bytes-to_le_bytes_4, from_be_bytes-to_be_bytes_8}
use Rattle.std.proofs.lemmas.List.{length-append}
use Rattle.std.proofs.lemmas.List.Sums.{sum_by-append}
use Rattle.raft_log_record_checksum.specs.Checksum.{crc_bit, crc_bits, crc_after, crc32_of}
use Rattle.raft_log_record_base.specs.Number.{IsU64, IsU32Le, u32_le_bytes, u64_bytes}
use Rattle.raft_log_record_items.specs.declared.item.LogItem.{LogItem}
use Rattle.raft_log_record_items.specs.declared.item.LogItemContent.{LogItemContent}
use Rattle.raft_log_record_items.specs.declared.item.LogItemContent.TheVariants as contents
use Rattle.raft_log_record_items.specs.declared.entry.EntryIndex.{EntryIndex}
use Rattle.raft_log_record_items.specs.Items.{AreItems}
use Rattle.raft_log_record_items.specs.Run.{unplaced}
use Rattle.raft_log_record_items.specs.Placed.{run_len, content_len, entries_len}
use Rattle.raft_log_record_items.specs.Writing.{items_bytes, plain_item, plain_content}
use Rattle.raft_log_record_frames.specs.Record.{signed, block_bytes, footer_bytes, header_bytes, record_len, record_bytes, IsHeader, IsBlock, IsFooter, IsRecord, AddsUp}
use Rattle.raft_log_record_frames.specs.Made.{IsPlainFooter}
use Rattle.raft_log_record_frames.specs.Written.{AreBytes}
use Rattle.raft_log_record_frames.proofs.Made.{four_bytes, record-length}

-- ---- bytes

pub are_bytes : (xs : List ℕ) → ((i : ℕ) → get_or xs i 0 < 256) → AreBytes xs
are_bytes [] h = tt
are_bytes (x ∷ xs) h = (h 0, are_bytes xs (λ i. h (suc i)))

-- ---- a checksum has 32 bits

pick_fits : (b : Bool) (x y : ℕ) → x < 2 ^ 32 → y < 2 ^ 32 → cond b x y < 2 ^ 32
pick_fits true x y p q = p
pick_fits false x y p q = q

bit_fits : (r : ℕ) → r < 2 ^ 32 → crc_bit r < 2 ^ 32
bit_fits r h =
    let half : r / 2 < 2 ^ 32 = omega arith in
    pick_fits (eqb (r % 2) 1) (bit_xor (r / 2) 0xEDB88320) (r / 2) (xor_of_32 (r / 2) 0xEDB88320 half (omega arith)) half

bits_fit : (n r : ℕ) → r < 2 ^ 32 → crc_bits n r < 2 ^ 32
unfolding crc_bits
bits_fit zero r h = h
bits_fit (suc n) r h = bits_fit n (crc_bit r) (bit_fits r h)

after_fits : (r : ℕ) (bytes : List ℕ) → AreBytes bytes → r < 2 ^ 32 → crc_after r bytes < 2 ^ 32
unfolding crc_after
after_fits r [] all h = h
after_fits r (b ∷ bs) all h = after_fits (crc_bits 8 (bit_xor r b)) bs all.1 (bits_fit 8 (bit_xor r b) (xor_of_32 r b h (omega (arith, all.0))))

crc_fits : (bytes : List ℕ) → AreBytes bytes → crc32_of bytes < 2 ^ 32
unfolding crc32_of
crc_fits bytes all = xor_of_32 (crc_after 0xFFFFFFFF bytes) 0xFFFFFFFF (after_fits 0xFFFFFFFF bytes all (omega arith)) (omega arith)

-- ---- numbers

u32_written : (n : ℕ) → n < 2 ^ 32 → IsU32Le (u32_le_bytes n) n
unfolding u32_le_bytes
u32_written n fits = record { size = refl; value = sym (from_le_bytes-to_le_bytes_4 n fits) }

u64_written : (n : ℕ) → n < 2 ^ 64 → IsU64 (u64_bytes n) n
unfolding u64_bytes
u64_written n fits = record { size = refl; value = sym (from_be_bytes-to_be_bytes_8 n fits) }

-- ---- lengths without places

plain_run : (es : List EntryIndex) → run_len (map unplaced es) ≡ run_len es
plain_run [] = refl
plain_run (e ∷ es) =
    let a = sum_by-append (λ (x : EntryIndex). x.entry_len) (e ∷ []) es in
    let b = sum_by-append (λ (x : EntryIndex). x.entry_len) (unplaced e ∷ []) (map unplaced es) in
    b ∙ ap (λ (n : ℕ). run_len (e ∷ []) + n) (plain_run es) ∙ sym a

plain_content_len : (c : LogItemContent) → content_len (plain_content c) ≡ content_len c
plain_content_len (contents.EntryIndexes es) = plain_run es
plain_content_len (contents.Command c) = refl
plain_content_len (contents.Kv kv) = refl

pub plain_len : (items : List LogItem) → entries_len (map plain_item items) ≡ entries_len items
plain_len [] = refl
plain_len (x ∷ xs) =
    let a = sum_by-append (λ (y : LogItem). content_len y.content) (x ∷ []) xs in
    let b = sum_by-append (λ (y : LogItem). content_len y.content) (plain_item x ∷ []) (map plain_item xs) in
    let one : entries_len (plain_item x ∷ []) ≡ entries_len (x ∷ []) = ap (λ (n : ℕ). 0 + n) (plain_content_len x.content) in
    b ∙ ap (λ (n : ℕ). n + entries_len (map plain_item xs)) one ∙ ap (λ (n : ℕ). entries_len (x ∷ []) + n) (plain_len xs) ∙ sym a

-- ---- the parts

block_written : (entries : List ℕ) → AreBytes entries → IsBlock (block_bytes entries) entries
unfolding block_bytes
block_written [] all = inl (refl, refl)
block_written (b ∷ bs) all = inr (u32_le_bytes (crc32_of (b ∷ bs)), u32_written (crc32_of (b ∷ bs)) (crc_fits (b ∷ bs) all), refl)

block_length : (entries : List ℕ) → ((length (block_bytes entries) ≡ 0) × (length entries ≡ 0)) ⊎ (length (block_bytes entries) ≡ length entries + 4)
unfolding block_bytes
block_length [] = inl (refl, refl)
block_length (b ∷ bs) = inr (length-append (b ∷ bs) (u32_le_bytes (crc32_of (b ∷ bs))) ∙ ap (λ (n : ℕ). length (b ∷ bs) + n) (four_bytes (crc32_of (b ∷ bs))))

adds_up_written : (len n : ℕ) (items : List LogItem) → entries_len items ≡ n → n < 2 ^ 32 → ((len ≡ 0) × (n ≡ 0)) ⊎ (len ≡ n + 4) → AddsUp items len
adds_up_written len n items e fits h = (omega (arith, e), elim h [ inl p ↦ inl (p.0, e ∙ p.1) | inr q ↦ inr (q ∙ ap (λ (k : ℕ). k + 4) (sym e)) ])

-- what is written of items and of their checksum is a footer, where the checksum has 32 bits
pub plain_footer : (items : List LogItem) → crc32_of (items_bytes items) < 2 ^ 32 → AreItems (items_bytes items) (map plain_item items)
    → IsPlainFooter (footer_bytes None items) items
unfolding footer_bytes
plain_footer items fits spelled = record {
  body = items_bytes items;
  checksum = u32_le_bytes (signed None (items_bytes items));
  joined = refl;
  items_spelled = spelled;
  checksum_spelled = u32_written (signed None (items_bytes items)) (xor_of_32 (crc32_of (items_bytes items)) 0 fits (omega arith));
}

footer_written : (signature : Option ℕ) (items : List LogItem) → unwrap_or signature 0 < 2 ^ 32 → AreItems (items_bytes items) (map plain_item items) → AreBytes (items_bytes items) → IsFooter signature (footer_bytes signature items) (map plain_item items)
unfolding footer_bytes
footer_written signature items small spelled all = record {
  body = items_bytes items;
  checksum = u32_le_bytes (signed signature (items_bytes items));
  joined = refl;
  items_spelled = spelled;
  checksum_spelled = u32_written (signed signature (items_bytes items)) (xor_of_32 (crc32_of (items_bytes items)) (unwrap_or signature 0) (crc_fits (items_bytes items) all) small);
}

header_written : (len offset : ℕ) → len < 2 ^ 56 → offset < 2 ^ 64 → IsHeader (header_bytes len offset) len offset
unfolding header_bytes
header_written len offset short fits = record {
  first = u64_bytes (256 * len);
  second = u64_bytes offset;
  joined = refl;
  length_spelled = u64_written (256 * len) (omega arith);
  offset_spelled = u64_written offset fits;
}

header_of_record : (len size offset : ℕ) → len ≡ size → size < 2 ^ 56 → offset < 2 ^ 64 → IsHeader (header_bytes size offset) len offset
header_of_record len size offset e short fits = subst (λ (n : ℕ). IsHeader (header_bytes size offset) n offset) (sym e) (header_written size offset short fits)

joins : (signature : Option ℕ) (items : List LogItem) (entries : List ℕ) → record_bytes signature items entries ≡ header_bytes (record_len items entries) (16 + length (block_bytes entries)) ++ block_bytes entries ++ footer_bytes signature items
unfolding record_bytes
joins signature items entries = refl

pub written_is_record : (signature : Option ℕ) (items : List LogItem) (entries : List ℕ) → unwrap_or signature 0 < 2 ^ 32 → AreItems (items_bytes items) (map plain_item items) → AreBytes (items_bytes items) → AreBytes entries
    → entries_len items ≡ length entries → length entries < 2 ^ 32 → record_len items entries < 2 ^ 56 → IsRecord signature (record_bytes signature items entries) (map plain_item items) entries
written_is_record signature items entries small spelled all all' same fits short =
    let block : List ℕ = block_bytes entries in
    let header : List ℕ = header_bytes (record_len items entries) (16 + length block) in
    let joined : record_bytes signature items entries ≡ header ++ block ++ footer_bytes signature items = joins signature items entries in
    record {
      block = block;
      frame = record {
        header = header;
        footer = footer_bytes signature items;
        joined = joined;
        header_spelled = header_of_record (length (record_bytes signature items entries)) (record_len items entries) (16 + length block) (record-length signature items entries) short (omega arith);
        footer_spelled = footer_written signature items small spelled all;
        adds_up = adds_up_written (length block) (length entries) (map plain_item items) (plain_len items ∙ same) fits (block_length entries);
      };
      block_spelled = block_written entries all';
    }
