-- The bytes of a record that is made in a buffer.
use Rattle.std.proofs.Common.{◌≡◌, ℕ, ◌+◌, ◌≤◌, List, [], ◌∷◌, ◌++◌, length, take, drop, Option, None, refl, sym, ap, subst, ◌∙◌, append_assoc, arith}
use Rattle.std.proofs.Math.Seq.{take-append_seam}
use Rattle.std.proofs.lemmas.List.{length-append, length-take-le, take-append-drop, drop_at}
use Rattle.raft_log_record_base.specs.Number.{u32_le_bytes, u64_bytes}
use Rattle.raft_log_record_checksum.specs.Checksum.{crc32_of}
use Rattle.raft_log_record_items.specs.declared.item.LogItem.{LogItem}
use Rattle.raft_log_record_items.specs.Writing.{items_bytes, KeepsFront}
use Rattle.raft_log_record_items.proofs.Public.{keeps_more}
use Rattle.raft_log_record_frames.specs.Record.{signed, block_bytes, footer_bytes, header_bytes, record_len, record_bytes}

-- what stands at the front of a front stands at the front
pub keeps_trans : (a b c : List ℕ) → KeepsFront a b → KeepsFront b c → KeepsFront a c
keeps_trans a b c h k =
    let whole : b ≡ a ++ drop (length a) b = sym (take-append-drop (length a) b) ∙ ap (λ (l : List ℕ). l ++ drop (length a) b) h in
    keeps_more a (drop (length a) b) c (subst (λ (l : List ℕ). KeepsFront l c) whole k)

pub keeps_append : (a b : List ℕ) → KeepsFront a (a ++ b)
keeps_append a b = take-append_seam a b

pub block_more : (entries : List ℕ) → (more : List ℕ) × (block_bytes entries ≡ entries ++ more)
unfolding block_bytes
block_more [] = ([], refl)
block_more (b ∷ bs) = (u32_le_bytes (crc32_of (b ∷ bs)), refl)

-- the entries stand at the front of their block
pub block_keeps : (old : List ℕ) → KeepsFront old (take 16 old ++ block_bytes (drop 16 old))
block_keeps old =
    let more = block_more (drop 16 old) in
    let whole : take 16 old ++ block_bytes (drop 16 old) ≡ old ++ more.0 =
    ap (λ (l : List ℕ). take 16 old ++ l) more.1 ∙ sym (append_assoc (take 16 old) (drop 16 old) more.0) ∙ ap (λ (l : List ℕ). l ++ more.0) (take-append-drop 16 old) in
    ap (λ (l : List ℕ). take (length old) l) whole ∙ take-append_seam old more.0

pub four_bytes : (n : ℕ) → length (u32_le_bytes n) ≡ 4
unfolding u32_le_bytes
four_bytes n = refl

pub footer-length : (signature : Option ℕ) (items : List LogItem) → length (footer_bytes signature items) ≡ length (items_bytes items) + 4
unfolding footer_bytes
footer-length signature items = length-append (items_bytes items) (u32_le_bytes (signed signature (items_bytes items))) ∙ ap (λ (n : ℕ). length (items_bytes items) + n) (four_bytes (signed signature (items_bytes items)))

-- the header over the first sixteen bytes makes the record
pub record_made : (old : List ℕ) (items : List LogItem) (len offset : ℕ) (new : List ℕ) → 16 ≤ length old
    → len ≡ length ((take 16 old ++ block_bytes (drop 16 old)) ++ footer_bytes None items) → offset ≡ length (take 16 old ++ block_bytes (drop 16 old))
    → new ≡ header_bytes len offset ++ drop 16 ((take 16 old ++ block_bytes (drop 16 old)) ++ footer_bytes None items) → new ≡ record_bytes None items (drop 16 old)
unfolding record_bytes
record_made old items len offset new long l o h =
    let block : List ℕ = block_bytes (drop 16 old) in
    let footer : List ℕ = footer_bytes None items in
    let front : length (take 16 old) ≡ 16 = length-take-le 16 old long in
    let o' : offset ≡ 16 + length block = omega (arith, o, length-append (take 16 old) block, front) in
    let l' : len ≡ record_len items (drop 16 old) = omega (arith, l, length-append (take 16 old ++ block) footer, length-append (take 16 old) block, front, footer-length None items) in
    let rest : drop 16 ((take 16 old ++ block) ++ footer) ≡ block ++ footer = ap (λ (x : List ℕ). drop 16 x) (append_assoc (take 16 old) block footer) ∙ drop_at (take 16 old) (block ++ footer) 16 front in
    h ∙ ap (λ (x : List ℕ). header_bytes len offset ++ x) rest ∙ sym (append_assoc (header_bytes len offset) block footer)
    ∙ ap (λ (n : ℕ). (header_bytes n offset ++ block) ++ footer) l' ∙ ap (λ (n : ℕ). (header_bytes (record_len items (drop 16 old)) n ++ block) ++ footer) o'

pub made-length : (old : List ℕ) (items : List LogItem) (new : List ℕ) → 16 ≤ length old
    → new ≡ (take 16 old ++ block_bytes (drop 16 old)) ++ footer_bytes None items → length new ≡ record_len items (drop 16 old)
made-length old items new long h =
    let block : List ℕ = block_bytes (drop 16 old) in
    let front : length (take 16 old) ≡ 16 = length-take-le 16 old long in
    omega (arith, ap (λ (l : List ℕ). length l) h, length-append (take 16 old ++ block) (footer_bytes None items), length-append (take 16 old) block, front, footer-length None items)

pub header-length : (len offset : ℕ) → length (header_bytes len offset) ≡ 16
unfolding header_bytes u64_bytes
header-length len offset = refl

pub record-length : (signature : Option ℕ) (items : List LogItem) (entries : List ℕ) → length (record_bytes signature items entries) ≡ record_len items entries
unfolding record_bytes
record-length signature items entries =
    let header : List ℕ = header_bytes (record_len items entries) (16 + length (block_bytes entries)) in
    omega (arith, length-append (header ++ block_bytes entries) (footer_bytes signature items), length-append header (block_bytes entries), header-length (record_len items entries) (16 + length (block_bytes entries)), footer-length signature items)
