-- What the buffer of a batch holds in each state.
use Rattle.std.proofs.Common.{◌≡◌, ℕ, zero, suc, ◌+◌, ◌-◌, ◌≤◌, ◌<◌, ◌^◌, List, [], ◌∷◌, ◌++◌, length, take, drop, replicate, Option, None, unwrap_or, refl, sym, ap, subst, ◌∙◌, append_assoc, arith, bit_xor}
use Rattle.std.proofs.Math.Seq.{take-length}
use Rattle.std.proofs.lemmas.List.{take_all, length-append, length-take-le, length-drop, drop_at, take_at}
use Rattle.raft_log_record_base.specs.Number.{u32_le_bytes}
use Rattle.raft_log_record_items.specs.declared.item.LogItem.{LogItem}
use Rattle.raft_log_record_items.specs.Writing.{items_bytes}
use Rattle.raft_log_record_batches.specs.declared.log_batch.BatchState.{BatchState}
use Rattle.raft_log_record_batches.specs.declared.log_batch.BatchState.TheVariants.{Filling, Populated, Signed, Written}
use Rattle.raft_log_record_frames.specs.Record.{signed, block_bytes, footer_bytes, header_bytes, record_len, record_bytes}
use Rattle.raft_log_record_frames.specs.Made.{HoldsRecordBytes}
use Rattle.raft_log_record_batches.specs.Batch.{HoldsRecord, HoldsIn, IsMade, batch_bytes, roomy}
use Rattle.raft_log_record_frames.proofs.Public.{block_more, four_bytes, header-length, record-length}

-- room for a header is made in an empty buffer alone
pub roomy_same : (buffer : List ℕ) → 1 ≤ length buffer → roomy buffer ≡ buffer
roomy_same [] some = absurd (omega arith)
roomy_same (b ∷ bs) some = refl

pub roomy_take : (buffer : List ℕ) (n : ℕ) → 16 ≤ n → roomy (take n buffer) ≡ take n (roomy buffer)
roomy_take buffer zero long = absurd (omega arith)
roomy_take [] (suc n) long = sym (take_all (suc n) (replicate 16 0) (omega arith))
roomy_take (b ∷ bs) (suc n) long = refl

-- behind the header of a record its block stands first
behind_header : (signature : Option ℕ) (items : List LogItem) (entries : List ℕ) → drop 16 (record_bytes signature items entries) ≡ block_bytes entries ++ footer_bytes signature items
unfolding record_bytes
behind_header signature items entries =
    let header : List ℕ = header_bytes (record_len items entries) (16 + length (block_bytes entries)) in
    ap (λ (l : List ℕ). drop 16 l) (append_assoc header (block_bytes entries) (footer_bytes signature items))
    ∙ drop_at header (block_bytes entries ++ footer_bytes signature items) 16 (header-length (record_len items entries) (16 + length (block_bytes entries)))

pub record_entries : (signature : Option ℕ) (items : List LogItem) (entries : List ℕ) → take (length entries) (drop 16 (record_bytes signature items entries)) ≡ entries
record_entries signature items entries =
    let more = block_more entries in
    let whole : drop 16 (record_bytes signature items entries) ≡ entries ++ (more.0 ++ footer_bytes signature items) =
    behind_header signature items entries ∙ ap (λ (l : List ℕ). l ++ footer_bytes signature items) more.1 ∙ append_assoc entries more.0 (footer_bytes signature items) in
    ap (λ (l : List ℕ). take (length entries) l) whole ∙ take_at entries (more.0 ++ footer_bytes signature items) (length entries) refl

pub block_room : (entries : List ℕ) → length entries ≤ length (block_bytes entries)
block_room entries = let more = block_more entries in omega (arith, ap (λ (l : List ℕ). length l) more.1, length-append entries more.0)

-- ---- filling

pub in_filling : (state : BatchState) (buffer : List ℕ) (sum : ℕ) (items : List LogItem) (entries : List ℕ) → state ≡ Filling → HoldsIn state buffer sum items entries → length buffer ≡ 16 + length entries
in_filling state buffer sum items entries e h = subst (λ (s : BatchState). HoldsIn s buffer sum items entries) e h

-- all behind the header are entries
pub all_entries : (n : ℕ) (buffer : List ℕ) → 16 + n ≤ length buffer → length buffer ≡ 16 + length (take n (drop 16 buffer)) → take n (drop 16 buffer) ≡ drop 16 buffer
all_entries n buffer room h =
    let behind : length (drop 16 buffer) ≡ length buffer - 16 = length-drop 16 buffer in
    let len : length (take n (drop 16 buffer)) ≡ n = length-take-le n (drop 16 buffer) (omega (arith, behind)) in
    let all : n ≡ length (drop 16 buffer) = omega (arith, behind, len) in
    ap (λ (k : ℕ). take k (drop 16 buffer)) all ∙ take-length (drop 16 buffer)

-- ---- populated

pub holds_record : (signature : Option ℕ) (buffer : List ℕ) (sum : ℕ) (items : List LogItem) (entries : List ℕ) → HoldsRecordBytes signature buffer sum items entries → HoldsRecord signature buffer sum items entries
holds_record signature buffer sum [] entries h = tt
holds_record signature buffer sum (x ∷ xs) entries h = h

pub record Populates (n : ℕ) (signature : Option ℕ) (buffer : List ℕ) (sum : ℕ) (items : List LogItem) (entries : List ℕ) : Type 0 where
  pub room : 16 + n ≤ length buffer
  pub same : take n (drop 16 buffer) ≡ entries
  pub holds : HoldsRecord signature buffer sum items (take n (drop 16 buffer))
  pub size : length buffer ≡ length (record_bytes signature items entries)

pub populates : (n : ℕ) (signature : Option ℕ) (buffer : List ℕ) (sum : ℕ) (items : List LogItem) (entries : List ℕ) → length entries ≡ n → HoldsRecordBytes signature buffer sum items entries → Populates n signature (roomy buffer) sum items entries
populates n signature buffer sum items entries len h =
    let size : length buffer ≡ length (record_bytes signature items entries) = ap (λ (l : List ℕ). length l) h.bytes in
    let same : take n (drop 16 buffer) ≡ entries =
    ap (λ (l : List ℕ). take n (drop 16 l)) h.bytes ∙ ap (λ (k : ℕ). take k (drop 16 (record_bytes signature items entries))) (sym len) ∙ record_entries signature items entries in
    let some : 1 ≤ length buffer = omega (arith, size, record-length signature items entries) in
    subst (λ (l : List ℕ). Populates n signature l sum items entries) (sym (roomy_same buffer some)) (record {
      room = omega (arith, size, record-length signature items entries, block_room entries, len);
      same = same;
      holds = subst (λ (l : List ℕ). HoldsRecord signature buffer sum items l) (sym same) (holds_record signature buffer sum items entries h);
      size = size;
    })

pub batch_record : (signature : Option ℕ) (items : List LogItem) (entries : List ℕ) → 0 < length items → batch_bytes signature items entries ≡ record_bytes signature items entries
batch_record signature [] entries h = absurd (omega arith)
batch_record signature (x ∷ xs) entries h = refl

-- the record that is made of a batch that was being filled
pub filled_populates : (n : ℕ) (buffer new : List ℕ) (before sum : ℕ) (state : BatchState) (items given : List LogItem)
    → state ≡ Filling → 16 + n ≤ length buffer → HoldsIn state buffer before items (take n (drop 16 buffer)) → given ≡ items → HoldsRecordBytes None new sum given (drop 16 buffer)
    → Populates n None (roomy new) sum items (take n (drop 16 buffer))
filled_populates n buffer new before sum state items given s room held e h =
    let full : length buffer ≡ 16 + length (take n (drop 16 buffer)) = in_filling state buffer before items (take n (drop 16 buffer)) s held in
    let all : take n (drop 16 buffer) ≡ drop 16 buffer = all_entries n buffer room full in
    let len : length (take n (drop 16 buffer)) ≡ n = length-take-le n (drop 16 buffer) (omega (arith, length-drop 16 buffer)) in
    populates n None new sum items (take n (drop 16 buffer)) len
    (subst (λ (l : List ℕ). HoldsRecordBytes None new sum items l) (sym all) (subst (λ (g : List LogItem). HoldsRecordBytes None new sum g (drop 16 buffer)) e h))

-- ---- signed

-- another checksum at the end signs the record for another file
pub signs : (signature next : Option ℕ) (buffer new : List ℕ) (sum : ℕ) (items : List LogItem) (entries : List ℕ) → unwrap_or next 0 < 2 ^ 32 → HoldsRecordBytes signature buffer sum items entries
    → new ≡ take (length buffer - 4) buffer ++ u32_le_bytes (bit_xor sum (unwrap_or next 0)) → HoldsRecordBytes next new sum items entries
unfolding record_bytes footer_bytes
signs signature next buffer new sum items entries fits h e =
    let front : List ℕ = header_bytes (record_len items entries) (16 + length (block_bytes entries)) ++ block_bytes entries in
    let body : List ℕ = items_bytes items in
    let old : List ℕ = u32_le_bytes (signed signature body) in
    let whole : buffer ≡ (front ++ body) ++ old = h.bytes ∙ sym (append_assoc front body old) in
    let len : length buffer - 4 ≡ length (front ++ body) = omega (arith, ap (λ (l : List ℕ). length l) whole, length-append (front ++ body) old, four_bytes (signed signature body)) in
    let kept : take (length buffer - 4) buffer ≡ front ++ body =
    ap (λ (k : ℕ). take k buffer) len ∙ ap (λ (l : List ℕ). take (length (front ++ body)) l) whole ∙ take_at (front ++ body) old (length (front ++ body)) refl in
    let sum_is : bit_xor sum (unwrap_or next 0) ≡ signed next body = ap (λ (s : ℕ). bit_xor s (unwrap_or next 0)) h.sum in
    record {
      bytes = e ∙ ap (λ (l : List ℕ). l ++ u32_le_bytes (bit_xor sum (unwrap_or next 0))) kept ∙ ap (λ (s : ℕ). (front ++ body) ++ u32_le_bytes s) sum_is ∙ append_assoc front body (u32_le_bytes (signed next body));
      sum = h.sum;
      spelled = h.spelled;
      signs = fits;
      short = h.short;
    }

-- a batch that is not empty and whose record is made holds it
pub made_holds : (state : BatchState) (buffer : List ℕ) (sum : ℕ) (items : List LogItem) (entries : List ℕ) → IsMade state → 0 < length items → HoldsIn state buffer sum items entries
    → (signature : Option ℕ) × HoldsRecordBytes signature buffer sum items entries
made_holds Filling buffer sum items entries made some h = absurd made
made_holds Populated buffer sum [] entries made some h = absurd (omega arith)
made_holds Populated buffer sum (x ∷ xs) entries made some h = (None, h)
made_holds (Signed signature) buffer sum [] entries made some h = absurd (omega arith)
made_holds (Signed signature) buffer sum (x ∷ xs) entries made some h = (signature, h)
made_holds Written buffer sum items entries made some h = absurd made

-- a buffer that holds a record has a byte
pub made_roomy : (state : BatchState) (buffer : List ℕ) (sum : ℕ) (items : List LogItem) (entries : List ℕ) → IsMade state → 0 < length items → HoldsIn state (roomy buffer) sum items entries
    → roomy buffer ≡ buffer
made_roomy state [] sum items entries made some h =
    let held = made_holds state (replicate 16 0) sum items entries made some h in
    absurd (omega (arith, ap (λ (l : List ℕ). length l) held.1.bytes, record-length held.0 items entries))
made_roomy state (b ∷ bs) sum items entries made some h = refl

pub made_long : (state : BatchState) (buffer : List ℕ) (sum : ℕ) (items : List LogItem) (entries : List ℕ) → IsMade state → 0 < length items → HoldsIn state (roomy buffer) sum items entries
    → 4 ≤ length buffer
made_long state buffer sum items entries made some h =
    let same = made_roomy state buffer sum items entries made some h in
    let held = made_holds state (roomy buffer) sum items entries made some h in
    omega (arith, ap (λ (l : List ℕ). length l) same, ap (λ (l : List ℕ). length l) held.1.bytes, record-length held.0 items entries)

-- the record with another checksum at its end, in a buffer that was written over
pub signed_populates : (n : ℕ) (next : Option ℕ) (buffer new left : List ℕ) (size : ℕ) (sum : ℕ) (state : BatchState) (items : List LogItem)
    → unwrap_or next 0 < 2 ^ 32 → IsMade state → 0 < length items → 16 + n ≤ length buffer → HoldsIn state buffer sum items (take n (drop 16 buffer))
    → new ≡ take (length buffer - 4) buffer ++ u32_le_bytes (bit_xor sum (unwrap_or next 0)) → length new ≡ size
    → Populates n next (roomy (take size (new ++ left))) sum items (take n (drop 16 buffer))
signed_populates n next buffer new left size sum state items fits made some room held e len =
    let entries : List ℕ = take n (drop 16 buffer) in
    let before = made_holds state buffer sum items entries made some held in
    let holds : HoldsRecordBytes next new sum items entries = signs before.0 next buffer new sum items entries fits before.1 e in
    let count : length entries ≡ n = length-take-le n (drop 16 buffer) (omega (arith, length-drop 16 buffer)) in
    subst (λ (l : List ℕ). Populates n next (roomy l) sum items entries) (sym (take_at new left size len)) (populates n next new sum items entries count holds)
