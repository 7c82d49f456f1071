-- The block of a batch that was written is whole, and its entries lie in front of its checksum.
use Rattle.std.proofs.Common.{◌≡◌, ℕ, ◌+◌, ◌-◌, ◌<◌, ◌≤◌, ◌^◌, Option, List, [], ◌∷◌, ◌++◌, length, take, drop, Result, inl, inr, refl, sym, ap, subst, ◌∙◌, arith}
use Rattle.std.specs.Prelude.{IsOk}
use Rattle.std.proofs.lemmas.List.{append_assoc, length-append, take_at, drop_at}
use Rattle.raft_log_model_laws.specs.Item.{Item, Record, Tagged, items_of}
use Rattle.raft_log_model_laws.specs.Item.Item.{Put}
use Rattle.raft_log_model_laws.specs.Item.Record.{Plain}
use Rattle.raft_log_record_base.specs.Fault.{Fault}
use Rattle.raft_log_record_base.specs.Files.{signature, signature_of}
use Rattle.raft_log_record_base.specs.declared.pipe_log.LogFileContext.{LogFileContext}
use Rattle.raft_log_record_base.specs.declared.pipe_log.LogQueue.TheVariants.{Append}
use Rattle.raft_log_record_base.specs.declared.pipe_log.Version.TheVariants.{V2}
use Rattle.raft_log_record_items.specs.declared.item.LogItem.{LogItem}
use Rattle.raft_log_record_frames.specs.Record.{IsBlock, IsRecord, block_bytes, block_of, footer_bytes, header_bytes, record_bytes, record_len}
use Rattle.raft_log_record_frames.proofs.Public.{block_again, four_bytes, header-length, header_words}
use Rattle.raft_log_record_batches.specs.Batch.{Batch, batch_bytes}
use Rattle.raft_log_file_format.specs.Header.{header_bytes as file_header}
use Rattle.raft_log_file_format.specs.declared.header.LogFileFormat.{LogFileFormat}
use Rattle.raft_log_active_file.specs.QueueFiles.{IsAHeader}
use Rattle.raft_log_active_file.specs.QueueFilesLaws.{is_layout}
use Rattle.raft_log_active_file.specs.declared.record.LogRecord.{LogRecord}
use Rattle.raft_log_block_cache.specs.Signing.{SaysItself, record_said, signed_for}

-- Lengths.

long_block : (b : ℕ) (bs : List ℕ) → length (block_bytes (b ∷ bs)) ≡ length (b ∷ bs) + 4
unfolding block_bytes
long_block b bs = length-append (b ∷ bs) _ ∙ ap (λ (n : ℕ). length (b ∷ bs) + n) (four_bytes _)

pub entries_before : (entries : List ℕ) → length entries ≤ length (block_bytes entries) - 4
entries_before [] = omega arith
entries_before (b ∷ bs) = let long = long_block b bs in omega (arith, long)

-- Records.

-- a record is its header of sixteen bytes, its block, and more
pub record IsParted (bytes entries : List ℕ) : Type 0 where
  pub head : List ℕ
  pub tail : List ℕ
  pub long : length head ≡ 16
  pub is : bytes ≡ head ++ (block_bytes entries ++ tail)

pub record_parts : (signature : Option ℕ) (items : List LogItem) (entries : List ℕ) → (items ≡ [] → ⊥) → IsParted (batch_bytes signature items entries) entries
unfolding record_bytes
record_parts signature [] entries some = absurd (some refl)
record_parts signature (x ∷ xs) entries some = record {
  head = header_bytes (record_len (x ∷ xs) entries) (16 + length (block_bytes entries));
  tail = footer_bytes signature (x ∷ xs);
  long = header-length (record_len (x ∷ xs) entries) (16 + length (block_bytes entries));
  is = append_assoc (header_bytes (record_len (x ∷ xs) entries) (16 + length (block_bytes entries))) (block_bytes entries) (footer_bytes signature (x ∷ xs));
}

-- a block that is one is whole
pub block_whole : (block entries : List ℕ) → IsBlock block entries → IsOk (block_of block)
block_whole block entries is = subst (λ (r : Result (List ℕ) Fault). IsOk r) (sym (block_again block entries is)) refl

none_whole : IsOk (block_of (block_bytes []))
unfolding block_bytes
none_whole = block_whole [] [] (inl (refl, refl))

-- of bytes that are a record of these entries, and have their block behind a header, that block is whole
parts_whole : (signed : Option ℕ) (bytes : List ℕ) (items : List LogItem) (entries : List ℕ) → IsRecord signed bytes items entries → IsParted bytes entries → IsOk (block_of (block_bytes entries))
parts_whole signed bytes items [] is parts = none_whole
parts_whole signed bytes items (b ∷ bs) is parts = elim is.block_spelled [
  | inl none ↦ absurd (let long = ap length none.1 in omega (arith, long))
  | inr some ↦
      let long : length is.block ≡ length (b ∷ bs) + 4 = omega (arith, ap length some.2, length-append (b ∷ bs) some.0, some.1.size) in
      let also = long_block b bs in
      let header = (header_words is.frame.header [] (length bytes) (16 + length is.block) is.frame.header_spelled).0 in
      let mine : drop 16 bytes ≡ block_bytes (b ∷ bs) ++ parts.tail =
      ap (λ (l : List ℕ). drop 16 l) parts.is ∙ drop_at parts.head (block_bytes (b ∷ bs) ++ parts.tail) 16 parts.long in
      let read : drop 16 bytes ≡ is.block ++ is.frame.footer =
      ap (λ (l : List ℕ). drop 16 l) (is.frame.joined ∙ append_assoc is.frame.header is.block is.frame.footer) ∙ drop_at is.frame.header (is.block ++ is.frame.footer) 16 header in
      let same : block_bytes (b ∷ bs) ≡ is.block =
      sym (take_at (block_bytes (b ∷ bs)) parts.tail (length is.block) (omega (arith, long, also)))
      ∙ ap (λ (l : List ℕ). take (length is.block) l) (sym mine ∙ read)
      ∙ take_at is.block is.frame.footer (length is.block) refl in
      subst (λ (l : List ℕ). IsOk (block_of l)) (sym same) (block_whole is.block (b ∷ bs) is.block_spelled)
]

-- What a batch says.

-- a record told by its entries alone
abbrev told : LogRecord → Record (List ℕ) (List ℕ)
told r = Plain (record { group = 0; item = Put [] r.entries } ∷ [])

abbrev value_of : Item (List ℕ) (List ℕ) → List ℕ
value_of (Put k value) = value
value_of _ = []

abbrev first_value : List (Tagged (List ℕ) (List ℕ)) → List ℕ
first_value [] = []
first_value (x ∷ xs) = value_of x.item

same_entries : (r s : LogRecord) → told r ≡ told s → r.entries ≡ s.entries
same_entries r s same = ap (λ (y : Record (List ℕ) (List ℕ)). first_value (items_of y)) same

-- some file that a record may be in
abbrev format : LogFileFormat
format = record { version = V2; alignment = 0 }

abbrev context : LogFileContext
context = record { id = record { queue = Append; seq = 0 }; version = V2 }

header : IsAHeader (file_header format)
header = (is_layout Append ([] ∷ []) (omega arith)).headed format refl

pub batch_whole : (b : Batch) → (b.items ≡ [] → ⊥) → SaysItself (signed_for b) b → IsOk (block_of (block_bytes b.entries))
batch_whole b some says =
    let said = says some told Append ([] ∷ []) in
    let framed = said.framed 0 format (let less : 0 < 10 ^ 16 = omega arith in less) header in
    let same : said.value.entries ≡ b.entries = same_entries said.value (record_said b) said.said in
    parts_whole (signature framed.format.version 0) (signed_for b context) said.value.items b.entries
    (subst (λ (l : List ℕ). IsRecord (signature framed.format.version 0) (signed_for b context) said.value.items l) same framed.is)
    (record_parts (signature_of context) b.items b.entries some)
