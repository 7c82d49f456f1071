-- Whether the next record is foreign.
use Rattle.std.proofs.Common.{◌≡◌, ℕ, ◌+◌, ◌-◌, ◌%◌, ◌/◌, ◌<◌, List, length, take, drop, Option, IsOk, lit≤, sym, ap, subst, ◌∙◌, arith}
use Rattle.std.specs.Prelude.{slice_range}
use Rattle.std.specs.Int.{w64, from_be_bytes}
use Rattle.std.proofs.lemmas.List.{length-take, length-drop, take-take, drop-take, drop-drop}
use Rattle.raft_log_record_base.specs.Files.{signature_of}
use Rattle.raft_log_record_frames.specs.Record.{body_of}
use Rattle.raft_log_file_reader.specs.Batches.{GoesOnAt, context_of}
use Rattle.raft_log_file_reader.specs.Foreign.{BeginsForeign, HasForeignRecord, footer_in, len_in}
use Rattle.raft_log_file_reader.specs.ForeignHeader.{IsForeignHeader, SpellsHeader}
use Rattle.raft_log_file_reader.specs.declared.foreign.SpelledHeader.{SpelledHeader}
use Rattle.raft_log_file_reader.specs.declared.open_file.OpenFile.{OpenFile}
use Rattle.raft_log_file_reader.proofs.Readings.{one_place}

-- a header stands in its first sixteen bytes
pub spelled_whole : (bytes : List ℕ) (header : SpelledHeader) → SpellsHeader (take 16 bytes) header → SpellsHeader bytes header
spelled_whole bytes header h =
    let first : take 8 (take 16 bytes) ≡ take 8 bytes = take-take 8 16 bytes (lit≤ tt) in
    let second : take 8 (drop 8 (take 16 bytes)) ≡ take 8 (drop 8 bytes) = ap (take 8) (drop-take 8 8 bytes) ∙ take-take 8 8 (drop 8 bytes) (lit≤ tt) in
    record {
      long = omega (arith, h.long, length-take 16 bytes);
      compression = h.compression ∙ ap (λ (l : List ℕ). from_be_bytes w64 l % 256) first;
      footer = h.footer ∙ ap (from_be_bytes w64) second;
      len = h.len ∙ ap (λ (l : List ℕ). from_be_bytes w64 l / 256) first;
    }

-- what a footer's place holds
footer_there : (at footer len : ℕ) (content : List ℕ) → slice_range (drop at content) footer len ≡ take (len - footer) (drop (at + footer) content)
footer_there at footer len content = ap (take (len - footer)) (drop-drop footer at content)

module _ (file : OpenFile) (content : List ℕ) (offset at left : ℕ) (goes_on : GoesOnAt file.format.alignment content offset at) (is : left ≡ length content - at) where
  abbrev signature : Option ℕ
  signature = signature_of (context_of file)

  -- what is next is at one place
  begins_there : (m compression : ℕ) → HasForeignRecord file content offset m compression → BeginsForeign signature (drop at content)
  begins_there m compression h =
      subst (λ (k : ℕ). BeginsForeign signature (drop k content)) (one_place file.format.alignment content offset m at h.goes_on goes_on) h.begins

  -- where too few bytes for a header follow, no foreign record does
  pub no_room : left < 16 → (m compression : ℕ) → HasForeignRecord file content offset m compression → ⊥
  no_room short m compression h =
      let begins = begins_there m compression h in
      omega (arith, short, is, begins.header, length-drop at content)

  -- nor where the header isn't that of one
  pub no_header : (header : SpelledHeader) → SpellsHeader (drop at content) header → (IsForeignHeader header left → ⊥) → (m compression : ℕ) → HasForeignRecord file content offset m compression → ⊥
  no_header header spelled other m compression h =
      let begins = begins_there m compression h in
      other (record {
        compressed = omega (arith, begins.compressed, spelled.compression);
        behind = omega (arith, begins.behind, spelled.footer);
        inside = omega (arith, begins.inside, spelled.footer, spelled.len);
        fits = omega (arith, begins.fits, spelled.len, is, length-drop at content);
      })

  -- a header's places are those of its bytes
  footer_is : (header : SpelledHeader) → SpellsHeader (drop at content) header
      → slice_range (drop at content) (footer_in (drop at content)) (len_in (drop at content)) ≡ take (header.len - header.footer) (drop (at + header.footer) content)
  footer_is header spelled =
      footer_there at (footer_in (drop at content)) (len_in (drop at content)) content
      ∙ ap (λ (n : ℕ). take (n - footer_in (drop at content)) (drop (at + footer_in (drop at content)) content)) (sym spelled.len)
      ∙ ap (λ (n : ℕ). take (header.len - n) (drop (at + n) content)) (sym spelled.footer)

  -- nor where the footer's checksum is wrong
  pub no_footer : (header : SpelledHeader) → SpellsHeader (drop at content) header
      → (IsOk (body_of signature (take (header.len - header.footer) (drop (at + header.footer) content))) → ⊥) → (m compression : ℕ) → HasForeignRecord file content offset m compression → ⊥
  no_footer header spelled wrong m compression h =
      let begins = begins_there m compression h in
      wrong (subst (λ (l : List ℕ). IsOk (body_of signature l)) (footer_is header spelled) begins.footer)

  -- else it does
  pub foreign_there : (header : SpelledHeader) → SpellsHeader (drop at content) header → IsForeignHeader header left
      → IsOk (body_of signature (take (header.len - header.footer) (drop (at + header.footer) content))) → HasForeignRecord file content offset at header.compression
  foreign_there header spelled fits right = record {
    goes_on = goes_on;
    begins = record {
      header = spelled.long;
      compressed = omega (arith, fits.compressed, spelled.compression);
      behind = omega (arith, fits.behind, spelled.footer);
      inside = omega (arith, fits.inside, spelled.footer, spelled.len);
      fits = omega (arith, fits.fits, spelled.len, is, length-drop at content);
      footer = subst (λ (l : List ℕ). IsOk (body_of signature l)) (sym (footer_is header spelled)) right;
    };
    is = spelled.compression;
  }
