-- The header of a record, whatever its compression.
use Rattle.std.specs.Prelude.{◌≡◌, ℕ, ◌<◌, ◌≤◌, List, length}
use Rattle.raft_log_file_reader.specs.Foreign.{compression_in, footer_in, len_in}
use Rattle.raft_log_file_reader.specs.declared.foreign.SpelledHeader.{SpelledHeader}

-- `bytes` begin with this header
pub record SpellsHeader (bytes : List ℕ) (header : SpelledHeader) : Type 0 where
  pub long : 16 ≤ length bytes
  pub compression : header.compression ≡ compression_in bytes
  pub footer : header.footer ≡ footer_in bytes
  pub len : header.len ≡ len_in bytes

-- the compression type isn't 0, the footer begins after the header and within the record, and the record has at most
-- `left` bytes
pub record IsForeignHeader (header : SpelledHeader) (left : ℕ) : Type 0 where
  pub compressed : 0 < header.compression
  pub behind : 16 ≤ header.footer
  pub inside : header.footer ≤ header.len
  pub fits : header.len ≤ left
