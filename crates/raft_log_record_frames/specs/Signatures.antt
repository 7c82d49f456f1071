-- If a footer was signed for one file, in which other files it is valid.
use Rattle.std.specs.Prelude.{◌≡◌, ◌↔◌, ℕ, ◌%◌, ◌^◌, List}
use Rattle.raft_log_record_items.specs.declared.item.LogItem.{LogItem}
use Rattle.raft_log_record_base.specs.declared.pipe_log.Version.TheVariants.{V2}
use Rattle.raft_log_record_base.specs.Files.{signature}
use Rattle.raft_log_record_frames.specs.Record.{IsFooter}

-- In format V2, suppose a footer is valid in file number `a`. It is valid in file number `b` if and only if the two
-- numbers have equal low 32 bits.
abbrev pub SignatureSeparatesFiles : Type 0
SignatureSeparatesFiles =
    (a b : ℕ) (bytes : List ℕ) (items : List LogItem) → IsFooter (signature V2 a) bytes items
    → (IsFooter (signature V2 b) bytes items ↔ (a % 2 ^ 32 ≡ b % 2 ^ 32))
