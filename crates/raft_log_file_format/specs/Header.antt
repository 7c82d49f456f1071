-- The header of a log file: its magic bytes, the version of its format, and, in version 2, the alignment.
use Rattle.std.specs.Prelude.{◌≡◌, ◌≢◌, ℕ, List, [], ◌++◌, length, take, drop, Result, Ok, Err, nat_eq, nat_lt, ◌==◌, if◌then◌else◌, codes}
use Rattle.std.specs.List.{starts_with}
use Rattle.std.specs.String.{string_bytes}
use Rattle.std.specs.Fmt.{decimal}
use Rattle.std.specs.Int.{w64, from_be_bytes}
use Rattle.raft_log_record_base.specs.Grammar.{Reader, Then, Mapped, IsKnown, ◌>>=◌}
use Rattle.raft_log_record_base.specs.Number.{IsU64, high_first_at, u64_bytes}
use Rattle.raft_log_record_base.specs.Fault.{Fault, lifted}
use Rattle.raft_log_record_base.specs.Fault.Fault.{corrupt}
use Rattle.raft_log_record_base.specs.Files.{version_number}
use Rattle.raft_log_record_base.specs.declared.errors.Error.{Error}
use Rattle.raft_log_record_base.specs.declared.errors.Error.TheVariants as errors
use Rattle.raft_log_record_base.specs.declared.pipe_log.Version.{Version}
use Rattle.raft_log_record_base.specs.declared.pipe_log.Version.TheVariants.{V1, V2}
use Rattle.raft_log_file_format.specs.declared.header.LogFileFormat.{LogFileFormat}

-- the first bytes of every log file
unfoldable pub magic : List ℕ
magic = codes "RAFT-LOG-FILE-HEADER-9986AB3E47F320B394C8E84916EB0ED5"

-- `bytes` are the magic bytes
abbrev pub IsMagic : List ℕ → Unit {0} → Type 0
IsMagic bytes _ = bytes ≡ magic

-- `bytes` encode the number of a version, in eight bytes
pub record IsVersion (bytes : List ℕ) (version : Version) : Type 0 where
  pub spelled : IsU64 bytes (version_number version)

-- the encoding of what follows the version in a header: nothing in version 1, the alignment in eight bytes in version 2
abbrev pub IsPayload : Version → List ℕ → LogFileFormat → Type 0
IsPayload V1 = IsKnown (record { version = V1; alignment = 0 })
IsPayload V2 = Mapped (λ n. record { version = V2; alignment = n }) IsU64

-- `bytes` are the header of this format: the magic bytes, the version, and in version 2 the alignment
abbrev pub IsFileHeader : List ℕ → LogFileFormat → Type 0
IsFileHeader = Then IsMagic (λ _. Then IsVersion IsPayload)

-- Reading a header, with the error for each way in which it may be invalid.

-- the error text for a file that doesn't begin with the magic bytes
abbrev pub magic_mismatch : List ℕ
magic_mismatch = codes "log file magic header mismatch"

-- the error text for a version number that is neither 1 nor 2
abbrev pub unknown_version : ℕ → List ℕ
unknown_version n = codes "unrecognized log file version: " ++ decimal n

-- the error text for a version 2 header that ends before its alignment does
abbrev pub missing_payload : List ℕ
missing_payload = codes "missing header payload"

-- reads the magic bytes; any other bytes are a corruption
unfoldable pub magic_at : Reader (Unit {0}) Fault
magic_at bytes = if starts_with nat_eq bytes magic then Ok (tt, drop (length magic) bytes)
    else Err (corrupt magic_mismatch)

-- the version with this number, or a fault if there is none
abbrev pub version_of : ℕ → Result Version Fault
version_of n = if n == 1 then Ok V1 else (if n == 2 then Ok V2 else Err (corrupt (unknown_version n)))

-- Reads a version. If there are fewer than eight bytes, it fails as the read of any number does. If no version has the
-- number that was read, it fails with a corruption.
unfoldable pub version_at : Reader Version Fault
version_at bytes = do
  number ← lifted (high_first_at w64 bytes)
  version ← version_of number.0
  Ok (version, number.1)

-- reads what follows the version: nothing in version 1, eight bytes in version 2
unfoldable pub payload_at : Version → Reader LogFileFormat Fault
payload_at V1 bytes = Ok (record { version = V1; alignment = 0 }, bytes)
payload_at V2 bytes =
    if nat_lt (length bytes) 8 then Err (corrupt missing_payload)
    else Ok (record { version = V2; alignment = from_be_bytes w64 (take 8 bytes) }, drop 8 bytes)

-- reads a header: the magic bytes, the version and the rest; returns the first error
unfoldable pub header_at : Reader LogFileFormat Fault
header_at bytes = magic_at bytes >>= λ x. version_at x.1 >>= λ y. payload_at y.0 y.1

-- Writing a header.

-- the bytes after the version: none in version 1, the alignment in version 2
abbrev pub payload_bytes : Version → ℕ → List ℕ
payload_bytes V1 alignment = []
payload_bytes V2 alignment = u64_bytes alignment

-- The bytes of a format's header. A format of version 1 with an alignment has no header; for it, these bytes leave out
-- the alignment.
unfoldable pub header_bytes : LogFileFormat → List ℕ
header_bytes format =
    magic ++ (u64_bytes (version_number format.version) ++ payload_bytes format.version format.alignment)

-- the error text for a version 1 format that has an alignment
abbrev pub no_alignment : List ℕ
no_alignment = codes "a log file of the first version has no alignment"

-- the error says that a version 1 format has an alignment, or that memory ran out
abbrev pub SaysNoAlignment : Error → Type 0
SaysNoAlignment (errors.InvalidArgument text) = string_bytes text ≡ no_alignment
SaysNoAlignment errors.Memory = Unit {0}
SaysNoAlignment _ = ⊥

-- the format has a header: if it has version 1, its alignment is 0
abbrev pub HasWrittenHeader : LogFileFormat → Type 0
HasWrittenHeader format = format.version ≡ V1 → format.alignment ≡ 0

-- Why a header can't be written: the format has version 1 and an alignment, as the error's text says. Or memory ran
-- out.
abbrev pub IsHeaderRefusal : LogFileFormat → Error → Type 0
IsHeaderRefusal format (errors.InvalidArgument text) =
    (format.version ≡ V1) × (format.alignment ≢ 0) × (string_bytes text ≡ no_alignment)
IsHeaderRefusal format errors.Memory = Unit {0}
IsHeaderRefusal format _ = ⊥

-- the format with version 1 and no alignment
abbrev pub first_format : LogFileFormat
first_format = record { version = V1; alignment = 0 }
