-- Which headers a pipe writes: only those of formats without an alignment.
use Rattle.std.specs.Prelude.{◌≡◌, ℕ, List, codes}
use Rattle.std.specs.String.{string_bytes}
use Rattle.raft_log_record_base.specs.declared.errors.Error.{Error}
use Rattle.raft_log_record_base.specs.declared.errors.Error.TheVariants as errors
use Rattle.raft_log_file_format.specs.declared.header.LogFileFormat.{LogFileFormat}
use Rattle.raft_log_active_file.specs.Layout.{IsUnaligned}

-- the error text for a format with an alignment
abbrev pub told_aligned : List ℕ
told_aligned = codes "the files of a pipe have no alignment"

-- why no header was made: the format has an alignment, as the error text says; or memory ran out
abbrev pub IsAlignmentRefusal : LogFileFormat → Error → Type 0
IsAlignmentRefusal format (errors.InvalidArgument text) =
    (IsUnaligned format → ⊥) × (string_bytes text ≡ told_aligned)
IsAlignmentRefusal format errors.Memory = Unit {0}
IsAlignmentRefusal format _ = ⊥
