-- Files with an alignment have padding between records. The log's pipes don't support such files.
use Rattle.std.specs.Prelude.{◌≡◌, ℕ, List, [], ◌∷◌, codes}
use Rattle.std.specs.String.{string_bytes}
use Rattle.raft_log_record_base.specs.declared.errors.Error.{Error}
use Rattle.raft_log_record_base.specs.declared.errors.Error.TheVariants as errors
use Rattle.raft_log_recovery_read.specs.declared.file_ending.FileEnding.{FileEnding}

-- none of these files has an alignment
abbrev pub AreUnaligned : List FileEnding → Type 0
AreUnaligned [] = Unit {0}
AreUnaligned (ending ∷ endings) = (ending.format.alignment ≡ 0) × AreUnaligned endings

-- the message of the error if a file has an alignment
abbrev pub told_aligned : List ℕ
told_aligned = codes "a file of the log has an alignment, which this log doesn't take"

-- the error if a file has an alignment: `InvalidArgument` with this message, or `Memory` if the message can't be
-- allocated
abbrev pub TellsAligned : Error → Type 0
TellsAligned (errors.InvalidArgument text) = string_bytes text ≡ told_aligned
TellsAligned errors.Memory = Unit {0}
TellsAligned _ = ⊥
