-- The error with which a recovery fails for a damaged file. It names the file's queue and number, and the offset of the
-- damage.
use Rattle.std.specs.Prelude.{◌≡◌, ℕ, Option, List, ◌++◌, codes, unwrap_or}
use Rattle.std.specs.Fmt.{decimal}
use Rattle.std.specs.String.{string_bytes}
use Rattle.raft_log_record_base.specs.declared.errors.Error.{Error}
use Rattle.raft_log_record_base.specs.declared.errors.Error.TheVariants as errors
use Rattle.raft_log_record_base.specs.declared.pipe_log.FileId.{FileId}
use Rattle.raft_log_recovery_read.specs.Foreign.{queue_name}

-- what an error says about damaged bytes; `Codec` is about a number among them
abbrev pub fault_text : Error → List ℕ
fault_text (errors.Corruption text) = string_bytes text
fault_text _ = codes "a number is cut short or too large"

-- the error's text for a damaged file: queue, number, offset, and what is wrong
abbrev pub told_damage : FileId → ℕ → List ℕ → List ℕ
told_damage id at wrong = queue_name id.queue ++ (codes " file " ++ (decimal id.seq ++ (codes ": damaged at offset "
    ++ (decimal at ++ (codes ": " ++ wrong)))))

-- The error names the damaged file, an offset, and what is wrong (`fault`); or memory ran out for its text. The offset
-- is `end`: where the last good record ends, or the header if there is no good record. If the header is missing or
-- torn, `end` is `None`, and the offset is 0.
abbrev pub NamesDamage : FileId → Option ℕ → Error → Error → Type 0
NamesDamage id end fault (errors.Corruption text) =
    string_bytes text ≡ told_damage id (unwrap_or end 0) (fault_text fault)
NamesDamage id end fault errors.Memory = Unit {0}
NamesDamage id end fault _ = ⊥
