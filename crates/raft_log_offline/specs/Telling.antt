-- Names of log files in a fork's target directory, and errors with a given message.
use Rattle.std.specs.Prelude.{◌≡◌, ℕ, List, Contains}
use Rattle.std.specs.String.{string_bytes}
use Rattle.raft_log_record_base.specs.declared.errors.Error.{Error}
use Rattle.raft_log_record_base.specs.declared.errors.Error.TheVariants as errors
use Rattle.raft_log_file_settings.specs.Sanitized.{IsFileName}

-- one of these names is that of a log file or of a reserved file
abbrev pub HasFileName : List (List ℕ) → Type 0
HasFileName names = (name : List ℕ) × Contains names name × IsFileName name

-- the error is `InvalidArgument` with this message, or `Memory` if the message could not be allocated
abbrev pub TellsWords : List ℕ → Error → Type 0
TellsWords words (errors.InvalidArgument text) = string_bytes text ≡ words
TellsWords words errors.Memory = Unit {0}
TellsWords words _ = ⊥
