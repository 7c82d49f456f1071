-- Why a key, or a value that was read, is rejected.
use Rattle.std.specs.Prelude.{◌≡◌, ℕ, List, IsTrue, codes}
use Rattle.std.specs.String.{string_bytes}
use Rattle.raft_log_record_base.specs.declared.errors.Error.{Error}
use Rattle.raft_log_record_base.specs.declared.errors.Error.TheVariants as errors
use Rattle.raft_log_record_frames.specs.Key.{is_internal}
use Rattle.raft_log_record_frames.specs.Marking.{mark_key}

-- the error's text for a key that begins with two underscores: the log reserves such keys for itself
abbrev pub reserved_key : List ℕ
reserved_key = codes "key prefix `__` reserved for internal usage"

-- Why a key is rejected. The error is `InvalidArgument` with the text `reserved_key` if the key is reserved. It may
-- always be `Memory`.
abbrev pub IsKeyRefusal : Error → List ℕ → Type 0
IsKeyRefusal errors.Memory key = Unit {0}
IsKeyRefusal (errors.InvalidArgument text) key = IsTrue (is_internal key) × (string_bytes text ≡ reserved_key)
IsKeyRefusal _ key = ⊥

-- the error's text if a value would be a mark of an atomic group
abbrev pub reserved_mark : List ℕ
reserved_mark = codes "a mark of an atomic group is no value"

-- Why a value that was read is rejected. The error is `InvalidArgument` with the text `reserved_mark` if the value is
-- under the key of marks in group 0. It may always be `Memory`.
abbrev pub IsMarkRefusal : Error → ℕ → List ℕ → Type 0
IsMarkRefusal errors.Memory group key = Unit {0}
IsMarkRefusal (errors.InvalidArgument text) group key =
    (group ≡ 0) × (key ≡ mark_key) × (string_bytes text ≡ reserved_mark)
IsMarkRefusal _ group key = ⊥
