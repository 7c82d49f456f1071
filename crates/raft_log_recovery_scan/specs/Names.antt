-- The names that a log's files may have, the name that the log gives to a new file, and which names are errors.
use Rattle.std.specs.Prelude.{◌≡◌, ℕ, ◌<◌, Bool, false, List, ◌++◌, codes}
use Rattle.std.specs.String.{string_bytes}
use Rattle.raft_log_record_base.specs.declared.errors.Error.{Error}
use Rattle.raft_log_record_base.specs.declared.errors.Error.TheVariants as errors
use Rattle.raft_log_record_base.specs.declared.pipe_log.LogQueue.TheVariants as queues
use Rattle.raft_log_file_format.specs.Name.{IsNamed, name_limit, number_text, suffix_of, reserved_suffix}
use Rattle.raft_log_recovery_scan.specs.declared.file_kind.FileKind.{FileKind}
use Rattle.raft_log_recovery_scan.specs.declared.file_kind.FileKind.TheVariants.{Append, Rewrite, Reserved}

-- the suffix of the names of files of this kind
abbrev pub end_of : FileKind → List ℕ
end_of Append = suffix_of queues.Append
end_of Rewrite = suffix_of queues.Rewrite
end_of Reserved = reserved_suffix

-- the name of the file with number `n`, with a plus sign before the number or without one
abbrev pub name_of : FileKind → Bool → ℕ → List ℕ
name_of kind signed n = number_text signed n ++ end_of kind

-- the name that the log gives to the file with number `n`: without a sign
abbrev pub built_name : FileKind → ℕ → List ℕ
built_name kind n = name_of kind false n

-- `name` is the name of the file with number `n`, and the number is small enough for a name
abbrev pub IsNameOf : FileKind → Bool → ℕ → List ℕ → Type 0
IsNameOf kind signed n name = (n < name_limit signed) × (name ≡ name_of kind signed n)

-- The name doesn't begin with a number, or doesn't end with the suffix of this kind. So no file of this kind has the
-- name, and the name isn't misnamed.
abbrev pub IsOther : FileKind → List ℕ → Type 0
IsOther kind name = (n : ℕ) → IsNamed (end_of kind) name n → ⊥

-- The name begins with a number and ends with the suffix. It has more text between the two, so it is not the name of
-- that number.
abbrev pub IsMisnamed : FileKind → List ℕ → Type 0
IsMisnamed kind name =
    (n : ℕ) × IsNamed (end_of kind) name n × ((signed : Bool) → IsNameOf kind signed n name → ⊥)

-- the message of the error for a misnamed file
abbrev pub told_misnamed : List ℕ → List ℕ
told_misnamed name = codes "misnamed log file: " ++ name

-- The errors of parsing a file's name. `Corruption`: the file is misnamed, and the message has its name. `Memory`:
-- memory ran out.
abbrev pub FailsToName : FileKind → List ℕ → Error → Type 0
FailsToName kind name (errors.Corruption text) =
    IsMisnamed kind name × (string_bytes text ≡ told_misnamed name)
FailsToName kind name errors.Memory = Unit {0}
FailsToName kind name _ = ⊥

-- the error for a misnamed file: `Corruption` with a message that has the name, or `Memory` if the message could not
-- be allocated
abbrev pub TellsMisnamed : List ℕ → Error → Type 0
TellsMisnamed name (errors.Corruption text) = string_bytes text ≡ told_misnamed name
TellsMisnamed name errors.Memory = Unit {0}
TellsMisnamed name _ = ⊥
