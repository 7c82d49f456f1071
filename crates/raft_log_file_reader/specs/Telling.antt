-- The errors of a call on a path, if the path has no file or directory that can be read.
use Rattle.std.specs.Prelude.{◌≡◌, ℕ, Bool, true, false, List}
use Rattle.std.specs.String.{string_bytes}
use Rattle.std.specs.declared.io.ErrorKind.{ErrorKind}
use Rattle.std.specs.declared.io.ErrorKind.TheVariants.{OutOfMemory}
use Rattle.raft_log_record_base.specs.declared.errors.Error.{Error}
use Rattle.raft_log_record_base.specs.declared.errors.Error.TheVariants as errors
use Rattle.raft_log_file_reader.specs.Files.{told}

-- the error is `InvalidArgument`, whose text has these words and the path; or it is `Memory`
abbrev pub TellsInvalid : List ℕ → List ℕ → Error → Type 0
TellsInvalid words path (errors.InvalidArgument text) = string_bytes text ≡ told words path
TellsInvalid words path errors.Memory = Unit {0}
TellsInvalid words path _ = ⊥

-- The file system failed a call on a path with `kind`, and this is the error for the caller. `stopped` says whether the
-- file system had stopped.
-- - `Io`: the file system had stopped, and the error has this kind.
-- - `Memory`: the file system runs.
-- - `InvalidArgument`: the file system runs, and `kind` isn't `OutOfMemory`. The text has these words and the path.
abbrev pub TellsAbsent : Bool → ErrorKind → List ℕ → List ℕ → Error → Type 0
TellsAbsent stopped kind words path (errors.InvalidArgument text) =
    (stopped ≡ false) × (kind ≡ OutOfMemory → ⊥) × (string_bytes text ≡ told words path)
TellsAbsent stopped kind words path (errors.Io told_kind) = (stopped ≡ true) × (told_kind ≡ kind)
TellsAbsent stopped kind words path errors.Memory = stopped ≡ false
TellsAbsent stopped kind words path _ = ⊥
