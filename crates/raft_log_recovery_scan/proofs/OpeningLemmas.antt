-- Why a file that is there wasn't opened.
use Rattle.std.specs.Prelude.{None}
use Rattle.std.proofs.Common.{◌≡◌, ℕ, ◌^◌, ◌<◌, Bool, List, sym, ◌∙◌, inl, inr, arith}
use Rattle.std.specs.declared.io.ErrorKind.{ErrorKind}
use Rattle.raft_log_record_base.specs.declared.errors.Error.{Error}
use Rattle.raft_log_record_base.specs.declared.errors.Error.TheVariants as errors
use Rattle.raft_log_fs.specs.Disk.{Disk}
use Rattle.raft_log_fs.specs.Arguments.{IsDeclined}
use Rattle.raft_log_fs.specs.Reading.{IsNotOpened}
use Rattle.raft_log_file_format.specs.Name.{IsNameRefusal}
use Rattle.raft_log_recovery_scan.specs.Directories.{TellsRefusal}
use Rattle.raft_log_recovery_scan.specs.Opened.{FailsToLook}
use Rattle.raft_log_recovery_scan.proofs.DirectoryLemmas.{after_stop}

pub name_fails : (d : Disk) (n : ℕ) (error : Error) → n < 10 ^ 16 → IsNameRefusal n error → FailsToLook d error
name_fails d n errors.NumberRange small refusal = absurd (omega (arith, small, refusal))
name_fails d n errors.Memory small refusal = tt
name_fails d n _ small refusal = absurd refusal

pub not_opened : (path : List ℕ) (d : Disk) (kind : ErrorKind) (stopped : Bool) (error : Error) → (d.names path ≡ None → ⊥) → IsNotOpened path d kind → TellsRefusal stopped kind error
    → stopped ≡ d.stopped → FailsToLook d error
not_opened path d kind stopped (errors.Io told) there not (is, inl stop) same = after_stop not (sym same ∙ stop) is
not_opened path d kind stopped (errors.Io told) there (IsDeclined.stopped stop tells) (is, inr other) same = (stop, is ∙ tells)
not_opened path d kind stopped (errors.Io told) there (IsDeclined.wrong_argument runs why) (is, inr other) same = absurd (there why.1)
not_opened path d kind stopped (errors.Io told) there (IsDeclined.no_memory runs memory) (is, inr other) same = absurd (other memory)
not_opened path d kind stopped errors.Memory there not tells same = tt
not_opened path d kind stopped _ there not tells same = absurd tells
