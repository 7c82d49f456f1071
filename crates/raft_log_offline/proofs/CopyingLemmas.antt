-- Why a file isn't copied, and what stands where one is.
use Rattle.std.specs.Prelude.{◌⊎◌}
use Rattle.std.proofs.Common.{◌≡◌, ℕ, Some, true, List, [], ◌∷◌, refl, sym, subst, inl, inr, arith}
use Rattle.std.specs.declared.io.ErrorKind.{ErrorKind}
use Rattle.raft_log_record_base.specs.declared.errors.Error.{Error}
use Rattle.raft_log_record_base.specs.declared.errors.Error.TheVariants as errors
use Rattle.raft_log_fs.specs.Disk.{Disk}
use Rattle.raft_log_fs.specs.Arguments.{WrongCreate}
use Rattle.raft_log_fs.specs.Causes.{Fails, has_stopped}
use Rattle.raft_log_fs.specs.Reading.{unreadable, stopped, gone}
use Rattle.raft_log_recovery_scan.specs.Names.{built_name}
use Rattle.raft_log_recovery_scan.proofs.Public.{built_plain}
use Rattle.raft_log_offline.specs.Copies.{IsCopyRefusal, IsSourceThere, copy_path}
use Rattle.raft_log_offline.specs.Steps.{CopiesOne, FailsToCopyOne, FailsToMake, FailsToReadWhole, AreAllBytes, MakesFile, TellsUncopied, TellsUnmade}
use Rattle.raft_log_offline.specs.declared.source_file.SourceFile.{SourceFile}
use Rattle.raft_log_offline.proofs.Adds.{adds_none}

read_fails : (target : List ℕ) (file : SourceFile) (d : Disk) (kind : ErrorKind) → IsSourceThere d file → FailsToReadWhole file.handle d (errors.Io kind) → IsCopyRefusal target (file ∷ []) (errors.Io kind) d d
read_fails target file d kind there (inl (inl (stop, told))) = inl (has_stopped stop)
read_fails target file d kind there (inl (inr (runs, wrong))) = absurd (let none = wrong.1 in let is = there.is in cc)
read_fails target file d kind there (inr (count, stopped stop told)) = inl (has_stopped stop)
read_fails target file d kind there (inr (count, gone runs wrong)) = absurd (let none = wrong.1 in let is = there.is in cc)
read_fails target file d kind there (inr (count, unreadable content place is behind before inside marked told)) = inr (inl (file, (0, omega arith, refl), (place, marked)))

-- a file that wasn't read isn't copied
pub unread_one : (target : List ℕ) (file : SourceFile) (d : Disk) (error : Error) → IsSourceThere d file → FailsToReadWhole file.handle d error → FailsToCopyOne target file error d d
unread_one target file d (errors.Io kind) there fails = (adds_none target _ d, read_fails target file d kind there fails)
unread_one target file d errors.Memory there fails = (adds_none target _ d, tt)
unread_one target file d _ there fails = absurd fails

-- want of memory before anything is made
pub short_one : (target : List ℕ) (file : SourceFile) (d : Disk) (error : Error) → error ≡ errors.Memory → FailsToCopyOne target file error d d
short_one target file d errors.Memory is = (adds_none target _ d, tt)
short_one target file d _ is = absurd cc

make_fails : (target : List ℕ) (file : SourceFile) (kind : ErrorKind) (old new : Disk) → IsSourceThere old file → old.directories target ≡ true
    → Fails old new ⊎ WrongCreate (copy_path target file) old kind → IsCopyRefusal target (file ∷ []) (errors.Io kind) old new
make_fails target file kind old new there home (inl fails) = inl fails
make_fails target file kind old new there home (inr (inl (is, taken))) = inr (inr (is, (file, (0, omega arith, refl), taken)))
make_fails target file kind old new there home (inr (inr (is, none))) = absurd (none (record {
  directory = target;
  inside = record { name = built_name file.kind file.seq; joined = refl; plain = built_plain file.kind file.seq there.small };
  there = home;
}))

-- a file whose copy wasn't made isn't copied
pub unmade_one : (target : List ℕ) (file : SourceFile) (error : Error) (old new : Disk) → IsSourceThere old file → old.directories target ≡ true → FailsToMake (copy_path target file) error old new
    → FailsToCopyOne target file error old new
unmade_one target file (errors.Io kind) old new there home (adds, why) = (adds target, make_fails target file kind old new there home why)
unmade_one target file _ old new there home fails = absurd fails

-- the same, where the path that was asked for is the copy's
pub unmade_at : (target : List ℕ) (file : SourceFile) (path : List ℕ) (error : Error) (old new : Disk) → path ≡ copy_path target file → IsSourceThere old file → old.directories target ≡ true
    → FailsToMake path error old new → FailsToCopyOne target file error old new
unmade_at target file path error old new same there home fails =
    unmade_one target file error old new there home (subst (λ (l : List ℕ). FailsToMake l error old new) same fails)

pub copied_one : (target : List ℕ) (file : SourceFile) (bytes : List ℕ) (old new : Disk) → AreAllBytes file.handle.file bytes old → MakesFile (copy_path target file) bytes old new → CopiesOne target file old new
copied_one target file bytes old new whole made = record {
  adds = made.adds target;
  copy = record {
    file = whole.file;
    is = whole.is;
    copy = made.copy;
    named = made.named;
    stands = subst (λ (l : List ℕ). new.files made.copy ≡ Some (record { content = l; synced = l; changes = [] })) whole.all made.stands;
  };
}

-- Whose refusal is told.

pub unread_told : (target : List ℕ) (file : SourceFile) (d : Disk) (error : Error) → FailsToReadWhole file.handle d error → TellsUncopied target file error d d
unread_told target file d (errors.Io kind) fails = inl (fails, refl)
unread_told target file d errors.Memory fails = tt
unread_told target file d _ fails = absurd fails

pub short_told : (target : List ℕ) (file : SourceFile) (old new : Disk) (error : Error) → error ≡ errors.Memory → TellsUncopied target file error old new
short_told target file old new error is = subst (λ (e : Error). TellsUncopied target file e old new) (sym is) tt

unmade_told : (target : List ℕ) (file : SourceFile) (bytes : List ℕ) (error : Error) (old new : Disk) → AreAllBytes file.handle.file bytes old → TellsUnmade (copy_path target file) bytes error old new
    → TellsUncopied target file error old new
unmade_told target file bytes (errors.Io kind) old new whole told = inr (bytes, whole, told)
unmade_told target file bytes _ old new whole told = absurd told

-- the same, where the path that was asked for is the copy's, and the bytes are those that were read
pub unmade_told_at : (target : List ℕ) (file : SourceFile) (path asked bytes : List ℕ) (error : Error) (old new : Disk) → path ≡ copy_path target file → asked ≡ bytes
    → AreAllBytes file.handle.file bytes old → TellsUnmade path asked error old new → TellsUncopied target file error old new
unmade_told_at target file path asked bytes error old new same is whole told =
    unmade_told target file bytes error old new whole
    (subst (λ (l : List ℕ). TellsUnmade (copy_path target file) l error old new) is (subst (λ (l : List ℕ). TellsUnmade l asked error old new) same told))
