-- What a call on names changes, and what it leaves as it was.
use Rattle.std.specs.Prelude.{◌≡◌, ℕ, Option, Some, None, List, []}
use Rattle.std.specs.Map.{update}
use Rattle.std.specs.Str.{bytes_eq}
use Rattle.std.proofs.Common.{sym, ◌∙◌, ap, subst, arith, inl, inr, nat_eq}
use Rattle.std.proofs.lemmas.Bool.{cases_eq}
use Rattle.raft_log_fs.specs.Disk.{File, Disk, at_rest}
use Rattle.raft_log_fs.specs.Image.{IsSound}
use Rattle.raft_log_fs.specs.Calls.{without}
use Rattle.raft_log_fs.specs.Names.{CreationLeaves, DeletionLeaves, RenamingLeaves, NamesChange}
use Rattle.raft_log_fs.proofs.SoundLaws.{without_apart}
use Rattle.raft_log_fs.proofs.Updates.{name_here, name_apart, file_here, file_apart}

pub creation_leaves : (d : Disk) (path : List ℕ) → IsSound d → CreationLeaves path d
creation_leaves d path sound = record {
  named = name_here d.names path (Some d.unused);
  empty = file_here d.files d.unused (Some (at_rest []));
  names = λ other apart. name_apart d.names path (Some d.unused) other apart;
  files = λ id file is.
      let new : id ≡ d.unused → ⊥ = λ same. (let none : d.files id ≡ None = sound.fresh id (omega (arith, same)) in cc) in
      file_apart d.files d.unused (Some (at_rest [])) id new ∙ is;
}

pub deletion_leaves : (d : Disk) (path : List ℕ) (id : ℕ) → DeletionLeaves path id d
deletion_leaves d path id = record {
  unnamed = name_here d.names path None;
  gone = file_here d.files id None;
  names = λ other apart. name_apart d.names path None other apart;
  files = λ other apart. file_apart d.files id None other apart;
}

-- the file of a name that is given to another one is gone
without_lost : (o : Option ℕ) (files : ℕ → Option File) (id : ℕ) → o ≡ Some id → without o files id ≡ None
without_lost None files id is = cc
without_lost (Some other) files id is = (let same : other ≡ id = cc in subst (λ (n : ℕ). update nat_eq files n None id ≡ None) (sym same) (file_here files id None))

pub renaming_leaves : (d : Disk) (from to : List ℕ) (id : ℕ) → RenamingLeaves from to id d
renaming_leaves d from to id =
    let rest = without (d.names to) d.files in
    let left = update bytes_eq d.names from None in
    record {
      named = name_here left to (Some id);
      unnamed = λ apart. name_apart left to (Some id) from apart ∙ name_here d.names from None;
      itself = file_here rest id (d.files id);
      replaced = λ other is apart. file_apart rest id (d.files id) other apart ∙ without_lost (d.names to) d.files other is;
      names = λ other old new. name_apart left to (Some id) other new ∙ name_apart d.names from None other old;
      files = λ other kept. elim (cases_eq other id) [
        | inl same ↦ ap (λ (n : ℕ). update nat_eq rest id (d.files id) n) same ∙ file_here rest id (d.files id) ∙ ap d.files (sym same)
        | inr apart ↦ file_apart rest id (d.files id) other apart ∙ without_apart (d.names to) d.files other kept
      ];
    }

pub names_change : NamesChange
names_change = record { creation = creation_leaves; deletion = deletion_leaves; renaming = renaming_leaves }
