-- What is known of a file, through the calls on it and on others.
use Rattle.std.specs.Prelude.{◌≡◌, ℕ, Option, Some, List, Result}
use Rattle.std.specs.Result.{IfOk, IfErr, OnOk}
use Rattle.std.specs.declared.io.ErrorKind.{ErrorKind}
use Rattle.std.proofs.Common.{refl, sym, ◌∙◌, ap, subst, arith}
use Rattle.raft_log_fs.specs.Disk.{Change, File, Disk, with_file}
use Rattle.raft_log_fs.specs.Image.{IsSound}
use Rattle.raft_log_fs.specs.Calls.{with_change, after_change, flushed, InPart, Changes, Creates, Renames, RefusedChange, RefusedWhole}
use Rattle.raft_log_fs.specs.Touching.{HasFile, TouchesOnly, TouchesOnlyNames, OtherNamesStay}
use Rattle.raft_log_fs.proofs.Updates.{file_here, file_apart}
use Rattle.raft_log_fs.proofs.ImageLaws.{named_is_used}
use Rattle.raft_log_fs.proofs.NamesLaws.{creation_leaves, renaming_leaves}
use Rattle.raft_log_fs.proofs.KeptLaws.{IsCalm, kept_change, kept_sync, kept_create, kept_rename}

-- one file has a number
pub same_file : (d : Disk) (id : ℕ) (a b : File) → d.files id ≡ Some a → d.files id ≡ Some b → a ≡ b
same_file d id a b here there = cc

-- what holds of a file holds where a failure is counted, and at a stop
pub has_calm : (id : ℕ) (P : File → Type 0) → IsCalm (HasFile id P)
has_calm id P = record {
  at_count = λ d has. record { file = has.file; is = has.is; has = has.has };
  at_end = λ d has. record { file = has.file; is = has.is; has = has.has };
}

pub has_weaker : (id : ℕ) (P Q : File → Type 0) (d : Disk) → ((file : File) → P file → Q file) → HasFile id P d → HasFile id Q d
has_weaker id P Q d weaker has = record { file = has.file; is = has.is; has = weaker has.file has.has }

-- the file that is set has what it has
pub has_set : (id : ℕ) (P : File → Type 0) (d : Disk) (file : File) → P file → HasFile id P (with_file id (Some file) d)
has_set id P d file has = record { file = file; is = file_here d.files id (Some file); has = has }

-- an answered call
pub has_done : (id : ℕ) (P Q : File → Type 0) (next : File → File) (old new : Disk) → HasFile id P old → Changes id next old new → ((file : File) → P file → Q (next file)) → HasFile id Q new
has_done id P Q next old new has changes step =
    let same = same_file old id has.file changes.file has.is changes.is in
    subst (HasFile id Q) (sym changes.done) (has_set id Q old (next changes.file) (step changes.file (subst P same has.has)))

-- a write, a shortening or a growth, answered or refused
pub has_changed : {T : Type 0} {old new : Disk} (P Q : File → Type 0) (wrong : ErrorKind → Type 0) (result : Result T ErrorKind) (id : ℕ) (change : Change) → HasFile id P old
    → ((file : File) → P file → Q file) → ((file : File) (content : List ℕ) → P file → InPart change file.content content → Q (with_change change content file))
    → OnOk result (Changes id (after_change change) old new) → IfErr result (λ e. RefusedChange id change wrong e old new) → HasFile id Q new
has_changed {old = old} P Q wrong result id change has weaker step ok err =
    kept_change (HasFile id Q) wrong result id change (has_calm id Q) (has_weaker id P Q old weaker has)
    (λ file content is part. has_set id Q old (with_change change content file) (step file content (subst P (same_file old id has.file file has.is is) has.has) part)) ok err

-- a sync
pub has_synced : {T : Type 0} {old new : Disk} (P Q : File → Type 0) (wrong : ErrorKind → Type 0) (result : Result T ErrorKind) (id : ℕ) → HasFile id P old
    → ((file : File) → P file → Q file) → ((file : File) → P file → Q (flushed file))
    → OnOk result (Changes id flushed old new) → IfErr result (λ e. RefusedWhole (Changes id flushed old) wrong e old new) → HasFile id Q new
has_synced {old = old} P Q wrong result id has weaker step ok err =
    kept_sync (HasFile id Q) wrong result id (has_calm id Q) (has_weaker id P Q old weaker has)
    (λ file is. has_set id Q old (flushed file) (step file (subst P (same_file old id has.file file has.is is) has.has))) ok err

-- Calls on one file touch nothing else.

pub touches_same : (id : ℕ) (d : Disk) → TouchesOnly id d d
touches_same id d = record { names = refl; directories = refl; others = λ other apart. refl }

pub touches_then : (id : ℕ) (a b c : Disk) → TouchesOnly id a b → TouchesOnly id b c → TouchesOnly id a c
touches_then id a b c first next = record {
  names = next.names ∙ first.names;
  directories = next.directories ∙ first.directories;
  others = λ other apart. next.others other apart ∙ first.others other apart;
}

touches_calm : (id : ℕ) (old : Disk) → IsCalm (TouchesOnly id old)
touches_calm id old = record {
  at_count = λ d only. record { names = only.names; directories = only.directories; others = only.others };
  at_end = λ d only. record { names = only.names; directories = only.directories; others = only.others };
}

touches_file : (id : ℕ) (d : Disk) (file : Option File) → TouchesOnly id d (with_file id file d)
touches_file id d file = record { names = refl; directories = refl; others = λ other apart. file_apart d.files id file other apart }

pub touches_change : {T : Type 0} {old new : Disk} (wrong : ErrorKind → Type 0) (result : Result T ErrorKind) (id : ℕ) (change : Change)
    → OnOk result (Changes id (after_change change) old new) → IfErr result (λ e. RefusedChange id change wrong e old new) → TouchesOnly id old new
touches_change {old = old} wrong result id change ok err =
    kept_change (TouchesOnly id old) wrong result id change (touches_calm id old) (touches_same id old) (λ file content is part. touches_file id old (Some (with_change change content file))) ok err

pub touches_sync : {T : Type 0} {old new : Disk} (wrong : ErrorKind → Type 0) (result : Result T ErrorKind) (id : ℕ)
    → OnOk result (Changes id flushed old new) → IfErr result (λ e. RefusedWhole (Changes id flushed old) wrong e old new) → TouchesOnly id old new
touches_sync {old = old} wrong result id ok err =
    kept_sync (TouchesOnly id old) wrong result id (touches_calm id old) (touches_same id old) (λ file is. touches_file id old (Some (flushed file))) ok err

-- Calls on names of one's own touch no other's.

module _ (own : List ℕ → Type 0) where
  pub names_same : (d : Disk) → TouchesOnlyNames own d d
  names_same d = record { directories = refl; names = λ path other. refl; files = λ path id other at. refl }

  pub names_then : (a b c : Disk) → TouchesOnlyNames own a b → TouchesOnlyNames own b c → TouchesOnlyNames own a c
  names_then a b c first next = record {
    directories = next.directories ∙ first.directories;
    names = λ path other. next.names path other ∙ first.names path other;
    files = λ path id other at. next.files path id other (first.names path other ∙ at) ∙ first.files path id other at;
  }

  -- a call on a file that has one of the names
  pub names_file : (old new : Disk) (path : List ℕ) (id : ℕ) → IsSound old → own path → old.names path ≡ Some id → TouchesOnly id old new → TouchesOnlyNames own old new
  names_file old new path id sound mine at only = record {
    directories = only.directories;
    names = λ q other. ap (λ (f : List ℕ → Option ℕ). f q) only.names;
    files = λ q j other there. only.others j (λ same. other (subst own (sound.one_name path q j (at ∙ ap Some (sym same)) there) mine));
  }

  names_calm : (old : Disk) → IsCalm (TouchesOnlyNames own old)
  names_calm old = record {
    at_count = λ d only. record { directories = only.directories; names = only.names; files = only.files };
    at_end = λ d only. record { directories = only.directories; names = only.names; files = only.files };
  }

  pub names_create : {T : Type 0} {old new : Disk} (number : T → ℕ) (wrong : ErrorKind → Type 0) (result : Result T ErrorKind) (path : List ℕ) → IsSound old → own path
      → IfOk result (λ v. Creates path (number v) old new) → IfErr result (λ e. RefusedWhole (Creates path old.unused old) wrong e old new) → TouchesOnlyNames own old new
  names_create {old = old} number wrong result path sound mine ok err =
      kept_create (TouchesOnlyNames own old) number wrong result path (names_calm old) (names_same old) (λ free apart home.
      (let leaves = creation_leaves old path sound in
      record {
        directories = refl;
        names = λ q other. leaves.names q (λ same. other (subst own (sym same) mine));
        files = λ q j other there.
            let below = named_is_used old q j sound there in
            file_apart old.files old.unused _ j (λ same. omega (arith, below, same));
      })) ok err

  pub names_rename : {T : Type 0} {old new : Disk} (wrong : ErrorKind → Type 0) (result : Result T ErrorKind) (from to : List ℕ) → IsSound old → own from → own to
      → OnOk result (Renames from to old new) → IfErr result (λ e. RefusedWhole (Renames from to old) wrong e old new) → TouchesOnlyNames own old new
  names_rename {old = old} wrong result from to sound mine ours ok err =
      kept_rename (TouchesOnlyNames own old) wrong result from to (names_calm old) (names_same old) (λ id is apart home.
      (let leaves = renaming_leaves old from to id in
      record {
        directories = refl;
        names = λ q other. leaves.names q (λ same. other (subst own (sym same) mine)) (λ same. other (subst own (sym same) ours));
        files = λ q j other there. leaves.files j (λ at. other (subst own (sound.one_name to q j at there) ours));
      })) ok err

pub other_names_stay : (own : List ℕ → Type 0) (P : File → Type 0) → OtherNamesStay own P
other_names_stay own P old new path only other has =
    let file = has.file in
    record {
      id = has.id;
      named = only.names path other ∙ has.named;
      file = record { file = file.file; is = only.files path has.id other has.named ∙ file.is; has = file.has };
    }
