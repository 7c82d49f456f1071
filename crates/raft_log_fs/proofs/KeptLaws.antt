-- What each call, answered or refused, keeps of a predicate on the disk: a client's proof is one line for each call.
use Rattle.std.specs.Prelude.{◌≡◌, ℕ, ◌⊎◌, false, Some, None, List, Result, Ok, Err}
use Rattle.std.specs.Result.{IfOk, IfErr, OnOk}
use Rattle.std.specs.declared.io.ErrorKind.{ErrorKind}
use Rattle.std.proofs.Common.{sym, subst, inl, inr}
use Rattle.raft_log_fs.specs.Disk.{Change, File, Disk, with_file, HasDirectory}
use Rattle.raft_log_fs.specs.Calls.{with_change, after_change, flushed, created, deleted, renamed, with_directory, counted, at_stop, InPart, Changes, Creates, Deletes, Renames, MakesDirectory, Refused, after_stop, wrong_argument, failed, stops, SomeOf, none, some, RefusedChange, RefusedWhole}
use Rattle.raft_log_fs.proofs.ChangeLaws.{changed_in_part}

-- neither a counted failure nor a stop touches it
pub record IsCalm (Q : Disk → Type 0) : Type 0 where
  pub at_count : {error : ErrorKind} (d : Disk) → Q d → Q (counted error d)
  pub at_end : (d : Disk) → Q d → Q (at_stop d)

-- A refused call keeps what each disk has that it may leave.
pub kept_refused : {part done : Disk → Type 0} {wrong : ErrorKind → Type 0} {error : ErrorKind} {old new : Disk} (Q : Disk → Type 0) → IsCalm Q → Q old
    → ((left : Disk) → part left → Q left) → ((left : Disk) → done left → Q left) → Refused part done wrong error old new → Q new
kept_refused Q calm before in_part whole (after_stop is same told) = subst Q (sym same) before
kept_refused Q calm before in_part whole (wrong_argument runs why same) = subst Q (sym same) before
kept_refused Q calm before in_part whole (failed runs right left is same) = subst Q (sym same) (calm.at_count left (in_part left is))
kept_refused Q calm before in_part whole (stops runs told left (inl is) same) = subst Q (sym same) (calm.at_end left (subst Q (sym is) before))
kept_refused Q calm before in_part whole (stops runs told left (inr (right, inl is)) same) = subst Q (sym same) (calm.at_end left (in_part left is))
kept_refused Q calm before in_part whole (stops runs told left (inr (right, inr is)) same) = subst Q (sym same) (calm.at_end left (whole left is))

-- a write, a cut or a growth
pub kept_change : {T : Type 0} {old new : Disk} (Q : Disk → Type 0) (wrong : ErrorKind → Type 0) (result : Result T ErrorKind) (id : ℕ) (change : Change) → IsCalm Q → Q old
    → ((file : File) (content : List ℕ) → old.files id ≡ Some file → InPart change file.content content → Q (with_file id (Some (with_change change content file)) old))
    → OnOk result (Changes id (after_change change) old new) → IfErr result (λ e. RefusedChange id change wrong e old new) → Q new
kept_change Q wrong (Ok v) id change calm before step ok err = subst Q (sym ok.done) (step ok.file _ ok.is (changed_in_part change ok.file.content))
kept_change {old = old} Q wrong (Err e) id change calm before step ok err = kept_refused Q calm before in_part whole err
  where
    in_part : (left : Disk) → SomeOf id change old left → Q left
    in_part left (none same) = subst Q (sym same) before
    in_part left (some file content is part same) = subst Q (sym same) (step file content is part)

    whole : (left : Disk) → Changes id (after_change change) old left → Q left
    whole left is = subst Q (sym is.done) (step is.file _ is.is (changed_in_part change is.file.content))

-- a sync
pub kept_sync : {T : Type 0} {old new : Disk} (Q : Disk → Type 0) (wrong : ErrorKind → Type 0) (result : Result T ErrorKind) (id : ℕ) → IsCalm Q → Q old
    → ((file : File) → old.files id ≡ Some file → Q (with_file id (Some (flushed file)) old))
    → OnOk result (Changes id flushed old new) → IfErr result (λ e. RefusedWhole (Changes id flushed old) wrong e old new) → Q new
kept_sync Q wrong (Ok v) id calm before step ok err = subst Q (sym ok.done) (step ok.file ok.is)
kept_sync Q wrong (Err e) id calm before step ok err =
    kept_refused Q calm before (λ left same. subst Q (sym same) before) (λ left is. subst Q (sym is.done) (step is.file is.is)) err

-- a new file
pub kept_create : {T : Type 0} {old new : Disk} (Q : Disk → Type 0) (number : T → ℕ) (wrong : ErrorKind → Type 0) (result : Result T ErrorKind) (path : List ℕ) → IsCalm Q → Q old
    → (old.names path ≡ None → old.directories path ≡ false → HasDirectory path old → Q (created path old))
    → IfOk result (λ v. Creates path (number v) old new) → IfErr result (λ e. RefusedWhole (Creates path old.unused old) wrong e old new) → Q new
kept_create Q number wrong (Ok v) path calm before step ok err = subst Q (sym ok.done) (step ok.free ok.apart ok.home)
kept_create Q number wrong (Err e) path calm before step ok err =
    kept_refused Q calm before (λ left same. subst Q (sym same) before) (λ left is. subst Q (sym is.done) (step is.free is.apart is.home)) err

-- a deletion
pub kept_delete : {T : Type 0} {old new : Disk} (Q : Disk → Type 0) (wrong : ErrorKind → Type 0) (result : Result T ErrorKind) (path : List ℕ) → IsCalm Q → Q old
    → ((id : ℕ) → old.names path ≡ Some id → Q (deleted path id old))
    → OnOk result (Deletes path old new) → IfErr result (λ e. RefusedWhole (Deletes path old) wrong e old new) → Q new
kept_delete Q wrong (Ok v) path calm before step ok err = subst Q (sym ok.done) (step ok.id ok.is)
kept_delete Q wrong (Err e) path calm before step ok err =
    kept_refused Q calm before (λ left same. subst Q (sym same) before) (λ left is. subst Q (sym is.done) (step is.id is.is)) err

-- a renaming
pub kept_rename : {T : Type 0} {old new : Disk} (Q : Disk → Type 0) (wrong : ErrorKind → Type 0) (result : Result T ErrorKind) (from to : List ℕ) → IsCalm Q → Q old
    → ((id : ℕ) → old.names from ≡ Some id → old.directories to ≡ false → HasDirectory to old → Q (renamed from to id old))
    → OnOk result (Renames from to old new) → IfErr result (λ e. RefusedWhole (Renames from to old) wrong e old new) → Q new
kept_rename Q wrong (Ok v) from to calm before step ok err = subst Q (sym ok.done) (step ok.id ok.is ok.apart ok.home)
kept_rename Q wrong (Err e) from to calm before step ok err =
    kept_refused Q calm before (λ left same. subst Q (sym same) before) (λ left is. subst Q (sym is.done) (step is.id is.is is.apart is.home)) err

-- a new directory
pub kept_directory : {T : Type 0} {old new : Disk} (Q : Disk → Type 0) (wrong : ErrorKind → Type 0) (result : Result T ErrorKind) (path : List ℕ) → IsCalm Q → Q old
    → (old.names path ≡ None → old.directories path ≡ false → Q (with_directory path old))
    → OnOk result (MakesDirectory path old new) → IfErr result (λ e. RefusedWhole (MakesDirectory path old) wrong e old new) → Q new
kept_directory Q wrong (Ok v) path calm before step ok err = subst Q (sym ok.done) (step ok.free ok.apart)
kept_directory Q wrong (Err e) path calm before step ok err =
    kept_refused Q calm before (λ left same. subst Q (sym same) before) (λ left is. subst Q (sym is.done) (step is.free is.apart)) err

-- either of two calm ones is calm
pub calm_either : {P Q : Disk → Type 0} → IsCalm P → IsCalm Q → IsCalm (λ d. P d ⊎ Q d)
calm_either p q = record {
  at_count = λ d is. elim is [ inl here ↦ inl (p.at_count d here) | inr here ↦ inr (q.at_count d here) ];
  at_end = λ d is. elim is [ inl here ↦ inl (p.at_end d here) | inr here ↦ inr (q.at_end d here) ];
}
