-- Files stay at rest while directories are loaded.
use Rattle.std.specs.Prelude.{◌≡◌, ℕ, ◌<◌, Some, List, [], Result, Ok, Err, OnOk, OnErr}
use Rattle.std.proofs.Common.{refl, sym, ◌∙◌, ap, subst, inl, inr}
use Rattle.std.proofs.lemmas.Bool.{cases_eq}
use Rattle.raft_log_fs.specs.Disk.{Disk, File, at_rest, with_file}
use Rattle.raft_log_fs.specs.Calls.{created, with_directory}
use Rattle.raft_log_fs.proofs.Public.{file_apart, file_here}
use Rattle.raft_log_fs_state.specs.declared.storage.Storage.{Storage}
use Rattle.raft_log_fs_state.specs.Steps.{AddsName, IsSame}
use Rattle.raft_log_fs_state.specs.Storage.{contents_of}
use Rattle.raft_log_fs_traced.specs.Device.{Trace, held_by, settled}
use Rattle.raft_log_fs_traced.specs.WritingBack.{LeavesBytes, RestsAt}
use Rattle.raft_log_fs_os.specs.Loading.{AllRest, FillsFile, StandsAsFound, StaysSettled}

pub rest_alike : (old new : Storage) → contents_of new ≡ contents_of old → AllRest old → AllRest new
rest_alike old new same rest = subst (λ (d : Disk). (id : ℕ) → RestsAt id d) (sym same) rest

pub rest_with_directory : (path : List ℕ) (old new : Storage) → contents_of new ≡ with_directory path (contents_of old) → AllRest old → AllRest new
rest_with_directory path old new is rest = subst (λ (d : Disk). (id : ℕ) → RestsAt id d) (sym is) rest

-- whether a directory was added or memory ran out
pub rest_either : {T E : Type 0} (path : List ℕ) (old new : Storage) (result : Result T E)
    → OnOk result (AddsName (with_directory path) old new) → OnErr result (IsSame old new) → AllRest old → AllRest new
rest_either path old new (Ok done) ok err rest = rest_with_directory path old new ok.contents rest
rest_either path old new (Err error) ok err rest = rest_alike old new err.contents rest

-- a disk with one more file at rest
rest_with_file : (id : ℕ) (bytes : List ℕ) (d : Disk) → ((q : ℕ) → RestsAt q d) → (q : ℕ) → RestsAt q (with_file id (Some (at_rest bytes)) d)
rest_with_file id bytes d rest q state at = elim (cases_eq q id) [
  | inl same ↦
      let here : Some (at_rest bytes) ≡ Some state = sym (file_here d.files id (Some (at_rest bytes))) ∙ (ap (with_file id (Some (at_rest bytes)) d).files (sym same) ∙ at) in
      let is : at_rest bytes ≡ state = cc in
      subst (λ (f : File). f ≡ at_rest f.content) is refl
  | inr apart ↦ rest q state (sym (file_apart d.files id (Some (at_rest bytes)) q apart) ∙ at)
]

rest_created : (path : List ℕ) (d : Disk) → ((q : ℕ) → RestsAt q d) → (q : ℕ) → RestsAt q (created path d)
rest_created path d rest = rest_with_file d.unused [] d rest

pub rest_added : (path : List ℕ) (old new : Storage) → contents_of new ≡ created path (contents_of old) → AllRest old → AllRest new
rest_added path old new is rest = subst (λ (d : Disk). (id : ℕ) → RestsAt id d) (sym is) (rest_created path (contents_of old) rest)

pub rest_filled : (id : ℕ) (bytes : List ℕ) (old new : Storage) (file : File) → (contents_of old).files id ≡ Some file → FillsFile id bytes old new → AllRest old → AllRest new
rest_filled id bytes old new file there filled rest =
    subst (λ (d : Disk). (q : ℕ) → RestsAt q d) (sym (filled file there)) (rest_with_file id bytes (contents_of old) rest)

-- between two files that are written back
pub record BetweenFiles (room : ℕ) (old now : Trace) : Type 0 where
  pub same : LeavesBytes old now
  pub roomy : 0 < room

-- directories that were opened: a crash finds what was found, whatever was written back and synced since
opened : (contents : Disk) (fresh between after : Trace) → fresh ≡ record { found = contents; made = [] } → LeavesBytes fresh between → StaysSettled between after
    → (after.found ≡ contents) × (held_by after ≡ settled contents)
opened contents fresh between after is first second =
    let settles : held_by between ≡ settled contents = first.1 ∙ ap held_by is in
    let then = second contents settles in
    (then.0 ∙ (first.0 ∙ ap (λ (t : Trace). t.found) is), then.1 ∙ settles)

pub opened_follows : (contents : Disk) (fresh between after : Trace) → fresh ≡ record { found = contents; made = [] } → LeavesBytes fresh between → StaysSettled between after
    → held_by after ≡ settled contents
opened_follows contents fresh between after is first second = (opened contents fresh between after is first second).1

pub opened_stands : (contents : Disk) (fresh between after : Trace) → fresh ≡ record { found = contents; made = [] } → LeavesBytes fresh between → StaysSettled between after
    → StandsAsFound after
opened_stands contents fresh between after is first second =
    let both = opened contents fresh between after is first second in
    both.1 ∙ ap settled (sym both.0)
