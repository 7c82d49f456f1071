-- Calls that leave the files of a queue as they are.
use Rattle.std.specs.Prelude.{Result, Err}
use Rattle.std.specs.declared.io.ErrorKind.{ErrorKind}
use Rattle.std.proofs.Common.{◌≡◌, ℕ, suc, ◌<◌, Some, None, List, [], refl, sym, ap, subst, ◌∙◌, inl, inr, arith, nat_eq}
use Rattle.std.proofs.lemmas.Bool.{cases_eq, cases_lt}
use Rattle.std.specs.Map.{update}
use Rattle.std.specs.Str.{bytes_eq}
use Rattle.raft_log_fs.specs.Disk.{File, Disk, at_rest, with_file}
use Rattle.raft_log_fs.specs.Image.{IsSound}
use Rattle.raft_log_fs.specs.Calls.{counted, created, deleted, at_stop, flushed, Changes, Creates, Deletes, RefusedWhole}
use Rattle.raft_log_file_writer.specs.LogFormat.{Format}
use Rattle.raft_log_file_writer.specs.LogQueue.{LogFiles}
use Rattle.raft_log_fs.specs.Touching.{TouchesOnly}
use Rattle.raft_log_fs.proofs.Public.{file_apart, file_here, kept_create, kept_delete, kept_sync, name_apart, name_case, named_is_used, same_file, IsCalm}
use Rattle.raft_log_active_file.specs.Standing.{HaveOneName, Names}
use Rattle.raft_log_active_file.proofs.Public.{place_moved}
use Rattle.raft_log_dual_pipes.specs.Queues.{QueueLayout}
use Rattle.raft_log_dual_pipes.specs.State.{IsStopped, Spanned}
use Rattle.raft_log_dual_pipes.specs.Reopening.{RestsQueue}
use Rattle.raft_log_recovery_laws.specs.Keeping.{KeepsNumbered}
use Rattle.raft_log_recovery_laws.proofs.Keeping.{keeps_same, keeps_then}

-- each file of a number is at rest
abbrev pub AreAtRest : {R : Type 0} → Format R → Disk → Type 0
AreAtRest F d = (m : ℕ) (path : List ℕ) (id : ℕ) (file : File) → m < F.limit → F.IsPath m path → d.names path ≡ Some id → d.files id ≡ Some file → file ≡ at_rest file.content

-- no file has two names, and each was numbered by the file system
pub record AreSoundNames (d : Disk) : Type 0 where
  pub one : HaveOneName d.names
  pub used : (path : List ℕ) (id : ℕ) → d.names path ≡ Some id → id < d.unused

pub sound_names : (d : Disk) → IsSound d → AreSoundNames d
sound_names d sound = record { one = sound.one_name; used = λ path id at. named_is_used d path id sound at }

names_calm : IsCalm AreSoundNames
names_calm = record { at_count = λ d is. record { one = is.one; used = is.used }; at_end = λ d is. record { one = is.one; used = is.used } }

module _ {R : Type 0} (F : Format R) where
  pub keeps_calm : (old : Disk) → IsCalm (KeepsNumbered F old)
  keeps_calm old = record {
    at_count = λ {error} d keeps. keeps_then F old d (counted error d) keeps (keeps_same F d (counted error d) refl refl refl);
    at_end = λ d keeps. keeps_then F old d (at_stop d) keeps (keeps_same F d (at_stop d) refl refl refl);
  }

  pub keeps_all : (d : Disk) → KeepsNumbered F d d
  keeps_all d = keeps_same F d d refl refl refl

  -- a call on a file that has no number
  pub keeps_touched : (old new : Disk) (id : ℕ) → TouchesOnly id old new → ((m : ℕ) (path : List ℕ) → m < F.limit → F.IsPath m path → old.names path ≡ Some id → ⊥) → KeepsNumbered F old new
  keeps_touched old new id only never = record {
    names = λ m path less at. ap (λ (f : Names). f path) only.names;
    files = λ m path j less at there. only.others j (λ same. never m path less at (there ∙ ap Some same));
    places = λ m path less at place. place_moved path old new only.directories place;
  }

  -- a sync of a file that is at rest
  flushed_keeps : (old : Disk) (id : ℕ) → AreAtRest F old → (file : File) → old.files id ≡ Some file → KeepsNumbered F old (with_file id (Some (flushed file)) old)
  flushed_keeps old id rest file is = record {
    names = λ m path less at. refl;
    files = λ m path j less at there. elim (cases_eq j id) [
      | inl same ↦
          (let still : file ≡ flushed file = rest m path id file less at (there ∙ ap Some same) is in
          ap (update nat_eq old.files id (Some (flushed file))) same ∙ file_here old.files id (Some (flushed file)) ∙ ap Some (sym still) ∙ sym is ∙ ap old.files (sym same))
      | inr apart ↦ file_apart old.files id (Some (flushed file)) j apart
    ];
    places = λ m path less at place. place_moved path old (with_file id (Some (flushed file)) old) refl place;
  }

  pub sync_keeps : (old new : Disk) (id : ℕ) → AreAtRest F old → Changes id flushed old new → KeepsNumbered F old new
  sync_keeps old new id rest changes = subst (KeepsNumbered F old) (sym changes.done) (flushed_keeps old id rest changes.file changes.is)

  pub no_sync_keeps : (old new : Disk) (id : ℕ) (wrong : ErrorKind → Type 0) (error : ErrorKind) → AreAtRest F old → RefusedWhole (Changes id flushed old) wrong error old new → KeepsNumbered F old new
  no_sync_keeps old new id wrong error rest refused =
      let result : Result (Unit {0}) ErrorKind = Err error in
      kept_sync (KeepsNumbered F old) wrong result id (keeps_calm old) (keeps_all old) (λ file is. flushed_keeps old id rest file is) tt refused

  -- what is at rest stays so
  pub rest_then : (old new : Disk) → KeepsNumbered F old new → AreAtRest F old → AreAtRest F new
  rest_then old new keeps rest m path id file less at there is =
      let named : old.names path ≡ Some id = sym (keeps.names m path less at) ∙ there in
      rest m path id file less at named (sym (keeps.files m path id less at named) ∙ is)

  -- A file that is made under a path that is no number's.

  abbrev IsNoNumbers : List ℕ → Type 0
  IsNoNumbers path = (m : ℕ) → m < F.limit → F.IsPath m path → ⊥

  created_keeps : (old : Disk) (path : List ℕ) → AreSoundNames old → IsNoNumbers path → KeepsNumbered F old (created path old)
  created_keeps old path sound no_number = record {
    names = λ m other less at. name_apart old.names path (Some old.unused) other (λ same. no_number m less (subst (F.IsPath m) same at));
    files = λ m other id less at there. file_apart old.files old.unused (Some (at_rest [])) id (λ same. (let below = sound.used other id there in omega (arith, below, same)));
    places = λ m other less at place. place_moved other old (created path old) refl place;
  }

  deleted_keeps : (old : Disk) (path : List ℕ) (id : ℕ) → AreSoundNames old → old.names path ≡ Some id → IsNoNumbers path → KeepsNumbered F old (deleted path id old)
  deleted_keeps old path id sound here no_number = record {
    names = λ m other less at. name_apart old.names path None other (λ same. no_number m less (subst (F.IsPath m) same at));
    files = λ m other j less at there. file_apart old.files id None j (λ same. no_number m less (subst (F.IsPath m) (sound.one other path id (there ∙ ap Some same) here) at));
    places = λ m other less at place. place_moved other old (deleted path id old) refl place;
  }

  pub create_keeps : (old new : Disk) (path : List ℕ) (id : ℕ) → AreSoundNames old → IsNoNumbers path → Creates path id old new → KeepsNumbered F old new
  create_keeps old new path id sound no_number creates = subst (KeepsNumbered F old) (sym creates.done) (created_keeps old path sound no_number)

  pub no_create_keeps : (old new : Disk) (path : List ℕ) (wrong : ErrorKind → Type 0) (error : ErrorKind) → AreSoundNames old → IsNoNumbers path → RefusedWhole (Creates path old.unused old) wrong error old new → KeepsNumbered F old new
  no_create_keeps old new path wrong error sound no_number refused =
      let result : Result ℕ ErrorKind = Err error in
      kept_create (KeepsNumbered F old) (λ n. n) wrong result path (keeps_calm old) (keeps_all old) (λ free apart home. created_keeps old path sound no_number) tt refused

  pub delete_keeps : (old new : Disk) (path : List ℕ) → AreSoundNames old → IsNoNumbers path → Deletes path old new → KeepsNumbered F old new
  delete_keeps old new path sound no_number deletes = subst (KeepsNumbered F old) (sym deletes.done) (deleted_keeps old path deletes.id sound deletes.is no_number)

  pub no_delete_keeps : (old new : Disk) (path : List ℕ) (wrong : ErrorKind → Type 0) (error : ErrorKind) → AreSoundNames old → IsNoNumbers path → RefusedWhole (Deletes path old) wrong error old new → KeepsNumbered F old new
  no_delete_keeps old new path wrong error sound no_number refused =
      let result : Result (Unit {0}) ErrorKind = Err error in
      kept_delete (KeepsNumbered F old) wrong result path (keeps_calm old) (keeps_all old) (λ id is. deleted_keeps old path id sound is no_number) tt refused

-- Names through the calls.

created_names : (old : Disk) (path : List ℕ) → AreSoundNames old → AreSoundNames (created path old)
created_names old path sound = record { one = one; used = used }
  where
    used : (other : List ℕ) (id : ℕ) → update bytes_eq old.names path (Some old.unused) other ≡ Some id → id < suc old.unused
    used other id at = elim (name_case old.names path (Some old.unused) other (Some id) at) [
      | inl (same, is) ↦ (let it : old.unused ≡ id = cc in omega (arith, it))
      | inr (apart, is) ↦ (let below = sound.used other id is in omega (arith, below))
    ]

    one : HaveOneName (update bytes_eq old.names path (Some old.unused))
    one a b id at there = elim (name_case old.names path (Some old.unused) a (Some id) at) [
      | inl (here, is) ↦ elim (name_case old.names path (Some old.unused) b (Some id) there) [
        | inl (also, too) ↦ here ∙ sym also
        | inr (apart, other) ↦ (let it : old.unused ≡ id = cc in let below = sound.used b id other in absurd (omega (arith, it, below)))
      ]
      | inr (apart, is) ↦ elim (name_case old.names path (Some old.unused) b (Some id) there) [
        | inl (also, too) ↦ (let it : old.unused ≡ id = cc in let below = sound.used a id is in absurd (omega (arith, it, below)))
        | inr (apart_too, other) ↦ sound.one a b id is other
      ]
    ]

deleted_names : (old : Disk) (path : List ℕ) (id : ℕ) → AreSoundNames old → AreSoundNames (deleted path id old)
deleted_names old path id sound = record {
  one = λ a b j at there. sound.one a b j (was a j at) (was b j there);
  used = λ other j at. sound.used other j (was other j at);
}
  where
    was : (other : List ℕ) (j : ℕ) → update bytes_eq old.names path None other ≡ Some j → old.names other ≡ Some j
    was other j at = elim (name_case old.names path None other (Some j) at) [ inl (same, is) ↦ cc | inr (apart, is) ↦ is ]

pub create_names : (old new : Disk) (path : List ℕ) (id : ℕ) → AreSoundNames old → Creates path id old new → AreSoundNames new
create_names old new path id sound creates = subst AreSoundNames (sym creates.done) (created_names old path sound)

pub no_create_names : (old new : Disk) (path : List ℕ) (wrong : ErrorKind → Type 0) (error : ErrorKind) → AreSoundNames old → RefusedWhole (Creates path old.unused old) wrong error old new → AreSoundNames new
no_create_names old new path wrong error sound refused =
    let result : Result ℕ ErrorKind = Err error in
    kept_create AreSoundNames (λ n. n) wrong result path names_calm sound (λ free apart home. created_names old path sound) tt refused

pub delete_names : (old new : Disk) (path : List ℕ) → AreSoundNames old → Deletes path old new → AreSoundNames new
delete_names old new path sound deletes = subst AreSoundNames (sym deletes.done) (deleted_names old path deletes.id sound)

pub no_delete_names : (old new : Disk) (path : List ℕ) (wrong : ErrorKind → Type 0) (error : ErrorKind) → AreSoundNames old → RefusedWhole (Deletes path old) wrong error old new → AreSoundNames new
no_delete_names old new path wrong error sound refused =
    let result : Result (Unit {0}) ErrorKind = Err error in
    kept_delete AreSoundNames wrong result path names_calm sound (λ id is. deleted_names old path id sound) tt refused

-- A queue at rest.

rest_is : (file : File) (bytes : List ℕ) → file ≡ at_rest bytes → file ≡ at_rest file.content
rest_is file bytes is = is ∙ ap at_rest (sym (ap (λ (x : File). x.content) is))

module _ {R : Type 0} (layout : QueueLayout R) (d : Disk) where
  stopped_at_rest : (q : LogFiles R) → IsStopped layout q d → AreAtRest layout.format d
  stopped_at_rest q left m path id file less at there is =
      let s = left.stands in
      let named : left.N path ≡ Some id = ap (λ (f : Names). f path) (sym s.names) ∙ there in
      elim (cases_eq m q.last) [
        | inl same ↦
            (let here : id ≡ left.id = s.alone path id (subst (λ (n : ℕ). layout.format.IsPath n path) same at) named in
            let one : file ≡ s.file.file = same_file d left.id file s.file.file (ap d.files (sym here) ∙ is) s.file.is in
            rest_is file s.file.has.bytes (one ∙ s.file.has.is))
        | inr apart ↦ elim (cases_lt m q.last) [
          | inl below ↦
              (let was = s.older m id path below at named in
              rest_is file _ (same_file d id file was.file is was.is ∙ was.has.is))
          | inr above ↦ (let none : left.N path ≡ None = s.none m path (omega (arith, above, apart)) less at in let clash : None ≡ Some id = sym none ∙ named in let never : ⊥ = cc in absurd never)
        ]
      ]

  pub rests_at_rest : (q : Spanned R) → RestsQueue layout q d → AreAtRest layout.format d
  rests_at_rest q (inl (left, span)) = stopped_at_rest q.files left
  rests_at_rest q (inr unbegun) = λ m path id file less at there is. (let none : d.names path ≡ None = unbegun.fresh.none m less path at in let clash : None ≡ Some id = sym none ∙ there in let never : ⊥ = cc in absurd never)
