-- An open over what an engine left reads what it would read if the last files were synced, and syncs them: so
-- it ends in the same engine, over the same disk.
use Rattle.std.proofs.Common.{◌≡◌, ℕ, ◌<◌, Bool, true, false, Option, Some, None, List, [], ◌∷◌, ◌++◌, refl, sym, ap, subst, ◌∙◌, inl, inr}
use Rattle.std.specs.Prelude.{◌⊎◌}
use Rattle.std.proofs.lemmas.Bool.{cases_eq}
use std.Path.{fun_ext}
use Rattle.raft_log_fs.specs.Disk.{Disk, at_rest, with_file}
use Rattle.raft_log_fs.specs.Disk.{File as DiskFile}
use Rattle.raft_log_fs.specs.Calls.{flushed, Changes}
use Rattle.raft_log_fs.proofs.Public.{file_apart, file_here}
use Rattle.raft_log_active_file.specs.Layout.{path_of}
use Rattle.raft_log_active_file.specs.declared.format.File.{File}
use Rattle.raft_log_engine_laws.specs.raft_log_active_file.specs.declared.record.LogRecord.{LogRecord}
use Rattle.raft_log_file_pipe.proofs.Public.{path_numbered}
use Rattle.raft_log_recovery.specs.Syncing.{SyncsEach}
use Rattle.raft_log_dual_pipes.specs.Queues.{IsQueueLayout, QueueLayout}
use Rattle.raft_log_dual_pipes.specs.State.{Spanned}
use Rattle.raft_log_recovery_laws.specs.Files.{AreQueueFiles}
use Rattle.raft_log_recovery_laws.specs.Files.AreQueueFiles.{none_made, some_made}
use Rattle.raft_log_recovery_laws.proofs.Settling.{settled_if, settled_in}
use Rattle.raft_log_recovery_laws.proofs.Standing.{last_of, none_last, one_last, IsLast}

-- Syncs.

-- the file, if it is there, is at rest
abbrev pub IsRested : ℕ → Disk → Type 0
IsRested id d = (file : DiskFile) → d.files id ≡ Some file → file ≡ at_rest file.content

sync_rests : (id other : ℕ) (old new : Disk) → Changes other flushed old new → (id ≡ other) ⊎ IsRested id old → IsRested id new
sync_rests id other old new c which file is = elim (cases_eq id other) [
  | inl same ↦
      (let here : Some file ≡ Some (flushed c.file) = sym is ∙ ap (λ (d : Disk). d.files id) c.done ∙ ap (with_file other (Some (flushed c.file)) old).files same ∙ file_here old.files other (Some (flushed c.file)) in
      let it : file ≡ flushed c.file = cc here in
      it ∙ ap at_rest (sym (ap (λ (f : DiskFile). f.content) it)))
  | inr apart ↦ elim which [
    | inl same ↦ absurd (apart same)
    | inr rest ↦ rest file (sym (file_apart old.files other (Some (flushed c.file)) id apart) ∙ sym (ap (λ (d : Disk). d.files id) c.done) ∙ is)
  ]
]

pub rested_then : (id : ℕ) (files : List File) (old new : Disk) → SyncsEach files old new → IsRested id old → IsRested id new
rested_then id [] old new same rest = subst (IsRested id) (sym same) rest
rested_then id (file ∷ files) old new (mid, one, others) rest = rested_then id files mid new others (sync_rests id file.handle.file old mid one (inr rest))

pub last_rested : (id : ℕ) (earlier : List File) (last : File) (old new : Disk) → id ≡ last.handle.file → SyncsEach (earlier ++ last ∷ []) old new → IsRested id new
last_rested id [] last old new is (mid, one, same) = subst (IsRested id) (sym same) (sync_rests id last.handle.file old mid one (inl is))
last_rested id (file ∷ earlier) last old new is (mid, one, others) = last_rested id earlier last mid new is others

-- where these are at rest, nothing is left to be synced of them
rested_is : (b : Bool) (o : Option DiskFile) → (b ≡ true → (file : DiskFile) → o ≡ Some file → file ≡ at_rest file.content) → settled_if b o ≡ o
rested_is false o rest = refl
rested_is true None rest = refl
rested_is true (Some file) rest = ap Some (sym (rest refl file refl))

pub all_rested : (E : ℕ → Bool) (d : Disk) → ((id : ℕ) → E id ≡ true → IsRested id d) → settled_in E d ≡ d
all_rested E d rest = ap (λ (x : ℕ → Option DiskFile). record d { files = x }) (fun_ext (λ id. rested_is (E id) (d.files id) (λ hit. rest id hit)))

-- The last of the files that were found is the last one of the queue; so it is synced.
pub found_rested : (layout : QueueLayout LogRecord) → IsQueueLayout layout → (q : Spanned LogRecord) (scanned : Disk) (files : List File) (n id : ℕ) → AreQueueFiles layout q scanned files → IsLast layout.format n id scanned.names
    → (old new : Disk) → SyncsEach files old new → IsRested id new
found_rested layout told q scanned files n id (none_made are unbegun) last old new syncs = absurd (none_last layout.format n id scanned.names last unbegun.fresh.none)
found_rested layout told q scanned files n id (some_made earlier active are all) last old new syncs =
    let left = all.stops in
    let mine : IsLast layout.format q.files.last left.id scanned.names = last_of layout.format layout.own scanned q.files left.path left.id _ left.N scanned left.stands in
    let at = subst (layout.format.IsPath active.seq) (sym (path_numbered layout.paths active all.listed.listed)) (told.lawful.numbered active.path_id active.seq (subst (λ (k : ℕ). k < layout.format.limit) (sym all.listed.number_is) mine.bound)) in
    let its : active.handle.file ≡ left.id = mine.alone (path_of layout.paths active) active.handle.file (subst (λ (k : ℕ). layout.format.IsPath k (path_of layout.paths active)) all.listed.number_is at) all.listed.named in
    let same = one_last layout.format n q.files.last id left.id scanned.names last mine in
    last_rested id earlier active old new (same.1 ∙ sym its) (subst (λ (l : List File). SyncsEach l old new) are syncs)
