-- The files that a scan kept of a queue are a span of it.
use Rattle.std.specs.Prelude.{Contains}
use Rattle.std.proofs.Common.{◌≡◌, ℕ, ◌+◌, ◌<◌, suc, false, inl, inr, List, [], ◌∷◌, ◌++◌, length, get_or, refl, sym, ap, subst, ◌∙◌, arith, length-append}
use Rattle.std.proofs.lemmas.List.Elements.{Contains-append_left, Contains-append_right}
use Rattle.raft_log_record_base.specs.declared.pipe_log.LogQueue.{LogQueue}
use Rattle.raft_log_record_base.specs.declared.pipe_log.LogQueue.TheVariants as queues
use Rattle.raft_log_fs.specs.Disk.{Disk}
use Rattle.raft_log_fs.specs.Reading.{IsOpened}
use Rattle.raft_log_fs.specs.declared.handle.Permission.{Permission}
use Rattle.raft_log_fs.specs.declared.handle.Permission.TheVariants.{ReadWrite}
use Rattle.raft_log_engine_laws.specs.raft_log_active_file.specs.QueueFiles.{log_paths}
use Rattle.raft_log_active_file.specs.Layout.{path_of}
use Rattle.raft_log_file_pipe.specs.Files.{Listed, IsSpan}
use Rattle.raft_log_file_pipe.specs.Opening.{first_number}
use Rattle.raft_log_recovery_scan.specs.Found.{found_path}
use Rattle.raft_log_recovery_scan.specs.Opened.{AreOpen, IsOpenFile, is_reserved, permission_before}
use Rattle.raft_log_recovery_scan.specs.Runs.{FollowsNumber, IsConsecutive}
use Rattle.raft_log_recovery_scan.specs.declared.scanning.found.FoundFile.{FoundFile}
use Rattle.raft_log_recovery_scan.proofs.Public.{kept_found}
use Rattle.raft_log_recovery_laws.specs.Scanned.{AreSpanned, ScannedFilesAreSpanned, kind_of}
use Rattle.raft_log_recovery_laws.proofs.FoundPaths.{path_found}

-- the files of a queue have no reserved names
plain : (queue : LogQueue) → is_reserved (kind_of queue) ≡ false
plain queues.Append = refl
plain queues.Rewrite = refl

-- a file lies under the path that its queue has for it
path_is : (queue : LogQueue) (directories : List (List ℕ)) (d : Disk) (permission : Permission) (found : FoundFile) (file : Listed) → found.path_id < length directories
    → IsOpenFile (kind_of queue) directories d permission found file → path_of (log_paths queue directories) file ≡ found_path (kind_of queue) directories found
path_is queues.Append directories d permission found file inside o = rw (o.reserved, o.seq, o.path_id) (path_found queues.Append directories found inside)
path_is queues.Rewrite directories d permission found file inside o = rw (o.reserved, o.seq, o.path_id) (path_found queues.Rewrite directories found inside)

-- it is open under that path
opened_is : (queue : LogQueue) (directories : List (List ℕ)) (d : Disk) (permission : Permission) (found : FoundFile) (file : Listed) → found.path_id < length directories
    → IsOpenFile (kind_of queue) directories d permission found file → IsOpened (path_of (log_paths queue directories) file) permission file.handle d
opened_is queue directories d permission found file inside o =
    subst (λ (path : List ℕ). IsOpened path permission file.handle d) (sym (path_is queue directories d permission found file inside o)) o.opened

-- the first of these files, or of none the last one
first_found : List FoundFile → FoundFile → FoundFile
first_found [] last = last
first_found (f ∷ fs) last = f

-- behind the first file stands the next one, and the others follow one another
next_follows : (g : FoundFile) (gs : List FoundFile) (last : FoundFile) → IsConsecutive (g ∷ (gs ++ last ∷ [])) → FollowsNumber g (first_found gs last)
unfolding first_found
next_follows g [] last run = run 0 g (omega arith)
next_follows g (h ∷ gs) last run = run 0 g (omega (arith, length-append gs (last ∷ [])))

others_follow : (g : FoundFile) (gs : List FoundFile) → IsConsecutive (g ∷ gs) → IsConsecutive gs
others_follow g gs run k d less =
    let next : suc k + 1 ≡ suc (k + 1) = omega arith in
    subst (λ (n : ℕ). FollowsNumber (get_or gs k d) (get_or (g ∷ gs) n d)) next (run (suc k) d (omega (arith, less)))

-- the first number is that of the first file
first_is : (queue : LogQueue) (directories : List (List ℕ)) (d : Disk) (permission : Permission) (gs : List FoundFile) (g : FoundFile) (files : List Listed) (last : Listed)
    → AreOpen (kind_of queue) directories d permission gs files → IsOpenFile (kind_of queue) directories d ReadWrite g last → first_number files last ≡ (first_found gs g).seq
unfolding first_found
first_is queue directories d permission [] g [] last all o = o.seq
first_is queue directories d permission [] g (f ∷ files) last all o = absurd all
first_is queue directories d permission (h ∷ gs) g [] last all o = absurd all
first_is queue directories d permission (h ∷ gs) g (f ∷ files) last all o = all.0.seq

spans : (queue : LogQueue) (directories : List (List ℕ)) (d : Disk) (permission : Permission) (gs : List FoundFile) (g : FoundFile) (files : List Listed) (last : Listed)
    → AreOpen (kind_of queue) directories d permission gs files → IsOpenFile (kind_of queue) directories d ReadWrite g last → IsConsecutive (gs ++ g ∷ [])
    → ((f : FoundFile) → Contains gs f → f.path_id < length directories) → IsSpan (log_paths queue directories) d.names (first_number files last) files last.seq
spans queue directories d permission [] g [] last all o run inside = refl
spans queue directories d permission [] g (f ∷ files) last all o run inside = absurd all
spans queue directories d permission (h ∷ gs) g [] last all o run inside = absurd all
spans queue directories d permission (h ∷ gs) g (f ∷ files) last all o run inside =
    let later = spans queue directories d permission gs g files last all.1 o (others_follow h (gs ++ g ∷ []) run) (λ k (at, less, is). inside k (suc at, omega (arith, less), is)) in
    let next : first_number files last ≡ suc f.seq =
    first_is queue directories d permission gs g files last all.1 o ∙ sym (next_follows h gs g run) ∙ ap suc (sym all.0.seq) in (
      refl,
      all.0.reserved ∙ plain queue,
      (opened_is queue directories d permission h f (inside h (0, omega arith, refl)) all.0).is,
      subst (λ (n : ℕ). IsSpan (log_paths queue directories) d.names n files last.seq) next later,
    )

-- lists that end alike
pub same_ends : {X : Type 0} (xs ys : List X) (x y : X) → xs ++ x ∷ [] ≡ ys ++ y ∷ [] → (xs ≡ ys) × (x ≡ y)
same_ends [] [] x y e = (refl, cc)
same_ends [] (z ∷ ys) x y e = absurd (omega (arith, ap length e, length-append ys (y ∷ [])))
same_ends (z ∷ xs) [] x y e = absurd (omega (arith, ap length e, length-append xs (x ∷ [])))
same_ends {X} (z ∷ xs) (w ∷ ys) x y e =
    let head : z ≡ w = cc in
    let tail : xs ++ x ∷ [] ≡ ys ++ y ∷ [] = cc in
    let rest = same_ends xs ys x y tail in
    (cc (head, rest.0), rest.1)

pub scanned_files_are_spanned : ScannedFilesAreSpanned
scanned_files_are_spanned queue directories mode d earlier last scanned = elim scanned.opened [
  | inl none ↦ absurd (omega (arith, ap length none.1, length-append earlier (last ∷ [])))
  | inr behind ↦
      let same = same_ends earlier behind.opened last behind.active behind.split in
      let run : IsConsecutive (behind.before ++ behind.last ∷ []) = subst IsConsecutive behind.found_split scanned.run.run.consecutive in
      let inside : (f : FoundFile) → Contains (behind.before ++ behind.last ∷ []) f → f.path_id < length directories =
      λ f there. (scanned.run.all.found f (kept_found scanned.run.found scanned.kept f scanned.run.run (subst (λ (l : List FoundFile). Contains l f) (sym behind.found_split) there))).listed in
      let at_end : Contains (behind.before ++ behind.last ∷ []) behind.last = Contains-append_right behind.before (behind.last ∷ []) behind.last (0, omega arith, refl) in
      let there : AreSpanned queue directories behind.opened behind.active d = record {
        listed = behind.writable.reserved ∙ plain queue;
        opened = opened_is queue directories d ReadWrite behind.last behind.active (inside behind.last at_end) behind.writable;
        span = spans queue directories d (permission_before mode) behind.before behind.last behind.opened behind.active behind.earlier behind.writable run (λ f there. inside f (Contains-append_left behind.before (behind.last ∷ []) f there));
      } in
      subst (λ (l : Listed). AreSpanned queue directories earlier l d) (sym same.1)
      (subst (λ (fs : List Listed). AreSpanned queue directories fs behind.active d) (sym same.0) there)
]
