-- The files that a scan answered have numbers that have a name.
use Rattle.std.specs.Prelude.{All}
use Rattle.std.proofs.Common.{ℕ, ◌<◌, ◌^◌, suc, List, [], ◌∷◌, ◌++◌, length, sym, subst, inl, inr, arith}
use Rattle.std.proofs.lemmas.List.Elements.{All-append, All-cons}
use Rattle.raft_log_fs.specs.Disk.{Disk}
use Rattle.raft_log_fs.specs.declared.handle.Permission.{Permission}
use Rattle.raft_log_file_settings.specs.declared.recovery_mode.RecoveryMode.{RecoveryMode}
use Rattle.raft_log_active_file.specs.declared.format.File.{File}
use Rattle.raft_log_recovery_scan.specs.Found.{FileLiesIn}
use Rattle.raft_log_recovery_scan.specs.Opened.{AreOpen, permission_before}
use Rattle.raft_log_recovery_scan.specs.Scanned.{IsQueueIn}
use Rattle.raft_log_recovery_scan.specs.declared.file_kind.FileKind.{FileKind}
use Rattle.raft_log_recovery_scan.specs.declared.scanning.found.FoundFile.{FoundFile}
use Rattle.raft_log_recovery_scan.proofs.Public.{kept_lie, limit_small}

abbrev pub IsSmall : File → Type 0
IsSmall file = file.seq < 10 ^ 16

none_small : All IsSmall []
none_small k e lt = absurd (omega (arith, lt))

open_small : (kind : FileKind) (directories : List (List ℕ)) (d : Disk) (permission : Permission) (found : List FoundFile) (files : List File) → All (FileLiesIn kind directories d) found
    → AreOpen kind directories d permission found files → All IsSmall files
open_small kind directories d permission [] [] lie are = none_small
open_small kind directories d permission [] (f ∷ fs) lie are = absurd are
open_small kind directories d permission (g ∷ gs) [] lie are = absurd are
open_small kind directories d permission (g ∷ gs) (f ∷ fs) lie (one, rest) =
    let here : 0 < suc (length gs) = omega arith in
    All-cons IsSmall f fs (subst (λ (n : ℕ). n < 10 ^ 16) (sym one.seq) (limit_small g.signed g.seq (lie 0 g here).small))
    (open_small kind directories d permission gs fs (λ k e lt. lie (suc k) e (omega (arith, lt))) rest)

front_lies : (kind : FileKind) (directories : List (List ℕ)) (d : Disk) (before : List FoundFile) (last : FoundFile) → All (FileLiesIn kind directories d) (before ++ last ∷ []) → All (FileLiesIn kind directories d) before × FileLiesIn kind directories d last
front_lies kind directories d [] last lie = ((λ k e lt. absurd (omega (arith, lt))), lie 0 last (omega arith))
front_lies kind directories d (g ∷ gs) last lie =
    let rest = front_lies kind directories d gs last (λ k e lt. lie (suc k) e (omega (arith, lt))) in
    (All-cons (FileLiesIn kind directories d) g gs (lie 0 g (omega arith)) rest.0, rest.1)

-- so are the files of a queue
pub queue_small : (kind : FileKind) (directories : List (List ℕ)) (d : Disk) (mode : RecoveryMode) (files : List File) → IsQueueIn kind directories d mode files → All IsSmall files
queue_small kind directories d mode files is = elim is.opened [
  | inl none ↦ subst (All IsSmall) (sym none.1) none_small
  | inr behind ↦
      let lie = front_lies kind directories d behind.before behind.last (subst (All (FileLiesIn kind directories d)) behind.found_split (kept_lie kind directories d is.kept is.run)) in
      let earlier = open_small kind directories d (permission_before mode) behind.before behind.opened lie.0 behind.earlier in
      let active : IsSmall behind.active = subst (λ (n : ℕ). n < 10 ^ 16) (sym behind.writable.seq) (limit_small behind.last.signed behind.last.seq lie.1.small) in
      subst (All IsSmall) (sym behind.split) (All-append IsSmall behind.opened (behind.active ∷ []) earlier (All-cons IsSmall behind.active [] active none_small))
]
