use Rattle.std.proofs.Common.{◌≡◌, ◌+◌, ◌<◌, ℕ, List, [], ◌∷◌, ◌++◌, length, map, take, drop, get_or, refl, sym, ap, subst, ◌∙◌, arith}
use Rattle.std.specs.String.{string_bytes}
use Rattle.std.proofs.lemmas.List.{take_more, drop_more, take-append-drop, map-append}
use Rattle.std.proofs.lemmas.List.Elements.{Contains-get_or}
use Rattle.std.proofs.lemmas.Result.{err_from_is_err_and}
use Rattle.raft_log_record_base.specs.declared.errors.Error.TheVariants.{Memory}
use Rattle.raft_log_fs.specs.declared.handle.Permission.TheVariants.{ReadOnly}
use Rattle.raft_log_recovery_scan.specs.declared.file_kind.FileKind.TheVariants.{Append}
use Rattle.raft_log_offline.specs.Copies.{copy_path}
use Rattle.raft_log_offline.specs.Forks.{CopiesAll, FailsToCopyAll}
use Rattle.raft_log_offline.specs.Sources.{AreApart}
use Rattle.raft_log_offline.specs.declared.source_file.SourceFile.{SourceFile}
use Rattle.raft_log_offline.proofs.CopyingAll.{copied_more, one_uncopied, one_untold, there_still}
use Rattle.raft_log_offline.proofs.forking.copy_files.Goals as goal

abbrev none : SourceFile
none = record { kind = Append; seq = 0; handle = record { file = 0; permission = ReadOnly } }

-- the files before one, it, and those behind it
split : (files : List SourceFile) (i : ℕ) → i < length files → files ≡ take i files ++ get_or files i none ∷ drop (i + 1) files
split files i lt = sym (take-append-drop i files) ∙ ap (λ (l : List SourceFile). take i files ++ l) (drop_more files i none lt)

pub copy_file-requires-clause-there : goal.copy_file-requires-clause-there
copy_file-requires-clause-there g c =
    let D = g.F.FileSystem.disk in
    let files = c.args.files.now in
    let i = c.loop-file.file-index in
    let lt : i < length files = omega arith in
    there_still c.args.target.now (take i files) (get_or files i none) (D c.args.file_system.now) (D c.loop-file.file_system)
    (c.requires.there (get_or files i none) (Contains-get_or files i none lt)) c.loop-file.invariant.1.adds

pub returns-in_err-path-clause-err : goal.returns-in_err-path-clause-err
returns-in_err-path-clause-err g c =
    let gave = err_from_is_err_and c.from_residual.result c.from_residual.ensures.1 in
    let D = g.F.FileSystem.disk in
    let target = c.args.target.now in
    let files = c.args.files.now in
    let i = c.loop-file.file-index in
    let lt : i < length files = omega arith in
    let parts = split files i lt in
    rw (gave.1, gave.2) (subst (λ (l : List SourceFile). FailsToCopyAll target l c.in_err-path.field-0.0 (D c.args.file_system.now) (D c.copy_file.new.file_system)) (sym parts)
    (one_uncopied target (take i files) (drop (i + 1) files) (get_or files i none) c.in_err-path.field-0.0 (D c.args.file_system.now) (D c.loop-file.file_system) (D c.copy_file.new.file_system)
    (subst AreApart parts c.requires.apart) c.loop-file.invariant.1 c.in_err-path.ensures.err c.in_err-path.ensures.told))

pub returns-in_err-push-clause-err : goal.returns-in_err-push-clause-err
returns-in_err-push-clause-err g c =
    let gave = err_from_is_err_and c.from_residual-in_err-push.result c.from_residual-in_err-push.ensures.1 in
    let D = g.F.FileSystem.disk in
    let target = c.args.target.now in
    let files = c.args.files.now in
    let i = c.loop-file.file-index in
    let lt : i < length files = omega arith in
    let parts = split files i lt in
    rw (gave.1, gave.2) (subst (λ (l : List SourceFile). FailsToCopyAll target l Memory (D c.args.file_system.now) (D c.copy_file.new.file_system)) (sym parts)
    (one_untold target (take i files) (drop (i + 1) files) (get_or files i none) Memory (D c.args.file_system.now) (D c.loop-file.file_system) (D c.copy_file.new.file_system) refl
    c.loop-file.invariant.1 c.in_ok-path.ensures.ok))

pub loop-file-preserved : goal.loop-file-preserved
loop-file-preserved g c =
    let D = g.F.FileSystem.disk in
    let target = c.args.target.now in
    let files = c.args.files.now in
    let i = c.loop-file.file-index in
    let file = get_or files i none in
    let lt : i < length files = omega arith in
    let more = take_more files i none lt in (
      ap (map string_bytes) c.in_ok-push.ensures.items
          ∙ (map-append string_bytes c.loop-file.copied.items (c.in_ok-path.path ∷ [])
          ∙ (ap (λ (l : List (List ℕ)). l ++ string_bytes c.in_ok-path.path ∷ []) c.loop-file.invariant.0
          ∙ (ap (λ (p : List ℕ). map (copy_path target) (take i files) ++ p ∷ []) c.in_ok-path.ensures.path
          ∙ sym (ap (map (copy_path target)) more ∙ map-append (copy_path target) (take i files) (file ∷ []))))),
      subst (λ (l : List SourceFile). CopiesAll target l (D c.args.file_system.now) (D c.copy_file.new.file_system)) (sym more)
          (copied_more target (take i files) file (D c.args.file_system.now) (D c.loop-file.file_system) (D c.copy_file.new.file_system)
          (c.requires.there file (Contains-get_or files i none lt)) c.loop-file.invariant.1 c.in_ok-path.ensures.ok),
    )
