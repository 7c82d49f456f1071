use Rattle.std.proofs.Common.{ℕ, List, map, sym, ap, subst, ◌∙◌}
use Rattle.std.specs.String.{string_bytes}
use Rattle.std.proofs.lemmas.Result.{err_from_is_err_and}
use Rattle.raft_log_open.specs.Placing.{AreLogFiles}
use Rattle.raft_log_open.specs.Unpadding.{AreApart, ClearsAll, FailsToClearAll, FailsToUnpadAll}
use Rattle.raft_log_open.specs.Unpadding.FailsToUnpad.{cut_short, uncleared}
use Rattle.raft_log_open.specs.declared.placed_file.PlacedFile.{PlacedFile}
use Rattle.raft_log_open.proofs.Places.{log_files_apart}
use Rattle.raft_log_open.proofs.unpadding.unpad.Goals as goal

pub returns-in_err-clear_all-clause-err : goal.returns-in_err-clear_all-clause-err
returns-in_err-clear_all-clause-err g c =
    let D = g.F.FileSystem.disk in
    let old = D c.args.file_system.now in
    let new = D c.clear_all.new.file_system in
    let e = c.in_err-clear_all.field-0.0 in
    let gave = err_from_is_err_and c.from_residual-in_err-clear_all.result c.from_residual-in_err-clear_all.ensures.1 in
    let listed = ap (map string_bytes) c.as_slice.ensures.value ∙ c.in_ok-directories.ensures.ok in
    let cleared = ap (map string_bytes) c.as_slice-2.ensures.value ∙ c.in_ok-directories.ensures.ok in
    rw (gave.1, gave.2) (uncleared c.in_ok-files.files.items (subst (λ (l : List (List ℕ)). AreLogFiles l old c.in_ok-files.files.items) listed c.in_ok-files.ensures.ok)
    (subst (λ (l : List (List ℕ)). FailsToClearAll l e old new) cleared c.in_err-clear_all.ensures.err))

pub unpad_files-requires : goal.unpad_files-requires
unpad_files-requires g c =
    let old = g.F.FileSystem.disk c.args.file_system.now in
    subst AreApart (sym c.as_slice-3.ensures.value) (log_files_apart (map string_bytes c.as_slice.result.now) old c.in_ok-files.files.items c.in_ok-files.ensures.ok)

pub returns-in_err-written-clause-err : goal.returns-in_err-written-clause-err
returns-in_err-written-clause-err g c =
    let D = g.F.FileSystem.disk in
    let old = D c.args.file_system.now in
    let mid = D c.clear_all.new.file_system in
    let new = D c.unpad_files.new.file_system in
    let e = c.in_err-written.field-0.0 in
    let gave = err_from_is_err_and c.from_residual-in_err-written.result c.from_residual-in_err-written.ensures.1 in
    let listed = ap (map string_bytes) c.as_slice.ensures.value ∙ c.in_ok-directories.ensures.ok in
    let cleared = ap (map string_bytes) c.as_slice-2.ensures.value ∙ c.in_ok-directories.ensures.ok in
    rw (gave.1, gave.2) (cut_short c.in_ok-files.files.items mid (subst (λ (l : List (List ℕ)). AreLogFiles l old c.in_ok-files.files.items) listed c.in_ok-files.ensures.ok)
    (subst (λ (l : List (List ℕ)). ClearsAll l old mid) cleared c.in_ok-clear_all.ensures.ok)
    (subst (λ (l : List PlacedFile). FailsToUnpadAll l e mid new) c.as_slice-3.ensures.value c.in_err-written.ensures.err))
