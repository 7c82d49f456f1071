use Rattle.std.proofs.Common.{List, ℕ, ◌∙◌, subst}
use Rattle.std.proofs.lemmas.Result.{err_from_is_err_and}
use Rattle.raft_log_offline.specs.Copies.{copy_path}
use Rattle.raft_log_offline.specs.Steps.{MakesFile}
use Rattle.raft_log_offline.proofs.CopyingLemmas.{copied_one, short_one, short_told, unmade_at, unmade_told_at, unread_one, unread_told}
use Rattle.raft_log_offline.proofs.copying.copy_file.Goals as goal

pub returns-in_err-bytes-clause-err : goal.returns-in_err-bytes-clause-err
returns-in_err-bytes-clause-err g c =
    let gave = err_from_is_err_and c.from_residual.result c.from_residual.ensures.1 in
    rw (gave.1, gave.2) (unread_one c.args.target.now c.args.file (g.F.FileSystem.disk c.args.file_system.now) _ c.requires.there c.in_err-bytes.ensures.err)

pub returns-in_err-bytes-clause-told : goal.returns-in_err-bytes-clause-told
returns-in_err-bytes-clause-told g c =
    let gave = err_from_is_err_and c.from_residual.result c.from_residual.ensures.1 in
    rw (gave.1, gave.2) (unread_told c.args.target.now c.args.file (g.F.FileSystem.disk c.args.file_system.now) _ c.in_err-bytes.ensures.err)

pub returns-in_err-path-clause-err : goal.returns-in_err-path-clause-err
returns-in_err-path-clause-err g c =
    let gave = err_from_is_err_and c.from_residual-in_err-path.result c.from_residual-in_err-path.ensures.1 in
    rw (gave.1, gave.2) (short_one c.args.target.now c.args.file (g.F.FileSystem.disk c.args.file_system.now) _ c.in_err-path.ensures.err)

pub returns-in_err-path-clause-told : goal.returns-in_err-path-clause-told
returns-in_err-path-clause-told g c =
    let d = g.F.FileSystem.disk c.args.file_system.now in
    let gave = err_from_is_err_and c.from_residual-in_err-path.result c.from_residual-in_err-path.ensures.1 in
    rw (gave.1, gave.2) (short_told c.args.target.now c.args.file d d _ c.in_err-path.ensures.err)

pub returns-in_err-make_file-clause-err : goal.returns-in_err-make_file-clause-err
returns-in_err-make_file-clause-err g c =
    let D = g.F.FileSystem.disk in
    let gave = err_from_is_err_and c.from_residual-in_err-make_file.result c.from_residual-in_err-make_file.ensures.1 in
    let path = c.as_str.ensures.value ∙ c.in_ok-path.ensures.ok in
    rw (gave.1, gave.2) (unmade_at c.args.target.now c.args.file _ _ (D c.args.file_system.now) (D c.make_file.new.file_system) path c.requires.there c.requires.home c.in_err-make_file.ensures.err)

pub returns-in_err-make_file-clause-told : goal.returns-in_err-make_file-clause-told
returns-in_err-make_file-clause-told g c =
    let D = g.F.FileSystem.disk in
    let gave = err_from_is_err_and c.from_residual-in_err-make_file.result c.from_residual-in_err-make_file.ensures.1 in
    let path = c.as_str.ensures.value ∙ c.in_ok-path.ensures.ok in
    rw (gave.1, gave.2)
    (unmade_told_at c.args.target.now c.args.file _ _ c.in_ok-bytes.bytes.items _ (D c.args.file_system.now) (D c.make_file.new.file_system) path c.as_slice.ensures.value
    c.in_ok-bytes.ensures.ok c.in_err-make_file.ensures.told)

pub returns-clause-ok : goal.returns-clause-ok
returns-clause-ok g c =
    let D = g.F.FileSystem.disk in
    let path = c.as_str.ensures.value ∙ c.in_ok-path.ensures.ok in
    let to = copy_path c.args.target.now c.args.file in
    let made = subst (λ (l : List ℕ). MakesFile l c.as_slice.result.now (D c.args.file_system.now) (D c.make_file.new.file_system)) path c.in_ok-make_file.ensures.ok in
    copied_one c.args.target.now c.args.file c.in_ok-bytes.bytes.items (D c.args.file_system.now) (D c.make_file.new.file_system) c.in_ok-bytes.ensures.ok
    (subst (λ (l : List ℕ). MakesFile to l (D c.args.file_system.now) (D c.make_file.new.file_system)) c.as_slice.ensures.value made)
