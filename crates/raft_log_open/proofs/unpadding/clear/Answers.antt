use Rattle.std.proofs.Common.{List, ℕ, refl, subst, ◌∙◌}
use Rattle.std.proofs.lemmas.Result.{err_from_is_err_and}
use Rattle.raft_log_fs.specs.Exits.{FailsToDelete}
use Rattle.raft_log_open.specs.Unpadding.FailsToClearOne.{undeleted}
use Rattle.raft_log_open.proofs.unpadding.clear.Goals as goal

pub returns-in_err-delete-clause-err : goal.returns-in_err-delete-clause-err
returns-in_err-delete-clause-err g c =
    let D = g.F.FileSystem.disk in
    let gave = err_from_is_err_and c.from_residual-in_err-delete.result c.from_residual-in_err-delete.ensures.1 in
    let path = c.as_str-then-is_some.ensures.value ∙ c.in_ok-path.ensures.ok in
    rw (gave.1, gave.2) (undeleted c.in_err-delete.field-0.0 refl (subst (λ (l : List ℕ). FailsToDelete l c.in_err-delete.field-0.0 (D c.args.file_system.now) (D c.delete.new.self)) path c.in_err-delete.ensures.err))
