use Rattle.std.proofs.Common.{ℕ, List, subst}
use Rattle.std.proofs.lemmas.Result.{err_from_is_err_and}
use Rattle.raft_log_open.specs.Unpadding.{ClearsOne, FailsToClearOne}
use Rattle.raft_log_open.proofs.Steps.{cleared_next, uncleared_next}
use Rattle.raft_log_open.proofs.unpadding.clear_all.Goals as goal

pub returns-in_err-clear-clause-err : goal.returns-in_err-clear-clause-err
returns-in_err-clear-clause-err g c =
    let gave = err_from_is_err_and c.from_residual.result c.from_residual.ensures.1 in
    let D = g.F.FileSystem.disk in
    let mid = D c.loop-directory.file_system in
    let new = D c.clear.new.file_system in
    rw (gave.1, gave.2) (uncleared_next c.args.directories.now c.loop-directory.directory-index c.directory-item.result c.in_err-clear.field-0.0 (D c.args.file_system.now) mid new
    c.loop-directory-test.true c.directory-item.is c.loop-directory.invariant
    (subst (λ (l : List ℕ). FailsToClearOne l c.in_err-clear.field-0.0 mid new) c.as_str.ensures.value c.in_err-clear.ensures.err))

pub loop-directory-preserved : goal.loop-directory-preserved
loop-directory-preserved g c =
    let D = g.F.FileSystem.disk in
    let mid = D c.loop-directory.file_system in
    let new = D c.clear.new.file_system in
    cleared_next c.args.directories.now c.loop-directory.directory-index c.directory-item.result (D c.args.file_system.now) mid new c.loop-directory-test.true c.directory-item.is c.loop-directory.invariant
    (subst (λ (l : List ℕ). ClearsOne l mid new) c.as_str.ensures.value c.in_ok-clear.ensures.ok)
