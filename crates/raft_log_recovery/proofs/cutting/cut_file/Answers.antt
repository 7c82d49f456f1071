use Rattle.std.proofs.Common.{rules, ◌≡◌, ℕ, Result, Ok, Err, IfErr, true, subst}
use Rattle.std.specs.declared.io.ErrorKind.{ErrorKind}
use Rattle.std.proofs.lemmas.Result.{err_from_is_err_and}
use Rattle.raft_log_fs.specs.Exits.{FailsToShorten, FailsToSync, Shortens}
use Rattle.raft_log_active_file.specs.TakingUp.TrimMakes.{uncut, unsynced}
use Rattle.raft_log_recovery.specs.Cutting.{FailsToCutOne}
use Rattle.raft_log_recovery.proofs.cutting.cut_file.Goals as goal

-- a refusal that is told in other words
if_err : {T E : Type 0} (r : Result T E) (P Q : E → Type 0) → ((e : E) → P e → Q e) → IfErr r P → IfErr r Q
if_err (Ok x) P Q f h = tt
if_err (Err e) P Q f h = f e h

pub returns-in_err-truncate-clause-err : goal.returns-in_err-truncate-clause-err
returns-in_err-truncate-clause-err g c =
    let D = g.F.FileSystem.disk in
    let gave = err_from_is_err_and c.from_residual.result c.from_residual.ensures.1 in
    let damaged : c.args.ending.is_damaged ≡ true = search rules in
    let kind = c.in_err-truncate.field-0.0 in
    let fails = subst (λ (n : ℕ). FailsToShorten c.args.file.handle n kind (D c.args.file_system.now) (D c.truncate.new.self)) c.unwrap_or-end.ensures c.in_err-truncate.ensures.err in
    rw (gave.1, gave.2) (record { damaged = damaged; makes = uncut fails })

pub returns-clause-err : goal.returns-clause-err
returns-clause-err g c =
    let D = g.F.FileSystem.disk in
    let damaged : c.args.ending.is_damaged ≡ true = search rules in
    let cut = subst (λ (n : ℕ). Shortens c.args.file.handle n (D c.args.file_system.now) (D c.truncate.new.self)) c.unwrap_or-end.ensures c.in_ok-truncate.ensures.ok in
    if_err c.sync.result (λ (kind : ErrorKind). FailsToSync c.args.file.handle kind (D c.truncate.new.self) (D c.sync.new.self))
    (λ (kind : ErrorKind). FailsToCutOne c.args.file c.args.ending kind (D c.args.file_system.now) (D c.sync.new.self))
    (λ kind fails. record { damaged = damaged; makes = unsynced (D c.truncate.new.self) cut fails }) c.sync.ensures.err
