use Rattle.std.proofs.Common.{subst}
use Rattle.std.proofs.lemmas.Result.{err_from_is_err_and}
use Rattle.raft_log_file_settings.specs.Settings.{directories_of, settings_of}
use Rattle.raft_log_file_settings.specs.declared.config.Config.{Config}
use Rattle.raft_log_open.specs.Unpadding.{FailsToUnpad, Unpads}
use Rattle.raft_log_open.specs.Finding.FailsToReadAnew.{still_padded}
use Rattle.raft_log_open.proofs.Padding.{not_found}
use Rattle.raft_log_open.proofs.reading.find_unpadded.Goals as goal

pub returns-in_err-unpad-clause-err : goal.returns-in_err-unpad-clause-err
returns-in_err-unpad-clause-err g c =
    let D = g.F.FileSystem.disk in
    let e = c.in_err-unpad.field-0.0 in
    let gave = err_from_is_err_and c.from_residual.result c.from_residual.ensures.1 in
    rw (gave.1, gave.2) (still_padded (subst (λ (k : Config). FailsToUnpad (directories_of (settings_of k)) e (D c.args.file_system.now) (D c.unpad.new.file_system)) c.config.ensures c.in_err-unpad.ensures.err))

pub returns-clause-err : goal.returns-clause-err
returns-clause-err g c =
    let D = g.F.FileSystem.disk in
    let unpads = subst (λ (k : Config). Unpads (directories_of (settings_of k)) c.in_ok-unpad.field-0.items (D c.args.file_system.now) (D c.unpad.new.file_system)) c.config.ensures c.in_ok-unpad.ensures.ok in
    not_found c.args.builder.now c.in_ok-unpad.field-0.items (D c.args.file_system.now) (D c.unpad.new.file_system) (D c.scan.new.file_system) c.scan.result unpads c.scan.ensures.err
