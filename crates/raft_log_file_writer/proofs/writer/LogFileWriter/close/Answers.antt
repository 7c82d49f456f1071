use Rattle.std.proofs.lemmas.Result.{err_from_is_err_and}
use Rattle.raft_log_file_writer.specs.Writer.{not_cut}
use Rattle.raft_log_file_writer.proofs.WriterLaws.{not_closed, close_written, unclosed_kept}
use Rattle.raft_log_file_writer.proofs.writer.LogFileWriter.close.Goals as goal

pub returns-in_err-truncate-clause-err : goal.returns-in_err-truncate-clause-err
returns-in_err-truncate-clause-err g c =
    let gave = err_from_is_err_and c.from_residual.result c.from_residual.ensures.1 in
    rw (gave.1, gave.2) (not_cut c.in_err-truncate.ensures.err)

pub returns-clause-err : goal.returns-clause-err
returns-clause-err g c =
    let D = g.F.FileSystem.disk in
    not_closed c.args.self.now c.truncate.new.self (D c.args.file_system.now) (D c.truncate.new.file_system) (D c.sync.new.file_system) c.in_ok-truncate.ensures.ok c.sync.result c.sync.ensures.err

pub returns-clause-closed : goal.returns-clause-closed
returns-clause-closed g c =
    let D = g.F.FileSystem.disk in
    close_written c.args.self.now c.truncate.new.self (D c.args.file_system.now) (D c.truncate.new.file_system) (D c.sync.new.file_system) c.in_ok-truncate.ensures.ok c.sync.result c.sync.ensures.ok

pub returns-clause-kept : goal.returns-clause-kept
returns-clause-kept g c =
    let D = g.F.FileSystem.disk in
    unclosed_kept c.args.self.now c.truncate.new.self (D c.args.file_system.now) (D c.truncate.new.file_system) (D c.sync.new.file_system) c.in_ok-truncate.ensures.ok c.sync.result c.sync.ensures.err
