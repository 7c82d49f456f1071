use Rattle.std.proofs.Common.{refl}
use Rattle.std.proofs.lemmas.Result.{err_from_is_err_and}
use Rattle.raft_log_file_writer.specs.Writer.{is_cut}
use Rattle.raft_log_file_writer.proofs.WriterLaws.{uncut_kept, uncut_durable, cut_written, cut_durable}
use Rattle.raft_log_file_writer.proofs.writer.LogFileWriter.truncate.Goals as goal

pub returns-in_err-truncate-clause-err : goal.returns-in_err-truncate-clause-err
returns-in_err-truncate-clause-err g c =
    let gave = err_from_is_err_and c.from_residual.result c.from_residual.ensures.1 in
    rw (gave.1, gave.2) (record { longer = c.if-self.true; fails = c.in_err-truncate.ensures.err; same = refl })

pub returns-in_err-truncate-clause-kept : goal.returns-in_err-truncate-clause-kept
returns-in_err-truncate-clause-kept g c =
    let D = g.F.FileSystem.disk in
    let writer = c.args.self.now in
    let gave = err_from_is_err_and c.from_residual.result c.from_residual.ensures.1 in
    rw (gave.1) (uncut_kept writer writer (D c.args.file_system.now) (D c.truncate.new.self) c.in_err-truncate.field-0.0 (record { longer = c.if-self.true; fails = c.in_err-truncate.ensures.err; same = refl }))

pub returns-in_err-truncate-clause-durable : goal.returns-in_err-truncate-clause-durable
returns-in_err-truncate-clause-durable g c =
    let D = g.F.FileSystem.disk in
    let writer = c.args.self.now in
    uncut_durable writer writer (D c.args.file_system.now) (D c.truncate.new.self) c.in_err-truncate.field-0.0 (record { longer = c.if-self.true; fails = c.in_err-truncate.ensures.err; same = refl })

pub returns-in_ok-truncate-clause-whole : goal.returns-in_ok-truncate-clause-whole
returns-in_ok-truncate-clause-whole g c =
    let D = g.F.FileSystem.disk in
    cut_written c.args.self.now _ (D c.args.file_system.now) (D c.truncate.new.self) (is_cut c.if-self.true c.in_ok-truncate.ensures.ok (record { handle_is = refl; written_is = refl; capacity_is = refl }))

pub returns-in_ok-truncate-clause-durable : goal.returns-in_ok-truncate-clause-durable
returns-in_ok-truncate-clause-durable g c =
    let D = g.F.FileSystem.disk in
    let writer = c.args.self.now in
    cut_durable writer (record writer { capacity = writer.written }) (D c.args.file_system.now) (D c.truncate.new.self) (is_cut c.if-self.true c.in_ok-truncate.ensures.ok (record { handle_is = refl; written_is = refl; capacity_is = refl }))
