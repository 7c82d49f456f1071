use Rattle.std.proofs.Common.{refl, sym, ◌∙◌}
use Rattle.std.proofs.lemmas.Result.{err_from_is_err_and}
use Rattle.raft_log_file_writer.proofs.OpeningLaws.{size_short, gone_on, begun, not_taken, begun_written, not_begun_cause}
use Rattle.raft_log_file_writer.proofs.writer.LogFileWriter.open.Goals as goal

pub invariant_of-result : goal.invariant_of-result
invariant_of-result g c =
    let d = g.F.FileSystem.disk c.args.file_system.now in
    record { short = size_short c.args.handle.file d c.in_ok-size.size (g.met.F.FileSystem.sound c.args.file_system.now) c.in_ok-size.ensures.ok }

pub returns-then-not-needs_header-clause-ok : goal.returns-then-not-needs_header-clause-ok
returns-then-not-needs_header-clause-ok g c =
    let d = g.F.FileSystem.disk c.args.file_system.now in
    gone_on c.args.handle c.args.header.now c.args.force_reset d c.in_ok-size.size c.in_ok-size.ensures.ok _ (sym c.needs_header.ensures ∙ c.if-not-needs_header.true) refl refl refl

pub returns-in_err-write-clause-err : goal.returns-in_err-write-clause-err
returns-in_err-write-clause-err g c =
    let D = g.F.FileSystem.disk in
    let gave = err_from_is_err_and c.from_residual-in_err-write.result c.from_residual-in_err-write.ensures.1 in
    rw (gave.1, gave.2) (not_taken c.args.handle c.args.header.now c.args.force_reset (D c.args.file_system.now) c.in_ok-size.size c.in_ok-size.ensures.ok _ c.write.new.self (D c.write.new.file_system)
    (sym c.needs_header.ensures ∙ c.if-not-needs_header.false) refl refl refl c.in_err-write.field-0.0 c.in_err-write.ensures.err)

pub returns-in_err-write-clause-cause : goal.returns-in_err-write-clause-cause
returns-in_err-write-clause-cause g c =
    let D = g.F.FileSystem.disk in
    let gave = err_from_is_err_and c.from_residual-in_err-write.result c.from_residual-in_err-write.ensures.1 in
    rw (gave.1) (not_begun_cause c.args.handle c.args.header.now c.args.force_reset (D c.args.file_system.now) c.in_ok-size.size c.in_ok-size.ensures.ok _ c.write.new.self (D c.write.new.file_system)
    (sym c.needs_header.ensures ∙ c.if-not-needs_header.false) refl refl refl c.in_err-write.ensures.kept)

pub returns-clause-ok : goal.returns-clause-ok
returns-clause-ok g c =
    let D = g.F.FileSystem.disk in
    begun c.args.handle c.args.header.now c.args.force_reset (D c.args.file_system.now) c.in_ok-size.size c.in_ok-size.ensures.ok _ c.write.new.self (D c.write.new.file_system)
    (sym c.needs_header.ensures ∙ c.if-not-needs_header.false) refl refl refl c.in_ok-write.ensures.ok

pub returns-clause-written : goal.returns-clause-written
returns-clause-written g c =
    let D = g.F.FileSystem.disk in
    begun_written c.args.handle c.args.header.now c.args.force_reset (D c.args.file_system.now) c.in_ok-size.size c.in_ok-size.ensures.ok _ c.write.new.self (D c.write.new.file_system)
    (sym c.needs_header.ensures ∙ c.if-not-needs_header.false) refl refl refl c.in_ok-write.ensures.written
