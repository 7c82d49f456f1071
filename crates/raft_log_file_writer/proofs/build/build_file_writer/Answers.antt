use Rattle.std.proofs.Common.{◌∙◌}
use Rattle.std.proofs.lemmas.Result.{err_from_is_err_and}
use Rattle.raft_log_file_format.specs.Header.{header_bytes}
use Rattle.raft_log_file_writer.proofs.BuildingLaws.{build_touches, built, not_built}
use Rattle.raft_log_file_writer.proofs.build.build_file_writer.Goals as goal

pub returns-in_err-open-clause-err : goal.returns-in_err-open-clause-err
returns-in_err-open-clause-err g c =
    let D = g.F.FileSystem.disk in
    let gave = err_from_is_err_and c.from_residual-in_err-open.result c.from_residual-in_err-open.ensures.1 in
    rw (gave.1, gave.2) (not_built c.args.path.now c.args.create c.in_ok-handle.handle (D c.args.file_system.now) (D c.find_file.new.file_system) c.args.format (D c.open.new.file_system) c.deref.result.now c.in_err-open.field-0.0
    (c.deref.ensures.value ∙ c.in_ok-header.ensures.ok.1) c.in_ok-handle.ensures.ok c.in_err-open.ensures.err)

pub returns-in_err-open-clause-others : goal.returns-in_err-open-clause-others
returns-in_err-open-clause-others g c =
    let D = g.F.FileSystem.disk in
    build_touches c.args.path.now c.args.create c.in_ok-handle.handle (D c.args.file_system.now) (D c.find_file.new.file_system) (D c.open.new.file_system)
    (g.met.F.FileSystem.sound c.args.file_system.now) (g.met.F.FileSystem.sound c.find_file.new.file_system) c.in_ok-handle.ensures.ok c.find_file.ensures.others c.open.ensures.others

pub returns-clause-ok : goal.returns-clause-ok
returns-clause-ok g c =
    let D = g.F.FileSystem.disk in
    built c.args.path.now c.args.create c.in_ok-handle.handle (D c.args.file_system.now) (D c.find_file.new.file_system) (header_bytes c.args.format) (D c.open.new.file_system) c.deref.result.now c.in_ok-open.field-0
    (c.deref.ensures.value ∙ c.in_ok-header.ensures.ok.1) c.in_ok-handle.ensures.ok c.in_ok-open.ensures.ok

pub returns-clause-others : goal.returns-clause-others
returns-clause-others g c =
    let D = g.F.FileSystem.disk in
    build_touches c.args.path.now c.args.create c.in_ok-handle.handle (D c.args.file_system.now) (D c.find_file.new.file_system) (D c.open.new.file_system)
    (g.met.F.FileSystem.sound c.args.file_system.now) (g.met.F.FileSystem.sound c.find_file.new.file_system) c.in_ok-handle.ensures.ok c.find_file.ensures.others c.open.ensures.others
