use Rattle.std.proofs.lemmas.Result.{err_from_is_err_and}
use Rattle.raft_log_open.proofs.Making.{replaced, unmade_file, unrenamed}
use Rattle.raft_log_open.proofs.replacing.replace.Goals as goal

pub returns-in_err-make_file-clause-err : goal.returns-in_err-make_file-clause-err
returns-in_err-make_file-clause-err g c =
    let D = g.F.FileSystem.disk in
    let gave = err_from_is_err_and c.from_residual.result c.from_residual.ensures.1 in
    rw (gave.1, gave.2) (unmade_file c.args.temporary.now c.args.path.now c.args.bytes.now _ (D c.args.file_system.now) (D c.make_file.new.file_system) c.requires c.in_err-make_file.ensures.err)

pub returns-in_err-rename-clause-err : goal.returns-in_err-rename-clause-err
returns-in_err-rename-clause-err g c =
    let D = g.F.FileSystem.disk in
    let gave = err_from_is_err_and c.from_residual-in_err-rename.result c.from_residual-in_err-rename.ensures.1 in
    rw (gave.1, gave.2) (unrenamed c.args.temporary.now c.args.path.now c.args.bytes.now _ (D c.args.file_system.now) (D c.make_file.new.file_system) (D c.rename.new.self) c.requires
    (g.met.F.FileSystem.sound c.make_file.new.file_system) c.in_ok-make_file.ensures.ok c.in_err-rename.ensures.err)

pub returns-clause-ok : goal.returns-clause-ok
returns-clause-ok g c =
    let D = g.F.FileSystem.disk in
    replaced c.args.temporary.now c.args.path.now c.args.bytes.now (D c.args.file_system.now) (D c.make_file.new.file_system) (D c.rename.new.self) c.requires
    (g.met.F.FileSystem.sound c.make_file.new.file_system) c.in_ok-make_file.ensures.ok c.in_ok-rename.ensures.ok
