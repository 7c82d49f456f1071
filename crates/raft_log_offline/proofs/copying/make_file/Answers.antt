use Rattle.std.proofs.lemmas.Result.{err_from_is_err_and}
use Rattle.raft_log_offline.specs.Steps.UnmadeBy.{not_created, not_filled, not_synced}
use Rattle.raft_log_offline.proofs.Making.{made_file, unfilled, unsynced}
use Rattle.raft_log_offline.proofs.copying.make_file.Goals as goal

pub returns-in_err-fill-clause-err : goal.returns-in_err-fill-clause-err
returns-in_err-fill-clause-err g c =
    let D = g.F.FileSystem.disk in
    let gave = err_from_is_err_and c.from_residual-in_err-fill.result c.from_residual-in_err-fill.ensures.1 in
    rw (gave.1, gave.2) (unfilled c.args.path.now c.args.bytes.now c.in_ok-handle.handle _ (D c.args.file_system.now) (D c.create.new.self) (D c.fill.new.file_system)
    (g.met.F.FileSystem.sound c.args.file_system.now) c.in_ok-handle.ensures.ok c.in_ok-handle.ensures.permission c.in_err-fill.ensures.err)

pub returns-in_err-sync-clause-err : goal.returns-in_err-sync-clause-err
returns-in_err-sync-clause-err g c =
    let D = g.F.FileSystem.disk in
    let gave = err_from_is_err_and c.from_residual-in_err-sync.result c.from_residual-in_err-sync.ensures.1 in
    rw (gave.1, gave.2) (unsynced c.args.path.now c.args.bytes.now c.in_ok-handle.handle _ (D c.args.file_system.now) (D c.create.new.self) (D c.fill.new.file_system) (D c.sync.new.self)
    (g.met.F.FileSystem.sound c.args.file_system.now) c.in_ok-handle.ensures.ok c.in_ok-fill.ensures.ok c.in_err-sync.ensures.err)

pub returns-in_err-handle-clause-told : goal.returns-in_err-handle-clause-told
returns-in_err-handle-clause-told g c =
    let gave = err_from_is_err_and c.from_residual.result c.from_residual.ensures.1 in
    rw (gave.1, gave.2) (not_created c.in_err-handle.ensures.err)

pub returns-in_err-fill-clause-told : goal.returns-in_err-fill-clause-told
returns-in_err-fill-clause-told g c =
    let gave = err_from_is_err_and c.from_residual-in_err-fill.result c.from_residual-in_err-fill.ensures.1 in
    rw (gave.1, gave.2) (not_filled c.in_ok-handle.handle (g.F.FileSystem.disk c.create.new.self) c.in_ok-handle.ensures.ok c.in_err-fill.ensures.err)

pub returns-in_err-sync-clause-told : goal.returns-in_err-sync-clause-told
returns-in_err-sync-clause-told g c =
    let D = g.F.FileSystem.disk in
    let gave = err_from_is_err_and c.from_residual-in_err-sync.result c.from_residual-in_err-sync.ensures.1 in
    rw (gave.1, gave.2)
    (not_synced c.in_ok-handle.handle (D c.create.new.self) (D c.fill.new.file_system) c.in_ok-handle.ensures.ok c.in_ok-fill.ensures.ok c.in_err-sync.ensures.err)

pub returns-clause-ok : goal.returns-clause-ok
returns-clause-ok g c =
    let D = g.F.FileSystem.disk in
    made_file c.args.path.now c.args.bytes.now c.in_ok-handle.handle.file (D c.args.file_system.now) (D c.create.new.self) (D c.fill.new.file_system) (D c.sync.new.self)
    (g.met.F.FileSystem.sound c.args.file_system.now) c.in_ok-handle.ensures.ok c.in_ok-fill.ensures.ok c.in_ok-sync.ensures.ok
