use Rattle.std.proofs.Common.{◌<◌, length, arith}
use Rattle.std.proofs.lemmas.Result.{err_from_is_err_and}
use Rattle.raft_log_recovery.proofs.Syncs.{syncs_more, syncs_stop}
use Rattle.raft_log_recovery.proofs.syncing.sync_files.Goals as goal

pub returns-in_err-sync-clause-err : goal.returns-in_err-sync-clause-err
returns-in_err-sync-clause-err g c =
    let D = g.F.FileSystem.disk in
    let files = c.args.files.now in
    let i = c.loop-file.file-index in
    let there : i < length files = omega arith in
    let gave = err_from_is_err_and c.from_residual.result c.from_residual.ensures.1 in
    rw (gave.1, gave.2) (syncs_stop files i _ c.in_err-sync.field-0.0 (D c.args.file_system.now) (D c.loop-file.file_system) (D c.sync.new.self) there c.loop-file.invariant c.in_err-sync.ensures.err)

pub loop-file-preserved : goal.loop-file-preserved
loop-file-preserved g c =
    let D = g.F.FileSystem.disk in
    let files = c.args.files.now in
    let i = c.loop-file.file-index in
    let there : i < length files = omega arith in
    syncs_more files i _ (D c.args.file_system.now) (D c.loop-file.file_system) (D c.sync.new.self) there c.loop-file.invariant c.in_ok-sync.ensures.ok
