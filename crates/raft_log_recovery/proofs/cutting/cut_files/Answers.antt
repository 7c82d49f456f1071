use Rattle.std.proofs.Common.{◌≡◌, ◌<◌, length, arith}
use Rattle.std.proofs.lemmas.Result.{err_from_is_err_and}
use Rattle.raft_log_recovery.proofs.Cuts.{cuts_all, cuts_more, cuts_stop}
use Rattle.raft_log_recovery.proofs.cutting.cut_files.Goals as goal

pub returns-in_err-cut_file-clause-err : goal.returns-in_err-cut_file-clause-err
returns-in_err-cut_file-clause-err g c =
    let D = g.F.FileSystem.disk in
    let files = c.args.files.now in
    let endings = c.args.endings.now in
    let i = c.loop-index.index in
    let told : i < length endings = omega arith in
    let there : i < length files = omega (arith, c.requires) in
    let gave = err_from_is_err_and c.from_residual.result c.from_residual.ensures.1 in
    rw (gave.1, gave.2) (cuts_stop files endings i _ _ c.in_err-cut_file.field-0.0 (D c.args.file_system.now) (D c.loop-index.file_system) (D c.cut_file.new.file_system) there told c.loop-index.invariant c.in_err-cut_file.ensures.err)

pub loop-index-preserved : goal.loop-index-preserved
loop-index-preserved g c =
    let D = g.F.FileSystem.disk in
    let files = c.args.files.now in
    let endings = c.args.endings.now in
    let i = c.loop-index.index in
    let told : i < length endings = omega arith in
    let there : i < length files = omega (arith, c.requires) in
    cuts_more files endings i _ _ (D c.args.file_system.now) (D c.loop-index.file_system) (D c.cut_file.new.file_system) there told c.loop-index.invariant c.in_ok-cut_file.ensures.ok

pub returns-clause-ok : goal.returns-clause-ok
returns-clause-ok g c =
    let D = g.F.FileSystem.disk in
    let all : c.loop-index.index ≡ length c.args.endings.now = omega arith in
    cuts_all c.args.files.now c.args.endings.now c.loop-index.index (D c.args.file_system.now) (D c.loop-index.file_system) all c.requires c.loop-index.invariant
