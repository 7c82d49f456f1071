use Rattle.std.proofs.Common.{◌++◌}
use Rattle.std.proofs.lemmas.Result.{on_ok_weaker, on_err_weaker, err_from_is_err_and}
use Rattle.raft_log_fs.proofs.Public.{fails_after}
use Rattle.raft_examples.proofs.file.save_record.Goals as goal

pub returns-clause-ok : goal.returns-clause-ok
returns-clause-ok g c = on_ok_weaker c.sync.result (λ synced front is. synced (front ++ c.args.«record».now) (c.in_ok-write.ensures.written front is)) c.sync.ensures.synced

pub returns-clause-err : goal.returns-clause-err
returns-clause-err g c =
    let D = g.F.FileSystem.disk in
    on_err_weaker c.sync.result (λ kept front is. fails_after (D c.args.file_system.now) (D c.write.new.file_system) (D c.sync.new.file_system) c.write.ensures.later (kept (front ++ c.args.«record».now) (c.in_ok-write.ensures.written front is)).1) c.sync.ensures.kept

pub returns-in_err-write-clause-err : goal.returns-in_err-write-clause-err
returns-in_err-write-clause-err g c =
    let gave = err_from_is_err_and c.from_residual.result c.from_residual.ensures.1 in
    rw (gave.1) (λ front is. (c.in_err-write.ensures.kept front is).1)
