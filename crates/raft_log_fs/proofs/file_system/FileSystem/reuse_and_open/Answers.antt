use Rattle.std.proofs.Common.{inl}
use Rattle.std.proofs.lemmas.Result.{err_from_is_err_and}
use Rattle.raft_log_fs.proofs.file_system.FileSystem.reuse_and_open.Goals as goal

pub returns-in_err-reuse-clause-err : goal.returns-in_err-reuse-clause-err
returns-in_err-reuse-clause-err g c =
    let p = err_from_is_err_and c.from_residual.result c.from_residual.ensures.1 in rw (p.1, p.2) (inl c.in_err-reuse.ensures.err)
