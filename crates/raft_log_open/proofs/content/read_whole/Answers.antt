use Rattle.std.proofs.Common.{length, ap, arith}
use Rattle.std.proofs.lemmas.Result.{err_from_is_err_and}
use Rattle.raft_log_file_reader.proofs.Public.{size_told}
use Rattle.raft_log_open.proofs.Joining.{unread_whole}
use Rattle.raft_log_open.proofs.content.read_whole.Goals as goal

pub returns-in_err-read-clause-err : goal.returns-in_err-read-clause-err
returns-in_err-read-clause-err g c =
    let d = g.F.FileSystem.disk c.args.file_system.now in
    let gave = err_from_is_err_and c.from_residual-in_err-read.result c.from_residual-in_err-read.ensures.1 in
    let size = size_told c.args.handle.file d c.in_ok-size.size c.in_ok-size.ensures.ok in
    let room = ap length c.as_mut_slice.ensures.value in
    rw (gave.1, gave.2) (λ honest. unread_whole c.args.handle d (length c.as_mut_slice.result.now) _ (omega (arith, size, room, c.in_ok-bytes.ensures.len)) c.in_err-read.ensures.err)
