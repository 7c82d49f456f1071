use Rattle.std.proofs.lemmas.Result.{err_from_is_err_and}
use Rattle.raft_log_block_cache.proofs.Entries.{none_read}
use Rattle.raft_log_block_cache.proofs.block_cache.BlockCache.read_entries.Goals as goal

pub returns-in_err-messages-clause-err : goal.returns-in_err-messages-clause-err
returns-in_err-messages-clause-err g c =
    let p = err_from_is_err_and c.from_residual.result c.from_residual.ensures.1 in
    rw p.1 (none_read g.M.Message.reading (g.P.PipeLog.shown c.args.pipes.now) c.args.entries.now c.args.self.now p.0 p.2)
