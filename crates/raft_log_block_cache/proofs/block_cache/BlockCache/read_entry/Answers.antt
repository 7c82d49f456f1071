use Rattle.std.proofs.Common.{Err, List, inl, inr, subst, ℕ}
use Rattle.std.proofs.lemmas.Result.{err_from_is_err_and}
use Rattle.raft_log_record_items.specs.Message.{Parses}
use Rattle.raft_log_block_cache.specs.Blocks.{IsEntryUnread}
use Rattle.raft_log_block_cache.proofs.Entries.{parse_err}
use Rattle.raft_log_block_cache.proofs.block_cache.BlockCache.read_entry.Goals as goal

pub returns-in_err-read-clause-err : goal.returns-in_err-read-clause-err
returns-in_err-read-clause-err g c =
    let p = err_from_is_err_and c.from_residual-in_err-read.result c.from_residual-in_err-read.ensures.1 in
    rw (p.1, p.2) (inr (c.in-Some.block, c.in-Some.is, inl c.in_err-read.ensures.err))

pub returns-in_err-bytes-clause-err : goal.returns-in_err-bytes-clause-err
returns-in_err-bytes-clause-err g c =
    let p = err_from_is_err_and c.from_residual-in_err-bytes.result c.from_residual-in_err-bytes.ensures.1 in
    rw (p.1, p.2) (inr (c.in-Some.block, c.in-Some.is, inr (c.in_ok-read.ensures.ok, inl c.in_err-bytes.ensures.err)))

pub returns-clause-err : goal.returns-clause-err
returns-clause-err g c =
    parse_err c.parse.result (g.M.Message.reading c.in_ok-bytes.bytes.now) (IsEntryUnread g.M.Message.reading (g.P.PipeLog.shown c.args.pipes.now) c.args.entry.now c.args.self.now c.read.new.self) c.parse.ensures
    (λ e is. inr (
      c.in-Some.block,
      c.in-Some.is,
      inr (
        c.in_ok-read.ensures.ok,
        inr (subst (λ (bytes : List ℕ). Parses {M = g.row.M.Denot} (Err e) (g.M.Message.reading bytes)) c.in_ok-bytes.ensures.ok.1 is),
      ),
    ))
