use Rattle.std.proofs.Common.{ℕ, List, subst}
use Rattle.std.proofs.lemmas.Result.{err_from_is_err_and}
use Rattle.raft_log_engine_laws.specs.EngineState.{shows}
use Rattle.raft_log_purge_copy.specs.Keys.{IsKeysBatch}
use Rattle.raft_log_purge_copy.specs.Refusals.{AreUnput}
use Rattle.raft_log_purge_copy.proofs.KeysCopied.{keys_copied, keys_not_copied, keys_not_written, no_memory_for_keys}
use Rattle.raft_log_purge_copy.proofs.Handing.{copies_handed, keys_have_piece}
use Rattle.raft_log_purge_copy.proofs.keys.copy_keys.Goals as goal

pub returns-in_err-pairs-clause-err : goal.returns-in_err-pairs-clause-err
returns-in_err-pairs-clause-err g c =
    let p = err_from_is_err_and c.from_residual.result c.from_residual.ensures.1 in
    rw p.1 (λ cache. no_memory_for_keys p.0 (shows (g.P.PipeLog.shown c.args.pipes.now) c.args.tables.now cache) p.2)

pub returns-in_err-batch-clause-err : goal.returns-in_err-batch-clause-err
returns-in_err-batch-clause-err g c =
    let pairs = c.in_ok-pairs.pairs.items in
    let error = c.in_err-batch.field-0.0 in
    let why = subst (λ (l : List (List ℕ × List ℕ)). AreUnput c.args.group l error) c.as_slice.ensures.value c.in_err-batch.ensures.errors in
    let p = err_from_is_err_and c.from_residual-in_err-batch.result c.from_residual-in_err-batch.ensures.1 in
    rw (p.1, p.2) (λ cache. keys_not_written c.args.group c.args.gate pairs error (shows (g.P.PipeLog.shown c.args.pipes.now) c.args.tables.now cache) c.in_ok-pairs.ensures why)

pub returns-in_err-write_copies-clause-err : goal.returns-in_err-write_copies-clause-err
returns-in_err-write_copies-clause-err g c =
    let pairs = c.in_ok-pairs.pairs.items in
    let b = c.in_ok-batch.batch in
    let is = subst (λ (l : List (List ℕ × List ℕ)). IsKeysBatch c.args.group l b) c.as_slice.ensures.value c.in_ok-batch.ensures.ok in
    let p = err_from_is_err_and c.from_residual-in_err-write_copies.result c.from_residual-in_err-write_copies.ensures.1 in
    rw (p.1, p.2)
    (λ cache.
    keys_not_copied c.args.group c.args.gate pairs b is (shows (g.P.PipeLog.shown c.args.pipes.now) c.args.tables.now cache) (shows (g.P.PipeLog.shown c.write_copies.new.pipes) c.write_copies.new.tables cache) c.in_ok-pairs.ensures
    c.in_err-write_copies.field-0.0 (c.in_err-write_copies.ensures.err cache))

pub returns-clause-ok : goal.returns-clause-ok
returns-clause-ok g c =
    let pairs = c.in_ok-pairs.pairs.items in
    let b = c.in_ok-batch.batch in
    let is = subst (λ (l : List (List ℕ × List ℕ)). IsKeysBatch c.args.group l b) c.as_slice.ensures.value c.in_ok-batch.ensures.ok in
    λ cache.
    keys_copied c.args.group c.args.gate pairs b is (shows (g.P.PipeLog.shown c.args.pipes.now) c.args.tables.now cache) (shows (g.P.PipeLog.shown c.write_copies.new.pipes) c.write_copies.new.tables cache) c.in_ok-pairs.ensures
    (c.in_ok-write_copies.ensures.ok cache)

pub returns-clause-handed : goal.returns-clause-handed
returns-clause-handed g c =
    let b = c.in_ok-batch.batch in
    copies_handed b c.args.unsynced.now c.write_copies.new.unsynced (g.P.PipeLog.shown c.args.pipes.now) (g.P.PipeLog.shown c.write_copies.new.pipes) (keys_have_piece c.args.group c.as_slice.result.now b c.in_ok-batch.ensures.ok) c.in_ok-write_copies.ensures.counted
