use Rattle.std.proofs.Common.{◌≤◌, List, ℕ, length, sym, subst, ◌∙◌, arith}
use Rattle.std.proofs.lemmas.List.{take_all}
use Rattle.std.proofs.lemmas.Result.{err_from_is_err_and}
use Rattle.raft_log_memtable_index.specs.Listing.{ListsAll, rewritten_values}
use Rattle.raft_log_memtables.specs.Tables.{shown_of}
use Rattle.raft_log_engine_laws.specs.EngineState.{shows}
use Rattle.raft_log_purge_copy.specs.Pieces.{MakeOnePiece}
use Rattle.raft_log_purge_copy.proofs.Closing.{nothing_done, these_restated}
use Rattle.raft_log_purge_copy.proofs.restating.restate_group.Goals as goal

pub returns-in_err-entries-clause-err : goal.returns-in_err-entries-clause-err
returns-in_err-entries-clause-err g c =
    let p = err_from_is_err_and c.from_residual.result c.from_residual.ensures.1 in
    rw p.1 (nothing_done p.0 (shows (g.P.PipeLog.shown c.args.pipes.now) c.args.tables.now c.args.cache.now) p.2)

pub returns-in_err-pairs-clause-err : goal.returns-in_err-pairs-clause-err
returns-in_err-pairs-clause-err g c =
    let p = err_from_is_err_and c.from_residual-in_err-pairs.result c.from_residual-in_err-pairs.ensures.1 in
    rw p.1 (nothing_done p.0 (shows (g.P.PipeLog.shown c.args.pipes.now) c.args.tables.now c.args.cache.now) p.2)

-- all entries make one record
pub restate_at_once-requires : goal.restate_at_once-requires
restate_at_once-requires g c =
    let all : length c.as_slice-es.result.now ≤ c.piece_len-count.result = omega arith in
    subst MakeOnePiece (take_all c.piece_len-count.result c.as_slice-es.result.now all) c.piece_len-count.ensures.piece

pub returns-clause-ok : goal.returns-clause-ok
returns-clause-ok g c =
    let s = shows (g.P.PipeLog.shown c.args.pipes.now) c.args.tables.now c.args.cache.now in
    let t = shows (g.P.PipeLog.shown c.restate_in_parts.new.pipes) c.restate_in_parts.new.tables c.restate_in_parts.new.cache in
    let keys = subst (λ (l : List (List ℕ × List ℕ)). ListsAll (rewritten_values (shown_of c.args.tables.now c.args.group)) l) (sym c.as_slice-keys.ensures.value) c.in_ok-pairs.ensures in
    these_restated c.restate_in_parts.result c.args.group c.as_slice-es.result.now c.as_slice-keys.result.now s t (record { entries = c.as_slice-es.ensures.value ∙ c.in_ok-entries.ensures; keys = keys }) c.restate_in_parts.ensures.ok

pub returns-clause-handed : goal.returns-clause-handed
returns-clause-handed g c = c.restate_in_parts.ensures.handed c.piece_len-count.ensures.most

pub returns-clause-moves : goal.returns-clause-moves
returns-clause-moves g c = c.restate_in_parts.ensures.moves (c.as_slice-es.ensures.value ∙ c.in_ok-entries.ensures)
