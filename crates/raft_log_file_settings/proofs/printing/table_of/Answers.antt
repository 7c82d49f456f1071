use Rattle.std.proofs.Common.{[], None}
use Rattle.std.proofs.lemmas.Result.{err_from_is_err_and}
use Rattle.toml.specs.View.{table_view}
use Rattle.raft_log_file_settings.proofs.Printings.{one_more, stopped}
use Rattle.raft_log_file_settings.proofs.printing.table_of.Goals as goal

pub returns-in_err-put_row-clause-err : goal.returns-in_err-put_row-clause-err
returns-in_err-put_row-clause-err c =
    let p = err_from_is_err_and c.from_residual.result c.from_residual.ensures.1 in
    rw (p.1, p.2) (stopped c.args.rows.now c.loop-row.row-index (record { ref_ptr = (0, 0); now = [] }, None) c.in_err-put_row.field-0.0 c.loop-row-test.true c.loop-row.invariant.none c.in_err-put_row.ensures.err)

pub loop-row-preserved : goal.loop-row-preserved
loop-row-preserved c =
    one_more c.args.rows.now c.loop-row.row-index (record { ref_ptr = (0, 0); now = [] }, None) (table_view c.loop-row.table) (table_view c.put_row.new.table)
    c.loop-row-test.true c.loop-row.invariant c.in_ok-put_row.ensures.ok c.in_ok-put_row.ensures.said
