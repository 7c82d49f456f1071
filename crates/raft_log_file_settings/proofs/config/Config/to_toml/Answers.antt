use Rattle.std.proofs.Common.{arith}
use Rattle.toml.specs.View.{table_view}
use Rattle.raft_log_file_settings.specs.Settings.{settings_of}
use Rattle.raft_log_file_settings.proofs.Printings.{printed_reads}
use Rattle.raft_log_file_settings.proofs.config.Config.to_toml.Goals as goal

pub returns-in-Ok-clause-ok : goal.returns-in-Ok-clause-ok
returns-in-Ok-clause-ok c =
    let made = c.in_ok-table.ensures.ok in
    (table_view c.in_ok-table.table, c.in-Ok.ensures.reads_back (omega (arith, made.flat)), printed_reads (settings_of c.args.self.now) (table_view c.in_ok-table.table) made c.in_ok-table.ensures.fits)

pub returns-in-Ok-clause-rows : goal.returns-in-Ok-clause-rows
returns-in-Ok-clause-rows c =
    let made = c.in_ok-table.ensures.ok in
    (table_view c.in_ok-table.table, c.in-Ok.ensures.reads_back (omega (arith, made.flat)), made)
