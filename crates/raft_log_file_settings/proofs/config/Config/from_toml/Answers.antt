use Rattle.toml.specs.View.{table_view}
use Rattle.raft_log_file_settings.proofs.Readings.{read_text}
use Rattle.raft_log_file_settings.proofs.config.Config.from_toml.Goals as goal

pub returns-in-Ok : goal.returns-in-Ok
returns-in-Ok c = read_text c.from_table.result c.args.text.now (table_view c.in-Ok.table) c.in-Ok.ensures.ok c.from_table.ensures
