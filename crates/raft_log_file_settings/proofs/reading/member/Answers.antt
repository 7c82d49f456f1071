use Rattle.toml.proofs.Views.{table_get}
use Rattle.raft_log_file_settings.proofs.reading.member.Goals as goal

-- src/reading.rt:73:1
pub returns : goal.returns
returns c = table_get c.get.result c.args.key.now c.args.table.now.entries c.get.ensures.value
