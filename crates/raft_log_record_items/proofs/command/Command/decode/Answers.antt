use Rattle.raft_log_record_base.proofs.Public.{decodes}
use Rattle.raft_log_record_items.proofs.Reading.{is_command}
use Rattle.raft_log_record_items.proofs.command.Command.decode.Goals as goal

pub returns-clause-decodes : goal.returns-clause-decodes
returns-clause-decodes c = decodes c.split_command.result c.args.source.now.now c.split_command.new.source.now is_command c.split_command.ensures.exact
