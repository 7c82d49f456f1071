use Rattle.raft_log_record_base.proofs.Public.{decodes}
use Rattle.raft_log_record_items.proofs.Reading.{is_item}
use Rattle.raft_log_record_items.proofs.item.LogItem.decode.Goals as goal

pub returns-clause-decodes : goal.returns-clause-decodes
returns-clause-decodes c = decodes c.split_item.result c.args.source.now.now c.split_item.new.source.now is_item c.split_item.ensures
