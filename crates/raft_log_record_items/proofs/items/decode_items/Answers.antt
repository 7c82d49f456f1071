use Rattle.raft_log_record_base.proofs.Public.{decodes_items}
use Rattle.raft_log_record_items.proofs.Reading.{are_items}
use Rattle.raft_log_record_items.proofs.items.decode_items.Goals as goal

pub returns-clause-decodes : goal.returns-clause-decodes
returns-clause-decodes c = decodes_items c.split_counted_items.result c.args.source.now.now c.split_counted_items.new.source.now are_items c.split_counted_items.ensures
