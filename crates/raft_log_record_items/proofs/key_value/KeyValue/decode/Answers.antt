use Rattle.raft_log_record_base.proofs.Public.{decodes}
use Rattle.raft_log_record_items.proofs.Reading.{is_key_value}
use Rattle.raft_log_record_items.proofs.key_value.KeyValue.decode.Goals as goal

pub returns-clause-decodes : goal.returns-clause-decodes
returns-clause-decodes c = decodes c.split_key_value.result c.args.source.now.now c.split_key_value.new.source.now is_key_value c.split_key_value.ensures
