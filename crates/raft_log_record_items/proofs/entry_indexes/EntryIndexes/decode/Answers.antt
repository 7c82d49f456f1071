use Rattle.raft_log_record_base.proofs.Public.{decodes}
use Rattle.raft_log_record_items.proofs.Reading.{is_entries}
use Rattle.raft_log_record_items.proofs.entry_indexes.EntryIndexes.decode.Goals as goal

pub returns-clause-decodes : goal.returns-clause-decodes
returns-clause-decodes c = decodes c.split_entry_indexes.result c.args.source.now.now c.split_entry_indexes.new.source.now is_entries c.split_entry_indexes.ensures
