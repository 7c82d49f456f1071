-- Each kind has a reader, so no spelling of the kind begins another.
use Rattle.raft_log_record_base.proofs.Public.{prefix_free}
use Rattle.raft_log_record_items.proofs.Reading.{is_bytes, is_entries, is_command, is_key_value, is_item, are_items}
use Rattle.raft_log_record_items.proofs.laws.no_spelling_begins_another.Goals as goal

pub returns : goal.returns
returns c = record {
  bytes = prefix_free is_bytes;
  entries = prefix_free is_entries;
  commands = prefix_free is_command;
  keys = prefix_free is_key_value;
  items = prefix_free is_item;
  lists = prefix_free are_items;
}
