use Rattle.raft_log_record_items.proofs.Spelled.{entries_content, command_content, key_value_content}
use Rattle.raft_log_record_items.proofs.item.append_content.Goals as goal

pub returns-in_ok-encode-in-EntryIndexes-clause-spelled : goal.returns-in_ok-encode-in-EntryIndexes-clause-spelled
returns-in_ok-encode-in-EntryIndexes-clause-spelled c = rw c.in-EntryIndexes.is (entries_content _ c.in_ok-encode-in-EntryIndexes.ensures.spelled)

pub returns-in_ok-encode-in-Command-clause-spelled : goal.returns-in_ok-encode-in-Command-clause-spelled
returns-in_ok-encode-in-Command-clause-spelled c = rw c.in-Command.is (command_content _ c.in_ok-encode-in-Command.ensures.spelled)

pub returns-in_ok-encode-in-Kv-clause-spelled : goal.returns-in_ok-encode-in-Kv-clause-spelled
returns-in_ok-encode-in-Kv-clause-spelled c = rw c.in-Kv.is (key_value_content _ c.in_ok-encode-in-Kv.ensures.spelled)
