use Rattle.std.proofs.Common.{arith}
use Rattle.raft_log_record_items.proofs.Spelled.{entries_spelled}
use Rattle.raft_log_record_items.proofs.entry_indexes.append_entries.Goals as goal

pub returns-in_ok-append_lengths-clause-spelled : goal.returns-in_ok-append_lengths-clause-spelled
returns-in_ok-append_lengths-clause-spelled c = entries_spelled c.args.entries.now c.requires (omega arith)
