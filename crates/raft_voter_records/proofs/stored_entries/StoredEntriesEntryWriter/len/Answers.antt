use Rattle.std.proofs.Common.{sym}
use Rattle.raft_voter_records.proofs.BoundLemmas.{length-entry_texts}
use Rattle.raft_voter_records.proofs.stored_entries.StoredEntriesEntryWriter.len.Goals as goal

pub returns : goal.returns
returns c = sym (length-entry_texts c.args.self.now.first c.args.self.now.entries.now)
