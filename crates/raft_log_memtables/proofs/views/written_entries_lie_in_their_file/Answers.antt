use Rattle.raft_log_memtables.proofs.WrittenEntries.{written_in}
use Rattle.raft_log_memtables.proofs.views.written_entries_lie_in_their_file.Goals as goal

pub returns : goal.returns
returns c = written_in
