use Rattle.raft_log_memtable_index.proofs.Rising.{copies_rise, nothing_rises, rises_on}
use Rattle.raft_log_memtable_index.proofs.laws.files_rise.Goals as goal

pub returns : goal.returns
returns g c = record { nothing = nothing_rises; append = rises_on; rewrite = copies_rise }
