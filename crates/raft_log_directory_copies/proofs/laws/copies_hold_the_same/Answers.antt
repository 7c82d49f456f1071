use Rattle.raft_log_directory_copies.proofs.Copying.{copies_hold_the_same}
use Rattle.raft_log_directory_copies.proofs.laws.copies_hold_the_same.Goals as goal

pub returns : goal.returns
returns c = copies_hold_the_same
