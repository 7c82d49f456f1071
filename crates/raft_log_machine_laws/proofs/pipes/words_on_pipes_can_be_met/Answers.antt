use Rattle.raft_log_machine_laws.proofs.ExactPipe.{exact_appends, exact_cuts_back, exact_rotates, exact_fails, exact_syncs, exact_raises}
use Rattle.raft_log_machine_laws.proofs.pipes.words_on_pipes_can_be_met.Goals as goal

pub returns : goal.returns
returns g c = record {
  appends = exact_appends;
  cuts_back = exact_cuts_back;
  rotates = exact_rotates;
  fails = exact_fails;
  syncs = exact_syncs;
  raises = exact_raises;
}
