use Rattle.raft_log_machine_laws.proofs.RenamedWhereabouts.{carries_all_renamed, grew_by_renamed, grows_by_renamed, has_appended_renamed, has_rewritten_renamed, recovered_renamed, run_renamed}
use Rattle.raft_log_machine_laws.proofs.machine.whereabouts_of_renamed.Goals as goal

pub returns : goal.returns
returns g c = record {
  grows = λ f t u xs h. grows_by_renamed f t xs u h;
  grew = λ f t u xs h. grew_by_renamed f t xs u h;
  carries = λ f m group t u xs h. carries_all_renamed f m group t xs u h;
  recovered = recovered_renamed;
  appended = has_appended_renamed;
  rewritten = has_rewritten_renamed;
  run = run_renamed;
}
