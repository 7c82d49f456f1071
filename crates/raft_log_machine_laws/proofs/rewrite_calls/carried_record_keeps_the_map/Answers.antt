use Rattle.raft_log_machine_laws.proofs.CallLaws.{copies_answered, copies_may_be_there}
use Rattle.raft_log_machine_laws.proofs.rewrite_calls.carried_record_keeps_the_map.Goals as goal

pub returns : goal.returns
returns g c = record {
  answered = copies_answered g.P.TiedFiles.ties g.P.TiedFiles.allows;
  failed = copies_may_be_there g.P.TiedFiles.ties g.P.TiedFiles.allows;
}
