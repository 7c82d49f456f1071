use Rattle.raft_log_machine_laws.proofs.StaysLaws.{group_stays, plain_stays, stay_says}
use Rattle.raft_log_machine_laws.proofs.survival.what_stays_in_rewrite_says.Goals as goal

pub returns : goal.returns
returns g c = record {
  plain = λ group s xs zs ys. plain_stays group s xs ys zs;
  group = λ group s xs zs n first more last. group_stays group s xs n first more last zs;
  same = stay_says;
}
