use Rattle.raft_log_dual_pipes.proofs.Aside.{other_queue_stays}
use Rattle.raft_log_dual_pipes.proofs.frame.other_queue_stays.Goals as goal

pub returns : goal.returns
returns g c = record {
  append = λ log. other_queue_stays (g.G.LogQueues.queues log).append (g.G.LogQueues.queues log).rewrite.own;
  rewrite = λ log. other_queue_stays (g.G.LogQueues.queues log).rewrite (g.G.LogQueues.queues log).append.own;
}
