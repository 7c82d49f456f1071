use Rattle.std.proofs.Common.{◌+◌, refl, arith}
use Rattle.raft_log_dual_pipes.proofs.Public.{hears_all, hears_more}
use Rattle.raft_log_file_listeners.proofs.Tellings.{hears_begun}
use Rattle.raft_log_file_listeners.proofs.told_pipes.tell_new_files.Goals as goal

pub loop-seq-preserved : goal.loop-seq-preserved
loop-seq-preserved g c = record {
  behind = omega (arith, c.loop-seq.invariant.behind);
  most = omega (arith, c.loop-seq-test.true, c.loop-seq.invariant.behind);
  told = hears_more g.E.EventListener.hears c.args.queue c.args.before c.loop-seq.seq c.args.listener.now c.loop-seq.listener c.post_new_log_file.new.self c.loop-seq.invariant.behind c.loop-seq.invariant.told
      (hears_begun g.E.EventListener.hears c.new.result c.args.queue (c.loop-seq.seq + 1) c.loop-seq.listener c.post_new_log_file.new.self c.new.ensures.queue c.new.ensures.seq c.post_new_log_file.ensures);
}

pub returns : goal.returns
returns g c = hears_all g.E.EventListener.hears c.args.queue c.args.before c.args.last c.loop-seq.seq c.args.before c.args.last c.args.listener.now c.loop-seq.listener refl refl c.loop-seq-test.false c.loop-seq.invariant.most c.loop-seq.invariant.told
