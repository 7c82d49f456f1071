use Rattle.std.proofs.Common.{◌+◌, arith}
use Rattle.raft_log_dual_pipes.specs.LastFile.{last_of}
use Rattle.raft_log_dual_pipes.specs.Pipes.{which_of}
use Rattle.raft_log_dual_pipes.specs.Telling.{files_begun}
use Rattle.raft_log_dual_pipes.proofs.Public.{both_hear, hears_all, hears_more}
use Rattle.raft_log_file_listeners.proofs.Tellings.{hears_begun}
use Rattle.raft_log_file_listeners.proofs.told_pipes.ToldPipesPipeLog.rotate.Goals as goal

pub loop-seq-preserved : goal.loop-seq-preserved
loop-seq-preserved g c = record {
  pipes = c.loop-seq.invariant.pipes;
  behind = omega (arith, c.loop-seq.invariant.behind);
  most = omega (arith, c.loop-seq-test.true, c.loop-seq.invariant.behind);
  told = hears_more g.E.EventListener.hears c.args.queue c.file_span-before.result.1 c.loop-seq.seq c.args.self.now.listener c.loop-seq.self.listener c.post_new_log_file.new.self c.loop-seq.invariant.behind c.loop-seq.invariant.told
      (hears_begun g.E.EventListener.hears c.new.result c.args.queue (c.loop-seq.seq + 1) c.loop-seq.self.listener c.post_new_log_file.new.self c.new.ensures.queue c.new.ensures.seq c.post_new_log_file.ensures);
}

pub returns-clause-ok : goal.returns-clause-ok
returns-clause-ok g c = rw c.loop-seq.invariant.pipes c.rotate-answer.ensures.ok

pub returns-clause-err : goal.returns-clause-err
returns-clause-err g c = rw c.loop-seq.invariant.pipes c.rotate-answer.ensures.err

pub returns-clause-calls : goal.returns-clause-calls
returns-clause-calls g c = rw c.loop-seq.invariant.pipes c.rotate-answer.ensures.calls

pub returns-clause-told : goal.returns-clause-told
returns-clause-told g c =
    let hears = g.E.EventListener.hears in
    let queue = c.args.queue in
    let v = g.P.PipeLog.shown c.args.self.now.pipes in
    let w = g.P.PipeLog.shown c.rotate-answer.new.self in
    let old = c.args.self.now.listener in
    let new = c.loop-seq.self.listener in
    rw c.loop-seq.invariant.pipes
    (both_hear g.P.PipeLog.hears hears (files_begun queue v w) _ _ old new c.rotate-answer.ensures.told
    (hears_all hears queue c.file_span-before.result.1 c.file_span-seq-end.result.1 c.loop-seq.seq (last_of (which_of queue) v) (last_of (which_of queue) w) old new
    c.file_span-before.ensures.last c.file_span-seq-end.ensures.last c.loop-seq-test.false c.loop-seq.invariant.most c.loop-seq.invariant.told))
