use Rattle.std.specs.Prelude.{[], ◌∷◌, ◌++◌}
use Rattle.std.proofs.Common.{◌+◌, arith}
use Rattle.raft_log_dual_pipes.specs.LastFile.{last_of}
use Rattle.raft_log_dual_pipes.specs.Pipes.{which_of}
use Rattle.raft_log_dual_pipes.specs.Telling.{files_begun}
use Rattle.raft_log_dual_pipes.specs.Telling.Told.{RecordWritten}
use Rattle.raft_log_dual_pipes.proofs.Public.{both_hear_err, both_hear_ok, hears_all, hears_more, hears_on, hears_one}
use Rattle.raft_log_file_listeners.proofs.Tellings.{hears_begun}
use Rattle.raft_log_file_listeners.proofs.told_pipes.ToldPipesPipeLog.append.Goals as goal

pub loop-seq-preserved : goal.loop-seq-preserved
loop-seq-preserved g c = record {
  pipes = c.loop-seq.invariant.pipes;
  behind = omega (arith, c.loop-seq.invariant.behind);
  most = omega (arith, c.loop-seq-test.true, c.loop-seq.invariant.behind);
  told = hears_more g.E.EventListener.hears c.args.queue c.file_span-before.result.1 c.loop-seq.seq c.args.self.now.listener c.loop-seq.self.listener c.post_new_log_file.new.self c.loop-seq.invariant.behind c.loop-seq.invariant.told
      (hears_begun g.E.EventListener.hears c.new.result c.args.queue (c.loop-seq.seq + 1) c.loop-seq.self.listener c.post_new_log_file.new.self c.new.ensures.queue c.new.ensures.seq c.post_new_log_file.ensures);
}

pub returns-in-Ok-clause-told : goal.returns-in-Ok-clause-told
returns-in-Ok-clause-told g c =
    let hears = g.E.EventListener.hears in
    let queue = c.args.queue in
    let v = g.P.PipeLog.shown c.args.self.now.pipes in
    let w = g.P.PipeLog.shown c.append-answer.new.self in
    let old = c.args.self.now.listener in
    let mid = c.loop-seq.self.listener in
    rw c.loop-seq.invariant.pipes
    (both_hear_ok g.P.PipeLog.hears hears (λ block. files_begun queue v w ++ RecordWritten block ∷ []) _ _ old c.on_append_log_file.new.self
    c.append-answer.result c.in-Ok.place c.in-Ok.is c.append-answer.ensures.told
    (hears_on hears (files_begun queue v w) (RecordWritten c.in-Ok.place ∷ []) old mid c.on_append_log_file.new.self
    (hears_all hears queue c.file_span-before.result.1 c.file_span-seq-end.result.1 c.loop-seq.seq (last_of (which_of queue) v) (last_of (which_of queue) w) old mid
    c.file_span-before.ensures.last c.file_span-seq-end.ensures.last c.loop-seq-test.false c.loop-seq.invariant.most c.loop-seq.invariant.told)
    (hears_one hears (RecordWritten c.in-Ok.place) mid c.on_append_log_file.new.self c.on_append_log_file.ensures)))

pub returns-in_default-clause-told_less : goal.returns-in_default-clause-told_less
returns-in_default-clause-told_less g c =
    let hears = g.E.EventListener.hears in
    let queue = c.args.queue in
    let v = g.P.PipeLog.shown c.args.self.now.pipes in
    let w = g.P.PipeLog.shown c.append-answer.new.self in
    let old = c.args.self.now.listener in
    let mid = c.loop-seq.self.listener in
    rw c.loop-seq.invariant.pipes
    (both_hear_err g.P.PipeLog.hears hears (files_begun queue v w) _ _ old mid c.append-answer.result c.append-answer.ensures.told_less
    (hears_all hears queue c.file_span-before.result.1 c.file_span-seq-end.result.1 c.loop-seq.seq (last_of (which_of queue) v) (last_of (which_of queue) w) old mid
    c.file_span-before.ensures.last c.file_span-seq-end.ensures.last c.loop-seq-test.false c.loop-seq.invariant.most c.loop-seq.invariant.told))

pub returns-in_default-clause-err : goal.returns-in_default-clause-err
returns-in_default-clause-err g c = rw c.loop-seq.invariant.pipes c.append-answer.ensures.err

pub returns-in_default-clause-range : goal.returns-in_default-clause-range
returns-in_default-clause-range g c = rw c.loop-seq.invariant.pipes c.append-answer.ensures.range

pub returns-in_default-clause-refusal : goal.returns-in_default-clause-refusal
returns-in_default-clause-refusal g c = rw c.loop-seq.invariant.pipes c.append-answer.ensures.refusal

pub returns-in_default-clause-grows : goal.returns-in_default-clause-grows
returns-in_default-clause-grows g c = rw c.loop-seq.invariant.pipes c.append-answer.ensures.grows

pub returns-in-Ok-clause-ok : goal.returns-in-Ok-clause-ok
returns-in-Ok-clause-ok g c = rw c.loop-seq.invariant.pipes c.append-answer.ensures.ok

pub returns-in-Ok-clause-goes_into : goal.returns-in-Ok-clause-goes_into
returns-in-Ok-clause-goes_into g c = rw c.loop-seq.invariant.pipes c.append-answer.ensures.goes_into

pub returns-in-Ok-clause-calls : goal.returns-in-Ok-clause-calls
returns-in-Ok-clause-calls g c = rw c.loop-seq.invariant.pipes c.append-answer.ensures.calls
