use Rattle.std.proofs.Common.{inl, inr, refl, ap, is_some, ◌∙◌}
use Rattle.std.proofs.lemmas.Result.{err_from_is_err_and}
use Rattle.raft_log_recovery_read.specs.Batches.{said}
use Rattle.raft_log_recovery_read.specs.Segments.{id_of}
use Rattle.raft_log_recovery_read.proofs.queue_segments.QueueSegmentsReplaySource.replay_segment.Goals as goal

pub returns-in_err-format-clause-errors : goal.returns-in_err-format-clause-errors
returns-in_err-format-clause-errors g c =
    let gave = err_from_is_err_and c.from_residual.result c.from_residual.ensures.1 in
    rw (gave.1, gave.2) (inl c.in_err-format.ensures.err)

pub returns-in-Some-clause-errors : goal.returns-in-Some-clause-errors
returns-in-Some-clause-errors g c =
    let is = c.in_ok-format.ensures.ok in
    let some = rw c.in-Some.is at is.handed.taken in
    inr (inl (record {
      batches = some.first;
      begun = record { file = is.file; read = is.read; reads = is.reads; rest = some.rest; begins = some.split };
      declined = some.declined;
    }))

pub returns-clause-ok : goal.returns-clause-ok
returns-clause-ok g c =
    let is = c.in_ok-format.ensures.ok in
    record {
      batches = said (id_of c.args.self.now.queue is.file) is.read.batches;
      held = record {
        file = is.file;
        read = is.read;
        reads = is.reads;
        holds = refl;
        ends = record { format = is.handed.format; end = is.handed.end; damaged = c.is_some.ensures ∙ ap is_some is.handed.fault };
      };
      takes = rw c.in-None.is at is.handed.taken;
    }
