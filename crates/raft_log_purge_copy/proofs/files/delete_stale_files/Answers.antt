use Rattle.std.proofs.Common.{◌≡◌, ◌-◌, ℕ, ap₂, subst, arith}
use Rattle.std.specs.Prelude.{IfErr, IfOk, OnOk}
use Rattle.raft_log_record_base.specs.declared.pipe_log.FileId.{FileId}
use Rattle.raft_log_record_base.specs.declared.pipe_log.LogQueue.{LogQueue}
use Rattle.raft_log_file_pipe.specs.Purging.{IsInSpan}
use Rattle.raft_log_dual_pipes.specs.State.{pipe_at}
use Rattle.raft_log_dual_pipes.specs.Pipes.{files_of, which_of}
use Rattle.raft_log_dual_pipes.specs.Calls.{FailsToPurgeQueue, PurgesQueue}
use Rattle.raft_log_dual_pipes.specs.Numbers.{EndsNumbersBelow}
use Rattle.raft_log_purge_copy.proofs.Leasts.{none_older, not_purged, purged}
use Rattle.raft_log_purge_copy.proofs.files.delete_stale_files.Goals as goal

abbrev file_of : LogQueue → ℕ → FileId
file_of q n = record { queue = q; seq = n }

pub returns-then-seq-first-clause-ok : goal.returns-then-seq-first-clause-ok
returns-then-seq-first-clause-ok g c =
    none_older c.args.queue c.args.limit c.args.tables.now (g.P.PipeLog.shown c.args.pipes.now) c.args.cache.now c.clear.new.self c.clear.ensures c.least_file-seq.result c.least_file-seq.ensures (omega (arith, c.file_span-first.ensures.first, c.if-seq-first.true))

pub returns-clause-ok : goal.returns-clause-ok
returns-clause-ok g c =
    let e = c.purge_to.ensures in
    let named : ◌≡◌ {A = FileId} c.new.result (record { queue = c.args.queue; seq = c.least_file-seq.result }) =
    ap₂ file_of c.new.ensures.queue c.new.ensures.seq in
    let v = g.P.PipeLog.shown c.args.pipes.now in
    let w = g.P.PipeLog.shown c.purge_to.new.self in
    purged c.args.queue c.args.limit c.args.tables.now v w c.args.cache.now c.clear.new.self c.clear.ensures c.least_file-seq.result c.least_file-seq.ensures e.later c.purge_to.result e.fails
    (subst (λ (f : FileId). OnOk c.purge_to.result (PurgesQueue (which_of f.queue) f.seq v w)) named e.ok)
    (subst (λ (f : FileId). IfOk c.purge_to.result (λ (count : ℕ). IsInSpan f.seq (pipe_at (which_of f.queue) (files_of v)) × (count ≡ f.seq - (pipe_at (which_of f.queue) (files_of v)).first_seq))) named e.count)

pub returns-clause-err : goal.returns-clause-err
returns-clause-err g c =
    let e = c.purge_to.ensures in
    let named : ◌≡◌ {A = FileId} c.new.result (record { queue = c.args.queue; seq = c.least_file-seq.result }) =
    ap₂ file_of c.new.ensures.queue c.new.ensures.seq in
    let v = g.P.PipeLog.shown c.args.pipes.now in
    let w = g.P.PipeLog.shown c.purge_to.new.self in
    not_purged c.args.queue c.args.limit c.args.tables.now v w c.args.cache.now c.clear.new.self c.clear.ensures c.least_file-seq.result c.least_file-seq.ensures e.later c.purge_to.result e.fails
    (omega (arith, c.file_span-first.ensures.first, c.if-seq-first.false))
    (subst (λ (f : FileId). IfErr c.purge_to.result (λ error. FailsToPurgeQueue (which_of f.queue) f.seq error v w)) named e.err)
    (subst (λ (f : FileId). IfErr c.purge_to.result (λ error. EndsNumbersBelow (which_of f.queue) error v)) named e.range)
