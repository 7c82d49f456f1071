use Rattle.std.proofs.Common.{◌≡◌, ◌+◌, ◌<◌, ℕ, max, ap₂, subst, arith}
use Rattle.raft_log_record_base.specs.declared.pipe_log.FileId.{FileId}
use Rattle.raft_log_record_base.specs.declared.pipe_log.LogQueue.{LogQueue}
use Rattle.raft_log_record_base.specs.declared.pipe_log.LogQueue.TheVariants.{Append}
use Rattle.raft_log_machine_laws.specs.Calls.Which.{InAppend}
use Rattle.raft_log_dual_pipes.specs.Pipes.{which_of}
use Rattle.raft_log_dual_pipes.specs.Calls.{FailsToPurgeQueue, PurgesQueue}
use Rattle.raft_log_dual_pipes.specs.Numbers.{EndsNumbersBelow}
use Rattle.raft_log_purge_policy.specs.Watermarks.{first_at}
use Rattle.raft_log_memtables.specs.Walking.{IsLeastOf}
use Rattle.raft_log_purge.proofs.Past.{lost_to, not_lost_to}
use Rattle.raft_log_purge.proofs.append.delete_through.Goals as goal

abbrev file_of : LogQueue → ℕ → FileId
file_of q n = record { queue = q; seq = n }

pub returns-in-Ok-clause-ok : goal.returns-in-Ok-clause-ok
returns-in-Ok-clause-ok g c =
    let v = g.P.PipeLog.shown c.args.pipes.now in
    let w = g.P.PipeLog.shown c.purge_to.new.self in
    let e = c.in-Ok.ensures in
    let ends = c.file_span-first.ensures in
    let named : ◌≡◌ {A = FileId} c.new.result (record { queue = Append; seq = c.max-seq.result }) = ap₂ file_of c.new.ensures.queue c.new.ensures.seq in
    let call = subst (λ (f : FileId). PurgesQueue (which_of f.queue) f.seq v w) named e.ok in
    let least = subst (λ (n : ℕ). IsLeastOf Append n c.args.tables.now c.least_file-least.result) ends.last c.least_file-least.ensures in
    let is : c.max-seq.result ≡ max (c.args.gate + 1) c.least_file-least.result = omega (arith, c.in-Some.ensures, c.max-seq.ensures) in
    let low : first_at InAppend v < c.max-seq.result = omega (arith, ends.first, c.if-seq-first.false) in
    lost_to c.args.gate c.least_file-least.result c.max-seq.result c.args.tables.now v c.args.cache.now least is w c.clear.new.self c.clear.ensures e.later c.in-Ok.field-0 e.fails low call

pub returns-in-Err-clause-err : goal.returns-in-Err-clause-err
returns-in-Err-clause-err g c =
    let v = g.P.PipeLog.shown c.args.pipes.now in
    let w = g.P.PipeLog.shown c.purge_to.new.self in
    let e = c.in-Err.ensures in
    let span = c.file_span-first.ensures in
    let named : ◌≡◌ {A = FileId} c.new.result (record { queue = Append; seq = c.max-seq.result }) = ap₂ file_of c.new.ensures.queue c.new.ensures.seq in
    let call = subst (λ (f : FileId). FailsToPurgeQueue (which_of f.queue) f.seq c.in-Err.error v w) named e.err in
    let ends = subst (λ (f : FileId). EndsNumbersBelow (which_of f.queue) c.in-Err.error v) named e.range in
    let least = subst (λ (n : ℕ). IsLeastOf Append n c.args.tables.now c.least_file-least.result) span.last c.least_file-least.ensures in
    let is : c.max-seq.result ≡ max (c.args.gate + 1) c.least_file-least.result = omega (arith, c.in-Some.ensures, c.max-seq.ensures) in
    let above : first_at InAppend v < c.max-seq.result = omega (arith, span.first, c.if-seq-first.false) in
    not_lost_to c.args.gate c.least_file-least.result c.max-seq.result c.args.tables.now v c.args.cache.now least is w c.clear.new.self c.clear.ensures e.later {A = ℕ} c.in-Err.error e.fails above call ends
