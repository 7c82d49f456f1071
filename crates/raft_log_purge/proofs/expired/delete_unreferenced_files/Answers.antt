use Rattle.std.proofs.Common.{◌≡◌, ◌<◌, ◌∙◌, ℕ, ap, ap₂, subst, arith}
use Rattle.raft_log_record_base.specs.declared.pipe_log.FileId.{FileId}
use Rattle.raft_log_record_base.specs.declared.pipe_log.LogQueue.{LogQueue}
use Rattle.raft_log_record_base.specs.declared.pipe_log.LogQueue.TheVariants.{Append}
use Rattle.raft_log_machine_laws.specs.Calls.Which.{InAppend}
use Rattle.raft_log_dual_pipes.specs.Pipes.{which_of}
use Rattle.raft_log_dual_pipes.specs.Calls.{FailsToPurgeQueue, PurgesQueue}
use Rattle.raft_log_dual_pipes.specs.Numbers.{EndsNumbersBelow}
use Rattle.raft_log_purge_policy.specs.Watermarks.{first_at}
use Rattle.raft_log_dual_pipes.specs.LastFile.{last_of}
use Rattle.raft_log_memtables.specs.Walking.{IsLeastOf}
use Rattle.raft_log_purge.specs.Append.{up_to}
use Rattle.raft_log_purge.proofs.Picked.{lost_below, none_below, not_lost_below}
use Rattle.raft_log_purge.proofs.expired.delete_unreferenced_files.Goals as goal

abbrev file_of : LogQueue → ℕ → FileId
file_of q n = record { queue = q; seq = n }

pub returns-then-least-first-clause-ok : goal.returns-then-least-first-clause-ok
returns-then-least-first-clause-ok g c =
    let v = g.P.PipeLog.shown c.args.pipes.now in
    let ends = c.file_span-first.ensures in
    let limit : c.up_to.result ≡ up_to c.args.held (last_of InAppend v) = c.up_to.ensures ∙ ap (up_to c.args.held) ends.last in
    let least = subst (λ (n : ℕ). IsLeastOf Append n c.args.tables.now c.min_file_and_live_count-least.result.0) limit c.min_file_and_live_count-least.ensures.least in
    none_below c.args.held c.min_file_and_live_count-least.result.0 c.args.tables.now v c.args.cache.now least (omega (arith, ends.first, c.if-least-first.true))

pub returns-in-Ok-clause-ok : goal.returns-in-Ok-clause-ok
returns-in-Ok-clause-ok g c =
    let v = g.P.PipeLog.shown c.args.pipes.now in
    let w = g.P.PipeLog.shown c.purge_to.new.self in
    let e = c.in-Ok.ensures in
    let ends = c.file_span-first.ensures in
    let limit : c.up_to.result ≡ up_to c.args.held (last_of InAppend v) = c.up_to.ensures ∙ ap (up_to c.args.held) ends.last in
    let least = subst (λ (n : ℕ). IsLeastOf Append n c.args.tables.now c.min_file_and_live_count-least.result.0) limit c.min_file_and_live_count-least.ensures.least in
    let named : ◌≡◌ {A = FileId} c.new.result (record { queue = Append; seq = c.min_file_and_live_count-least.result.0 }) = ap₂ file_of c.new.ensures.queue c.new.ensures.seq in
    let call = subst (λ (f : FileId). PurgesQueue (which_of f.queue) f.seq v w) named e.ok in
    let low : first_at InAppend v < c.min_file_and_live_count-least.result.0 = omega (arith, ends.first, c.if-least-first.false) in
    lost_below c.args.held c.min_file_and_live_count-least.result.0 c.args.tables.now v c.args.cache.now least w c.clear.new.self c.clear.ensures e.later c.in-Ok.field-0 e.fails low call

pub returns-in-Err-clause-err : goal.returns-in-Err-clause-err
returns-in-Err-clause-err g c =
    let v = g.P.PipeLog.shown c.args.pipes.now in
    let w = g.P.PipeLog.shown c.purge_to.new.self in
    let e = c.in-Err.ensures in
    let span = c.file_span-first.ensures in
    let limit : c.up_to.result ≡ up_to c.args.held (last_of InAppend v) = c.up_to.ensures ∙ ap (up_to c.args.held) span.last in
    let least = subst (λ (n : ℕ). IsLeastOf Append n c.args.tables.now c.min_file_and_live_count-least.result.0) limit c.min_file_and_live_count-least.ensures.least in
    let named : ◌≡◌ {A = FileId} c.new.result (record { queue = Append; seq = c.min_file_and_live_count-least.result.0 }) = ap₂ file_of c.new.ensures.queue c.new.ensures.seq in
    let call = subst (λ (f : FileId). FailsToPurgeQueue (which_of f.queue) f.seq c.in-Err.error v w) named e.err in
    let ends = subst (λ (f : FileId). EndsNumbersBelow (which_of f.queue) c.in-Err.error v) named e.range in
    let above : first_at InAppend v < c.min_file_and_live_count-least.result.0 = omega (arith, span.first, c.if-least-first.false) in
    not_lost_below c.args.held c.min_file_and_live_count-least.result.0 c.args.tables.now v c.args.cache.now least w c.clear.new.self c.clear.ensures e.later {A = ℕ} c.in-Err.error e.fails above call ends
