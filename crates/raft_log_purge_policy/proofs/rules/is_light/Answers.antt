use Rattle.std.proofs.Common.{◌≡◌, ◌+◌, ◌-◌, ◌^◌, ◌∙◌, ℕ, min, not, ap, ap₂}
use Rattle.raft_log_record_base.specs.declared.pipe_log.FileId.{FileId}
use Rattle.raft_log_record_base.specs.declared.pipe_log.LogQueue.{LogQueue}
use Rattle.raft_log_record_base.specs.declared.pipe_log.LogQueue.TheVariants.{Append}
use Rattle.raft_log_memtable.specs.Reads.{has_before}
use Rattle.raft_log_memtable.specs.Table.{shown}
use Rattle.raft_log_purge_policy.proofs.rules.is_light.Goals as goal

abbrev file_of : LogQueue → ℕ → FileId
file_of q n = record { queue = q; seq = n }

pub returns : goal.returns
returns c =
    let named : ◌≡◌ {A = FileId} c.new-gate.result (record { queue = Append; seq = c.args.watermarks.now.rewrite }) = ap₂ file_of c.new-gate.ensures.queue c.new-gate.ensures.seq in
    let many : c.saturating_add-count.result ≡ min ((shown c.args.table.now).rewritten + 32) (2 ^ 64 - 1) = c.saturating_add-count.ensures ∙ ap (λ (n : ℕ). min (n + 32) (2 ^ 64 - 1)) c.rewritten_count.ensures in
    ap not (c.has_at_least_some_entries_before.ensures ∙ ap₂ (λ (f : FileId) (n : ℕ). has_before (shown c.args.table.now) f n) named many)
