use Rattle.std.proofs.Common.{refl, ◌∙◌}
use Rattle.raft_log_file_settings.proofs.Readings.{all_read}
use Rattle.raft_log_file_settings.proofs.reading.settings_over.Goals as goal

pub returns : goal.returns
returns c =
    let memory = rw c.bytes_of.ensures at c.in_ok-memory_limit.ensures in
    all_read _ _ _ _ _ _ _ _ c.in_ok-dir.ensures c.in_ok-recovery_mode.ensures c.in_ok-per_sync.ensures
    c.in_ok-threshold.ensures memory c.in_ok-enable_log_recycle.ensures
    ∙ rw (
      c.in_ok-from_str.ensures.ok,
      c.in_ok-copied.ensures,
      c.sized.ensures,
      c.sized-2.ensures,
      c.sized-3.ensures,
      c.sized-4.ensures,
      c.sized-5.ensures,
      c.sized-6.ensures,
    ) refl
