-- When a purge collects garbage: above which size of each queue, and for Rewrite above which share of garbage.
use Rattle.raft_log_file_settings.specs.Settings.{Settings}
use Rattle.raft_log_purge_policy.specs.declared.thresholds.Thresholds.{Thresholds}

-- the thresholds that these settings have for both queues
abbrev pub thresholds_of : Settings → Thresholds
thresholds_of s = record {
  append = s.purge_threshold;
  rewrite = s.purge_rewrite_threshold;
  garbage_ratio = s.purge_rewrite_garbage_ratio;
}
