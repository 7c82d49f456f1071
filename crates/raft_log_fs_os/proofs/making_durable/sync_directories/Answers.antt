use Rattle.std.proofs.Common.{◌∙◌}
use Rattle.raft_log_fs_os.proofs.making_durable.sync_directories.Goals as goal

pub returns-in-Some : goal.returns-in-Some
returns-in-Some g c = record {
  same = λ d settled.
      let first = c.sync_directory.ensures.same d settled in
      let second = c.sync_directory-in-Some.ensures.same d (first.1 ∙ settled) in
      (second.0 ∙ first.0, second.1 ∙ first.1);
}
