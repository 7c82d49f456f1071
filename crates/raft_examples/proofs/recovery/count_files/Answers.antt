use Rattle.std.proofs.Common.{◌∙◌}
use Rattle.raft_examples.proofs.recovery.count_files.Goals as goal

pub returns-clause-ok : goal.returns-clause-ok
returns-clause-ok g c =
    let scanned = c.in_ok-scanned.scanned in
    record {
      scanned = scanned;
      scans = c.in_ok-scanned.ensures.ok;
      of_append = c.len.ensures ∙ scanned.append.ok.0;
      of_rewrite = c.len-2.ensures ∙ scanned.rewrite.ok.0;
    }
