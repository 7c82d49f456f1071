use Rattle.std.proofs.Common.{drop}
use Rattle.std.specs.Prelude.{◌↔◌}
use Rattle.raft_log_recovery.specs.Unaligned.{AreUnaligned}
use Rattle.raft_log_recovery.proofs.unaligned.have_no_padding.Given as goal

-- the files so far have none
abbrev pub invariant-loop-ending : goal.invariant-loop-ending
invariant-loop-ending l = AreUnaligned (drop l.ending-index l.endings) ↔ AreUnaligned l.endings
