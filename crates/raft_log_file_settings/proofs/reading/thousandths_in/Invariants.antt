use Rattle.std.proofs.Common.{◌≡◌}
use Rattle.raft_log_file_settings.specs.Reading.{thousandths_up_to}
use Rattle.raft_log_file_settings.proofs.Thousandths.{first_from}
use Rattle.raft_log_file_settings.proofs.reading.thousandths_in.Given as goal

-- no smaller number is it
abbrev pub invariant-loop-count : goal.invariant-loop-count
invariant-loop-count l = thousandths_up_to 1000 l.fraction ≡ first_from 1000 l.count l.fraction
