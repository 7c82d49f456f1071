use Rattle.raft_log_offline.proofs.Holes.{first_is_told, told_is_first, untold_is_whole, whole_is_untold}
use Rattle.raft_log_offline.proofs.laws.findings_are_first_holes.Goals as goal

pub returns-clause-hole : goal.returns-clause-hole
returns-clause-hole c = λ runs end. (told_is_first runs end, first_is_told runs end)

pub returns-clause-none : goal.returns-clause-none
returns-clause-none c = λ runs. (untold_is_whole runs, whole_is_untold runs)
