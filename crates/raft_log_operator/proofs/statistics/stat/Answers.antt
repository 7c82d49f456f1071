use Rattle.raft_log_operator.proofs.SoundLemmas.{intact_files}
use Rattle.raft_log_operator.proofs.statistics.stat.Goals as goal

pub returns-then-has_clean_files : goal.returns-then-has_clean_files
returns-then-has_clean_files g c = λ same.
    intact_files c.args.place.now (g.F.FileSystem.disk c.args.files.now) c.in_ok-faults.faults c.in_ok-faults.ensures (c.has_clean_files.ensures.0 c.if-has_clean_files.true)
