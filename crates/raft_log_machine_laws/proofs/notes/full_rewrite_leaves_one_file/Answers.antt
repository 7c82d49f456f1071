use Rattle.raft_log_machine_laws.proofs.SpanLaws.{full_below, last_alone}
use Rattle.raft_log_machine_laws.proofs.notes.full_rewrite_leaves_one_file.Goals as goal

pub returns : goal.returns
returns g c = record { notes = λ v none n h s at. absurd (none h s at); below = full_below; one = last_alone }
