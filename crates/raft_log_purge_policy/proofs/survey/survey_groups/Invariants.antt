use Rattle.raft_log_purge_policy.specs.Picking.{count_of}
use Rattle.raft_log_purge_policy.proofs.Surveying.{HasSurveyed}
use Rattle.raft_log_purge_policy.proofs.survey.survey_groups.Given as goal

-- this was seen of the tables so far
abbrev pub invariant-loop-group : goal.invariant-loop-group
invariant-loop-group l = HasSurveyed l.watermarks (count_of l.rounds) l.restated l.tables l.group-iterator l.picked l.marks.items l.standing
