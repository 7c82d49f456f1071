use Rattle.std.proofs.Common.{Option, sym, subst}
use Rattle.raft_log_purge_policy.specs.Picking.{count_of}
use Rattle.raft_log_purge_policy.specs.Surveying.{SurveysIfTold}
use Rattle.raft_log_purge_policy.specs.declared.survey.Survey.{Survey}
use Rattle.raft_log_purge.proofs.Expiring.{seen_told}
use Rattle.raft_log_purge.proofs.expired.survey_if_past.Goals as goal

pub returns-then-takes_append-clause-seen : goal.returns-then-takes_append-clause-seen
returns-then-takes_append-clause-seen g c =
    let counts = count_of c.args.rounds.now in
    subst (λ (seen : Option Survey). SurveysIfTold counts c.args.tables.now seen) (sym c.ok.ensures.value)
    (seen_told c.append_watermarks-watermarks.result counts c.args.tables.now c.survey_groups.result c.survey_groups.ensures)
