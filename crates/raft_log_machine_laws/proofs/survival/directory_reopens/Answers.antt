use Rattle.raft_log_machine_laws.proofs.SurvivalSteps.{holds_reread}
use Rattle.raft_log_machine_laws.proofs.survival.directory_reopens.Goals as goal

pub returns : goal.returns
returns g c = λ q m r.
    holds_reread q m r.r_kept r.r_lost r.r_cut r.r_back r.a_kept r.a_lost r.a_cut r.a_back r.r_image r.r_start r.a_image r.a_start
