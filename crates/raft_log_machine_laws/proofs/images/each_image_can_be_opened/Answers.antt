use Rattle.raft_log_machine_laws.proofs.ImageLaws.{opens}
use Rattle.raft_log_machine_laws.proofs.images.each_image_can_be_opened.Goals as goal

pub returns : goal.returns
returns g c = λ w r k p h. opens w k p h r.r_kept r.r_lost r.r_cut r.r_back r.a_kept r.a_lost r.a_cut r.a_back r.r_image r.r_start r.a_image r.a_start
