use Rattle.raft_log_machine_laws.proofs.ImageLaws.{by_intervals, running_by_intervals}
use Rattle.raft_log_machine_laws.proofs.images.intervals_say_the_same_of_images.Goals as goal

pub returns : goal.returns
returns g c = record {
  all = λ w r k p h group i.
      by_intervals w k p h r.r_kept r.r_lost r.r_cut r.r_back r.a_kept r.a_lost r.a_cut r.a_back r.r_image r.r_start r.a_image r.a_start group i;
  running = running_by_intervals;
}
