use Rattle.raft_log_record_frames.specs.declared.status.AtomicGroupStatus.TheVariants.{End}
use Rattle.raft_log_engine_laws.proofs.Ending.{end_refused}
use Rattle.raft_log_engine_laws.proofs.Writing.{part_left_out}
use Rattle.raft_log_engine_laws.proofs.groups.refused_ends_keep_the_map.Goals as goal

pub returns : goal.returns
returns c = record {
  given_up = end_refused;
  goes_on = λ home e t o b m error h is same left call. part_left_out home e t o End b m error h is same left call;
}
