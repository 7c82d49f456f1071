use Rattle.raft_log_record_frames.specs.declared.status.AtomicGroupStatus.TheVariants.{Middle}
use Rattle.raft_log_engine_laws.proofs.Writing.{begin_refused, middle_refused, part_left_out}
use Rattle.raft_log_engine_laws.proofs.groups.refused_parts_keep_the_map.Goals as goal

pub returns : goal.returns
returns c = record {
  begins = begin_refused;
  given_up = middle_refused;
  goes_on = λ home e t o b m error h is same left call. part_left_out home e t o Middle b m error h is same left call;
}
