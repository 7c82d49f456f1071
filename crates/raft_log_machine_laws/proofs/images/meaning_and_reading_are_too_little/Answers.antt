use Rattle.std.proofs.Common.{refl}
use Rattle.raft_log_machine_laws.proofs.TooLittle.{gap_closed, gap_kept, gap_replays}
use Rattle.raft_log_machine_laws.proofs.images.meaning_and_reading_are_too_little.Goals as goal

pub returns : goal.returns
returns c = record { kept = gap_kept; replay = gap_replays; closed = gap_closed; means = refl; dropped = refl }
