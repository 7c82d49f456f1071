use Rattle.raft_voter_timeline.proofs.Escaping.{escaped_has_no_mark}
use Rattle.raft_voter_timeline.proofs.laws.escaped_text_has_no_mark.Goals as goal

pub returns : goal.returns
returns c = escaped_has_no_mark
