use Rattle.std.proofs.Common.{rules}
use Rattle.raft_voter_messages.specs.StoredForms.{number_text}
use Rattle.raft_voter_messages.proofs.stored.push_number.Goals as goal

pub returns : goal.returns
unfolding number_text
returns c = search rules
