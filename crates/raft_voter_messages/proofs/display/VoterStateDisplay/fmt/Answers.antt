use Rattle.std.proofs.Common.{append_assoc, rules}
use Rattle.std.proofs.Output.{has_written_append, has_written_of_eq}
use Rattle.raft_voter_messages.specs.ReplyText.{state_words}
use Rattle.raft_voter_messages.proofs.display.VoterStateDisplay.fmt.Goals as goal

pub returns-clause-writes : goal.returns-clause-writes
unfolding state_words
returns-clause-writes g c = λ plain ok.
    let term = c.in_ok-write.ensures.writes plain (search rules) in
    let vote = c.in_ok-write_vote.ensures term.plain (search rules) in
    let base = c.in_ok-write-2.ensures.writes vote.plain (search rules) in
    let last = c.write-3.ensures.writes base.plain ok in
    has_written_of_eq _ _ _ _ _ (simp append_assoc)
    (has_written_append _ _ _ _ _ _ (has_written_append _ _ _ _ _ _ (has_written_append _ _ _ _ _ _ term vote) base) last)
