use Rattle.std.proofs.Common.{◌≡◌, ◌++◌, drop, string_bytes}
use Rattle.raft_voter_program.specs.Lines.{voters_text}
use Rattle.raft_voter_program.proofs.listing.text_of.Given as goal

-- what is written so far, and what is still to be written
abbrev pub invariant-loop-voter : goal.invariant-loop-voter
invariant-loop-voter l = string_bytes l.text ++ voters_text (drop l.voter-index l.voters) ≡ voters_text l.voters
