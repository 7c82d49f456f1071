use Rattle.raft_voter_program.specs.Writing.{TakesFront}
use Rattle.raft_voter_program.proofs.writing.write_whole.Given as goal

abbrev pub invariant-loop : goal.invariant-loop
invariant-loop g l = TakesFront (g.W.Write.contents l.initial.writer) (g.W.Write.contents l.writer) l.bytes l.left
