use Rattle.std.proofs.Common.{inl, inr, arith}
use Rattle.raft_voter_messages.proofs.Bytes.{vote_text-known}
use Rattle.raft_voter_messages.proofs.stored.head.StateHead.vote.Goals as goal

pub returns-in_default-clause-none : goal.returns-in_default-clause-none
returns-in_default-clause-none c = λ vote fit same. elim (vote_text-known vote c.args.self.now.vote_byte c.args.self.now.candidate fit (omega arith) same) [
  | inl zeros ↦ c.in_default.is-1.1 zeros.1
  | inr one ↦ omega (arith, c.in_default.is-0)
]
