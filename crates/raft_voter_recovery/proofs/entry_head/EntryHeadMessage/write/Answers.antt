use Rattle.std.proofs.Common.{ℕ, Option, Some, ap, arith}
use Rattle.raft_voter_recovery.specs.declared.entry_head.EntryHead.{EntryHead}
use Rattle.raft_voter_recovery.proofs.Numbers.{numbers_again}
use Rattle.raft_voter_recovery.proofs.entry_head.EntryHeadMessage.write.Goals as goal

pub returns-clause-again : goal.returns-clause-again
returns-clause-again c =
    let read = numbers_again c.args.self.now.numbers c.in-Some.index c.in-Some.term c.in-Some.is (omega arith) c.append_numbers.ensures.small in
    ap (λ (o : Option (ℕ × ℕ)). let head : EntryHead = record { numbers = o } in Some head) read
