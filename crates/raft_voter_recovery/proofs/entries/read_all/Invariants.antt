use Rattle.std.proofs.Common.{◌≡◌, ◌+◌, map, take}
use Rattle.raft_voter.specs.Laws.{AreReadAs}
use Rattle.raft_voter_recovery.proofs.entries.read_all.Given as goal

-- the entries so far
abbrev pub invariant-loop-message : goal.invariant-loop-message
invariant-loop-message l = record {
  read : AreReadAs l.first (map (λ m. m.bytes) (take l.message-index l.messages)) l.entries.items;
  at : l.index ≡ l.first + l.message-index;
}
