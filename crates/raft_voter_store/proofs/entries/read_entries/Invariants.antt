use Rattle.std.proofs.Common.{◌≡◌, ◌+◌, map, take}
use Rattle.raft_voter.specs.Laws.{AreReadAs}
use Rattle.raft_voter_store.proofs.entries.read_entries.Given as goal

-- the entries so far
abbrev pub invariant-loop-message : goal.invariant-loop-message
invariant-loop-message l =
    AreReadAs l.first (map (λ m. m.bytes) (take l.message-index l.messages)) l.entries × (l.index ≡ l.first + l.message-index)
