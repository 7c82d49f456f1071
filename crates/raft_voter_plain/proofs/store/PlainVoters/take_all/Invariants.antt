use Rattle.std.proofs.Common.{◌≡◌, ◌+◌, ◌-◌, ◌≤◌, drop, length, take, vec_capacity, vec_len}
use Rattle.raft_voter.specs.Rounds.{after}
use Rattle.raft_voter_plain.specs.Store.{IsAmidst, world_of}
use Rattle.raft_voter_plain.proofs.store.PlainVoters.take_all.Given as goal

abbrev pub invariant-loop-group : goal.invariant-loop-group
invariant-loop-group l =
    IsAmidst l.initial.self l.requests (drop l.group-index l.requests) l.replies.items l.self
    × (world_of l.self ≡ after (world_of l.initial.self) (take l.group-index l.requests))
    × (l.self.failed ≡ l.initial.self.failed)
    × (vec_len l.replies + (length l.requests - l.group-index) ≤ vec_capacity l.replies)
