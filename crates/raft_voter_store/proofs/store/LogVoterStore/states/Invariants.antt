use Rattle.std.proofs.Common.{◌≡◌, ◌+◌, ◌-◌, ◌≤◌, length, map, take, vec_capacity, vec_len}
use Rattle.raft_voter_outline.specs.Kept.{outlines_in}
use Rattle.raft_voter_outline.specs.State.{state_of}
use Rattle.raft_voter_store.proofs.store.LogVoterStore.states.Given as goal

-- the groups so far, and room for the others
abbrev pub invariant-loop-group : goal.invariant-loop-group
invariant-loop-group g l =
    (l.states.items ≡ map (λ h. (h, state_of (outlines_in l.self.outlines h))) (take l.group-index l.group-items))
    × (vec_len l.states + (length l.group-items - l.group-index) ≤ vec_capacity l.states)
