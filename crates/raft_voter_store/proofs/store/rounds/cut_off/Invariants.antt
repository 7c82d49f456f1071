use Rattle.std.proofs.Common.{◌≡◌, ◌+◌, ◌-◌, ◌≤◌, length, take, vec_capacity, vec_len}
use Rattle.raft_voter.specs.Service.{refused_from}
use Rattle.raft_voter_store.proofs.store.rounds.cut_off.Given as goal

-- the places so far, and room for the others
abbrev pub invariant-loop-place : goal.invariant-loop-place
invariant-loop-place l =
    (l.refused.items ≡ refused_from 0 (take l.place l.replies))
    × (vec_len l.refused + (length l.replies - l.place) ≤ vec_capacity l.refused)
