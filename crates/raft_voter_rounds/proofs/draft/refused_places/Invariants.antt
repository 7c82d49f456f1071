use Rattle.std.proofs.Common.{◌≡◌, ◌+◌, ◌-◌, ◌≤◌, ◌++◌, drop, length, vec_capacity, vec_len}
use Rattle.raft_voter.specs.Service.{refused_from}
use Rattle.raft_voter_rounds.proofs.draft.refused_places.Given as goal

-- the places so far and those to come, and room for these
abbrev pub invariant-loop-place : goal.invariant-loop-place
invariant-loop-place l = record {
  all : l.places.items ++ refused_from l.place (drop l.place l.replies) ≡ refused_from 0 l.replies;
  room : vec_len l.places + (length l.replies - l.place) ≤ vec_capacity l.places;
}
