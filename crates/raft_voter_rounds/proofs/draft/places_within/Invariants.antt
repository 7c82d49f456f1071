use Rattle.std.proofs.Common.{◌≡◌, ◌+◌, ◌≤◌, ◌++◌, drop, length, vec_capacity, vec_len}
use Rattle.raft_voter_rounds.specs.Noting.{places_within}
use Rattle.raft_voter_rounds.proofs.draft.places_within.Given as goal

-- the places so far and those to come, and room for these
abbrev pub invariant-loop-place : goal.invariant-loop-place
invariant-loop-place l = record {
  all : l.within.items ++ places_within l.start l.count (drop l.place-index l.places) ≡ places_within l.start l.count l.places;
  room : vec_len l.within + length (places_within l.start l.count (drop l.place-index l.places)) ≤ vec_capacity l.within;
}
