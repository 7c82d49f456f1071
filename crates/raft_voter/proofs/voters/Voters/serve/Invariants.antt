use Rattle.std.proofs.Common.{◌≡◌, ℕ, ◌+◌, ◌-◌, ◌≤◌, ◌++◌, IsTrue, length, drop, vec_capacity, vec_len}
use Rattle.raft_voter.specs.Rounds.{after, are_rising, replies_from, taken_from}
use Rattle.raft_voter.specs.Voters.{world_of}
use Rattle.raft_voter.proofs.voters.Voters.serve.Given as goal

-- the refused places that are left lie ahead, and what is left gives the rest of the replies and the world
abbrev pub invariant-loop-place : goal.invariant-loop-place
invariant-loop-place l = record {
  passed : l.passed ≤ length l.refused;
  ahead : (high : ℕ) × IsTrue (are_rising l.place high (drop l.passed l.refused));
  room : vec_len l.replies + (length l.requests - l.place) ≤ vec_capacity l.replies;
  replies : l.replies.items ++ replies_from l.place (drop l.passed l.refused) (world_of l.self) (drop l.place l.requests) ≡ replies_from 0 l.refused (world_of l.fn.self) l.requests;
  world : (cut : ℕ) → l.place ≤ cut → after (world_of l.self) (taken_from l.place cut (drop l.passed l.refused) (drop l.place l.requests)) ≡ after (world_of l.fn.self) (taken_from 0 cut l.refused l.requests);
}
