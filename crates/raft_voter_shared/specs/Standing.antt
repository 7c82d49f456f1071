-- Which voters are possible after a journal: those after all its records. If the store failed in rounds that it served
-- together, the voters before these rounds took any prefix of their requests, except the refused ones.
use Rattle.std.specs.Prelude.{ℕ, ◌+◌, ◌-◌, ◌&&◌, nat_le, nat_lt, Bool, true, false, List, [], ◌∷◌, ◌++◌, length, map, take, drop, Option, Some}
use Rattle.std.specs.List.{flat_map, list_all}
use Rattle.raft_voter_messages.specs.declared.request.Request.{Request}
use Rattle.raft_voter_messages.specs.declared.round.Outcome.{Outcome}
use Rattle.raft_voter_messages.specs.declared.round.Outcome.TheVariants.{Answered, Cut}
use Rattle.raft_voter_messages.specs.declared.round.Round.{Round}
use Rattle.raft_voter.specs.Rounds.{World}
use Rattle.raft_voter.specs.Service.{CutRound, uncut}
use Rattle.raft_voter.specs.declared.service.Cause.{Cause}
use Rattle.raft_voter.specs.declared.service.Cause.TheVariants.{FileSystem}
use Rattle.raft_voter_rounds.specs.Journal.{reached}
use Rattle.raft_voter_shared.specs.declared.failure.Failure.{Failure}
use Rattle.raft_voter_shared.specs.declared.failure.Failure.TheVariants.{InRounds}

-- the requests of these rounds, in order
abbrev pub requests_of : List Round → List (ℕ × Request)
requests_of rounds = flat_map (λ r. r.requests) rounds

-- the refused positions of these rounds, as positions in the list of all their requests; the first request has the
-- position `start`
abbrev pub refused_of : ℕ → List Round → List ℕ
refused_of start [] = []
refused_of start (r ∷ rounds) = map (λ p. start + p) r.refused ++ refused_of (start + length r.requests) rounds

-- these rounds as one round that was cut off, with the voters of world `W` before it
abbrev pub cut_together : World → List Round → CutRound
cut_together W rounds = record { before = W; requests = requests_of rounds; refused = refused_of 0 rounds }

-- the records from place `first` up to, not including, place `end`
abbrev pub between : ℕ → ℕ → List Round → List Round
between first end rounds = take (end - first) (drop first rounds)

-- What is possible once a store with this journal is closed or crashes, as a cut-off round. If the store failed in
-- rounds that it served together, these count as one round that was cut off. Otherwise only the voters after all
-- records are possible.
abbrev pub standing : World → List Round → Option Failure → CutRound
standing W rounds (Some (InRounds first end)) = cut_together (reached W (take first rounds)) (between first end rounds)
standing W rounds failure = uncut (reached W rounds)

-- the round was cut off
abbrev pub is_cut : Outcome → Bool
is_cut (Answered replies) = false
is_cut Cut = true

-- all of these rounds were cut off
abbrev pub are_cut : List Round → Bool
are_cut rounds = list_all (λ round. is_cut round.outcome) rounds

-- If the store failed in rounds, the journal has at least one record of them. These and all later records are of rounds
-- that were cut off.
abbrev pub is_last : Option Failure → List Round → Bool
is_last (Some (InRounds first end)) rounds = nat_lt first end && nat_le end (length rounds) && are_cut (drop first rounds)
is_last failure rounds = true

-- How the store failed, noted after rounds were cut off together for this cause. Their records are those from `first`
-- to below `end`. Only the cause `FileSystem` changes what was noted before (`failure`).
abbrev pub failure_behind : Cause → ℕ → ℕ → Option Failure → Option Failure
failure_behind FileSystem first end failure = Some (InRounds first end)
failure_behind cause first end failure = failure
