-- A store that is opened several times. Each time, threads share the store, its journal has their rounds, and it is
-- settled and closed. A cut-off round represents the voters that are possible after it. A store *leaves* such a round
-- (`leaves`) if an open, after a close or a crash, finds only these voters.
use Rattle.std.specs.Prelude.{◌≡◌, ℕ, ◌-◌, ◌≤◌, true, List, [], ◌∷◌, ◌++◌, length, min, take, drop, Option, Some}
use Rattle.std.specs.List.{flat_map}
use Rattle.raft_voter_messages.specs.declared.round.Outcome.{Outcome}
use Rattle.raft_voter_messages.specs.declared.round.Outcome.TheVariants.{Answered, Cut}
use Rattle.raft_voter_messages.specs.declared.round.Round.{Round}
use Rattle.raft_voter.specs.Rounds.{Explains, Leads, World, after, fresh_world, taken_from}
use Rattle.raft_voter.specs.Service.{CutRound, Files, FindsVoters, IsOpenAt, LeavesInFiles, LeavesStanding, MayFollow, Service}
use Rattle.raft_voter_rounds.specs.Journal.{IsLegal}
use Rattle.raft_voter_shared.specs.declared.failure.Failure.{Failure}
use Rattle.raft_voter_shared.specs.declared.failure.Failure.TheVariants.{InRounds}
use Rattle.raft_voter_shared.specs.Standing.{between, is_last, standing}

-- the cut `place` if the round was cut off; no cut if it has replies
abbrev pub own_cut : Outcome → ℕ → List ℕ
own_cut (Answered replies) place = []
own_cut Cut place = place ∷ []

-- the cuts of these rounds, if no voter took a request of a cut-off round: 0 for each cut-off round
abbrev pub untaken : List Round → List ℕ
untaken [] = []
untaken (r ∷ rounds) = own_cut r.outcome 0 ++ untaken rounds

-- The cuts of these rounds, if they were cut off together at position `place` in the list of all their requests. A
-- round that ends at `place` or before is cut at its length. The round that contains `place` is cut at `place`, and
-- each later round at 0.
abbrev pub spread : ℕ → List Round → List ℕ
spread place [] = []
spread place (r ∷ rounds) =
    own_cut r.outcome (min place (length r.requests)) ++ spread (place - length r.requests) rounds

-- The cuts of a journal's rounds. If the store failed in rounds that it served together, these rounds are cut as
-- `spread` says. Any other round that was cut off is cut at 0, as no voter took its requests.
abbrev pub cuts_at : List Round → Option Failure → ℕ → List ℕ
cuts_at rounds (Some (InRounds first end)) place =
    untaken (take first rounds) ++ (spread place (between first end rounds) ++ untaken (drop end rounds))
cuts_at rounds failure place = untaken rounds

-- World `X` has the voters after the round `cut`, which was cut off at position `place`. The voters before the round
-- took its requests below `place`, except the refused ones.
abbrev pub TookUpTo : CutRound → World → ℕ → Type 0
TookUpTo cut X place =
    (place ≤ length cut.requests) × (X ≡ after cut.before (taken_from 0 place cut.refused cut.requests))

-- One opening of a store: its journal, and how the store failed. If it failed in rounds, `place` is the position in the
-- list of all their requests at which they were cut off.
pub record Session : Type 0 where
  pub journal : List Round
  pub failure : Option Failure
  pub place : ℕ

-- These openings lead from world `W` to world `X`. Each opening's journal is legal for the voters that the opening
-- before left, and fits how the store failed (`is_last`). An opening leaves the voters after its journal. Of the rounds
-- in which the store failed, these voters took the requests below the opening's `place`, except the refused ones.
abbrev pub Openings : World → List Session → World → Type 0
Openings W [] X = W ≡ X
Openings W (s ∷ ss) X =
    IsLegal W s.journal × (is_last s.failure s.journal ≡ true)
    × ((Y : World) × TookUpTo (standing W s.journal s.failure) Y s.place × Openings Y ss X)

-- the rounds of all openings, in order
abbrev pub all_rounds : List Session → List Round
all_rounds ss = flat_map (λ s. s.journal) ss

-- the cuts of the rounds of all openings, in order
abbrev pub all_cuts : List Session → List ℕ
all_cuts ss = flat_map (λ s. cuts_at s.journal s.failure s.place) ss

-- Suppose that openings lead from world `W` to `X`. Then voters that start in `W` and never fail give exactly the
-- replies in the openings' rounds, with the cuts `all_cuts`. Afterwards these voters are those of `X`.
abbrev pub OpeningsLead : Type 0
OpeningsLead = (W X : World) (ss : List Session) → Openings W ss X → Leads W (all_rounds ss) (all_cuts ss) X

-- If openings begin with fresh voters, fresh voters that never fail give exactly the replies in the openings' rounds,
-- with the cuts `all_cuts`.
abbrev pub OpeningsAreExplained : Type 0
OpeningsAreExplained = (X : World) (ss : List Session) → Openings fresh_world ss X → Explains (all_rounds ss) (all_cuts ss)

-- The store `old` was closed, and left `files`. A crash then left `left`, and the store `new` was opened from `left`.
-- Suppose `left` has no CRC collision, neither as what the crash left of `files` nor as it is. Then for each cut-off
-- round that `old` left, `new` serves voters that are possible after this round.
abbrev pub OpeningsGoOn : {S F : Type 0} → Service S → Files S F → Type 0
OpeningsGoOn {S} {F} v f =
    (old new : S) (files left : F) (cut : CutRound) → ∥ v.leaves old cut ∥₁ → LeavesInFiles v f old files
    → LeavesStanding f left files left → f.without_chance files left → FindsVoters v f left new
    → f.without_chance left left → ∥ ((X : World) × MayFollow cut X × IsOpenAt v new X) ∥₁
