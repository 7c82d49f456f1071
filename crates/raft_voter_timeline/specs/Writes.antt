-- Which rounds write, and how this is computed from the outlines of the groups' voters.
use Rattle.std.specs.Prelude.{◌≡◌, ◌≢◌, ◌⊎◌, ◌==◌, ◌||◌, ℕ, Bool, false, if◌then◌else◌, List, [], ◌∷◌}
use Rattle.std.specs.Bool.{Decides}
use Rattle.raft_voter_messages.specs.declared.request.Request.{Request}
use Rattle.raft_voter_messages.specs.declared.round.Round.{Round}
use Rattle.raft_voter_outline.specs.Decisions.{OutlineBecomes}
use Rattle.raft_voter_outline.specs.Outlines.{without_bytes}
use Rattle.raft_voter_outline.specs.Rules.{next}
use Rattle.raft_voter_outline.specs.State.{State}
use Rattle.raft_voter.specs.Rounds.{World, after, after_one, taken_below}
use Rattle.raft_voter_timeline.specs.Marks.{cuts_behind, taken_up_to}

-- at least one of these requests, taken in order by the groups' voters `W`, changes its group's voter
abbrev pub Changes : World → List (ℕ × Request) → Type 0
Changes W [] = ⊥
Changes W (q ∷ qs) = (next (W q.0) q.1 ≢ W q.0) ⊎ Changes (after_one W q) qs

-- `writes` says for each round whether it writes: whether a request that it takes changes its group's voter. `W` has
-- the voters before the first round. A round takes its requests before its cut, or all if it got replies, except those
-- at refused places. A reply alone doesn't show a write: a vote that is granted again changes nothing.
abbrev pub AreWrites : World → List Round → List ℕ → List Bool → Type 0
AreWrites W [] cuts writes = writes ≡ []
AreWrites W (round ∷ rounds) cuts [] = ⊥
AreWrites W (round ∷ rounds) cuts (wrote ∷ writes) =
    Decides wrote (Changes W (taken_below round (taken_up_to round cuts)))
    × AreWrites (after W (taken_below round (taken_up_to round cuts))) rounds (cuts_behind round cuts) writes

-- `outlines` has the outline of each group's voter in `W`
abbrev pub AreOutlines : (ℕ → State) → World → Type 0
AreOutlines outlines W = (g : ℕ) → outlines g ≡ without_bytes (W g)

-- Let `old` have the outlines of the groups' voters. Then `new` has those after these requests, and `wrote` says
-- whether one of the requests changed a voter.
abbrev pub Takes : (ℕ → State) → (ℕ → State) → List (ℕ × Request) → Bool → Type 0
Takes old new qs wrote =
    (W : World) → AreOutlines old W → Decides wrote (Changes W qs) × AreOutlines new (after W qs)

-- `new` has the outlines after the request if it is taken, and those of `old` otherwise. `wrote` says whether an
-- earlier request changed a voter, and `now` whether this one or an earlier one did.
pub record TakesIf (old new : ℕ → State) (q : ℕ × Request) (taken wrote now : Bool) : Type 0 where
  pub changed : Bool
  pub takes : Takes old new (if taken then q ∷ [] else []) changed
  pub now_is : now ≡ (changed || wrote)

-- one group's outline takes a request, and the other groups' outlines are unchanged
pub record StepsOutlines (old new : ℕ → State) (q : ℕ × Request) : Type 0 where
  pub own : OutlineBecomes (old q.0) q.1 (new q.0)
  pub others : (g : ℕ) → (g == q.0) ≡ false → new g ≡ old g
