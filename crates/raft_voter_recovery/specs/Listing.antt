-- What is read of the voters, group by group.
use Rattle.std.specs.Prelude.{◌≡◌, ◌⊎◌, ◌==◌, ◌++◌, ℕ, false, List, [], ◌∷◌, Option, None, Some}
use Rattle.raft_voter_durability_laws.specs.raft_log_engine_laws.specs.EngineState.{EngineState}
use Rattle.raft_voter_outline.specs.Outlines.{Outlined, without_bytes}
use Rattle.raft_voter_outline.specs.State.{State}
use Rattle.raft_voter_records.specs.Voters.{Group, HoldsVoter, IsVoid, IsVoter}
use Rattle.raft_voter_recovery.specs.Reading.{Tells}

-- `o` is the outline of the voter in group `grp`: the voter without the data of its entries
abbrev pub HasOutline : State → Group → Type 0
HasOutline o grp = (v : State) × IsVoter grp v × (o ≡ without_bytes v)

-- `None`: group `g` is empty. `Some`: its voter has this outline.
abbrev pub TellsOutline : EngineState → ℕ → Option Outlined → Type 0
TellsOutline e g None = Tells e (λ m. IsVoid (m g))
TellsOutline e g (Some o) = Tells e (λ m. HasOutline o.voter (m g))

-- The outlines `os` became `us`. Either `us` has the outline of the voter of group `g`, and the other groups' outlines
-- are unchanged. Or group `g` is empty, and no outline changed.
abbrev pub AddsOutline : EngineState → ℕ → (ℕ → State) → (ℕ → State) → Type 0
AddsOutline e g os us =
    (((h : ℕ) → (h == g) ≡ false → us h ≡ os h) × Tells e (λ m. HasOutline (us g) (m g)))
    ⊎ (((h : ℕ) → us h ≡ os h) × Tells e (λ m. IsVoid (m g)))

-- `None`: group `g` is empty. `Some v`: it has the voter `v`.
abbrev pub TellsVoter : EngineState → ℕ → Option State → Type 0
TellsVoter e g None = Tells e (λ m. IsVoid (m g))
TellsVoter e g (Some v) = Tells e (λ m. HoldsVoter (m g) v)

-- The list of voters `vs` became `ws`. Either the voter of group `g` was appended to the list. Or the group is empty,
-- and the list is unchanged.
abbrev pub AddsVoter : EngineState → ℕ → List (ℕ × State) → List (ℕ × State) → Type 0
AddsVoter e g vs ws = ((v : State) × (ws ≡ vs ++ (g, v) ∷ []) × Tells e (λ m. HoldsVoter (m g) v))
    ⊎ ((ws ≡ vs) × Tells e (λ m. IsVoid (m g)))
