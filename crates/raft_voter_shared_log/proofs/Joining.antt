-- Openings of a store join.
use Rattle.std.proofs.Common.{◌∷◌, ℕ, List, [], refl}
use Rattle.std.proofs.Math.Logic.{∥∥₁_elim, ∥∥₁_map, ∥∥₁_prop}
use Rattle.std.proofs.Props.{props}
use Rattle.raft_voter_messages.specs.declared.round.Outcome.{Outcome}
use Rattle.raft_voter_messages.specs.declared.round.Outcome.TheVariants.{Answered, Cut}
use Rattle.raft_voter_messages.specs.declared.round.Round.{Round}
use Rattle.raft_voter.specs.Rounds.{ExplainsFrom, HasCut, OutcomeHolds, World, after, after_round, cuts_after, fresh_world, taken_from}
use Rattle.raft_voter.specs.Service.{IsOpenAt, Service}
use Rattle.raft_voter_world.specs.Stores.{Disk}
use Rattle.raft_voter_shared.specs.Openings.{Openings}
use Rattle.raft_voter_shared.proofs.Public.{openings_are_explained}
use Rattle.raft_voter_shared_log.specs.Joining.{AreJoined, JoinedOpeningsAreExplained, Sharing, behind, sessions_of}
use Rattle.raft_voter_shared_log.specs.Disks.{DisksGoOn}

-- That rounds are explained is a fact.

cut_prop : (size : ℕ) (cuts : List ℕ) → IsProp (HasCut size cuts)
cut_prop size [] = Prim.hlevel props
cut_prop size (cut ∷ cuts) = Prim.hlevel props

outcome_prop : (o : Outcome) (W : World) (r : Round) (cuts : List ℕ) → IsProp (OutcomeHolds o W r cuts)
outcome_prop (Answered replies) W r cuts = Prim.hlevel props
outcome_prop Cut W r cuts = cut_prop _ cuts

explained_prop : (W : World) (rounds : List Round) (cuts : List ℕ) → IsProp (ExplainsFrom W rounds cuts)
explained_prop W [] cuts = Prim.hlevel props
explained_prop W (r ∷ rounds) cuts =
    Prim.hlevel (props, outcome_prop r.outcome W r cuts, explained_prop (after_round W r cuts) rounds (cuts_after r.outcome cuts))

-- Openings lead from the voters that the first one serves.

leads : {S : Type 0} (v : Service S) (x : Sharing S) (xs : List (Sharing S)) (W : World) → IsOpenAt v x.opened W → AreJoined v (x ∷ xs)
    → ∥ ((X : World) × Openings W (sessions_of (x ∷ xs)) X) ∥₁
leads v x [] W at joined =
    let cut = behind W x.session in
    let X : World = after cut.before (taken_from 0 x.session.place cut.refused cut.requests) in
    ∣ (X, (joined.0.legal W at, joined.0.last, (X, (joined.1 W at, refl), refl))) ∣₁
leads v x (y ∷ ys) W at joined =
    ∥∥₁_elim (joined.1.0 W at) ∥∥₁_prop (λ found.
    ∥∥₁_map (leads v y ys found.0 found.2 joined.2) (λ rest. (
      rest.0,
      (joined.0.legal W at, joined.0.last, (found.0, joined.1.1 W found.0 at found.2, rest.1)),
    )))

pub joined_openings_are_explained : {S : Type 0} (v : Service S) → JoinedOpeningsAreExplained v
joined_openings_are_explained v [] begins joined = refl
joined_openings_are_explained v (x ∷ xs) begins joined =
    ∥∥₁_elim begins (explained_prop fresh_world _ _) (λ at.
    ∥∥₁_elim (leads v x xs fresh_world at joined) (explained_prop fresh_world _ _) (λ led.
    openings_are_explained led.0 (sessions_of (x ∷ xs)) led.1))

pub disks_go_on : {S F : Type 0} (v : Service S) (d : Disk S F) → DisksGoOn v d
disks_go_on v d old new closed left cut was closes crashes finds spared chance =
    finds cut (crashes cut (closes cut was) spared) chance
