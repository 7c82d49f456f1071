-- A store that is seen between rounds.
use Rattle.std.proofs.Common.{◌≡◌, true, false, List, Option, None, Result, Ok, Err, IfOk, IfErr}
use Rattle.raft_voter_messages.specs.declared.round.Round.{Round}
use Rattle.raft_voter.specs.Rounds.{World}
use Rattle.raft_voter.specs.Service.{IsOpenAt, Service}
use Rattle.raft_voter_rounds.specs.Journal.{IsLegal, reached}
use Rattle.raft_voter_shared.specs.declared.failure.Failure.{Failure}
use Rattle.raft_voter_shared.specs.Looking.{IsSeen}
use Rattle.raft_voter_shared.specs.Standing.{is_last, standing}

module _ {S : Type 0} (v : Service S) (served : World → Type 0) (store : S) (history : List Round) (failure : Option Failure)
    (legal : (W : World) → served W → IsLegal W history) (last : is_last failure history ≡ true) (alive : v.is_failed store ≡ false → failure ≡ None)
    (serves : (W : World) → served W → v.is_failed store ≡ false → ∥ IsOpenAt v store (reached W history) ∥₁)
    (left : (W : World) → served W → ∥ v.leaves store (standing W history failure) ∥₁) where
  pub is_seen : (Shows : S → Type 0) → Shows store → IsSeen v served Shows
  is_seen Shows shows = record {
    store = store;
    shows = shows;
    history = history;
    legal = legal;
    failure = failure;
    last = last;
    alive = alive;
    serves = serves;
    left = left;
  }

  pub seen_ok : {X E : Type 0} (r : Result X E) (Shows : X → S → Type 0) → IfOk r (λ x. Shows x store) → IfOk r (λ x. IsSeen v served (Shows x))
  seen_ok (Ok x) Shows shows = is_seen (Shows x) shows
  seen_ok (Err e) Shows shows = tt

  pub seen_err : {X E : Type 0} (r : Result X E) (Shows : E → S → Type 0) → IfErr r (λ e. Shows e store) → IfErr r (λ e. IsSeen v served (Shows e))
  seen_err (Ok x) Shows shows = tt
  seen_err (Err e) Shows shows = is_seen (Shows e) shows
