-- A purge keeps the voters that threads are served; where the store failed in it, a file call did.
use Rattle.std.proofs.Common.{◌≡◌, ◌∙◌, inl, inr, ℕ, true, false, [], sym, subst}
use Rattle.std.proofs.lemmas.Bool.{false≢true}
use Rattle.raft_log_record_base.specs.declared.errors.Error.{Error}
use Rattle.raft_log_record_base.specs.declared.errors.Error.TheVariants as errors
use Rattle.raft_voter_durability_laws.specs.raft_log_engine_laws.specs.EngineState.{LogDirectories, LogMap, EngineState, has_failed}
use Rattle.raft_log_purge_copy.specs.Reasons.{HasPurgeReason, HasReason}
use Rattle.raft_voter_outline.specs.State.{State}
use Rattle.raft_voter.specs.Rounds.{World}
use Rattle.raft_voter.specs.Service.{IsOpenAt, Service}
use Rattle.raft_voter_world.specs.Stores.{KeepsVoters}
use Rattle.raft_voter_store.specs.Service.{HasFailedCall, service_in}
use Rattle.raft_voter_store.specs.Upkeep.{KeepsOrLeavesVoters, KeepsVoters as KeepsMeant}
use Rattle.raft_voter_log.proofs.Public.{purged_keeps, refused_keeps, IsPurgeRefusal}
use Rattle.raft_voter_shared.specs.Purging.{KeepsServed}
use Rattle.raft_voter_shared_log.proofs.GoingOn.{holding_lives}

served_as :
    {S : Type 0} (v : Service S) (old new : S) → KeepsVoters v old new
    → ((W : World) → IsOpenAt v old W → v.is_failed new ≡ true → v.fails old new) → KeepsServed v old new
served_as v old new keeps fails = record { failed = keeps.failed; served = keeps.served; fails = fails; left = keeps.left }

-- where it failed, a file call did
failed_calls : (home : LogDirectories) (m : LogMap) (error : Error) (s t : EngineState) → error ≡ errors.Failed → HasPurgeReason home m error s t → HasFailedCall s t
failed_calls home m error s t failed (inl reason) = subst (λ (e : Error). HasReason home m e s t) failed reason
failed_calls home m error s t failed (inr (full, long)) = absurd (let never : ⊥ = cc in never)

module _ {S : Type 0} (home : S → LogDirectories) (shows : S → EngineState) (outlines : S → ℕ → State) (old new : S) where
  -- answered: the store hasn't failed
  purged_fails :
      KeepsMeant (shows old) (shows new) → (W : World) → IsOpenAt (service_in home shows outlines) old W
      → has_failed (shows new) ≡ true → HasFailedCall (shows old) (shows new)
  purged_fails keeps W at dead =
      let now = keeps (home old) W at.serves.0 in
      absurd (false≢true (sym (holding_lives (home old) (shows new) now.map now.holds) ∙ dead))

  -- refused: the error tells that it has failed, and has its reason
  refused_fails :
      (error : Error) → IsPurgeRefusal error (shows old) (shows new) → (W : World)
      → IsOpenAt (service_in home shows outlines) old W → has_failed (shows new) ≡ true
      → HasFailedCall (shows old) (shows new)
  refused_fails error (inl had) W at dead = absurd (false≢true (sym at.alive ∙ had.1))
  refused_fails error (inr (alive, fails)) W at dead =
      let held = at.serves.0 in
      failed_calls (home old) held.map error (shows old) (shows new) ((fails.tells alive).0 dead) (fails.cause (home old) held.map [] held.holds)

module _ {S : Type 0} (home : S → LogDirectories) (shows : S → EngineState) (outlines : S → ℕ → State) (old new : S) (here : home new ≡ home old) (same : outlines new ≡ outlines old) where
  -- what a purge that succeeds leaves of the voters that threads are served
  pub purged_serves : has_failed (shows old) ≡ false → KeepsMeant (shows old) (shows new) → KeepsServed (service_in home shows outlines) old new
  purged_serves alive keeps =
      served_as (service_in home shows outlines) old new (purged_keeps home shows outlines old new here same alive keeps) (purged_fails home shows outlines old new keeps)

  -- and one that fails
  pub refused_serves : (error : Error) → IsPurgeRefusal error (shows old) (shows new) → KeepsOrLeavesVoters error (shows old) (shows new) → KeepsServed (service_in home shows outlines) old new
  refused_serves error refused keeps =
      served_as (service_in home shows outlines) old new (refused_keeps home shows outlines old new here same error refused keeps) (refused_fails home shows outlines old new error refused)
