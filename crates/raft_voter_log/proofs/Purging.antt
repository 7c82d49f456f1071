-- Purges keep the voters of a store, or leave them where it fails.
use Rattle.std.proofs.Common.{◌≡◌, ◌∙◌, ◌⊎◌, inl, inr, ℕ, Bool, true, false, Option, sym, subst}
use Rattle.std.proofs.lemmas.Bool.{false≢true}
use Rattle.raft_log_record_base.specs.declared.errors.Error.{Error}
use Rattle.raft_log_record_base.specs.declared.errors.Error.TheVariants as errors
use Rattle.raft_voter_durability_laws.specs.raft_log_engine_laws.specs.Fetching.{HadFailed}
use Rattle.raft_voter_durability_laws.specs.raft_log_engine_laws.specs.raft_log_dual_pipes.specs.Pipes.{LogPipes}
use Rattle.raft_voter_durability_laws.specs.raft_log_engine_laws.specs.EngineState.{LogDirectories, EngineState, has_failed}
use Rattle.raft_log_engine.specs.raft_log_engine_core.specs.declared.engine.LogEngine.{LogEngine}
use Rattle.raft_log_purge.specs.Append.{FailsToRewriteAppend}
use Rattle.raft_voter_outline.specs.State.{State}
use Rattle.raft_voter.specs.Rounds.{World}
use Rattle.raft_voter.specs.Service.{CutRound, IsOpenAt, MayFollow, uncut}
use Rattle.raft_voter_durability_laws.specs.Calls.{KeepsOrLeaves}
use Rattle.raft_voter_durability_laws.specs.Standing.{AreOutlines, IsLeftAmong, Keeps}
use Rattle.raft_voter_durability_laws.proofs.Public.{left_behind_rounds}
use Rattle.raft_voter_store.specs.Service.{LeavesAt, service_in}
use Rattle.raft_voter_store.specs.Service.LeavesAt.{left, running}
use Rattle.raft_voter_store.specs.Upkeep.{KeepsOrLeavesVoters, KeepsVoters}
use Rattle.raft_voter_store.proofs.Public.{open_in}
use Rattle.raft_voter_world.specs.Stores.{KeepsVoters as KeepsServed}
use Rattle.raft_voter_world.specs.declared.faults.Purge.{Purge}
use Rattle.raft_voter_log.specs.Instance.{PurgesLog}

-- why a purge is refused: the engine had failed; or it hadn't, and it tells whether it has now
abbrev pub IsPurgeRefusal : Error → EngineState → EngineState → Type 0
IsPurgeRefusal error s t = HadFailed s t error ⊎ ((has_failed s ≡ false) × FailsToRewriteAppend error s t)

is_not : (b : Bool) → b ≡ true → b ≡ false → ⊥
is_not b at off = false≢true (sym off ∙ at)

-- an engine fails where the error says so
fails_now : (error : Error) (s t : EngineState) → has_failed s ≡ false → FailsToRewriteAppend error s t → error ≡ errors.Failed → has_failed t ≡ true
fails_now error s t alive f is = (f.tells alive).1 is

module _ {S : Type 0} (home : S → LogDirectories) (shows : S → EngineState) (outlines : S → ℕ → State) (old new : S) (here : home new ≡ home old) (os : outlines new ≡ outlines old) where
  opened : (W : World) → has_failed (shows new) ≡ false → Keeps (home old) (shows new) W → AreOutlines (outlines old) W → IsOpenAt (service_in home shows outlines) new W
  opened W alive keeps are =
      open_in home shows outlines new W alive (subst (λ (x : LogDirectories). Keeps x (shows new) W) (sym here) keeps) (subst (λ (x : ℕ → State). AreOutlines x W) (sym os) are)

  still : (cut : CutRound) → LeavesAt (home old) (shows new) cut → LeavesAt (home new) (shows new) cut
  still cut l = subst (λ (x : LogDirectories). LeavesAt x (shows new) cut) (sym here) l

  -- answered
  pub purged_keeps : has_failed (shows old) ≡ false → KeepsVoters (shows old) (shows new) → KeepsServed (service_in home shows outlines) old new
  purged_keeps alive keeps = record {
    failed = λ failed. absurd (is_not (has_failed (shows old)) failed alive);
    served = λ W at lives. opened W lives (keeps (home old) W at.serves.0) at.serves.1;
    left = λ cut l. still cut (by_leaves cut l);
  }
    where
      by_leaves : (cut : CutRound) → LeavesAt (home old) (shows old) cut → LeavesAt (home old) (shows new) cut
      by_leaves cut (running W none held) = running W none (keeps (home old) W held)
      by_leaves cut (left failed l) = absurd (is_not (has_failed (shows old)) failed alive)

  -- refused
  pub refused_keeps : (error : Error) → IsPurgeRefusal error (shows old) (shows new) → KeepsOrLeavesVoters error (shows old) (shows new) → KeepsServed (service_in home shows outlines) old new
  refused_keeps error (inl had) keeps = record {
    failed = λ failed. subst (λ (x : EngineState). has_failed x ≡ true) (sym had.2) failed;
    served = λ W at lives. absurd (is_not (has_failed (shows old)) had.1 at.alive);
    left = λ cut l. still cut (subst (λ (x : EngineState). LeavesAt (home old) x cut) (sym had.2) l);
  }
  refused_keeps error (inr (alive, fails)) keeps = record {
    failed = λ failed. absurd (is_not (has_failed (shows old)) failed alive);
    served = λ W at lives. by_kept W at.serves.1 lives (keeps (home old) W at.serves.0);
    left = λ cut l. still cut (by_leaves cut l);
  }
    where
      by_kept : (W : World) → AreOutlines (outlines old) W → has_failed (shows new) ≡ false → KeepsOrLeaves (home old) error (shows new) W → IsOpenAt (service_in home shows outlines) new W
      by_kept W are lives (inl held) = opened W lives held are
      by_kept W are lives (inr gone) = absurd (is_not (has_failed (shows new)) (fails_now error (shows old) (shows new) alive fails gone.0) lives)

      left_behind : (cut : CutRound) (W : World) → cut ≡ uncut W → KeepsOrLeaves (home old) error (shows new) W → LeavesAt (home old) (shows new) cut
      left_behind cut W none (inl held) = running W none held
      left_behind cut W none (inr gone) =
          left (fails_now error (shows old) (shows new) alive fails gone.0)
          (subst (λ (c : CutRound). IsLeftAmong (home old) (shows new).pipes.disk (MayFollow c)) (sym none) (left_behind_rounds.alone (home old) W (shows new).pipes.disk gone.1))

      by_leaves : (cut : CutRound) → LeavesAt (home old) (shows old) cut → LeavesAt (home old) (shows new) cut
      by_leaves cut (running W none held) = left_behind cut W none (keeps (home old) W held)
      by_leaves cut (left failed l) = absurd (is_not (has_failed (shows old)) failed alive)

-- a purge was answered, and is told so
pub purged_as :
    {P : Type 0} (held : LogPipes → Option ℕ → Type 0) (purge kind : Purge) (a b : LogEngine P) (s t : EngineState) → purge ≡ kind → PurgesLog held kind a b s t → PurgesLog held purge a b s t
purged_as held purge kind a b s t is purged = subst (λ (p : Purge). PurgesLog held p a b s t) (sym is) purged
