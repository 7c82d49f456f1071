-- The store meets what is asked of a service of rounds.
use Rattle.std.proofs.Common.{◌≡◌, ℕ, true, false, List, [], length, Result, Ok, Err, IfErr, IfOk, refl, sym, ap, subst, inl, inr, arith}
use Rattle.std.specs.Prelude.{◌⊎◌, IsTrue}
use Rattle.raft_log_engine.specs.raft_log_engine_laws.specs.EngineState.{LogDirectories, EngineState, has_failed}
use Rattle.raft_voter_messages.specs.declared.reply.Reply.{Reply}
use Rattle.raft_voter_messages.specs.declared.request.Request.{Request}
use Rattle.raft_voter_outline.specs.State.{State}
use Rattle.raft_voter.specs.Rounds.{World, after, are_rising}
use Rattle.raft_voter.specs.Service.{AnswersRound, CutsOff, FailsAs, IsOpenAt, MayFollow, TakesNothing, TookNone, TookSome, refused_from}
use Rattle.raft_voter.specs.declared.service.Cause.{Cause}
use Rattle.raft_voter.specs.declared.service.Cause.TheVariants as causes
use Rattle.raft_voter_durability_laws.specs.Ends.{GaveUp, Unsynced}
use Rattle.raft_voter_durability_laws.specs.Rounds.{took}
use Rattle.raft_voter_durability_laws.specs.Standing.{AreOutlines, IsLeftAmong, Keeps}
use Rattle.raft_voter_durability_laws.proofs.Public.{engines_leave_logs, left_behind_rounds, rising, told_rounds_are_answered, voters_are_left}
use Rattle.raft_voter_store.specs.Refusals.{AreExcused}
use Rattle.raft_voter_store.specs.Rounds.{CutsRoundOff, RoundIsAnswered}
use Rattle.raft_voter_store.specs.Service.{HasFailedCall, LeavesAt, LeavesBehind, MayRefuse, service_in, voter_service}
use Rattle.raft_voter_store.specs.Service.LeavesAt.{left, running}

-- what two clauses say of a refusal
pub of_refusal : {X E : Type 0} (r : Result X E) (P Q R : E → Type 0) → ((e : E) → P e → Q e → R e) → IfErr r P → IfErr r Q → IfErr r R
of_refusal (Ok x) P Q R f p q = tt
of_refusal (Err e) P Q R f p q = f e p q

-- and of an answer
pub of_answer : {X E : Type 0} (r : Result X E) (P Q R : X → Type 0) → ((x : X) → P x → Q x → R x) → IfOk r P → IfOk r Q → IfOk r R
of_answer (Ok x) P Q R f p q = f x p q
of_answer (Err e) P Q R f p q = tt

module _ {S : Type 0} (shows : S → EngineState) (outlines : S → ℕ → State) where
  -- an engine that keeps voters leaves them
  pub open_at : (store : S) (home : LogDirectories) (W : World) → has_failed (shows store) ≡ false → Keeps home (shows store) W → AreOutlines (outlines store) W → IsOpenAt (voter_service shows outlines) store W
  open_at store home W alive keeps are = record {
    alive = alive;
    serves = (home, keeps, are);
    left = (home, left_behind_rounds.alone home W (shows store).pipes.disk (voters_are_left.gone home W (shows store) (shows store).pipes.disk keeps (engines_leave_logs (shows store))));
  }

  pub answers_round : (qs : List (ℕ × Request)) (told : List Reply) (old new : S) → RoundIsAnswered qs told (shows old) (shows new) (outlines old) (outlines new) → length told ≡ length qs
      → AnswersRound (voter_service shows outlines) qs told old new
  answers_round qs told old new answered all W opened =
      let (home, keeps, are) = opened.serves in
      let a = answered home W keeps are in
      let places = told_rounds_are_answered W qs told a.tells all in (
        after W (took qs told),
        record { rising = places.rising; told = places.told_is; taken = ap (λ (l : List (ℕ × Request)). after W l) places.taken_is },
        open_at new home (after W (took qs told)) a.alive a.keeps a.outlines,
      )

  pub left_some : (home : LogDirectories) (W : World) (qs : List (ℕ × Request)) (told : List Reply) (s t : EngineState) → GaveUp home W qs told s t ⊎ Unsynced home W qs told s t
      → IsLeftAmong home t.pipes.disk (MayFollow (record { before = W; requests = qs; refused = refused_from 0 told }))
  left_some home W qs told s t (inl gave) = left_behind_rounds.gave_up home W qs told s t gave
  left_some home W qs told s t (inr failed) = left_behind_rounds.unsynced home W qs told s t failed

  -- what was refused of a round that was cut off may be
  pub cut_may_refuse : (qs : List (ℕ × Request)) (refused : List ℕ) (old new : S) → CutsRoundOff qs refused (shows old) (shows new) (outlines old) → MayRefuse (shows old) (shows new) (outlines old) qs refused
  cut_may_refuse qs refused old new cut = (cut.told, cut.places, cut.excused)

  -- a file call failed in it
  pub failed_some : (home : LogDirectories) (W : World) (qs : List (ℕ × Request)) (told : List Reply) (s t : EngineState) → GaveUp home W qs told s t ⊎ Unsynced home W qs told s t → HasFailedCall s t
  failed_some home W qs told s t (inl gave) = gave.fails
  failed_some home W qs told s t (inr failed) = failed.fails

  took_some : (qs : List (ℕ × Request)) (refused : List ℕ) (old new : S) → CutsRoundOff qs refused (shows old) (shows new) (outlines old) → TookSome (voter_service shows outlines) refused qs old new
  took_some qs refused old new cut = record {
    rising = subst (λ (l : List ℕ). IsTrue (are_rising 0 (length qs) l)) (sym cut.places) (rising 0 0 (length qs) cut.told (omega arith) (omega (arith, cut.few)));
    may_refuse = cut_may_refuse qs refused old new cut;
    fails = λ W opened. failed_some opened.serves.0 W qs cut.told (shows old) (shows new) (cut.left opened.serves.0 W opened.serves.1 opened.serves.2);
    left = λ W opened.
        let (home, keeps, are) = opened.serves in (
          home,
          subst (λ (l : List ℕ). IsLeftAmong home (shows new).pipes.disk (MayFollow (record { before = W; requests = qs; refused = l }))) (sym cut.places)
              (left_some home W qs cut.told (shows old) (shows new) (cut.left home W keeps are)),
        );
  }

  took_none : (refused : List ℕ) (old new : S) → new ≡ old → refused ≡ [] → TookNone (voter_service shows outlines) refused old new
  took_none refused old new same none = record {
    none = none;
    served = λ W opened. subst (λ (x : S). IsOpenAt (voter_service shows outlines) x W) (sym same) opened;
    left = λ cut left. subst (λ (x : S). LeavesBehind (shows x) cut) (sym same) left;
  }

  pub cuts_off : (cause : Cause) (qs : List (ℕ × Request)) (refused : List ℕ) (old new : S) → (TakesNothing cause → (new ≡ old) × (refused ≡ []))
      → (cause ≡ causes.FileSystem → CutsRoundOff qs refused (shows old) (shows new) (outlines old)) → CutsOff (voter_service shows outlines) cause refused qs old new
  cuts_off causes.FileSystem qs refused old new none cut = took_some qs refused old new (cut refl)
  cuts_off causes.Memory qs refused old new none cut = took_none refused old new (none tt).0 (none tt).1
  cuts_off causes.Failed qs refused old new none cut = took_none refused old new (none tt).0 (none tt).1
  cuts_off causes.TooLong qs refused old new none cut = took_none refused old new (none tt).0 (none tt).1

  pub may_refuse : (qs : List (ℕ × Request)) (told : List Reply) (old new : S) → AreExcused qs told (shows old) (shows new) (outlines old) → MayRefuse (shows old) (shows new) (outlines old) qs (refused_from 0 told)
  may_refuse qs told old new excused = (told, refl, excused)

-- where it is known in which directories the log lies
module _ {S : Type 0} (home : S → LogDirectories) (shows : S → EngineState) (outlines : S → ℕ → State) where
  pub open_in : (store : S) (W : World) → has_failed (shows store) ≡ false → Keeps (home store) (shows store) W → AreOutlines (outlines store) W → IsOpenAt (service_in home shows outlines) store W
  open_in store W alive keeps are = record { alive = alive; serves = (keeps, are); left = running W refl keeps }

  pub answers_in : (qs : List (ℕ × Request)) (told : List Reply) (old new : S) → home new ≡ home old → RoundIsAnswered qs told (shows old) (shows new) (outlines old) (outlines new) → length told ≡ length qs
      → AnswersRound (service_in home shows outlines) qs told old new
  answers_in qs told old new same answered all W opened =
      let a = answered (home old) W opened.serves.0 opened.serves.1 in
      let places = told_rounds_are_answered W qs told a.tells all in (
        after W (took qs told),
        record { rising = places.rising; told = places.told_is; taken = ap (λ (l : List (ℕ × Request)). after W l) places.taken_is },
        open_in new (after W (took qs told)) a.alive (subst (λ (h : LogDirectories). Keeps h (shows new) (after W (took qs told))) (sym same) a.keeps) a.outlines,
      )

  some_in : (qs : List (ℕ × Request)) (refused : List ℕ) (old new : S) → home new ≡ home old → has_failed (shows new) ≡ true → CutsRoundOff qs refused (shows old) (shows new) (outlines old)
      → TookSome (service_in home shows outlines) refused qs old new
  some_in qs refused old new same failed cut = record {
    rising = subst (λ (l : List ℕ). IsTrue (are_rising 0 (length qs) l)) (sym cut.places) (rising 0 0 (length qs) cut.told (omega arith) (omega (arith, cut.few)));
    may_refuse = cut_may_refuse shows outlines qs refused old new cut;
    fails = λ W opened. failed_some shows outlines (home old) W qs cut.told (shows old) (shows new) (cut.left (home old) W opened.serves.0 opened.serves.1);
    left = λ W opened. left failed
        (subst (λ (l : List ℕ). IsLeftAmong (home new) (shows new).pipes.disk (MayFollow (record { before = W; requests = qs; refused = l }))) (sym cut.places)
        (subst (λ (h : LogDirectories). IsLeftAmong h (shows new).pipes.disk (MayFollow (record { before = W; requests = qs; refused = refused_from 0 cut.told }))) (sym same)
        (left_some shows outlines (home old) W qs cut.told (shows old) (shows new) (cut.left (home old) W opened.serves.0 opened.serves.1))));
  }

  none_in : (refused : List ℕ) (old new : S) → new ≡ old → refused ≡ [] → TookNone (service_in home shows outlines) refused old new
  none_in refused old new same none = record {
    none = none;
    served = λ W opened. subst (λ (x : S). IsOpenAt (service_in home shows outlines) x W) (sym same) opened;
    left = λ cut left. subst (λ (x : S). LeavesAt (home x) (shows x) cut) (sym same) left;
  }

  pub cuts_in : (cause : Cause) (qs : List (ℕ × Request)) (refused : List ℕ) (old new : S) → home new ≡ home old → FailsAs cause (length qs) (has_failed (shows old)) (has_failed (shows new))
      → (TakesNothing cause → (new ≡ old) × (refused ≡ [])) → (cause ≡ causes.FileSystem → CutsRoundOff qs refused (shows old) (shows new) (outlines old)) → CutsOff (service_in home shows outlines) cause refused qs old new
  cuts_in causes.FileSystem qs refused old new same fails none cut = some_in qs refused old new same fails.2 (cut refl)
  cuts_in causes.Memory qs refused old new same fails none cut = none_in refused old new (none tt).0 (none tt).1
  cuts_in causes.Failed qs refused old new same fails none cut = none_in refused old new (none tt).0 (none tt).1
  cuts_in causes.TooLong qs refused old new same fails none cut = none_in refused old new (none tt).0 (none tt).1
