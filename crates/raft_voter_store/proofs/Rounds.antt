-- A round: each step, and each end, is a call of one law.
use Rattle.std.proofs.Common.{◌≡◌, ℕ, zero, suc, ◌<◌, ◌≤◌, ◌||◌, Bool, true, false, List, [], ◌∷◌, ◌++◌, length, get_or, Some, refl, sym, ap, subst, inl, inr, ◌∙◌, arith}
use Rattle.std.specs.Prelude.{◌⊎◌, slice_get, take}
use Rattle.raft_log_fs.specs.Causes.{IsLater}
use Rattle.raft_log_record_base.specs.declared.errors.Error.{Error}
use Rattle.raft_log_engine.specs.raft_log_engine_laws.specs.EngineState.{EngineState, has_failed}
use Rattle.raft_log_engine.specs.raft_log_engine_laws.specs.Syncing.{NotSynced, SyncsAppend}
use Rattle.raft_voter_messages.specs.declared.reply.Reply.{Reply}
use Rattle.raft_voter_messages.specs.declared.reply.Reply.TheVariants as replies
use Rattle.raft_voter_messages.specs.declared.request.Request.{Request}
use Rattle.raft_voter_messages.specs.Ranges.{in_range}
use Rattle.raft_voter_outline.specs.State.{State}
use Rattle.raft_voter.specs.Service.{is_refused, refused_from}
use Rattle.raft_voter_durability_laws.specs.Ends.{Went}
use Rattle.raft_voter_durability_laws.specs.Requests.{Broke, Served, TurnedDown}
use Rattle.raft_voter_durability_laws.proofs.Public.{later_same, later_twice, rounds_end, rounds_go_on}
use Rattle.raft_voter_store.specs.Refusals.{AreExcused, IsCauseOf}
use Rattle.raft_voter_store.specs.Rounds.{CutsRoundOff, GoesOn, Passes, RoundIsAnswered, StopsAt}
use Rattle.raft_voter_store.specs.Taking.{FailsToTake}
use Rattle.raft_voter_store.specs.declared.refusals.RefusalCause.{RefusalCause}
use Rattle.raft_voter_store.specs.declared.refusals.RefusalCause.TheVariants.{OutOfRange, Rejected}

same_some : {A : Type 0} (x y : A) → Some x ≡ Some y → x ≡ y
same_some x y is = by is
  where
    by : Some x ≡ Some y → x ≡ y
    by h = cc

none_there : (i : ℕ) → slice_get [] i ≡ Some replies.Refused → ⊥
none_there i is = cc

-- Causes.

-- what stands at a place of a list with one more behind it, and what stands before
behind : {A : Type 0} (xs : List A) (x y : A) (i : ℕ) → slice_get (xs ++ x ∷ []) i ≡ Some y
    → ((slice_get xs i ≡ Some y) × (take i (xs ++ x ∷ []) ≡ take i xs)) ⊎ ((i ≡ length xs) × (x ≡ y) × (take i (xs ++ x ∷ []) ≡ xs))
behind [] x y zero is = inr (refl, same_some x y is, refl)
behind [] x y (suc i) is = absurd cc
behind (z ∷ zs) x y zero is = inl (is, refl)
behind {A} (z ∷ zs) x y (suc i) is = elim (behind zs x y i is) [
  | inl there ↦ inl (there.0, ap (λ (l : List A). z ∷ l) there.1)
  | inr last ↦ inr (ap (λ (n : ℕ). suc n) last.0, last.1, ap (λ (l : List A). z ∷ l) last.2)
]

-- why the request at the last place is refused, if it is
abbrev IsExcusedHere : List (ℕ × Request) → List Reply → Reply → ℕ × Request → EngineState → EngineState → (ℕ → State) → Type 0
IsExcusedHere qs told a q s t os = replies.Refused ≡ a → (cause : RefusalCause) × IsCauseOf cause qs told q s t os

-- a cause is one still behind what comes later
pub refused_since : (cause : RefusalCause) (qs : List (ℕ × Request)) (told : List Reply) (q : ℕ × Request) (s t u : EngineState) (os : ℕ → State) → IsLater t.pipes.disk u.pipes.disk → IsCauseOf cause qs told q s t os
    → IsCauseOf cause qs told q s u os
refused_since OutOfRange qs told q s t u os since outside = outside
refused_since (Rejected error) qs told q s t u os since turned = record {
  wrote = turned.wrote;
  mid = turned.mid;
  next = turned.next;
  outlines = turned.outlines;
  went = turned.went;
  turned = turned.turned;
  later = later_twice turned.next.pipes.disk t.pipes.disk u.pipes.disk turned.later since;
}

excused_since : (qs : List (ℕ × Request)) (told : List Reply) (s t u : EngineState) (os : ℕ → State) → IsLater t.pipes.disk u.pipes.disk → AreExcused qs told s t os → AreExcused qs told s u os
excused_since qs told s t u os since before place q refused is =
    let (cause, why) = before place q refused is in
    (cause, refused_since cause qs (take place told) q s t u os since why)

excused_more : (qs : List (ℕ × Request)) (told : List Reply) (a : Reply) (q : ℕ × Request) (s t : EngineState) (os : ℕ → State) → AreExcused qs told s t os → slice_get qs (length told) ≡ Some q
    → IsExcusedHere qs told a q s t os → AreExcused qs (told ++ a ∷ []) s t os
excused_more qs told a q s t os before at here place r refused is = elim (behind told a replies.Refused place refused) [
  | inl there ↦
      let (cause, why) = before place r there.0 is in
      (cause, subst (λ (l : List Reply). IsCauseOf cause qs l r s t os) (sym there.1) why)
  | inr last ↦
      let same : q ≡ r = same_some q r (sym at ∙ ap (λ (n : ℕ). slice_get qs n) (sym last.0) ∙ is) in
      let (cause, why) = here (sym last.1) in
      (cause, subst (λ (x : ℕ × Request). IsCauseOf cause qs (take place (told ++ a ∷ [])) x s t os) same (subst (λ (l : List Reply). IsCauseOf cause qs l q s t os) (sym last.2) why))
]

-- Steps.

pub begun : (qs : List (ℕ × Request)) (told : List Reply) (s : EngineState) (os : ℕ → State) → told ≡ [] → has_failed s ≡ false → Passes qs told false s s os os
begun qs told s os none alive = subst (λ (l : List Reply). Passes qs l false s s os os) (sym none)
    (record { went = rounds_go_on.begins qs s os alive; excused = λ place q refused at. absurd (none_there place refused) })

passes_served : (qs : List (ℕ × Request)) (told : List Reply) (q : ℕ × Request) (a : Reply) (wrote more : Bool) (s t u : EngineState) (os us ws : ℕ → State)
    → Passes qs told wrote s t os us → slice_get qs (length told) ≡ Some q → Served q a more t u us ws → Passes qs (told ++ a ∷ []) (wrote || more) s u os ws
passes_served qs told q a wrote more s t u os us ws passes at served = record {
  went = rounds_go_on.served qs told q a wrote more s t u os us ws passes.went at served;
  excused = excused_more qs told a q s u os (excused_since qs told s t u os served.later passes.excused) at (λ is. (OutOfRange, served.refuses (ap (λ (r : Reply). is_refused r) (sym is))));
}

passes_past : (qs : List (ℕ × Request)) (told : List Reply) (q : ℕ × Request) (error : Error) (wrote : Bool) (s t u : EngineState) (os us : ℕ → State)
    → Passes qs told wrote s t os us → slice_get qs (length told) ≡ Some q → TurnedDown q error t u us → Passes qs (told ++ replies.Refused ∷ []) wrote s u os us
passes_past qs told q error wrote s t u os us passes at turned = record {
  went = rounds_go_on.turned_down qs told q error wrote s t u os us passes.went at turned;
  excused = excused_more qs told replies.Refused q s u os (excused_since qs told s t u os turned.later passes.excused) at
      (λ is. (Rejected error, record { wrote = wrote; mid = t; next = u; outlines = us; went = passes.went; turned = turned; later = later_same u.pipes.disk }));
}

pub served_goes_on : (q : ℕ × Request) (a : Reply) (wrote more either : Bool) (told now : List Reply) (t u : EngineState) (us ws : ℕ → State) → Served q a more t u us ws → now ≡ told ++ a ∷ [] → either ≡ (wrote || more)
    → GoesOn q wrote either told now t u us ws
served_goes_on q a wrote more either told now t u us ws served is both qs s os passes at =
    let next = passes_served qs told q a wrote more s t u os us ws passes at served in
    subst (λ (b : Bool). Passes qs now b s u os ws) (sym both) (subst (λ (l : List Reply). Passes qs l (wrote || more) s u os ws) (sym is) next)

pub past_goes_on : (q : ℕ × Request) (error : Error) (wrote : Bool) (told now : List Reply) (t u : EngineState) (us ws : ℕ → State) → FailsToTake q error t u us ws → has_failed u ≡ false → now ≡ told ++ replies.Refused ∷ []
    → GoesOn q wrote wrote told now t u us ws
past_goes_on q error wrote told now t u us ws (same, inl turned) alive is qs s os passes at =
    let next = passes_past qs told q error wrote s t u os us passes at turned in
    subst (λ (w : ℕ → State). Passes qs now wrote s u os w) (sym same) (subst (λ (l : List Reply). Passes qs l wrote s u os us) (sym is) next)
past_goes_on q error wrote told now t u us ws (same, inr broke) alive is qs s os passes at =
    let failed : has_failed u ≡ true = broke.1.failed in
    absurd cc

pub stops_at : (qs : List (ℕ × Request)) (told now : List Reply) (i : ℕ) (q : ℕ × Request) (wrote : Bool) (s t u : EngineState) (os us : ℕ → State)
    → Passes qs told wrote s t os us → length told ≡ i → slice_get qs i ≡ Some q → now ≡ told → Broke q t u us → StopsAt qs now s u os
stops_at qs told now i q wrote s t u os us passes count at same broke =
    subst (λ (l : List Reply). StopsAt qs l s u os) (sym same)
    (record { wrote = wrote; mid = t; outlines = us; passes = passes; request = q; at = ap (λ (n : ℕ). slice_get qs n) count ∙ at; broke = broke })

-- the request at a place of a list
pub at_index : {A : Type 0} (xs : List A) (i : ℕ) (x : A) → i < length xs → x ≡ get_or xs i x → slice_get xs i ≡ Some x
at_index [] i x lt is = absurd (omega arith)
at_index (y ∷ ys) zero x lt is = ap (λ z. Some z) (sym is)
at_index (y ∷ ys) (suc i) x lt is = at_index ys i x (omega arith) is

-- whether a record was written by then
pub wrote_before : (a b : Bool) → a ≡ true → a ≡ (a || b)
wrote_before true b is = refl
wrote_before false b is = absurd cc

pub wrote_now : (a b : Bool) → a ≡ false → b ≡ (a || b)
wrote_now false b is = refl
wrote_now true b is = absurd cc

-- Ends.

pub answered_unwritten : (qs : List (ℕ × Request)) (told : List Reply) (wrote : Bool) (s t : EngineState) (os us : ℕ → State) → Passes qs told wrote s t os us → wrote ≡ false → RoundIsAnswered qs told s t os us
answered_unwritten qs told wrote s t os us passes none home V keeps outlines =
    rounds_end.unwritten home V qs told s t os us keeps outlines (subst (λ (b : Bool). Went qs told b s t os us) none passes.went)

pub answered_synced : (qs : List (ℕ × Request)) (told : List Reply) (wrote : Bool) (s t u : EngineState) (os us : ℕ → State) → Passes qs told wrote s t os us → SyncsAppend t u → RoundIsAnswered qs told s u os us
answered_synced qs told wrote s t u os us passes synced home V keeps outlines = rounds_end.answered home V qs told wrote s t u os us keeps outlines passes.went synced

-- a synced disk is later, and so is one that wasn't synced
pub excused_synced : (qs : List (ℕ × Request)) (told : List Reply) (s t u : EngineState) (os : ℕ → State) → SyncsAppend t u → AreExcused qs told s t os → AreExcused qs told s u os
excused_synced qs told s t u os synced before = excused_since qs told s t u os synced.later before

pub unsynced_later : (error : Error) (t u : EngineState) → NotSynced error t u → IsLater t.pipes.disk u.pipes.disk
unsynced_later error t u (is, inl had) = subst (λ (x : EngineState). IsLater t.pipes.disk x.pipes.disk) (sym had.1) (later_same t.pipes.disk)
unsynced_later error t u (is, inr fails) = fails.later

pub cut_at : (qs : List (ℕ × Request)) (told : List Reply) (refused : List ℕ) (s t : EngineState) (os : ℕ → State) → StopsAt qs told s t os → length told ≤ length qs → refused ≡ refused_from 0 told → CutsRoundOff qs refused s t os
cut_at qs told refused s t os stop few places =
    record {
      told = told;
      few = few;
      places = places;
      excused = excused_since qs told s stop.mid t os stop.broke.later stop.passes.excused;
      left = λ home V keeps outlines. inl (rounds_end.gave_up home V qs told stop.request stop.wrote s stop.mid t os stop.outlines keeps outlines stop.passes.went stop.at stop.broke);
    }

pub cut_unsynced : (qs : List (ℕ × Request)) (told : List Reply) (refused : List ℕ) (wrote : Bool) (error : Error) (s t u : EngineState) (os us : ℕ → State) → Passes qs told wrote s t os us → NotSynced error t u → length told ≤ length qs
    → refused ≡ refused_from 0 told → CutsRoundOff qs refused s u os
cut_unsynced qs told refused wrote error s t u os us passes unsynced few places =
    record {
      told = told;
      few = few;
      places = places;
      excused = excused_since qs told s t u os (unsynced_later error t u unsynced) passes.excused;
      left = λ home V keeps outlines. inr (rounds_end.unsynced home V qs told wrote error s t u os us keeps outlines passes.went unsynced);
    }
