-- A request that is turned down, and one at which the engine fails.
use Rattle.std.proofs.Common.{◌≡◌, ◌∙◌, ℕ, ◌^◌, ◌<◌, true, false, List, [], ◌∷◌, refl, sym, ap, subst, inl, inr, arith}
use Rattle.std.proofs.lemmas.Bool.{cases_Bool}
use Rattle.raft_log_fs.specs.Causes.{IsLater}
use Rattle.raft_log_model_laws.specs.Groups.{taken}
use Rattle.raft_log_record_base.specs.declared.errors.Error.{Error}
use Rattle.raft_log_record_base.specs.declared.errors.Error.TheVariants as errors
use Rattle.raft_log_record_frames.specs.Record.{record_len}
use Rattle.raft_log_record_frames.specs.Meaning.{tagged_items}
use Rattle.raft_log_record_batches.specs.Batch.{Batch}
use Rattle.raft_log_engine_laws.specs.EngineState.{LogDirectories, IsWellMarked, IsWritable, LogMap, EngineState, has_failed, said_of}
use Rattle.raft_log_engine_laws.specs.Holding.{EndsAt}
use Rattle.raft_log_engine_laws.specs.Writing.{IsUnfit, Leaves, PipesRefused}
use Rattle.raft_log_machine_laws.specs.Calls.Which.{InAppend}
use Rattle.raft_log_engine_laws.specs.raft_log_dual_pipes.specs.Numbers.{HasLastNumber}
use Rattle.raft_log_engine_laws.specs.raft_log_dual_pipes.specs.Pipes.{LogRecordValue}
use Rattle.raft_log_engine_laws.specs.raft_log_memtables.specs.Batch.{MayFollowAll}
use Rattle.raft_voter_messages.specs.declared.request.Request.{Request}
use Rattle.raft_voter_outline.specs.declared.outline.decision.Change.{Change}
use Rattle.raft_voter_outline.specs.Outlines.{ChangesEach}
use Rattle.raft_voter_outline.specs.State.{State}
use Rattle.raft_voter.specs.Rounds.{after_one}
use Rattle.raft_voter_records.specs.Voters.{Means}
use Rattle.raft_voter_durability_laws.specs.Requests.{Broke, IsUnwrittenFor, SaysChange, TurnedDown}
use Rattle.raft_voter_durability_laws.specs.Requests.WasTurnedDown.{unwritten, no_memory}
use Rattle.raft_voter_durability_laws.specs.Laws.{UnmadeRequestsAreTurnedDown, UnreadRequestsAreTurnedDown, UnwrittenRequests}
use Rattle.raft_voter_durability_laws.proofs.Composing.{ends_all, ends_same, later_same}
use Rattle.raft_voter_durability_laws.proofs.Following.{change_follows}
use Rattle.raft_voter_durability_laws.proofs.Serving.{leads_by, says_record, says_well}

-- Before anything is done.

-- of what makes a batch unfit memory alone is left
unfit_for : (b : Batch) (s t : EngineState) (error : Error) → IsUnfit b s.tables error → MayFollowAll s.tables (tagged_items (λ e. e) b.items)
    → record_len b.items b.entries < 2 ^ 56 → IsWritable b.state → IsWellMarked b → IsUnwrittenFor error s t
unfit_for b s t errors.Hole unfit follows small writable marked = absurd (unfit follows)
unfit_for b s t errors.Full unfit follows small writable marked = absurd (omega (arith, unfit, small))
unfit_for b s t (errors.InvalidArgument text) unfit follows small writable marked = absurd (unfit writable marked)
unfit_for b s t errors.Memory unfit follows small writable marked = tt
unfit_for b s t (errors.Corruption text) unfit follows small writable marked = absurd unfit
unfit_for b s t (errors.Io kind) unfit follows small writable marked = absurd unfit
unfit_for b s t (errors.Codec fault) unfit follows small writable marked = absurd unfit
unfit_for b s t (errors.Message text) unfit follows small writable marked = absurd unfit
unfit_for b s t (errors.TryAgain text) unfit follows small writable marked = absurd unfit
unfit_for b s t errors.EntryCompacted unfit follows small writable marked = absurd unfit
unfit_for b s t errors.EntryNotFound unfit follows small writable marked = absurd unfit
unfit_for b s t (errors.Other fault) unfit follows small writable marked = absurd unfit
unfit_for b s t errors.Failed unfit follows small writable marked = absurd unfit
unfit_for b s t errors.NumberRange unfit follows small writable marked = absurd unfit

unfit_turned : (q : ℕ × Request) (c : Change) (b : Batch) (error : Error) (s t : EngineState) (os : ℕ → State) → has_failed s ≡ false
    → ChangesEach (os q.0) q.1 c → SaysChange q.0 q.1 c b → record_len b.items b.entries < 2 ^ 56 → IsUnfit b s.tables error → t ≡ s
    → TurnedDown q error s t os
unfit_turned q c b error s t os alive each says small unfit same = record {
  alive = ap (λ (x : EngineState). has_failed x) same ∙ alive;
  later = subst (λ (x : EngineState). IsLater s.pipes.disk x.pipes.disk) (sym same) (later_same s.pipes.disk);
  holds = λ home m pending h. subst (λ (x : EngineState). EndsAt home x m pending) (sym same) (ends_same home s m pending h);
  why = λ home m pending W h means outlines.
      unwritten (unfit_for b s t error unfit
      (change_follows home s m pending W q.0 q.1 c b h means (each (W q.0) (sym (outlines q.0))) says)
      small says.writable (says_well q.0 q.1 c b says));
}

-- The pipes refused.

-- what is left where the engine lives on
refused_ends : (home : LogDirectories) (b : Batch) (m : LogMap) (pending : List LogRecordValue) (s t : EngineState) (error : Error) → (error ≡ errors.Failed → ⊥)
    → Leaves home b m pending s t error → EndsAt home t m pending
refused_ends home b m pending s t (errors.Io kind) lives h = ends_all home t m pending h.1
refused_ends home b m pending s t (errors.TryAgain text) lives h = ends_all home t m pending h.1
refused_ends home b m pending s t errors.NumberRange lives h = h
refused_ends home b m pending s t errors.Memory lives h = h
refused_ends home b m pending s t errors.Failed lives h = absurd (lives refl)
refused_ends home b m pending s t errors.Hole lives h = absurd h
refused_ends home b m pending s t errors.Full lives h = absurd h
refused_ends home b m pending s t (errors.InvalidArgument text) lives h = absurd h
refused_ends home b m pending s t (errors.Corruption text) lives h = absurd h
refused_ends home b m pending s t (errors.Codec fault) lives h = absurd h
refused_ends home b m pending s t (errors.Message text) lives h = absurd h
refused_ends home b m pending s t errors.EntryCompacted lives h = absurd h
refused_ends home b m pending s t errors.EntryNotFound lives h = absurd h
refused_ends home b m pending s t (errors.Other fault) lives h = absurd h

refused_why : (home : LogDirectories) (b : Batch) (m : LogMap) (pending : List LogRecordValue) (s t : EngineState) (error : Error) → (error ≡ errors.Failed → ⊥)
    → (error ≡ errors.NumberRange → HasLastNumber InAppend t.pipes) → Leaves home b m pending s t error → IsUnwrittenFor error s t
refused_why home b m pending s t (errors.Io kind) lives last h = h.0
refused_why home b m pending s t (errors.TryAgain text) lives last h = h.0
refused_why home b m pending s t errors.NumberRange lives last h = last refl
refused_why home b m pending s t errors.Memory lives last h = tt
refused_why home b m pending s t errors.Failed lives last h = absurd (lives refl)
refused_why home b m pending s t errors.Hole lives last h = absurd h
refused_why home b m pending s t errors.Full lives last h = absurd h
refused_why home b m pending s t (errors.InvalidArgument text) lives last h = absurd h
refused_why home b m pending s t (errors.Corruption text) lives last h = absurd h
refused_why home b m pending s t (errors.Codec fault) lives last h = absurd h
refused_why home b m pending s t (errors.Message text) lives last h = absurd h
refused_why home b m pending s t errors.EntryCompacted lives last h = absurd h
refused_why home b m pending s t errors.EntryNotFound lives last h = absurd h
refused_why home b m pending s t (errors.Other fault) lives last h = absurd h

refused_turned : (q : ℕ × Request) (b : Batch) (error : Error) (s t : EngineState) (os : ℕ → State) → PipesRefused b error s t → has_failed t ≡ false → TurnedDown q error s t os
refused_turned q b error s t os refused alive = record {
  alive = alive;
  later = refused.later;
  holds = λ home m pending h. refused_ends home b m pending s t error lives (refused.leaves home m pending h);
  why = λ home m pending W h means outlines. unwritten (refused_why home b m pending s t error lives (λ is. refused.range is home m pending h) (refused.leaves home m pending h));
}
  where
    lives : error ≡ errors.Failed → ⊥
    lives is = let failed : has_failed t ≡ true = refused.tells.1 is in cc

refused_broke : (q : ℕ × Request) (c : Change) (b : Batch) (error : Error) (s t : EngineState) (os : ℕ → State) → ChangesEach (os q.0) q.1 c
    → SaysChange q.0 q.1 c b → PipesRefused b error s t → has_failed t ≡ true → (error ≡ errors.Failed) × Broke q s t os
refused_broke q c b error s t os each says refused failed =
    let is : error ≡ errors.Failed = refused.tells.0 failed in (
      is,
      record {
        said = said_of b ∷ [];
        short = omega arith;
        failed = failed;
        later = refused.later;
        leads = λ m W means outlines.
            subst (λ (r : LogRecordValue). Means (taken m (r ∷ [])) (after_one W q)) (sym (says_record q.0 q.1 c b says)) (leads_by q c os each m W means outlines);
        leaves = λ home m pending h. subst (λ (e : Error). Leaves home b m pending s t e) is (refused.leaves home m pending h);
      },
    )

pub unwritten_requests : UnwrittenRequests
unwritten_requests q c b error s t os alive each says small (inl unfit) =
    inl (unfit_turned q c b error s t os alive each says small unfit.0 unfit.1)
unwritten_requests q c b error s t os alive each says small (inr (inl had)) = let failed = had.1 in absurd (cc)
unwritten_requests q c b error s t os alive each says small (inr (inr refused)) = elim (cases_Bool (has_failed t)) [
  | inl failed ↦ inr (refused_broke q c b error s t os each says refused failed)
  | inr lives ↦ inl (refused_turned q b error s t os refused lives)
]

-- Without a write.

pub unmade_requests_are_turned_down : UnmadeRequestsAreTurnedDown
unmade_requests_are_turned_down q s os alive = record {
  alive = alive;
  later = later_same s.pipes.disk;
  holds = λ home m pending h. ends_same home s m pending h;
  why = λ home m pending W h means outlines. no_memory refl;
}

pub unread_requests_are_turned_down : UnreadRequestsAreTurnedDown
unread_requests_are_turned_down q error s t os none = record {
  alive = ap (λ (x : EngineState). has_failed x) none.stays.same ∙ none.alive;
  later = subst (λ (x : EngineState). IsLater s.pipes.disk x.pipes.disk) (sym none.stays.same) (later_same s.pipes.disk);
  holds = λ home m pending h. ends_same home t m pending (none.stays.holds home m pending h);
  why = none.why;
}
