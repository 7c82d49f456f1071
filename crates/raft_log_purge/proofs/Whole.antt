-- Append is rewritten: its exits, put together of what each part told.
use Rattle.std.proofs.Common.{◌≡◌, ◌⊎◌, ◌<◌, ◌≤◌, ℕ, Bool, true, false, List, [], Option, Some, None, inl, inr, refl, sym, ap, subst, arith}
use Rattle.std.specs.Prelude.{Result, Ok, Err, IfErr, OnOk, MatchBool}
use Rattle.raft_log_model_laws.specs.Groups.{taken}
use Rattle.raft_log_fs.specs.Causes.{IsLater}
use Rattle.raft_log_record_base.specs.declared.errors.Error.{Error}
use Rattle.raft_log_record_base.specs.declared.errors.Error.TheVariants as errors
use Rattle.raft_log_machine_laws.specs.Calls.Which.{InAppend}
use Rattle.raft_log_memtable_index.specs.Shown.{Shown}
use Rattle.raft_log_memtables.specs.declared.mem_tables.MemTables.{MemTables}
use Rattle.raft_log_dual_pipes.specs.Pipes.{LogPipes, LogRecordValue, is_failed}
use Rattle.raft_log_dual_pipes.specs.Calls.{FailsToRotateQueue, FailsToSyncQueue, RotatesQueue, SyncsQueue, TellsFailure}
use Rattle.raft_log_dual_pipes.specs.Numbers.{EndsNumbers}
use Rattle.raft_log_purge_copy.specs.raft_log_engine_laws.specs.EngineState.{LogDirectories, LogMap, EngineState, has_failed}
use Rattle.raft_log_purge_copy.specs.raft_log_engine_laws.specs.Holding.{Represents, IsRecoverableAs}
use Rattle.raft_log_purge_copy.specs.raft_log_engine_laws.proofs.Public.{append_rotates, holds_runs, settled_held, synced_all, turn_refused, unsynced_left}
use Rattle.raft_log_purge_copy.specs.raft_log_engine_laws.specs.Settled.{HoldsSettled}
use Rattle.raft_log_purge_copy.specs.raft_log_engine_laws.specs.Quiet.{TurnLeavesHeld}
use Rattle.raft_log_dual_pipes.specs.LastFile.{last_of}
use Rattle.raft_log_purge_copy.specs.Groups.{StopsRewriting}
use Rattle.raft_log_purge_copy.specs.Marks.{CarriesMarks}
use Rattle.raft_log_purge_copy.specs.Moving.{IsRewrittenTo}
use Rattle.raft_log_purge_copy.specs.Parts.{PartIsRefused, Remains}
use Rattle.raft_log_purge_copy.specs.Rewriting.{OweNothing}
use Rattle.raft_log_purge_copy.proofs.Public.{alive_ok, later_on, owe_then, purge_reason_after, reason_after, reason_of_files, same_later, stays_on, sync_reason, tells_err, turn_reason}
use Rattle.raft_log_purge.specs.Append.{AreRewrittenTo, FailsToLoseTo, FailsToRewriteAppend, GoesOnBehindMarks, HasOneFile, LosesTo, PassesGate, RewritesAll, RewritesAndLoses, RewritesAppend, RewritesSynced, StopsGoingOn, ends_after, gate_of, up_to}
use Rattle.raft_log_purge.proofs.Past.{every}
use Rattle.raft_log_purge.proofs.OneFile.{begins_low, one_is_left, turned}

-- The gate.

pub gate_before_last : (watermark : Option ℕ) (gate : ℕ) (v : LogPipes) → gate ≡ gate_of watermark v → gate < last_of InAppend v → PassesGate watermark gate v v
gate_before_last watermark gate v is low = record { is = is; goes = inr (low, refl); alive = λ lived. lived; later = same_later v.disk }

pub at_most_last : (watermark : Option ℕ) (last : ℕ) → up_to watermark last ≤ last
at_most_last None last = omega arith
at_most_last (Some w) last = omega arith

pub gate_is_last : {A : Type 0} (x : A) (watermark : Option ℕ) (gate : ℕ) (v w : LogPipes) → gate ≡ gate_of watermark v → last_of InAppend v ≤ gate → TellsFailure (Ok x) w → RotatesQueue InAppend v w → IsLater v.disk w.disk
    → PassesGate watermark gate v w
gate_is_last {A} x watermark gate v w is high tells rotates later =
    let most = at_most_last watermark (last_of InAppend v) in
    record { is = is; goes = inl (omega (arith, is, high, most), rotates); alive = λ lived. alive_ok x w tells; later = later }

-- What is done behind the marks.

-- the tables stay through the sync
pub after_sync : (test : ℕ → Bool) (gate : ℕ) (s t : EngineState) (all : RewritesSynced test gate s t) → t.tables ≡ all.copied.tables
after_sync test gate s t all = ap (λ (e : EngineState). e.tables) all.same

all_past : (gate : ℕ) (s t : EngineState) → RewritesAll gate s t → AreRewrittenTo gate t
all_past gate s t all = subst (λ (v : ℕ → Shown). (g : ℕ) → IsRewrittenTo gate (v g)) (sym (after_sync every gate s t all)) (λ g. all.copies.whole g refl)

pub synced_owe_nothing : (test : ℕ → Bool) (gate : ℕ) (s t : EngineState) → RewritesSynced test gate s t → OweNothing s.tables → OweNothing t.tables
synced_owe_nothing test gate s t all owes = subst OweNothing (sym (after_sync test gate s t all)) (owe_then test gate s all.copied all.copies.part owes)

all_owe_nothing : (gate : ℕ) (s t : EngineState) → RewritesAll gate s t → OweNothing s.tables → OweNothing t.tables
all_owe_nothing gate s t all owes = synced_owe_nothing every gate s t all owes

pub stops_rewriting : (test : ℕ → Bool) (gate : ℕ) (error : Error) (s t : EngineState) → StopsRewriting test gate error s t → StopsGoingOn gate error s t
stops_rewriting test gate error s t stops = record {
  tells = stops.tells;
  later = stops.part.later;
  remains = λ owes home m h. stops.remains owes home m (settled_held home s m h);
  cause = λ low owes home m h. stops.cause owes home m (settled_held home s m h);
}

-- the log once all groups are rewritten
all_settled : (gate : ℕ) (s t : EngineState) → RewritesAll gate s t → OweNothing s.tables → (home : LogDirectories) (m : LogMap) → HoldsSettled home s m → HoldsSettled home t m
all_settled gate s t all owes home m h = all.settles owes home m (settled_held home s m h)

stops_losing : (gate : ℕ) (error : Error) (s mid t : EngineState) → RewritesAll gate s mid → FailsToLoseTo gate error mid t → StopsGoingOn gate error s t
stops_losing gate error s mid t all fails = record {
  tells = λ lived. fails.tells all.alive;
  later = later_on s.pipes.disk mid.pipes.disk t.pipes.disk all.later fails.later;
  remains = λ owes home m h. fails.remains (all_past gate s mid all) (all_owe_nothing gate s mid all owes) home m (all_settled gate s mid all owes home m h);
  cause = λ low owes home m h.
      (let still = (all.stays home h.state h.runs).1 in
      reason_after home m error s mid t all.later (reason_of_files home m error mid t (fails.cause (omega (arith, low, still)) home m (all_settled gate s mid all owes home m h))));
}

pub whole_not_lost : (gate : ℕ) (s mid t : EngineState) → RewritesAll gate s mid → (q : Result (Unit {0}) Error) → IfErr q (λ error. FailsToLoseTo gate error mid t) → IfErr q (λ error. StopsGoingOn gate error s t)
whole_not_lost gate s mid t all (Ok x) fails = tt
whole_not_lost gate s mid t all (Err e) fails = stops_losing gate e s mid t all fails

pub ends_with_marks : (exit : Option ℕ) (gate : ℕ) (m : MemTables) (s : EngineState) → ends_after 1 exit ≡ true → GoesOnBehindMarks exit gate m s s
ends_with_marks exit gate m s one = subst (λ (b : Bool). MatchBool b (s ≡ s) (MatchBool (ends_after 2 exit) (RewritesAll gate s s) (RewritesAndLoses gate m s s))) (sym one) refl

module _ (exit : Option ℕ) (gate : ℕ) (m : MemTables) (s : EngineState) (one : ends_after 1 exit ≡ false) where
  abbrev at_one : Bool → EngineState → Type 0 → Type 0
  at_one b t goes = MatchBool b (t ≡ s) goes

  pub ends_with_groups : (t : EngineState) → ends_after 2 exit ≡ true → RewritesAll gate s t → GoesOnBehindMarks exit gate m s t
  ends_with_groups t two all =
      subst (λ (b : Bool). at_one b t (MatchBool (ends_after 2 exit) (RewritesAll gate s t) (RewritesAndLoses gate m s t))) (sym one)
      (subst (λ (b : Bool). MatchBool b (RewritesAll gate s t) (RewritesAndLoses gate m s t)) (sym two) all)

  goes_whole_way : (mid t : EngineState) → ends_after 2 exit ≡ false → RewritesAll gate s mid → LosesTo gate m mid t → GoesOnBehindMarks exit gate m s t
  goes_whole_way mid t two all loses =
      subst (λ (b : Bool). at_one b t (MatchBool (ends_after 2 exit) (RewritesAll gate s t) (RewritesAndLoses gate m s t))) (sym one)
      (subst (λ (b : Bool). MatchBool b (RewritesAll gate s t) (RewritesAndLoses gate m s t)) (sym two) (mid, all, loses))

  pub whole_lost : (mid t : EngineState) → ends_after 2 exit ≡ false → RewritesAll gate s mid → (q : Result (Unit {0}) Error) → OnOk q (LosesTo gate m mid t) → OnOk q (GoesOnBehindMarks exit gate m s t)
  whole_lost mid t two all (Ok x) loses = goes_whole_way mid t two all loses
  whole_lost mid t two all (Err e) loses = tt

-- What is so however far it went.

-- no mark is owed where none was, whatever the log was, with nothing pending, it is so
record WentOn (s t : EngineState) : Type 0 where
  pub alive : has_failed s ≡ false → has_failed t ≡ false
  pub later : IsLater s.pipes.disk t.pipes.disk
  pub owes : OweNothing s.tables → OweNothing t.tables
  pub keeps : OweNothing s.tables → (home : LogDirectories) (log : LogMap) → HoldsSettled home s log → HoldsSettled home t log

went_nowhere : (s : EngineState) → WentOn s s
went_nowhere s = record { alive = λ lived. lived; later = same_later s.pipes.disk; owes = λ owes. owes; keeps = λ owes home log h. h }

went_through_groups : (gate : ℕ) (s t : EngineState) → RewritesAll gate s t → WentOn s t
went_through_groups gate s t all = record { alive = λ lived. all.alive; later = all.later; owes = all_owe_nothing gate s t all; keeps = all_settled gate s t all }

went_whole_way : (gate : ℕ) (m : MemTables) (s mid t : EngineState) → RewritesAll gate s mid → LosesTo gate m mid t → WentOn s t
went_whole_way gate m s mid t all loses = record {
  alive = λ lived. loses.alive all.alive;
  later = later_on s.pipes.disk mid.pipes.disk t.pipes.disk all.later loses.later;
  owes = λ owes. subst OweNothing (sym loses.same) (all_owe_nothing gate s mid all owes);
  keeps = λ owes home log h. loses.keeps (all_past gate s mid all) (all_owe_nothing gate s mid all owes) home log (all_settled gate s mid all owes home log h);
}

went_on_at : (one two : Bool) (gate : ℕ) (m : MemTables) (s t : EngineState) → MatchBool one (t ≡ s) (MatchBool two (RewritesAll gate s t) (RewritesAndLoses gate m s t)) → WentOn s t
went_on_at true two gate m s t same = subst (WentOn s) (sym same) (went_nowhere s)
went_on_at false true gate m s t all = went_through_groups gate s t all
went_on_at false false gate m s t (mid, all, loses) = went_whole_way gate m s mid t all loses

went_on : (exit : Option ℕ) (gate : ℕ) (m : MemTables) (s t : EngineState) → GoesOnBehindMarks exit gate m s t → WentOn s t
went_on exit gate m s t goes = went_on_at (ends_after 1 exit) (ends_after 2 exit) gate m s t goes

-- The whole.

-- Append's sync failed
pub append_unsynced : (error : Error) (s : EngineState) (w : LogPipes) → TellsFailure {A = Unit {0}} (Err error) w → error ≡ errors.Failed → IsLater s.pipes.disk w.disk → FailsToSyncQueue InAppend s.pipes w
    → FailsToRewriteAppend error s (record s { pipes = w })
append_unsynced error s w tells is later call = record {
  tells = λ lived. tells_err {A = Unit {0}} error w tells;
  later = later;
  remains = λ home log pending h. inr (is, inr (unsynced_left home s.pipes w log pending (holds_runs home s log pending h) call).1);
  cause = λ home log pending h. inl (sync_reason InAppend home (taken log pending) error s (record s { pipes = w }) h.state h.runs is call);
}

pub held_or_left : (home : LogDirectories) (m : LogMap) (t : EngineState) (error : Error) → Remains home m t error → Represents home t m [] ⊎ ((error ≡ errors.Failed) × IsRecoverableAs home t.pipes.disk m [])
held_or_left home m t errors.Failed h = inr (refl, h)
held_or_left home m t _ h = inl h

turned_or_left : (home : LogDirectories) (m : LogMap) (t : EngineState) (error : Error) → TurnLeavesHeld home m [] t error → Represents home t m [] ⊎ ((error ≡ errors.Failed) × IsRecoverableAs home t.pipes.disk m [])
turned_or_left home m t errors.Memory h = inl h
turned_or_left home m t errors.NumberRange h = inl h
turned_or_left home m t errors.Failed h = inr (refl, h)
turned_or_left home m t _ h = absurd h

-- with the batches on the map
pub on_the_map : (home : LogDirectories) (log : LogMap) (pending : List LogRecordValue) (t : EngineState) (error : Error) → Represents home t (taken log pending) [] ⊎ ((error ≡ errors.Failed) × IsRecoverableAs home t.pipes.disk (taken log pending) [])
    → Represents home t (taken log pending) [] ⊎ ((error ≡ errors.Failed) × (IsRecoverableAs home t.pipes.disk (taken log pending) [] ⊎ IsRecoverableAs home t.pipes.disk log pending))
on_the_map home log pending t error (inl held) = inl held
on_the_map home log pending t error (inr (is, left)) = inr (is, inl left)

module _ (s : EngineState) (synced : LogPipes) (syncs : SyncsQueue InAppend s.pipes synced) (later : IsLater s.pipes.disk synced.disk) (lives : is_failed synced ≡ false) where
  abbrev behind : EngineState
  behind = record s { pipes = synced }

  pub held_behind : (home : LogDirectories) (log : LogMap) (pending : List LogRecordValue) → Represents home s log pending → Represents home behind (taken log pending) []
  held_behind home log pending h = synced_all home s behind log pending h refl (inl refl) syncs

  -- Append didn't go on
  pub not_passed : (error : Error) (w : LogPipes) → TellsFailure {A = ℕ} (Err error) w → IsLater synced.disk w.disk → FailsToRotateQueue InAppend error synced w → EndsNumbers InAppend error synced
      → FailsToRewriteAppend error s (record s { pipes = w })
  not_passed error w tells after call ends = record {
    tells = λ lived. tells_err {A = ℕ} error w tells;
    later = later_on s.pipes.disk synced.disk w.disk later after;
    remains = λ home log pending h.
        on_the_map home log pending (record s { pipes = w }) error
        (turned_or_left home (taken log pending) (record s { pipes = w }) error
        (turn_refused InAppend home behind (record s { pipes = w }) (taken log pending) [] error (held_behind home log pending h) (record { tables = refl; cache = inl refl }) call));
    cause = λ home log pending h.
        (let there = held_behind home log pending h in
        inl (reason_after home (taken log pending) error s behind (record s { pipes = w }) later
        (reason_of_files home (taken log pending) error behind (record s { pipes = w }) (turn_reason InAppend home error behind (record s { pipes = w }) there.state there.runs call ends))));
  }

  module _ (watermark : Option ℕ) (gate : ℕ) (past : LogPipes) (passes : PassesGate watermark gate synced past) where
    abbrev beyond : EngineState
    beyond = record s { pipes = past }

    to_past : IsLater s.pipes.disk past.disk
    to_past = later_on s.pipes.disk synced.disk past.disk later passes.later

    held_beyond : (home : LogDirectories) (log : LogMap) (pending : List LogRecordValue) → Represents home s log pending → Represents home beyond (taken log pending) []
    held_beyond home log pending h = elim passes.goes as (λ _. Represents home beyond (taken log pending) []) [
      | inl turned ↦ append_rotates home behind beyond (taken log pending) [] (held_behind home log pending h) (record { tables = refl; cache = inl refl }) turned.1
      | inr still ↦ subst (λ (v : LogPipes). Represents home (record s { pipes = v }) (taken log pending) []) (sym still.1) (held_behind home log pending h)
    ]

    pub not_carried : (error : Error) (t : EngineState) → PartIsRefused error beyond t → FailsToRewriteAppend error s t
    not_carried error t refused = record {
      tells = λ lived. refused.tells (passes.alive lives);
      later = later_on s.pipes.disk past.disk t.pipes.disk to_past refused.later;
      remains = λ home log pending h. on_the_map home log pending t error (held_or_left home (taken log pending) t error (refused.remains home (taken log pending) (held_beyond home log pending h)));
      cause = λ home log pending h. purge_reason_after home (taken log pending) error s beyond t to_past (λ long. long) (refused.cause home (taken log pending) (held_beyond home log pending h));
    }

    module _ (carried : EngineState) (carries : CarriesMarks beyond carried) where
      -- marks that are carried are owed no more
      none_owed : OweNothing carried.tables
      none_owed = subst OweNothing (sym carries.tables) (λ g. (refl, refl, λ k. refl))

      settled_there : (home : LogDirectories) (log : LogMap) (pending : List LogRecordValue) → Represents home s log pending → HoldsSettled home carried (taken log pending)
      settled_there home log pending h = carries.settles home (taken log pending) (held_beyond home log pending h)

      to_carried : IsLater s.pipes.disk carried.pipes.disk
      to_carried = later_on s.pipes.disk past.disk carried.pipes.disk to_past carries.later

      -- the gate lies below Append's last file
      gate_within : (home : LogDirectories) (log : LogMap) (pending : List LogRecordValue) → Represents home s log pending → gate < last_of InAppend carried.pipes
      gate_within home log pending h =
          let there = held_beyond home log pending h in
          let still = (carries.stays home there.state there.runs).1 in
          let most = at_most_last watermark (last_of InAppend synced) in
          let is = passes.is in
          elim passes.goes as (λ _. gate < last_of InAppend carried.pipes) [
            | inl rotates ↦ (let before = held_behind home log pending h in
                let next = (turned synced past home before.state before.runs rotates.1).1 in omega (arith, is, most, next, still))
            | inr stays ↦ (let same : last_of InAppend past ≡ last_of InAppend synced = ap (last_of InAppend) stays.1 in let under = stays.0 in omega (arith, under, same, still))
          ]

      stopped : (error : Error) (t : EngineState) → StopsGoingOn gate error carried t → FailsToRewriteAppend error s t
      stopped error t stops = record {
        tells = λ lived. stops.tells carries.alive;
        later = later_on s.pipes.disk carried.pipes.disk t.pipes.disk to_carried stops.later;
        remains = λ home log pending h. on_the_map home log pending t error (stops.remains none_owed home (taken log pending) (settled_there home log pending h));
        cause = λ home log pending h.
            inl (reason_after home (taken log pending) error s carried t to_carried (stops.cause (gate_within home log pending h) none_owed home (taken log pending) (settled_there home log pending h)));
      }

      -- one file is left in Append's span
      one_left : gate ≡ last_of InAppend synced → (m : MemTables) (t : EngineState) → RewritesAndLoses gate m carried t → (home : LogDirectories) (log : LogMap) (pending : List LogRecordValue) → Represents home s log pending → HasOneFile t.pipes
      one_left is m t (mid, all, loses) home log pending h =
          let settled = all_settled gate carried mid all none_owed home (taken log pending) (settled_there home log pending h) in
          one_is_left gate loses.least home s log pending synced past mid.pipes t.pipes h syncs is passes.goes (stays_on past carried.pipes mid.pipes carries.stays all.stays) loses.stays
          (begins_low home mid (taken log pending) [] (settled_held home mid (taken log pending) settled)) loses.is.limited (loses.begins home (taken log pending) settled)

      done : (exit : Option ℕ) (m : MemTables) (t : EngineState) → GoesOnBehindMarks exit gate m carried t → RewritesAppend watermark exit m s t
      done exit m t goes =
          let went = went_on exit gate m carried t goes in record {
            synced = synced;
            syncs = syncs;
            gate = gate;
            past = past;
            passes = passes;
            carried = carried;
            carries = carries;
            goes_on = goes;
            alive = went.alive carries.alive;
            later = later_on s.pipes.disk carried.pipes.disk t.pipes.disk to_carried went.later;
            unowed = went.owes none_owed;
            settles = λ home log pending h. went.keeps none_owed home (taken log pending) (settled_there home log pending h);
            one = λ all_of_it to_the_end home log pending h. one_left (subst (λ w. gate ≡ gate_of w synced) all_of_it passes.is) m t (subst (λ x. GoesOnBehindMarks x gate m carried t) to_the_end goes) home log pending h;
          }

      pub whole_stopped : (t : EngineState) (q : Result (Unit {0}) Error) → IfErr q (λ error. StopsGoingOn gate error carried t) → IfErr q (λ error. FailsToRewriteAppend error s t)
      whole_stopped t (Ok x) stops = tt
      whole_stopped t (Err e) stops = stopped e t stops

      pub whole_done : (exit : Option ℕ) (m : MemTables) (t : EngineState) (q : Result (Unit {0}) Error) → OnOk q (GoesOnBehindMarks exit gate m carried t) → OnOk q (RewritesAppend watermark exit m s t)
      whole_done exit m t (Ok x) goes = done exit m t goes
      whole_done exit m t (Err e) goes = tt
