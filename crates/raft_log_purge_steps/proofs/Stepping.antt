-- A step of a purge: its exits, put together of what each part told.
use Rattle.std.proofs.Common.{◌≡◌, ◌⊎◌, ℕ, Bool, true, false, [], Option, Some, None, inl, inr, refl, sym, subst, ◌∙◌}
use Rattle.std.specs.Prelude.{Result, Ok, Err, IfErr, IfOk, OnErr}
use Rattle.std.proofs.lemmas.Bool.{false≢true}
use Rattle.raft_log_model_laws.specs.Groups.{taken}
use Rattle.raft_log_fs.specs.Causes.{IsLater}
use Rattle.raft_log_record_base.specs.declared.errors.Error.{Error}
use Rattle.raft_log_machine_laws.specs.Calls.Which.{InAppend, InRewrite}
use Rattle.raft_log_memtable.specs.declared.global_stats.GlobalStats.{GlobalStats}
use Rattle.raft_log_memtables.specs.declared.mem_tables.MemTables.{MemTables}
use Rattle.raft_log_dual_pipes.specs.Pipes.{LogPipes, is_failed}
use Rattle.raft_log_dual_pipes.specs.Calls.{FailsToRotateQueue, SyncsQueue, TellsFailure}
use Rattle.raft_log_dual_pipes.specs.Numbers.{EndsNumbers}
use Rattle.raft_log_purge_copy.specs.raft_log_engine_laws.specs.EngineState.{EngineState}
use Rattle.raft_log_purge_copy.specs.raft_log_engine_laws.specs.Holding.{Represents}
use Rattle.raft_log_purge_copy.specs.raft_log_engine_laws.proofs.Public.{settled_held}
use Rattle.raft_log_purge_copy.proofs.Public.{later_on}
use Rattle.raft_log_purge_policy.specs.declared.rounds.Rounds.{Rounds}
use Rattle.raft_log_purge_policy.specs.declared.thresholds.Thresholds.{Thresholds}
use Rattle.raft_log_purge_policy.specs.Watermarks.{TakesAppend, TakesRewrite}
use Rattle.raft_log_purge.specs.Append.{FailsToRewriteAppend}
use Rattle.raft_log_purge.specs.Expired.{FailsToPurgeAppend}
use Rattle.raft_log_purge.specs.RewriteQueue.{FailsToRewriteRewrite}
use Rattle.raft_log_purge.specs.declared.expired_files.PurgeCounts.{PurgeCounts}
use Rattle.raft_log_purge.specs.ExpiredFiles.{FreesFirst}
use Rattle.raft_log_purge.proofs.Public.{failed_after_freeing, freed_well, goes_nowhere, goes_on, held_behind, held_turned, not_freed, not_restated, not_turned, GoesWell}
use Rattle.raft_log_purge_steps.specs.declared.step.PurgeStep.{PurgeStep}
use Rattle.raft_log_purge_steps.specs.Compacting.{BeginsCompaction, GoesOnCompacting, StopsCompacting}
use Rattle.raft_log_purge_steps.specs.Laws.{IsPurged, LastStepEndsAPurge}
use Rattle.raft_log_purge_steps.specs.Part.{PurgesPart}
use Rattle.raft_log_purge_steps.specs.Steps.{BeginsIfDue, CountsIfDue, PurgesIfDue, PurgesStep, RestsIfDone, StepsAnew, StepsOn, StopsAnew, StopsOn}
use Rattle.raft_log_purge_steps.proofs.Parting.{last_part}

-- Each part, if it succeeds, keeps the log with nothing pending.

continued_well : (file budget : ℕ) (from to : Option ℕ) (before after : MemTables) (old new : PurgeCounts) (step : PurgeStep) (s t : EngineState) → GoesOnCompacting file budget from to before after old new step s t → GoesWell s t
continued_well file budget from to before after old new step s t (inl goes) = record {
  alive = λ lived. goes.restates.alive;
  later = goes.restates.later;
  holds = λ home log h. settled_held home t log (goes.restates.settles home log h);
}
continued_well file budget from to before after old new step s t (inr none) = record {
  alive = λ lived. none.ends.deletes.alive;
  later = none.ends.deletes.later;
  holds = λ home log h. settled_held home t log (none.ends.deletes.settles home log h);
}

began_well : (hold_back : LogPipes → Option ℕ → Type 0) (thresholds : Thresholds) (to : Option ℕ) (before after : MemTables) (old new : PurgeCounts) (step : PurgeStep) (s t : EngineState) → BeginsIfDue hold_back thresholds to before after old new step s t → GoesWell s t
began_well hold_back thresholds to before after old new step s t due =
    let b = due.begins in
    goes_on s due.freed t (freed_well hold_back thresholds old.stats before s due.freed due.frees) (record {
      alive = λ lived. b.alive;
      later = b.later;
      holds = λ home log h. subst (λ (e : EngineState). Represents home e log []) (sym due.same) (held_turned due.freed t.pipes b.turns b.later b.alive home log h);
    })

part_well : (held : Option ℕ) (budget : ℕ) (before after : MemTables) (old new : Rounds) (step : PurgeStep) (s t : EngineState) → PurgesPart held budget before after old new step s t → GoesWell s t
part_well held budget before after old new step s t p = record {
  alive = λ lived. p.rewrites.alive;
  later = later_on s.pipes.disk p.freed.pipes.disk t.pipes.disk p.deletes.later p.rewrites.later;
  holds = λ home log h. settled_held home t log (p.rewrites.settles home log (p.deletes.keeps home log h));
}

module _ (hold_back : LogPipes → Option ℕ → Type 0) (thresholds : Thresholds) (budget : ℕ) where
  anew_well : (from to : Option ℕ) (before after : MemTables) (old new : PurgeCounts) (step : PurgeStep) (s t : EngineState)
      → BeginsIfDue hold_back thresholds to before after old new step s t ⊎ (PurgesIfDue hold_back thresholds budget from to before after old new step s t ⊎ RestsIfDone thresholds from to before after old new step s t) → GoesWell s t
  anew_well from to before after old new step s t (inl begins) = began_well hold_back thresholds to before after old new step s t begins
  anew_well from to before after old new step s t (inr (inl part)) = part_well part.held budget before after old.rounds new.rounds step s t part.purges
  anew_well from to before after old new step s t (inr (inr rests)) = subst (GoesWell s) (sym rests.same) (goes_nowhere s)

  on_well : (from to : Option ℕ) (before after : MemTables) (old new : PurgeCounts) (step : PurgeStep) (s t : EngineState) → StepsOn hold_back thresholds budget from to before after old new step s t → GoesWell s t
  on_well (Some file) to before after old new step s t goes = continued_well file budget (Some file) to before after old new step s t goes
  on_well None to before after old new step s t anew = anew_well None to before after anew.counted new step s t anew.does

-- What the file of the compaction that is under way says of the step.

module _ (hold_back : LogPipes → Option ℕ → Type 0) (thresholds : Thresholds) (budget : ℕ) (from to : Option ℕ) (before after : MemTables) (old new : PurgeCounts) (s t : EngineState) (q : Result PurgeStep Error) where
  pub on_some : (file : ℕ) → from ≡ Some file → IfOk q (λ step. GoesOnCompacting file budget from to before after old new step s t) → IfOk q (λ step. StepsOn hold_back thresholds budget from to before after old new step s t)
  on_some file is =
      subst (λ (f : Option ℕ). IfOk q (λ step. GoesOnCompacting file budget f to before after old new step s t) → IfOk q (λ step. StepsOn hold_back thresholds budget f to before after old new step s t)) (sym is) (λ goes. goes)

  pub on_none : from ≡ None → IfOk q (λ step. StepsAnew hold_back thresholds budget from to before after old new step s t) → IfOk q (λ step. StepsOn hold_back thresholds budget from to before after old new step s t)
  on_none is =
      subst (λ (f : Option ℕ). IfOk q (λ step. StepsAnew hold_back thresholds budget f to before after old new step s t) → IfOk q (λ step. StepsOn hold_back thresholds budget f to before after old new step s t)) (sym is) (λ anew. anew)

module _ (thresholds : Thresholds) (budget : ℕ) (from to : Option ℕ) (before : MemTables) (old new : PurgeCounts) (s t : EngineState) (q : Result PurgeStep Error) where
  pub stopped_some : (file : ℕ) → from ≡ Some file → OnErr q (StopsCompacting file budget from to before old new s t) → OnErr q (StopsOn thresholds budget from to before old new s t)
  stopped_some file is = subst (λ (f : Option ℕ). OnErr q (StopsCompacting file budget f to before old new s t) → OnErr q (StopsOn thresholds budget f to before old new s t)) (sym is) (λ stops. stops)

  pub stopped_none : from ≡ None → OnErr q (StopsAnew thresholds from to before old new s) → OnErr q (StopsOn thresholds budget from to before old new s t)
  stopped_none is = subst (λ (f : Option ℕ). OnErr q (StopsAnew thresholds f to before old new s) → OnErr q (StopsOn thresholds budget f to before old new s t)) (sym is) (λ stops. stops)

-- After Append was synced.

module _ (s : EngineState) (synced : LogPipes) (syncs : SyncsQueue InAppend s.pipes synced) (later : IsLater s.pipes.disk synced.disk) (lives : is_failed synced ≡ false) where
  abbrev behind : EngineState
  behind = record s { pipes = synced }

  step_done : (hold_back : LogPipes → Option ℕ → Type 0) (thresholds : Thresholds) (budget : ℕ) (from to : Option ℕ) (before after : MemTables) (old new : PurgeCounts) (step : PurgeStep) (t : EngineState)
      → StepsOn hold_back thresholds budget from to before after old new step behind t → PurgesStep hold_back thresholds budget from to before after old new step s t
  step_done hold_back thresholds budget from to before after old new step t does =
      let well = on_well hold_back thresholds budget from to before after old new step behind t does in record {
        synced = synced;
        syncs = syncs;
        does = does;
        alive = well.alive lives;
        later = later_on s.pipes.disk synced.disk t.pipes.disk later well.later;
        holds = λ home log pending h. well.holds home (taken log pending) (held_behind s synced syncs later lives home log pending h);
      }

  pub whole_step : (q : Result PurgeStep Error) (hold_back : LogPipes → Option ℕ → Type 0) (thresholds : Thresholds) (budget : ℕ) (from to : Option ℕ) (before after : MemTables) (old new : PurgeCounts) (t : EngineState)
      → IfOk q (λ step. StepsOn hold_back thresholds budget from to before after old new step behind t) → IfOk q (λ step. PurgesStep hold_back thresholds budget from to before after old new step s t)
  whole_step (Ok step) hold_back thresholds budget from to before after old new t does = step_done hold_back thresholds budget from to before after old new step t does
  whole_step (Err e) hold_back thresholds budget from to before after old new t does = tt

  pub whole_unrestated : (t : EngineState) (q : Result PurgeStep Error) → IfErr q (λ error. FailsToRewriteRewrite error behind t) → IfErr q (λ error. FailsToRewriteAppend error s t)
  whole_unrestated t (Ok x) fails = tt
  whole_unrestated t (Err e) fails = not_restated s synced syncs later lives e t fails

  pub whole_unpurged : (t : EngineState) (q : Result PurgeStep Error) → IfErr q (λ error. FailsToPurgeAppend error behind t) → IfErr q (λ error. FailsToRewriteAppend error s t)
  whole_unpurged t (Ok x) fails = tt
  whole_unpurged t (Err e) fails = not_freed s synced syncs later lives e t fails

-- a compaction hasn't begun
pub not_begun : (error : Error) (s t : EngineState) → FailsToRewriteRewrite error s t → FailsToPurgeAppend error s t
not_begun error s t fails = record {
  tells = fails.tells;
  later = fails.later;
  remains = fails.remains;
  cause = λ home log h. inl (fails.cause home log h);
}

-- The parts of a step that finds no compaction under way.

pub whole_not_begun : (hold_back : LogPipes → Option ℕ → Type 0) (thresholds : Thresholds) (stats : GlobalStats) (m : MemTables) (s freed : EngineState) → FreesFirst hold_back thresholds stats m s freed → (w : LogPipes) (q : Result PurgeStep Error) → IsLater freed.pipes.disk w.disk → OnErr q (TellsFailure q w)
    → IfErr q (λ error. FailsToRotateQueue InRewrite error freed.pipes w) → IfErr q (λ error. EndsNumbers InRewrite error freed.pipes) → IfErr q (λ error. FailsToPurgeAppend error s (record freed { pipes = w }))
whole_not_begun hold_back thresholds stats m s freed frees w (Ok step) later tells call ends = tt
whole_not_begun hold_back thresholds stats m s freed frees w (Err e) later tells call ends =
    let turned = record freed { pipes = w } in
    failed_after_freeing hold_back thresholds stats m s freed frees e turned (not_begun e freed turned (not_turned {A = PurgeStep} e freed w tells later call ends))

module _ (hold_back : LogPipes → Option ℕ → Type 0) (thresholds : Thresholds) (budget : ℕ) (from : Option ℕ) (before : MemTables) (old counted : PurgeCounts) (s : EngineState) (counts : CountsIfDue thresholds before old counted s.pipes) where
  pub whole_begun : (freed : EngineState) → FreesFirst hold_back thresholds counted.stats before s freed → (to : Option ℕ) (w : LogPipes) (q : Result PurgeStep Error) → TakesRewrite thresholds counted.stats s.pipes → IfOk q (λ step. BeginsCompaction to step freed.pipes w)
      → IfOk q (λ step. StepsAnew hold_back thresholds budget from to before before old counted step s (record freed { pipes = w }))
  whole_begun freed frees to w (Ok step) due begins = record { counted = counted; counts = counts; does = inl (record { due = due; freed = freed; frees = frees; begins = begins; same = refl; tables = refl; counts = refl }) }
  whole_begun freed frees to w (Err e) due begins = tt

  pub rests : (step : PurgeStep) → (TakesRewrite thresholds counted.stats s.pipes → ⊥) → (TakesAppend thresholds s.pipes → ⊥) → step.answered.items ≡ [] → step.more ≡ false
      → StepsAnew hold_back thresholds budget from from before before old counted step s s
  rests step none neither asked done = record {
    counted = counted;
    counts = counts;
    does = inr (inr (record { none = none; neither = neither; same = refl; tables = refl; counts = refl; still = refl; asked = asked; done = done }));
  }

  pub whole_parted : (after : MemTables) (new : PurgeCounts) (t : EngineState) (q : Result PurgeStep Error) (held : Option ℕ) → (TakesRewrite thresholds counted.stats s.pipes → ⊥) → TakesAppend thresholds s.pipes → hold_back s.pipes held → new.stats ≡ counted.stats
      → IfOk q (λ step. PurgesPart held budget before after counted.rounds new.rounds step s t) → IfOk q (λ step. StepsAnew hold_back thresholds budget from from before after old new step s t)
  whole_parted after new t (Ok step) held none due told stats purges = record {
    counted = counted;
    counts = counts;
    does = inr (inl (record { none = none; due = due; held = held; told = told; purges = purges; stats = stats; still = refl }));
  }
  whole_parted after new t (Err e) held none due told stats purges = tt

-- The last step.

both : (b : Bool) {C : Type 0} → b ≡ true → b ≡ false → C
both b holds fails = absurd (false≢true (sym fails ∙ holds))

-- what is known where no more is due
record IsLast (hold_back : LogPipes → Option ℕ → Type 0) (thresholds : Thresholds) (from to : Option ℕ) (before after : MemTables) (old new : PurgeCounts) (step : PurgeStep) (v : LogPipes) (s t : EngineState) : Type 0 where
  pub none : from ≡ None
  pub still : to ≡ None
  pub counted : PurgeCounts
  pub counts : CountsIfDue thresholds before old counted v
  pub is : IsPurged hold_back thresholds before after counted new step v s t

module _ (hold_back : LogPipes → Option ℕ → Type 0) (thresholds : Thresholds) (budget : ℕ) (v : LogPipes) (s t : EngineState) where
  abbrev there : EngineState
  there = record s { pipes = v }

  last_anew : (from to : Option ℕ) (before after : MemTables) (counted new : PurgeCounts) (step : PurgeStep) → step.more ≡ false
      → BeginsIfDue hold_back thresholds to before after counted new step there t ⊎ (PurgesIfDue hold_back thresholds budget from to before after counted new step there t ⊎ RestsIfDone thresholds from to before after counted new step there t)
      → (to ≡ from) × IsPurged hold_back thresholds before after counted new step v s t
  last_anew from to before after counted new step done (inl begins) = both step.more begins.begins.more done
  last_anew from to before after counted new step done (inr (inl part)) =
      let all = last_part part.held budget before after counted.rounds new.rounds step there t part.purges done in (
        part.still,
        record {
          undue = part.none;
          purged = inr (part.held, part.told, all);
          past = λ due g picked. all.rewrites.past g picked;
        },
      )
  last_anew from to before after counted new step done (inr (inr rests)) = (
    rests.still,
    record {
      undue = rests.none;
      purged = inl rests.neither;
      past = λ due g picked. absurd (rests.neither due);
    },
  )

  no_more : (file : ℕ) (from to : Option ℕ) (before after : MemTables) (old new : PurgeCounts) (step : PurgeStep) {C : Type 0} → step.more ≡ false → GoesOnCompacting file budget from to before after old new step there t → C
  no_more file from to before after old new step done (inl goes) = both step.more goes.more done
  no_more file from to before after old new step done (inr none) = both step.more none.ends.more done

  last_on : (from to : Option ℕ) (before after : MemTables) (old new : PurgeCounts) (step : PurgeStep) → step.more ≡ false → StepsOn hold_back thresholds budget from to before after old new step there t
      → IsLast hold_back thresholds from to before after old new step v s t
  last_on (Some file) to before after old new step done goes = no_more file (Some file) to before after old new step done goes
  last_on None to before after old new step done anew =
      let (still, is) = last_anew None to before after anew.counted new step done anew.does in
      record { none = refl; still = still; counted = anew.counted; counts = anew.counts; is = is }

pub last_step_ends_a_purge : (hold_back : LogPipes → Option ℕ → Type 0) → LastStepEndsAPurge hold_back
last_step_ends_a_purge hold_back thresholds budget from to before after old new step s t done ends =
    let last = last_on hold_back thresholds budget done.synced s t from to before after old new step ends done.does in
    (last.none, last.still, last.counted, last.counts, last.is)
