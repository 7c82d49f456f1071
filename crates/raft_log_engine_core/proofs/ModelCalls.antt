-- What the calls of an engine do is what the model log does: writes, syncs, compactions, purges and closes.
use Rattle.std.proofs.Common.{◌≡◌, ◌⊎◌, ◌↔◌, ◌-◌, ℕ, Bool, true, false, List, [], ◌∷◌, ◌++◌, Option, None, Some, inl, inr, refl, sym, ap, subst, ◌∙◌, if◌then◌else◌, length, nat_lt}
use Rattle.std.specs.Prelude.{min, IfErr, IfOk, IsTrue, OnOk, Result, Ok, Err, unwrap_or}
use Rattle.std.specs.Global.{Vec}
use Rattle.std.proofs.lemmas.Bool.{false≢true}
use Rattle.raft_log_model_laws.specs.Groups.{taken}
use Rattle.raft_log_model_laws.specs.Item.{items_of}
use Rattle.raft_log_model_laws.specs.Item.Record.{Plain}
use Rattle.raft_log_fs.specs.Disk.{Disk}
use Rattle.raft_log_record_base.specs.declared.errors.Error.{Error}
use Rattle.raft_log_record_base.specs.declared.errors.Error.TheVariants as errors
use Rattle.raft_log_record_items.specs.declared.item.LogItem.{LogItem}
use Rattle.raft_log_record_items.specs.declared.command.Command.TheVariants as commands
use Rattle.raft_log_record_items.specs.declared.entry.EntryIndex.{EntryIndex}
use Rattle.raft_log_record_frames.proofs.Public.{keeps_mark, no_mark_key}
use Rattle.raft_log_record_frames.specs.declared.marking.Marking.{Marking}
use Rattle.raft_log_record_frames.specs.ItemBatch.{command_item}
use Rattle.raft_log_record_frames.specs.Meaning.{IsUsers, marked, record_of, tagged, tagged_items, unless_mark}
use Rattle.raft_log_record_batches.specs.Batch.{Batch}
use Rattle.raft_log_record_batches.specs.Places.{entry_bytes}
use Rattle.raft_log_memtable_index.specs.Shown.{Shown}
use Rattle.raft_log_memtable.specs.Reads.{first_of}
use Rattle.raft_log_memtables.specs.declared.mem_tables.MemTables.{MemTables}
use Rattle.raft_log_memtables.specs.Views.{view_of}
use Rattle.raft_log_dual_pipes.specs.ClosingCalls.{ClosesLog, ClosesSettled}
use Rattle.raft_log_dual_pipes.specs.Pipes.{LogPipes, LogRecordValue}
use Rattle.raft_log_purge_policy.specs.declared.thresholds.Thresholds.{Thresholds}
use Rattle.raft_log_purge.specs.declared.expired_files.PurgeCounts.{PurgeCounts}
use Rattle.raft_log_purge.specs.Append.{FailsToRewriteAppend, RewritesAppend}
use Rattle.raft_log_purge.specs.Counted.{PurgesAndCounts}
use Rattle.raft_log_purge.specs.ExpiredFiles.{FailsToPurgeExpired, SyncsAndRewrites}
use Rattle.raft_log_purge_steps.specs.Steps.{PurgesStep}
use Rattle.raft_log_purge_steps.specs.declared.step.PurgeStep.{PurgeStep}
use Rattle.raft_log_purge.specs.raft_log_purge_copy.specs.Parts.{Remains}
use Rattle.raft_log_purge.specs.raft_log_purge_copy.specs.Stale.{FailsToPurgeAll, PurgesAllStale}
use Rattle.raft_log_purge.specs.raft_log_engine_laws.proofs.Public.{closed_engines_are_durable, closed_engines_are_left, settled_held, tables_tell}
use Rattle.raft_log_purge.specs.raft_log_engine_laws.specs.EngineState.{LogDirectories, LogMap, EngineState, has_failed, said_of}
use Rattle.raft_log_purge.specs.raft_log_engine_laws.specs.Fetching.{HadFailed}
use Rattle.raft_log_purge.specs.raft_log_engine_laws.specs.Holding.{EndsAt, Represents, IsRecoverableAs, RunsAs}
use Rattle.raft_log_purge.specs.raft_log_engine_laws.specs.Reading.{IsFirstIn}
use Rattle.raft_log_purge.specs.raft_log_engine_laws.specs.Settled.{HoldsSettled}
use Rattle.raft_log_purge.specs.raft_log_engine_laws.specs.Syncing.{FailsToSyncAppend, NotSynced, SyncsAppend}
use Rattle.raft_log_purge.specs.raft_log_engine_laws.specs.Writing.{IsUnfit, Leaves, NotWritten, WritesBytes}
use Rattle.raft_log_world.specs.Model.{FailsAt, ModelLog, RunsOn, compacts}
use Rattle.raft_log_world.specs.Model.ModelLog.{left, running, failed}
use Rattle.raft_log_engine_core.specs.Compacting.{CompactsTo, FailsToCompact, SaysCompact, entries_below}
use Rattle.raft_log_engine_core.specs.ModelCalls.{ClosesModel, FollowsModel, IsEngineLog, ModelCompacts, ModelPurges, ModelSyncs, ModelWrites}

-- An engine that runs, and one that has failed.

-- an engine that runs hasn't failed
pub alive : (home : LogDirectories) (e : EngineState) (m : LogMap) (pending : List LogRecordValue) → Represents home e m pending → has_failed e ≡ false
alive home e m pending h =
    let one : e.pipes.append.failed ≡ false = h.runs.append.alive in
    let other : e.pipes.rewrite.failed ≡ false = h.runs.rewrite.alive in
    rw (one, other) refl

pub both : (s : EngineState) → has_failed s ≡ false → has_failed s ≡ true → ⊥
both s lives fails = false≢true (sym lives ∙ fails)

-- what a call does to a log with these contents and pending batches
abbrev Does : Type 0 → Type 1
Does A = Result A Error → LogMap → List LogRecordValue → ModelLog → Type 0

-- a call of an engine that ran: which log it is now
abbrev Goes : {A : Type 0} → Does A → Result A Error → LogDirectories → LogMap → List LogRecordValue → EngineState → Type 0
Goes does result home m pending t = (next : ModelLog) × does result m pending next × IsEngineLog home t next

-- a call of an engine that had failed before
pub failed_before : {A : Type 0} (does : Does A) (s t : EngineState) (error : Error) → HadFailed s t error → FollowsModel does (Err error) s t
failed_before does s t error had = record {
  runs = λ home m pending h. absurd (both s (alive home s m pending h) had.1);
  fails = λ fails. (ap Err had.0, had.2);
}

pub had_failed : {A : Type 0} (does : Does A) (s : EngineState) → has_failed s ≡ true → FollowsModel does (Err errors.Failed) s s
had_failed does s fails = failed_before does s s errors.Failed (refl, fails, refl)

-- a call of one that hadn't
pub lived : {A : Type 0} (does : Does A) (result : Result A Error) (s t : EngineState) → has_failed s ≡ false
    → ((home : LogDirectories) (m : LogMap) (pending : List LogRecordValue) → Represents home s m pending → Goes does result home m pending t) → FollowsModel does result s t
lived does result s t lives goes = record { runs = goes; fails = λ fails. absurd (both s lives fails) }

-- Writes.

-- a batch without items says nothing
says_nothing : (b : Batch) → b.items ≡ [] → items_of (said_of b) ≡ []
says_nothing b none = ap (λ (l : List LogItem). items_of (unwrap_or (record_of (entry_bytes b.entries) l) (Plain []))) none

-- what is there after a write that asked for no sync
ends : (home : LogDirectories) (t : EngineState) (m : LogMap) (batches : List LogRecordValue) → EndsAt home t m batches → (next : ModelLog) × RunsOn m batches next × IsEngineLog home t next
ends home t m batches e = (running (taken m e.done) e.rest, record { done = e.done; rest = e.rest; splits = e.splits; is = refl }, e.holds)

-- what is there where nothing changed
still : (home : LogDirectories) (t : EngineState) (m : LogMap) (batches : List LogRecordValue) → Represents home t m batches → (next : ModelLog) × RunsOn m batches next × IsEngineLog home t next
still home t m batches h = (running m batches, record { done = []; rest = batches; splits = refl; is = refl }, h)

-- what is there where all were synced
all_of : (home : LogDirectories) (t : EngineState) (m : LogMap) (batches : List LogRecordValue) → Represents home t (taken m batches) [] → (next : ModelLog) × RunsOn m batches next × IsEngineLog home t next
all_of home t m batches h = (running (taken m batches) [], record { done = batches; rest = []; splits = append_none batches; is = refl }, h)
  where
    append_none : (l : List LogRecordValue) → l ++ [] ≡ l
    append_none [] = refl
    append_none (x ∷ xs) = ap (λ (l : List LogRecordValue). x ∷ l) (append_none xs)

module _ (b : Batch) (sync : Bool) (s t : EngineState) (lives : has_failed s ≡ false) where
  written_so : (asked : Bool) (len : ℕ) (home : LogDirectories) (m : LogMap) (pending : List LogRecordValue) → Represents home s m pending → WritesBytes b asked len s t → Goes (ModelWrites b asked) (Ok len) home m pending t
  written_so true len home m pending h (inl nothing) = (running (taken m pending) [], inr (says_nothing b nothing.0, refl), nothing.2.holds home m pending h)
  written_so false len home m pending h (inl nothing) =
      let (next, on, is) = still home t m pending (subst (λ (e : EngineState). Represents home e m pending) (sym nothing.2.0) h) in
      (next, inr (says_nothing b nothing.0, on), is)
  written_so true len home m pending h (inr wrote) = (running (taken m (pending ++ said_of b ∷ [])) [], inl refl, wrote.1.synced refl home m pending h)
  written_so false len home m pending h (inr wrote) =
      let (next, on, is) = ends home t m (pending ++ said_of b ∷ []) (wrote.1.holds home m pending h) in
      (next, inl on, is)

  pub written : (len : ℕ) → WritesBytes b sync len s t → FollowsModel (ModelWrites b sync) (Ok len) s t
  written len w = lived (ModelWrites b sync) (Ok len) s t lives (λ home m pending h. written_so sync len home m pending h w)

  unfit_so : (error : Error) (home : LogDirectories) (m : LogMap) (pending : List LogRecordValue) → Represents home t m pending → IsUnfit b s.tables error → Goes (ModelWrites b sync) (Err error) home m pending t
  unfit_so errors.Failed home m pending h unfit = absurd unfit
  unfit_so _ home m pending h unfit = still home t m pending h

  module _ (home : LogDirectories) (m : LogMap) (pending : List LogRecordValue) where
    fell : has_failed t ≡ true → IsRecoverableAs home t.pipes.disk m pending ⊎ IsRecoverableAs home t.pipes.disk m (pending ++ said_of b ∷ []) → Goes (ModelWrites b sync) (Err errors.Failed) home m pending t
    fell fails (inl is) = (failed m pending, inl refl, (fails, is))
    fell fails (inr is) = (failed m (pending ++ said_of b ∷ []), inr refl, (fails, is))

    left_so : (error : Error) → (error ≡ errors.Failed → has_failed t ≡ true) → Leaves home b m pending s t error → Goes (ModelWrites b sync) (Err error) home m pending t
    left_so (errors.Io kind) fails l = all_of home t m pending l.1
    left_so (errors.TryAgain text) fails l = all_of home t m pending l.1
    left_so errors.NumberRange fails l = ends home t m pending l
    left_so errors.Memory fails l = ends home t m pending l
    left_so errors.Failed fails l = fell (fails refl) l.1
    left_so _ fails l = absurd l

    not_written_so : (error : Error) → Represents home s m pending → NotWritten b error s t → Goes (ModelWrites b sync) (Err error) home m pending t
    not_written_so error h (inl unfit) = unfit_so error home m pending (subst (λ (e : EngineState). Represents home e m pending) (sym unfit.1) h) unfit.0
    not_written_so error h (inr (inl had)) = absurd (both s lives had.1)
    not_written_so error h (inr (inr refuses)) = left_so error refuses.tells.1 (refuses.leaves home m pending h)

  pub not_written : (error : Error) → NotWritten b error s t → FollowsModel (ModelWrites b sync) (Err error) s t
  not_written error n = lived (ModelWrites b sync) (Err error) s t lives (λ home m pending h. not_written_so home m pending error h n)

-- Syncs.

runs_as : (home : LogDirectories) (s : EngineState) (m : LogMap) (pending : List LogRecordValue) → Represents home s m pending → RunsAs home s.pipes m pending
runs_as home s m pending h = record { state = h.state; view = view_of s.tables h.map; runs = h.runs; at = h.at }

-- one that failed, with `Failed`
not_synced : (s t : EngineState) → ((has_failed s ≡ true) × (t ≡ s)) ⊎ FailsToSyncAppend s t → FollowsModel ModelSyncs (Err errors.Failed) s t
not_synced s t (inl had) = failed_before ModelSyncs s t errors.Failed (refl, had.0, had.1)
not_synced s t (inr f) =
    lived ModelSyncs (Err errors.Failed) s t f.lived
    (λ home m pending h. (failed m pending, refl, (f.failed, (f.leaves home m pending (runs_as home s m pending h)).1)))

pub synced : (r : Result (Unit {0}) Error) (s t : EngineState) → OnOk r (SyncsAppend s t) → IfErr r (λ error. NotSynced error s t) → FollowsModel ModelSyncs r s t
synced (Ok done) s t y n = lived ModelSyncs (Ok done) s t y.lived (λ home m pending h. (running (taken m pending) [], refl, y.holds home m pending h))
synced (Err error) s t y n = subst (λ (e : Error). FollowsModel ModelSyncs (Err e) s t) (sym n.0) (not_synced s t n.1)

-- Compactions.

none_below : (v : Shown) (index : ℕ) → entries_below v index ≡ None → first_of v ≡ None
none_below v index is = by (nat_lt 0 (length v.places)) is
  where
    by : (b : Bool) → (if b then Some (min (index - v.first) (length v.places)) else None) ≡ None → (if b then Some v.first else None) ≡ None
    by true some = absurd (let never : ⊥ = cc in never)
    by false none = refl

-- what a batch says that has one user's item
one_said : (entry : EntryIndex → List ℕ) (x : LogItem) → IsUsers x.content → ◌≡◌ {A = LogRecordValue} (unwrap_or (record_of entry (x ∷ [])) (Plain [])) (Plain (tagged entry x ∷ []))
one_said entry x own =
    ap (λ (m : Marking). unwrap_or (marked m (tagged_items entry (x ∷ []))) (Plain [])) (keeps_mark [] x own)
    ∙ ap (λ (b : Bool). Plain (unless_mark b (tagged entry x) [])) (no_mark_key x own)

said_compact : (group index : ℕ) (b : Batch) → SaysCompact group index b → said_of b ≡ compacts group index
said_compact group index b says =
    ap (λ (l : List LogItem). unwrap_or (record_of (entry_bytes b.entries) l) (Plain [])) says.items
    ∙ one_said (entry_bytes b.entries) (command_item group (commands.Compact index)) tt

-- what a write of the batch leaves that fails is what the compaction leaves
as_compact : (b : Batch) (group index : ℕ) (error : Error) (m : LogMap) (pending : List LogRecordValue) (next : ModelLog) → said_of b ≡ compacts group index → ModelWrites b false (Err error) m pending next
    → ModelCompacts group index (Err error) m pending next
as_compact b group index errors.Failed m pending next says wrote = subst (λ (r : LogRecordValue). FailsAt m pending r next) says wrote
as_compact b group index _ m pending next says wrote = wrote

module _ (s t : EngineState) (group index : ℕ) where
  compacted : (count : ℕ) → CompactsTo group index count s t → FollowsModel (ModelCompacts group index) (Ok count) s t
  compacted count (inl (none, zero, lives, same)) =
      lived (ModelCompacts group index) (Ok count) s t lives
      (λ home m pending h.
      let first : IsFirstIn (taken m pending) group None = subst (IsFirstIn (taken m pending) group) (none_below (s.tables group) index none) ((tables_tell.first s group).exact home m pending h) in
      (running m pending, inr (λ i low high. first i, refl), subst (λ (e : EngineState). Represents home e m pending) (sym same) h))
  compacted count (inr (some, wrote)) =
      lived (ModelCompacts group index) (Ok count) s t wrote.2.lived
      (λ home m pending h.
      let b = wrote.0 in
      let (next, on, is) = ends home t m (pending ++ said_of b ∷ []) (wrote.2.holds home m pending h) in
      (next, inl (subst (λ (r : LogRecordValue). RunsOn m (pending ++ r ∷ []) next) (said_compact group index b wrote.1) on), is))

  not_compacted : has_failed s ≡ false → (error : Error) → FailsToCompact group index error s t → FollowsModel (ModelCompacts group index) (Err error) s t
  not_compacted lives error (inl had) = failed_before (ModelCompacts group index) s t error had
  not_compacted lives error (inr (some, inl (memory, alive, same))) =
      subst (λ (e : Error). FollowsModel (ModelCompacts group index) (Err e) s t) (sym memory)
      (lived (ModelCompacts group index) (Err errors.Memory) s t lives
      (λ home m pending h. still home t m pending (subst (λ (e : EngineState). Represents home e m pending) (sym same) h)))
  not_compacted lives error (inr (some, inr (b, says, fails, record_of_it))) =
      lived (ModelCompacts group index) (Err error) s t lives
      (λ home m pending h.
      let (next, wrote, is) = (not_written b false s t lives error fails).runs home m pending h in
      (next, as_compact b group index error m pending next (said_compact group index b says) wrote, is))

  pub compacted_or_not : (r : Result ℕ Error) → has_failed s ≡ false → IfOk r (λ count. CompactsTo group index count s t) → IfErr r (λ error. FailsToCompact group index error s t)
      → FollowsModel (ModelCompacts group index) r s t
  compacted_or_not (Ok count) lives ok err = compacted count ok
  compacted_or_not (Err error) lives ok err = not_compacted lives error err

-- Purges.

-- all pending batches are durable
abbrev SettlesAll : EngineState → EngineState → Type 0
SettlesAll s t = (home : LogDirectories) (m : LogMap) (pending : List LogRecordValue) → Represents home s m pending → Represents home t (taken m pending) []

-- the same, by what is settled
settles_all : (s t : EngineState) → ((home : LogDirectories) (m : LogMap) (pending : List LogRecordValue) → Represents home s m pending → HoldsSettled home t (taken m pending)) → SettlesAll s t
settles_all s t settles home m pending h = settled_held home t (taken m pending) (settles home m pending h)

-- what is left where a purge failed
abbrev Unpurged : Error → LogDirectories → LogMap → List LogRecordValue → EngineState → Type 0
Unpurged error home m pending t = Represents home t (taken m pending) []
    ⊎ ((error ≡ errors.Failed) × (IsRecoverableAs home t.pipes.disk (taken m pending) [] ⊎ IsRecoverableAs home t.pipes.disk m pending))

-- the same, by what the error says
by_error : (home : LogDirectories) (m : LogMap) (pending : List LogRecordValue) (t : EngineState) (error : Error) → Remains home (taken m pending) t error ⊎ ((error ≡ errors.Failed) × IsRecoverableAs home t.pipes.disk m pending)
    → Unpurged error home m pending t
by_error home m pending t error (inr (is, files)) = inr (is, inr files)
by_error home m pending t errors.Failed (inl files) = inr (refl, inl files)
by_error home m pending t _ (inl runs) = inl runs

module _ (A : Type 0) (s t : EngineState) (lives : has_failed s ≡ false) where
  purged : (x : A) → SettlesAll s t → FollowsModel ModelPurges (Ok x) s t
  purged x holds = lived ModelPurges (Ok x) s t lives (λ home m pending h. (running (taken m pending) [], refl, holds home m pending h))

  module _ (home : LogDirectories) (m : LogMap) (pending : List LogRecordValue) where
    fell_in_purge : has_failed t ≡ true → IsRecoverableAs home t.pipes.disk (taken m pending) [] ⊎ IsRecoverableAs home t.pipes.disk m pending → Goes {A = A} ModelPurges (Err errors.Failed) home m pending t
    fell_in_purge fails (inl files) = (failed (taken m pending) [], inr refl, (fails, files))
    fell_in_purge fails (inr files) = (failed m pending, inl refl, (fails, files))

    ran_on : (error : Error) → (error ≡ errors.Failed → has_failed t ≡ true) → Represents home t (taken m pending) [] → Goes {A = A} ModelPurges (Err error) home m pending t
    ran_on errors.Failed fails runs = absurd (both t (alive home t (taken m pending) [] runs) (fails refl))
    ran_on _ fails runs = (running (taken m pending) [], refl, runs)

    unpurged_so : (error : Error) → (error ≡ errors.Failed → has_failed t ≡ true) → Unpurged error home m pending t → Goes {A = A} ModelPurges (Err error) home m pending t
    unpurged_so error fails (inl runs) = ran_on error fails runs
    unpurged_so error fails (inr (is, files)) = subst (λ (e : Error). Goes {A = A} ModelPurges (Err e) home m pending t) (sym is) (fell_in_purge (fails is) files)

  not_purged : (error : Error) → (IsTrue (has_failed t) ↔ (error ≡ errors.Failed)) → ((home : LogDirectories) (m : LogMap) (pending : List LogRecordValue) → Represents home s m pending → Unpurged error home m pending t)
      → FollowsModel {A = A} ModelPurges (Err error) s t
  not_purged error tells unpurged = lived ModelPurges (Err error) s t lives (λ home m pending h. unpurged_so home m pending error tells.1 (unpurged home m pending h))

module _ (s t : EngineState) (lives : has_failed s ≡ false) where
  pub purged_stale : (after : MemTables) (r : Result (Unit {0}) Error) → OnOk r (PurgesAllStale after s t) → IfErr r (λ error. FailsToPurgeAll error s t) → FollowsModel ModelPurges r s t
  purged_stale after (Ok done) ok err = purged (Unit {0}) s t lives done (settles_all s t ok.settles)
  purged_stale after (Err error) ok err = not_purged (Unit {0}) s t lives error (err.tells lives) (λ home m pending h. by_error home m pending t error (err.remains home m pending h))

  pub rewrote_append : (watermark exit_after_step : Option ℕ) (after : MemTables) (r : Result (Unit {0}) Error) → OnOk r (RewritesAppend watermark exit_after_step after s t) → IfErr r (λ error. FailsToRewriteAppend error s t)
      → FollowsModel ModelPurges r s t
  rewrote_append watermark exit_after_step after (Ok done) ok err = purged (Unit {0}) s t lives done (settles_all s t ok.settles)
  rewrote_append watermark exit_after_step after (Err error) ok err = not_purged (Unit {0}) s t lives error (err.tells lives) err.remains

  pub rewrote_rewrite : (after : MemTables) (r : Result (Unit {0}) Error) → OnOk r (SyncsAndRewrites after s t) → IfErr r (λ error. FailsToPurgeExpired error s t) → FollowsModel ModelPurges r s t
  rewrote_rewrite after (Ok done) ok err = purged (Unit {0}) s t lives done (settles_all s t ok.settles)
  rewrote_rewrite after (Err error) ok err = not_purged (Unit {0}) s t lives error (err.tells lives) err.remains

  pub purged_expired : (hold_back : LogPipes → Option ℕ → Type 0) (thresholds : Thresholds) (before after : MemTables) (old new : PurgeCounts) (r : Result (Vec ℕ) Error)
      → IfOk r (λ groups. PurgesAndCounts hold_back thresholds before after old new groups.items s t) → IfErr r (λ error. FailsToPurgeExpired error s t) → FollowsModel ModelPurges r s t
  purged_expired hold_back thresholds before after old new (Ok groups) ok err = purged (Vec ℕ) s t lives groups ok.purges.holds
  purged_expired hold_back thresholds before after old new (Err error) ok err = not_purged (Vec ℕ) s t lives error (err.tells lives) err.remains

  pub purged_some : (hold_back : LogPipes → Option ℕ → Type 0) (thresholds : Thresholds) (budget : ℕ) (from to : Option ℕ) (before after : MemTables) (old new : PurgeCounts) (r : Result PurgeStep Error)
      → IfOk r (λ step. PurgesStep hold_back thresholds budget from to before after old new step s t) → IfErr r (λ error. FailsToPurgeExpired error s t) → FollowsModel ModelPurges r s t
  purged_some hold_back thresholds budget from to before after old new (Ok step) ok err = purged PurgeStep s t lives step ok.holds
  purged_some hold_back thresholds budget from to before after old new (Err error) ok err = not_purged PurgeStep s t lives error (err.tells lives) err.remains

-- Closes.

pub closed : (r : Result (Unit {0}) Error) (s : EngineState) (d : Disk) → (has_failed s ≡ false → ClosesLog s.pipes d) → OnOk r (ClosesSettled s.pipes d)
    → (has_failed s ≡ true → d ≡ s.pipes.disk) → (has_failed s ≡ true → r ≡ Err errors.Failed) → ClosesModel r s d
closed (Ok done) s d closes settles same fails = record {
  runs = λ home m pending h. (left (taken m pending) [], refl, closed_engines_are_durable home s m pending d h settles);
  fails = λ failed. (fails failed, same failed);
}
closed (Err error) s d closes settles same fails = record {
  runs = λ home m pending h. (left m pending, refl, closed_engines_are_left home s m pending d h (closes (alive home s m pending h)));
  fails = λ failed. (fails failed, same failed);
}
