-- What purges and the close after them keep, and that no file was pinned.
use Rattle.std.proofs.Common.{◌≡◌, ℕ, Bool, true, false, List, [], Option, None, inl, inr, refl, sym, subst, ap, ◌∙◌}
use Rattle.std.specs.Prelude.{Err, IfErr, IfOk, Ok, OnOk, Result}
use Rattle.std.specs.Global.{Vec}
use Rattle.raft_log_command_line.specs.declared.place.Place.{Place}
use Rattle.raft_log_fs.specs.Disk.{Disk}
use Rattle.raft_log_record_base.specs.declared.errors.Error.{Error}
use Rattle.raft_log_record_base.specs.declared.errors.Error.TheVariants as errors
use Rattle.raft_log_file_settings.specs.Sanitized.{sanitized}
use Rattle.raft_log_file_settings.specs.Settings.{Settings, settings_of}
use Rattle.raft_log_file_settings.specs.declared.config.Config.{Config}
use Rattle.raft_log_purge_policy.specs.Thresholds.{thresholds_of}
use Rattle.raft_log_purge_policy.specs.declared.thresholds.Thresholds.{Thresholds}
use Rattle.raft_log_purge.specs.Counted.{PurgesAndCounts}
use Rattle.raft_log_purge.specs.declared.expired_files.PurgeCounts.{PurgeCounts}
use Rattle.raft_log_purge.proofs.Public.{expired_as}
use Rattle.raft_log_open.specs.Opening.{OpensDirectory}
use Rattle.raft_log_world.specs.Model.{ModelLog}
use Rattle.raft_log_engine.specs.raft_log_model_laws.specs.Groups.{taken}
use Rattle.raft_log_engine.specs.raft_log_memtables.specs.declared.mem_tables.MemTables.{MemTables}
use Rattle.raft_log_engine.specs.raft_log_block_cache.specs.declared.block_cache.BlockCache.{BlockCache}
use Rattle.raft_log_engine.specs.raft_log_dual_pipes.specs.ClosingCalls.{ClosesAs, ClosesLog, ClosesSettled}
use Rattle.raft_log_engine.specs.raft_log_dual_pipes.specs.HoldingBack.{NothingIsHeldBack}
use Rattle.raft_log_engine.specs.raft_log_dual_pipes.specs.Pipes.{LogPipes, LogRecordValue}
use Rattle.raft_log_engine.specs.raft_log_engine_laws.specs.EngineState.{EngineState, LogDirectories, LogMap, has_failed, shows}
use Rattle.raft_log_engine.specs.raft_log_engine_laws.specs.Holding.{IsRecoverableAs, Represents}
use Rattle.raft_log_engine.specs.raft_log_engine_core.specs.ModelCalls.{ClosesModel, FollowsModel, IsClosedLog, IsEngineLog, ModelCloses, ModelPurges}
use Rattle.raft_log_operator.specs.Purging.{FailsToPurgeAndClose, FailsToPurgeClosedLog, FailsToPurgeEngine, KeepsContents, OpensToPurge, PinsNothing, PurgesAndCloses, PurgesByForce, PurgesClosedLog, PurgesEngine, purge_settings, purge_thresholds}
use Rattle.raft_log_operator.specs.Purging.FailsToPurgeClosedLog.{unended}
use Rattle.raft_log_operator.specs.Purging.FailsToPurgeAndClose.{unclosed, unpurged}
use Rattle.raft_log_operator.specs.Purging.FailsToPurgeEngine.{undeleted, unforced}

-- One purge after another.

-- a purge that succeeds after one that succeeded
pub then_purged : {A B C : Type 0} (a : A) (b : B) (c : C) (s t u : EngineState) → FollowsModel ModelPurges (Ok a) s t
    → FollowsModel ModelPurges (Ok b) t u → FollowsModel ModelPurges (Ok c) s u
then_purged {A} a b c s t u first second = record {
  runs = λ home m pending holds.
      let (was, does, is) = first.runs home m pending holds in
      second.runs home (taken m pending) [] (subst (λ (n : ModelLog). IsEngineLog home t n) does is);
  fails = λ failed.
      let clash : ◌≡◌ {A = Result A Error} (Ok a) (Err errors.Failed) = (first.fails failed).0 in
      let never : ⊥ = cc in
      absurd never;
}

-- the error of one purge is that of both
of_second : (B C : Type 0) (error : Error) (m : LogMap) (pending : List LogRecordValue) (next : ModelLog)
    → ModelPurges {A = B} (Err error) (taken m pending) [] next → ModelPurges {A = C} (Err error) m pending next
of_second B C errors.Failed m pending next (inl is) = inr is
of_second B C errors.Failed m pending next (inr is) = inr is
of_second B C _ m pending next is = is

-- a purge that fails after one that succeeded
pub then_not_purged : {A : Type 0} (B C : Type 0) (a : A) (error : Error) (s t u : EngineState) → FollowsModel ModelPurges (Ok a) s t
    → FollowsModel {A = B} ModelPurges (Err error) t u → FollowsModel {A = C} ModelPurges (Err error) s u
then_not_purged {A} B C a error s t u first second = record {
  runs = λ home m pending holds.
      let (was, does, is) = first.runs home m pending holds in
      let (next, did, at) = second.runs home (taken m pending) [] (subst (λ (n : ModelLog). IsEngineLog home t n) does is) in
      (next, of_second B C error m pending next did, at);
  fails = λ failed.
      let clash : ◌≡◌ {A = Result A Error} (Ok a) (Err errors.Failed) = (first.fails failed).0 in
      let never : ⊥ = cc in
      absurd never;
}

-- a purge with any result after one that succeeded
pub then_any : {A : Type 0} (B : Type 0) (a : A) (r : Result B Error) (s t u : EngineState) → FollowsModel ModelPurges (Ok a) s t
    → FollowsModel ModelPurges r t u → FollowsModel ModelPurges r s u
then_any B a (Ok b) s t u first second = then_purged a b b s t u first second
then_any B a (Err error) s t u first second = then_not_purged B B a error s t u first second

-- The close after the purges.

module _ (t : EngineState) (d : Disk) (home : LogDirectories) (m : LogMap) (closed : Result (Unit {0}) Error) (closes : ClosesModel closed t d) where
  left_so : (r : Result (Unit {0}) Error) (next : ModelLog) → ModelCloses r m [] next → IsClosedLog home d next → IsRecoverableAs home d m []
  left_so (Ok done) next does is = subst (λ (n : ModelLog). IsClosedLog home d n) does is
  left_so (Err error) next does is = subst (λ (n : ModelLog). IsClosedLog home d n) does is

  -- an engine that ran on was closed
  of_running : Represents home t m [] → IsRecoverableAs home d m []
  of_running runs = let came = closes.runs home m [] runs in left_so closed came.0 came.1 came.2

  -- a failed engine was closed, which changes nothing
  of_failed : has_failed t ≡ true → IsRecoverableAs home t.pipes.disk m [] → IsRecoverableAs home d m []
  of_failed failed files = subst (λ (e : Disk). IsRecoverableAs home e m []) (sym (closes.fails failed).1) files

  of_purged : {A : Type 0} (r : Result A Error) (next : ModelLog) → ModelPurges r m [] next → IsEngineLog home t next → IsRecoverableAs home d m []
  of_purged (Ok groups) next does is = of_running (subst (λ (n : ModelLog). IsEngineLog home t n) does is)
  of_purged (Err errors.Failed) next (inl does) is = let fell = subst (λ (n : ModelLog). IsEngineLog home t n) does is in of_failed fell.0 fell.1
  of_purged (Err errors.Failed) next (inr does) is = let fell = subst (λ (n : ModelLog). IsEngineLog home t n) does is in of_failed fell.0 fell.1
  of_purged (Err _) next does is = of_running (subst (λ (n : ModelLog). IsEngineLog home t n) does is)

-- whatever came of the purges and of the close, the contents are there
pub keeps_contents : {A : Type 0} (purged : Result A Error) (closed : Result (Unit {0}) Error) (s t : EngineState) (d : Disk) → FollowsModel ModelPurges purged s t → ClosesModel closed t d → KeepsContents s d
keeps_contents purged closed s t d follows closes home m holds =
    let came = follows.runs home m [] holds in of_purged t d home m closed closes purged came.0 came.1 came.2

module _ (pins : LogPipes → Option ℕ → Type 0) (thresholds : Thresholds) where
  -- the engine runs on after the purges
  alive : (force : Bool) (groups : List ℕ) (s t : EngineState) → PurgesEngine pins thresholds force groups s t → has_failed t ≡ false
  alive false groups s t p = subst (λ (e : EngineState). has_failed e ≡ false) (sym p.forces) p.purges.purges.alive
  alive true groups s t p = p.forces.frees.alive

  module _ (before after : MemTables) (old new : PurgeCounts) (groups : List ℕ) (s t : EngineState) (purges : PurgesAndCounts pins thresholds before after old new groups s t) where
    -- expired files were purged, and force was not requested
    pub not_forced : (force : Bool) → force ≡ false → PurgesEngine pins thresholds force groups s t
    not_forced force is = subst (λ (b : Bool). PurgesEngine pins thresholds b groups s t) (sym is) (record {
      before = before;
      after = after;
      old = old;
      new = new;
      expired = t;
      purges = purges;
      forces = refl;
    })

    -- expired files were purged, and then by force
    pub forced : (force : Bool) → force ≡ true → (u : EngineState) → PurgesByForce t u → PurgesEngine pins thresholds force groups s u
    forced force is u forces = subst (λ (b : Bool). PurgesEngine pins thresholds b groups s u) (sym is) (record {
      before = before;
      after = after;
      old = old;
      new = new;
      expired = t;
      purges = purges;
      forces = forces;
    })

  module _ (force : Bool) (groups : List ℕ) (s t : EngineState) (d : Disk) (r : Result (Unit {0}) Error) (purges : PurgesEngine pins thresholds force groups s t) where
    -- the close after the purges succeeded
    pub purged_and_closed : (v : Unit {0}) → r ≡ Ok v → OnOk r (ClosesSettled t.pipes d) → PurgesAndCloses pins thresholds force groups s d
    purged_and_closed v is settled = record {
      purged = t;
      purges = purges;
      closes = subst (λ (q : Result (Unit {0}) Error). OnOk q (ClosesSettled t.pipes d)) is settled;
    }

    -- the close after the purges failed
    pub purged_not_closed : (error : Error) → r ≡ Err error → (has_failed t ≡ false → ClosesAs t.pipes r d) → FailsToPurgeAndClose pins thresholds force error s d
    purged_not_closed error is value = unclosed groups t purges (subst (λ (q : Result (Unit {0}) Error). ClosesAs t.pipes q d) is (value (alive force groups s t purges)))

  -- the purges failed
  pub not_purged : (force : Bool) (error : Error) (s t : EngineState) (d : Disk) (r : Result (Unit {0}) Error) → FailsToPurgeEngine pins thresholds force error s t → (has_failed t ≡ false → ClosesLog t.pipes d) → ClosesModel r t d
      → FailsToPurgeAndClose pins thresholds force error s d
  not_purged force error s t d r stops held closes = unpurged t stops held (λ failed. (closes.fails failed).1)

-- No file is pinned.

module _ (pins : LogPipes → Option ℕ → Type 0) (nothing : NothingIsHeldBack pins) (thresholds : Thresholds) where
  unpinned : (before after : MemTables) (old new : PurgeCounts) (groups : List ℕ) (s t : EngineState) → PurgesAndCounts pins thresholds before after old new groups s t → PurgesAndCounts PinsNothing thresholds before after old new groups s t
  unpinned before after old new groups s t p = record {
    past = p.past;
    tells = p.tells;
    counted = p.counted;
    first = p.first;
    purged = p.purged;
    purges = expired_as pins PinsNothing nothing thresholds before after p.counted p.purged groups s t p.purges;
    second = p.second;
  }

  engine_unpinned : (force : Bool) (groups : List ℕ) (s t : EngineState) → PurgesEngine pins thresholds force groups s t → PurgesEngine PinsNothing thresholds force groups s t
  engine_unpinned force groups s t p = record {
    before = p.before;
    after = p.after;
    old = p.old;
    new = p.new;
    expired = p.expired;
    purges = unpinned p.before p.after p.old p.new groups s p.expired p.purges;
    forces = p.forces;
  }

  engine_fails_unpinned : (force : Bool) (error : Error) (s t : EngineState) → FailsToPurgeEngine pins thresholds force error s t → FailsToPurgeEngine PinsNothing thresholds force error s t
  engine_fails_unpinned force error s t (undeleted stops) = undeleted stops
  engine_fails_unpinned force error s t (unforced groups expired purges is fails) = unforced groups expired (engine_unpinned false groups s expired purges) is fails

  -- a purge by pipes that pin nothing pins nothing
  pub purges_unpinned : (wanted : Thresholds) (force : Bool) (groups : List ℕ) (s : EngineState) (d : Disk) → thresholds ≡ wanted → PurgesAndCloses pins thresholds force groups s d → PurgesAndCloses PinsNothing wanted force groups s d
  purges_unpinned wanted force groups s d same p = subst (λ (sizes : Thresholds). PurgesAndCloses PinsNothing sizes force groups s d) same (record {
    purged = p.purged;
    purges = engine_unpinned force groups s p.purged p.purges;
    closes = p.closes;
  })

  fails : (force : Bool) (error : Error) (s : EngineState) (d : Disk) → FailsToPurgeAndClose pins thresholds force error s d → FailsToPurgeAndClose PinsNothing thresholds force error s d
  fails force error s d (unpurged stopped stops ran failed) = unpurged stopped (engine_fails_unpinned force error s stopped stops) ran failed
  fails force error s d (unclosed groups purged purges closes) = unclosed groups purged (engine_unpinned force groups s purged purges) closes

  pub fails_unpinned : (wanted : Thresholds) (force : Bool) (error : Error) (s : EngineState) (d : Disk) → thresholds ≡ wanted → FailsToPurgeAndClose pins thresholds force error s d → FailsToPurgeAndClose PinsNothing wanted force error s d
  fails_unpinned wanted force error s d same failed = subst (λ (sizes : Thresholds). FailsToPurgeAndClose PinsNothing sizes force error s d) same (fails force error s d failed)

-- A log was opened with the settings for a purge, purged and closed.

module _ {F : Type 0} (disk : F → Disk) (tells : F → List ℕ → ℕ → Type 0) (place : Place) (config : Config) (old : F) (pipes : LogPipes) (tables : MemTables) (cache : BlockCache) (set : settings_of config ≡ purge_settings place) (opens : OpensDirectory disk tells config old pipes tables) (none : cache.place ≡ None) (pins : LogPipes → Option ℕ → Type 0) (thresholds : Thresholds) (sizes : thresholds ≡ thresholds_of (sanitized (settings_of config))) (force : Bool) (new : F) (keeps : KeepsContents (shows pipes tables cache) (disk new)) where
  wanted : thresholds ≡ purge_thresholds place
  wanted = sizes ∙ ap (λ (s : Settings). thresholds_of (sanitized s)) set

  opened : OpensToPurge disk tells place old (shows pipes tables cache)
  opened = record {
    config = config;
    set = set;
    pipes = pipes;
    tables = tables;
    cache = cache;
    opens = opens;
    none = none;
    is = refl;
  }

  pub purges_log : (r : Result (Vec ℕ) Error) → IfOk r (λ groups. PurgesAndCloses pins thresholds force groups.items (shows pipes tables cache) (disk new)) → NothingIsHeldBack pins → IfOk r (λ groups. PurgesClosedLog disk tells place force groups.items old new)
  purges_log (Ok groups) p nothing = record {
    opened = shows pipes tables cache;
    opens = opened;
    purges = purges_unpinned pins nothing thresholds (purge_thresholds place) force groups.items (shows pipes tables cache) (disk new) wanted p;
    keeps = keeps;
  }
  purges_log (Err error) p nothing = tt

  pub fails_log : (r : Result (Vec ℕ) Error) → IfErr r (λ error. FailsToPurgeAndClose pins thresholds force error (shows pipes tables cache) (disk new)) → NothingIsHeldBack pins → IfErr r (λ error. FailsToPurgeClosedLog disk tells place force error old new)
  fails_log (Ok groups) p nothing = tt
  fails_log (Err error) p nothing = unended (shows pipes tables cache) opened (fails_unpinned pins nothing thresholds (purge_thresholds place) force error (shows pipes tables cache) (disk new) wanted p) keeps

-- What a result that is known says.

pub on_ok : {A B : Type 0} (r : Result A B) (P : Type 0) → P → OnOk r P
on_ok (Ok v) P holds = holds
on_ok (Err e) P holds = tt

pub if_err : {A B : Type 0} (r : Result A B) (P : B → Type 0) → ((e : B) → P e) → IfErr r P
if_err (Ok v) P holds = tt
if_err (Err e) P holds = holds e

pub on_ok_as : {A B : Type 0} (r : Result A B) (P Q : Type 0) → (P → Q) → OnOk r P → OnOk r Q
on_ok_as (Ok v) P Q as_one holds = as_one holds
on_ok_as (Err e) P Q as_one holds = tt

pub if_err_as : {A B : Type 0} (r : Result A B) (P Q : B → Type 0) → ((e : B) → P e → Q e) → IfErr r P → IfErr r Q
if_err_as (Ok v) P Q as_one holds = tt
if_err_as (Err e) P Q as_one holds = as_one e holds

pub of_ok : {A B : Type 0} (r : Result A B) (v : A) (P : A → Type 0) → r ≡ Ok v → IfOk r P → P v
of_ok r v P is holds = subst (λ q. IfOk q P) is holds

pub of_err : {A B : Type 0} (r : Result A B) (e : B) (P : B → Type 0) → r ≡ Err e → IfErr r P → P e
of_err r e P is holds = subst (λ q. IfErr q P) is holds
