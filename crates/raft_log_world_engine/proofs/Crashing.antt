-- What a crash leaves of a log.
use Rattle.std.proofs.Common.{◌≡◌, ◌∙◌, ◌<◌, ℕ, Bool, List, ◌++◌, take, Option, Some, None, inl, inr, ap, refl, sym, subst}
use Rattle.std.proofs.lemmas.Bool.{cases_order}
use Rattle.raft_log_engine.specs.raft_log_model_laws.specs.Groups.{taken}
use Rattle.raft_log_engine.specs.raft_log_fs.specs.Disk.{Disk as OnDisk, File, at_rest}
use Rattle.raft_log_engine.specs.raft_log_fs.specs.Image.{IsFileImage, IsImage, IsSound}
use Rattle.raft_log_engine.specs.raft_log_fs.proofs.Public.{only_at_rest}
use Rattle.raft_log_engine.specs.raft_log_file_settings.specs.declared.config.Config.{Config}
use Rattle.raft_log_file_writer.specs.LawsChains.{spelled}
use Rattle.raft_log_file_writer.specs.LogQueue.{LogFiles}
use Rattle.raft_log_engine.specs.raft_log_dual_pipes.specs.OnDisk.{IsDurableAs}
use Rattle.raft_log_engine.specs.raft_log_dual_pipes.specs.Pipes.{LogRecordValue}
use Rattle.raft_log_engine.specs.raft_log_dual_pipes.specs.Queues.{QueueLayout}
use Rattle.raft_log_engine.specs.raft_log_dual_pipes.specs.Reopening.{RestsQueue}
use Rattle.raft_log_engine.specs.raft_log_dual_pipes.specs.State.{IsStopped, Spanned}
use Rattle.raft_log_engine.specs.raft_log_engine_laws.specs.EngineState.{LogMap, EngineState, log_in}
use Rattle.raft_log_engine.specs.raft_log_engine_laws.specs.Holding.{Represents, IsRecoverableAs}
use Rattle.raft_log_recovery_laws.specs.Bare.{IsBare}
use Rattle.raft_log_recovery_laws.specs.ByCalls.{home_of}
use Rattle.raft_log_recovery_laws.specs.Keeping.{KeepsBothQueues, KeepsNumbered}
use Rattle.raft_log_recovery_laws.specs.Left.{CrashedLogsRest, IsCrashOf}
use Rattle.raft_log_recovery_laws.specs.Running.{CrashedEnginesOpen, LeavesNoChance}
use Rattle.raft_log_recovery_laws.proofs.Public.{kept_logs_stay, two_queues}
use Rattle.raft_log_world.specs.Model.{LosesSome}
use Rattle.raft_log_world_engine.specs.Instance.{Rests}
use Rattle.raft_log_world_engine.specs.Instance.Rests.{bare, rests}
use Rattle.raft_log_world_engine.proofs.Homes.{some_append, some_rewrite}

-- A crash of files that are synced leaves the same.

none_is_some : (id : ℕ) → None ≡ Some id → ⊥
none_is_some id e = let never : ⊥ = cc in never

synced_once : (o q : Option File) (bytes : List ℕ) → o ≡ Some (at_rest bytes) → IsFileImage o q → q ≡ o
synced_once o q bytes is image = left q (subst (λ (x : Option File). IsFileImage x q) is image) ∙ sym is
  where
    left : (r : Option File) → IsFileImage (Some (at_rest bytes)) r → r ≡ Some (at_rest bytes)
    left None none = absurd none
    left (Some file) (other, at, is_left) = ap Some (at ∙ ap at_rest (only_at_rest (at_rest bytes) other refl is_left))

module _ {R : Type 0} (layout : QueueLayout R) (d image : OnDisk) (is : IsImage d image) where
  -- a numbered file of a queue at rest is synced
  synced_file : (q : LogFiles R) → IsStopped layout q d → (m : ℕ) (path : List ℕ) (id : ℕ) → m < layout.format.limit → layout.format.IsPath m path → d.names path ≡ Some id → (bytes : List ℕ) × (d.files id ≡ Some (at_rest bytes))
  synced_file q stopped m path id less at named =
      let s = stopped.stands in
      let there : stopped.N path ≡ Some id = ap (λ (f : List ℕ → Option ℕ). f path) (sym s.names) ∙ named in
      elim (cases_order m q.last) [
        | inl same ↦
            let one : id ≡ stopped.id = s.alone path id (subst (λ (n : ℕ). layout.format.IsPath n path) same at) there in
            (s.file.has.bytes, ap (λ (n : ℕ). d.files n) one ∙ s.file.is ∙ ap (λ (f : File). Some f) s.file.has.is)
        | inr (inl below) ↦
            let was = s.older m id path below at there in
            ((q.older m).header ++ spelled (q.older m).records, was.is ∙ ap (λ (f : File). Some f) was.has.is)
        | inr (inr above) ↦ absurd (none_is_some id (sym (s.none m path above less at) ∙ there))
      ]

  kept_file : (q : Spanned R) → RestsQueue layout q d → (m : ℕ) (path : List ℕ) (id : ℕ) → m < layout.format.limit → layout.format.IsPath m path → d.names path ≡ Some id → image.files id ≡ d.files id
  kept_file q (inl (stopped, span)) m path id less at named =
      let (bytes, synced) = synced_file q.files stopped m path id less at named in
      synced_once (d.files id) (image.files id) bytes synced (is.files id)
  kept_file q (inr unbegun) m path id less at named = absurd (none_is_some id (sym (unbegun.fresh.none m less path at) ∙ named))

  kept_queue : (q : Spanned R) → RestsQueue layout q d → KeepsNumbered layout.format d image
  kept_queue q rest = record {
    names = λ m path less at. ap (λ (f : List ℕ → Option ℕ). f path) is.names;
    files = λ m path id less at named. kept_file q rest m path id less at named;
    places = λ m path less at place. record {
      apart = ap (λ (f : List ℕ → Bool). f path) is.directories ∙ place.apart;
      home = record { directory = place.home.directory; inside = place.home.inside; there = ap (λ (f : List ℕ → Bool). f place.home.directory) is.directories ∙ place.home.there };
    };
  }

-- a crash of a log of which all is synced leaves it so
durable_crash : (config : Config) (d image : OnDisk) (m : LogMap) → IsImage d image → IsDurableAs (log_in (home_of config)) d m → IsDurableAs (log_in (home_of config)) image m
durable_crash config d image m is h =
    let log = log_in (home_of config) in
    let keeps : KeepsBothQueues log d image = record {
      append = kept_queue log.append d image is h.state.append (subst (RestsQueue log.append h.state.append) h.disk h.rests.append);
      rewrite = kept_queue log.rewrite d image is h.state.rewrite (subst (RestsQueue log.rewrite h.state.rewrite) h.disk h.rests.rewrite);
    } in
    let two = two_queues (home_of config) (some_append config) (some_rewrite config) in
    ((kept_logs_stay log two d image keeps).rests m h).0

bare_image : (config : Config) (d e : OnDisk) → IsImage d e → IsBare config d → IsBare config e
bare_image config d e is b = record {
  numbered = λ queue n path at. (let free = b.numbered queue n path at in (ap (λ names. names path) is.names ∙ free.0, ap (λ directories. directories path) is.directories ∙ free.1));
  reserved = λ n path at. ap (λ names. names path) is.names ∙ b.reserved n path at;
  unnamed = λ path at. ap (λ names. names path) is.names ∙ b.unnamed path at;
}

pub resting_crash : (config : Config) (d image : OnDisk) (m : LogMap) → IsImage d image → Rests config d m → Rests config image m
resting_crash config d image m is (bare b empty) = bare (bare_image config d image is b) empty
resting_crash config d image m is (rests h) = rests (durable_crash config d image m is h)

-- A crash of what an engine left, or of a running one.

pub left_crash : CrashedLogsRest → (config : Config) (d image : OnDisk) (m : LogMap) (pending : List LogRecordValue) → IsImage d image → (is : IsRecoverableAs (home_of config) d m pending) → IsCrashOf (home_of config) is.1.lies.state d image
    → (now : LogMap) × LosesSome m pending now × Rests config image now
left_crash crashed config d image m pending image_is is chance =
    let (k, within, at) = crashed (home_of config) (some_append config) (some_rewrite config) d image m pending is chance in
    (taken m (take k pending), (k, within, refl), rests at)

module _ {F : Type 0} (disk : F → OnDisk) (tells : F → List ℕ → ℕ → Type 0) (sound : (system : F) → IsSound (disk system)) (crashed : CrashedEnginesOpen disk tells) (config : Config) where
  pub running_crash : (e : EngineState) (next : F) (m : LogMap) (pending : List LogRecordValue) → IsImage e.pipes.disk (disk next) → Represents (home_of config) e m pending → LeavesNoChance (home_of config) e.pipes (disk next)
      → (now : LogMap) × LosesSome m pending now × Rests config (disk next) now
  running_crash e next m pending is h chance =
      let (k, within, at, opens) = crashed (home_of config) e m pending h next (sound next) is chance in
      (taken m (take k pending), (k, within, refl), rests at)
