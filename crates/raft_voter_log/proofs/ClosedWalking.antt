-- Runs whose closes are undisturbed, and whose crashes only lose.
use Rattle.std.proofs.Common.{◌≡◌, inl, inr, ℕ, List, [], ◌∷◌, ◌++◌, Option, Some, None, refl, sym, subst}
use Rattle.std.proofs.lemmas.Bool.{false≢true}
use Rattle.raft_log_fs.specs.Disk.{Disk as OnDisk}
use Rattle.raft_log_fs.specs.Image.{IsImage, IsSound}
use Rattle.raft_log_fs_memory.specs.Memory.{disk_of}
use Rattle.raft_log_fs_memory.specs.declared.memory.MemoryFileSystem.{MemoryFileSystem}
use Rattle.raft_log_file_settings.specs.declared.config.Config.{Config}
use Rattle.raft_voter_durability_laws.specs.raft_log_engine_laws.specs.EngineState.{EngineState}
use Rattle.raft_log_recovery_laws.specs.ByCalls.{home_of}
use Rattle.raft_log_recovery_laws.specs.ForkLeaving.{EndsFork}
use Rattle.raft_log_recovery_laws.specs.ForkLeaving.EndsFork.{answered as copied, refused as uncopied}
use Rattle.raft_voter_outline.specs.State.{State}
use Rattle.raft_voter.specs.declared.service.Cause.{Cause}
use Rattle.raft_voter_messages.specs.declared.round.Round.{Round}
use Rattle.raft_voter.specs.Rounds.{Explains, fresh_world}
use Rattle.raft_voter.specs.Service.{CutRound, Service, uncut}
use Rattle.raft_voter_store.specs.Service.{service_in}
use Rattle.raft_voter_world.specs.declared.faults.Fault.{Fault}
use Rattle.raft_voter_world.specs.declared.storage.Storage.{Storage}
use Rattle.raft_voter_world.specs.declared.storage.Storage.TheVariants.{Closed, Open}
use Rattle.raft_voter_world.specs.Cuts.{NoneLost, ServeSome, cut_after, cut_by}
use Rattle.raft_voter_world.specs.History.{Happen, Moment, rounds_in}
use Rattle.raft_voter_world.specs.History.Change.{closes, purges, arms, copies}
use Rattle.raft_voter_world.specs.History.Moment.{opened, crashed, kept, answered, cut_off, idle}
use Rattle.raft_voter_world.specs.Run.{EndsWell, Knows, moments_of}
use Rattle.raft_voter_world.specs.Stores.{Disk, Upkeep}
use Rattle.raft_voter_world.specs.Readers.{GoesBy}
use Rattle.raft_voter_world.proofs.Public.{run_happened, runs_go_by, serve_first}
use Rattle.raft_voter_log.specs.declared.files.LogFiles.{LogFiles}
use Rattle.raft_voter_log.specs.ClosedRuns.{ClosedRunsAskNothing, ClosesOrLoses}
use Rattle.raft_voter_log.specs.ClosedStores.{AskNothing}
use Rattle.raft_voter_log.specs.Faults.{remainder_of}
use Rattle.raft_voter_log.specs.Instance.{ArmsFiles, EndsCopy, log_disk}
use Rattle.raft_voter_log.specs.Leaving.{SparesFiles}
use Rattle.raft_voter_log.specs.Leaving.FilesLeave.{bare}
use Rattle.raft_voter_log.proofs.ClosedStores.{AreAtRest, at_rest_closed, at_rest_copied, at_rest_crashed, at_rest_for, at_rest_plainly, at_rest_still, resting_files_ask}
use Rattle.raft_voter_log.proofs.Crashes.{on_disk}
use Rattle.raft_voter_log.proofs.OpenLemmas.{memory_sound}
use Rattle.raft_voter_log.proofs.Resting.{image_under, left_is_one, loses_rests, loses_spared}

-- an armed fault changes nothing of the files
armed_same : (fault : Fault) (old new : MemoryFileSystem) → ArmsFiles fault old new → disk_of new ≡ disk_of old
armed_same fault old new (inl armed) = on_disk fault (disk_of old) (disk_of new) armed.0
armed_same fault old new (inr stopped) = stopped.1

-- how a copy of them ends
copy_ends : (config : Config) (target : List ℕ) (refusal : Option Cause) (old new : OnDisk) → EndsCopy config target refusal old new → EndsFork config target old new
copy_ends config target None old new forks = copied forks.0 forks.1
copy_ends config target (Some cause) old new fails = uncopied fails.0 fails.2

module _ {S : Type 0} (tells : MemoryFileSystem → List ℕ → ℕ → Type 0) (config : S → Config) (u : Upkeep S) (shows : S → EngineState) (outlines : S → ℕ → State) (sound : (store : S) → IsSound (shows store).pipes.disk)
    (End : Storage S LogFiles → CutRound → Type 0) where
  abbrev v : Service S
  v = service_in (λ s. home_of (config s)) shows outlines

  abbrev d : Disk S LogFiles
  d = log_disk tells config shows outlines

  -- files have no log or one at rest, and ask nothing, whatever is read of them
  abbrev Rests : (storage : Storage S LogFiles) (cut : CutRound) → Knows v d storage cut → Type 0
  Rests (Closed f) cut known = AreAtRest f.config (disk_of f.files) cut × ((read : OnDisk) → SparesFiles f.config (disk_of f.files) cut known read)
  Rests (Open store) cut known = Unit {0}

  -- each open served voters, none lost them, and it ends so
  abbrev Ends : List (Moment S LogFiles) → Type 0
  Ends ms = ServeSome v ms × NoneLost ms × ((last : Storage S LogFiles) × (cut : CutRound) × End last cut)

  -- what is known of files that have no log, or one at rest
  asks_of : (f : LogFiles) (cut : CutRound) → AreAtRest f.config (disk_of f.files) cut → AskNothing f.config (disk_of f.files) cut
  asks_of f cut rest = resting_files_ask f.config (disk_of f.files) cut (memory_sound f.files) rest

  walk : (storage : Storage S LogFiles) (cut : CutRound) (known : Knows v d storage cut) → Rests storage cut known → (ms : List (Moment S LogFiles)) → GoesBy v d End storage cut known ms
      → Happen v u d storage ms → ClosesOrLoses config shows storage ms → Ends ms
  walk storage cut known rest [] goes h c = (tt, tt, (storage, cut, goes))
  walk (Closed f) cut known rest (opened workers store voters (Some place) now ∷ ms) goes h c =
      let spared = rest.1 (disk_of f.files) in
      let found = h.0.0.finds cut known spared in
      let on = goes spared in
      let others = walk (Open now) (uncut on.1.0) on.1.2.left tt ms (on.1.3 on.1.2.left) h.1 c in
      (((found.0, found.2), others.0), others.1, others.2)
  walk (Closed f) cut known rest (opened workers store voters None now ∷ ms) goes h c = absurd (false≢true (goes (rest.1 (disk_of f.files))).0)
  walk (Open store) cut known rest (answered round now ∷ ms) goes h c = walk (Open now) (cut_after cut round) goes.0 tt ms (goes.1 goes.0) h.1 c
  walk (Open store) cut known rest (cut_off round cause now ∷ ms) goes h c = walk (Open now) (cut_by cause cut round) goes.0 tt ms (goes.1 goes.0) h.1 c
  walk (Open store) cut known rest (kept (purges purge refusal) (Open now) ∷ ms) goes h c = walk (Open now) cut goes.0 tt ms (goes.1 goes.0) h.1 c
  walk (Open store) cut known rest (kept (arms fault) (Open now) ∷ ms) goes h c = walk (Open now) cut goes.0 tt ms (goes.1 goes.0) h.1 c
  walk (Open store) cut known rest (kept closes (Closed f) ∷ []) goes h c = (tt, tt, (Closed f, cut, goes.1 goes.0))
  walk (Open store) cut known rest (kept closes (Closed f) ∷ m ∷ ms) goes h c =
      let then = at_rest_for (config store) f.config (disk_of f.files) cut h.0.0.1 (at_rest_closed (config store) (shows store) cut (disk_of f.files) (sound store) c.0 h.0.0.2 known) in
      let asks = asks_of f cut then in
      walk (Closed f) cut asks.0 (then, asks.1) (m ∷ ms) (goes.1 asks.0) h.1 c.1
  walk (Open store) cut known rest (crashed gone left ∷ ms) goes h c =
      let is = image_under gone (shows store).pipes.disk (disk_of left.files) h.0.0.0 in
      let then = at_rest_plainly left.config (disk_of left.files) cut (loses_rests (config store) left.config (shows store) cut left.files h.0.0.1 is c.0 known) in
      let asks = asks_of left cut then in
      let on = goes.1 goes.0 (loses_spared (config store) (shows store) cut (disk_of left.files) c.0 goes.0) in
      walk (Closed left) cut asks.0 (then, asks.1) ms (on.1 asks.0) h.1 c.1
  walk (Closed f) cut known rest (crashed gone left ∷ ms) goes h c =
      let is : IsImage (disk_of f.files) (disk_of left.files) = left_is_one (remainder_of gone) f.files left.files h.0.0.0 in
      let then = at_rest_for f.config left.config (disk_of left.files) cut h.0.0.1 (at_rest_crashed f.config (disk_of f.files) (disk_of left.files) cut (memory_sound f.files) is rest.0) in
      let asks = asks_of left cut then in
      let on = goes (rest.1 (disk_of left.files)) in
      walk (Closed left) cut asks.0 (then, asks.1) ms (on.1 asks.0) h.1 c
  walk (Closed f) cut known rest (kept (arms fault) (Closed now) ∷ ms) goes h c =
      let same : disk_of now.files ≡ disk_of f.files = armed_same fault f.files now.files h.0.0.0 in
      let then = at_rest_for f.config now.config (disk_of now.files) cut h.0.0.1 (at_rest_still f.config (disk_of f.files) (disk_of now.files) cut same rest.0) in
      let asks = asks_of now cut then in
      walk (Closed now) cut asks.0 (then, asks.1) ms (goes.1 asks.0) h.1 c
  walk (Closed f) cut known rest (kept (copies target refusal) (Closed now) ∷ ms) goes h c =
      let then = at_rest_for f.config now.config (disk_of now.files) cut h.0.0.1
      (at_rest_copied f.config target (disk_of f.files) (disk_of now.files) cut (memory_sound f.files) (copy_ends f.config target refusal (disk_of f.files) (disk_of now.files) h.0.0.0) rest.0) in
      let asks = asks_of now cut then in
      walk (Closed now) cut asks.0 (then, asks.1) ms (goes.1 asks.0) h.1 c
  walk (Closed f) cut known rest (idle round now ∷ ms) goes h c =
      let then = subst (λ (x : LogFiles). AreAtRest x.config (disk_of x.files) cut) (sym h.0.1) rest.0 in
      let asks = asks_of now cut then in
      walk (Closed now) cut asks.0 (then, asks.1) ms (goes.1 asks.0) h.1 c
  walk storage cut known rest (m ∷ ms) goes h c = absurd c

pub closed_runs_ask_nothing : {S : Type 0} (tells : MemoryFileSystem → List ℕ → ℕ → Type 0) (config : S → Config) (u : Upkeep S) (shows : S → EngineState) (outlines : S → ℕ → State) → ((store : S) → IsSound (shows store).pipes.disk)
    → ClosedRunsAskNothing (service_in (λ s. home_of (config s)) shows outlines) u (log_disk tells config shows outlines) config shows
closed_runs_ask_nothing {S} tells config u shows outlines sound first events report run is only =
    let v : Service S = service_in (λ s. home_of (config s)) shows outlines in
    let d : Disk S LogFiles = log_disk tells config shows outlines in
    let ms = moments_of run.turns ++ run.closing in
    let goes = runs_go_by v u d first events report run (bare is refl) in
    let ends = walk tells config u shows outlines sound (EndsWell v d ms) (Closed first) (uncut fresh_world) (bare is refl) (inl (is, refl), λ read. tt) ms goes (run_happened v u d first events report run) only in (
      serve_first v (moments_of run.turns) run.closing ends.0,
      ends.1,
      subst (λ (rounds : List Round). Explains rounds report.cuts) (sym run.rounds) (subst (λ (cuts : List ℕ). Explains (rounds_in ms) cuts) (sym run.cuts) ends.2.2.explained),
    )
