-- Sessions whose crashes only lose.
use Rattle.std.proofs.Common.{ℕ, List, [], ◌∷◌, ◌++◌, Some, None, refl, sym, subst}
use Rattle.std.proofs.lemmas.Bool.{false≢true}
use Rattle.raft_log_fs_memory.specs.Memory.{disk_of}
use Rattle.raft_log_fs_memory.specs.declared.memory.MemoryFileSystem.{MemoryFileSystem}
use Rattle.raft_log_file_settings.specs.declared.config.Config.{Config}
use Rattle.raft_voter_durability_laws.specs.raft_log_engine_laws.specs.EngineState.{EngineState}
use Rattle.raft_log_recovery_laws.specs.ByCalls.{home_of}
use Rattle.raft_voter_outline.specs.State.{State}
use Rattle.raft_voter_messages.specs.declared.round.Round.{Round}
use Rattle.raft_voter.specs.Rounds.{Explains, fresh_world}
use Rattle.raft_voter.specs.Service.{CutRound, Service, uncut}
use Rattle.raft_voter_store.specs.Service.{service_in}
use Rattle.raft_voter_world.specs.declared.storage.Storage.{Storage}
use Rattle.raft_voter_world.specs.declared.storage.Storage.TheVariants.{Closed, Open}
use Rattle.raft_voter_world.specs.Cuts.{NoneLost, ServeSome, cut_after, cut_by}
use Rattle.raft_voter_world.specs.History.{Happen, Moment, rounds_in}
use Rattle.raft_voter_world.specs.History.Change.{closes, purges, arms}
use Rattle.raft_voter_world.specs.History.Moment.{opened, crashed, kept, answered, cut_off, idle}
use Rattle.raft_voter_world.specs.Run.{EndsWell, Knows, moments_of}
use Rattle.raft_voter_world.specs.Stores.{Disk, Upkeep}
use Rattle.raft_voter_world.specs.Readers.{GoesBy}
use Rattle.raft_voter_world.proofs.Public.{run_happened, runs_go_by, serve_first}
use Rattle.raft_voter_log.specs.declared.files.LogFiles.{LogFiles}
use Rattle.raft_voter_log.specs.Instance.{log_disk}
use Rattle.raft_voter_log.specs.Leaving.FilesLeave.{bare}
use Rattle.raft_voter_log.specs.Sessions.{CrashesOnlyLose, RunsAskNothing}
use Rattle.raft_voter_log.proofs.Resting.{IsPlain, IsPlainly, image_under, loses_rests, loses_spared, plain_spared}

module _ {S : Type 0} (tells : MemoryFileSystem → List ℕ → ℕ → Type 0) (config : S → Config) (u : Upkeep S) (shows : S → EngineState) (outlines : S → ℕ → State) (End : Storage S LogFiles → CutRound → Type 0) where
  abbrev v : Service S
  v = service_in (λ s. home_of (config s)) shows outlines

  abbrev d : Disk S LogFiles
  d = log_disk tells config shows outlines

  -- of files that are read nothing is asked
  abbrev Plain : (storage : Storage S LogFiles) (cut : CutRound) → Knows v d storage cut → Type 0
  Plain (Closed f) cut known = IsPlain f.config (disk_of f.files) cut known
  Plain (Open store) cut known = Unit {0}

  -- each open served voters, none lost them, and it ends so
  abbrev Ends : List (Moment S LogFiles) → Type 0
  Ends ms = ServeSome v ms × NoneLost ms × ((last : Storage S LogFiles) × (cut : CutRound) × End last cut)

  walk : (storage : Storage S LogFiles) (cut : CutRound) (known : Knows v d storage cut) → Plain storage cut known → (ms : List (Moment S LogFiles)) → GoesBy v d End storage cut known ms
      → Happen v u d storage ms → CrashesOnlyLose config shows storage ms → Ends ms
  walk storage cut known plain [] goes h c = (tt, tt, (storage, cut, goes))
  walk (Closed f) cut known plain (opened workers store voters (Some place) now ∷ ms) goes h c =
      let spared = plain_spared f.config (disk_of f.files) cut known plain (disk_of f.files) in
      let found = h.0.0.finds cut known spared in
      let on = goes spared in
      let rest = walk (Open now) (uncut on.1.0) on.1.2.left tt ms (on.1.3 on.1.2.left) h.1 c in
      (((found.0, found.2), rest.0), rest.1, rest.2)
  walk (Closed f) cut known plain (opened workers store voters None now ∷ ms) goes h c =
      absurd (false≢true (goes (plain_spared f.config (disk_of f.files) cut known plain (disk_of f.files))).0)
  walk (Open store) cut known plain (answered round now ∷ ms) goes h c = walk (Open now) (cut_after cut round) goes.0 tt ms (goes.1 goes.0) h.1 c
  walk (Open store) cut known plain (cut_off round cause now ∷ ms) goes h c = walk (Open now) (cut_by cause cut round) goes.0 tt ms (goes.1 goes.0) h.1 c
  walk (Open store) cut known plain (kept (purges purge refusal) (Open now) ∷ ms) goes h c = walk (Open now) cut goes.0 tt ms (goes.1 goes.0) h.1 c
  walk (Open store) cut known plain (kept (arms fault) (Open now) ∷ ms) goes h c = walk (Open now) cut goes.0 tt ms (goes.1 goes.0) h.1 c
  walk (Open store) cut known plain (kept closes (Closed f) ∷ []) goes h c = (tt, tt, (Closed f, cut, goes.1 goes.0))
  walk (Open store) cut known plain (crashed gone left ∷ ms) goes h c =
      let is = image_under gone (shows store).pipes.disk (disk_of left.files) h.0.0.0 in
      let (still, at_rest) = loses_rests (config store) left.config (shows store) cut left.files h.0.0.1 is c.0 known in
      let on = goes.1 goes.0 (loses_spared (config store) (shows store) cut (disk_of left.files) c.0 goes.0) in
      walk (Closed left) cut still at_rest ms (on.1 still) h.1 c.1
  walk (Closed f) cut known plain (idle round now ∷ ms) goes h c =
      let (still, at_rest) = subst (λ (x : LogFiles). IsPlainly x.config (disk_of x.files) cut) (sym h.0.1) (known, plain) in
      walk (Closed now) cut still at_rest ms (goes.1 still) h.1 c
  walk storage cut known plain (m ∷ ms) goes h c = absurd c

pub runs_ask_nothing : {S : Type 0} (tells : MemoryFileSystem → List ℕ → ℕ → Type 0) (config : S → Config) (u : Upkeep S) (shows : S → EngineState) (outlines : S → ℕ → State)
    → RunsAskNothing (service_in (λ s. home_of (config s)) shows outlines) u (log_disk tells config shows outlines) config shows
runs_ask_nothing {S} tells config u shows outlines first events report run is only =
    let v : Service S = service_in (λ s. home_of (config s)) shows outlines in
    let d : Disk S LogFiles = log_disk tells config shows outlines in
    let ms = moments_of run.turns ++ run.closing in
    let goes = runs_go_by v u d first events report run (bare is refl) in
    let ends = walk tells config u shows outlines (EndsWell v d ms) (Closed first) (uncut fresh_world) (bare is refl) tt ms goes (run_happened v u d first events report run) only in (
      serve_first v (moments_of run.turns) run.closing ends.0,
      ends.1,
      subst (λ (rounds : List Round). Explains rounds report.cuts) (sym run.rounds) (subst (λ (cuts : List ℕ). Explains (rounds_in ms) cuts) (sym run.cuts) ends.2.2.explained),
    )
