-- The voters of a store's second life are those that its first life left.
use Rattle.std.proofs.Common.{◌≡◌, ◌∙◌, ℕ, false, List, [], ◌∷◌, ◌++◌, None, refl, sym, ap, subst, arith, append-nil}
use Rattle.std.specs.Prelude.{Contains}
use Rattle.std.proofs.Math.Logic.{∥∥₁_elim}
use Rattle.std.proofs.Props.{props}
use Rattle.raft_log_fs.specs.Disk.{Disk}
use Rattle.raft_log_fs.specs.Image.{IsSound}
use Rattle.raft_log_engine.specs.raft_log_fs_memory.specs.Memory.{disk_of}
use Rattle.raft_log_engine.specs.raft_log_fs_memory.specs.declared.memory.MemoryFileSystem.{MemoryFileSystem}
use Rattle.raft_log_record_base.specs.declared.pipe_log.LogQueue.TheVariants.{Append}
use Rattle.raft_log_file_settings.specs.declared.config.Config.{Config}
use Rattle.raft_log_file_settings.specs.Settings.{Settings, directories_of, settings_of}
use Rattle.raft_log_engine.specs.raft_log_engine_laws.specs.EngineState.{EngineState, LogDirectories, LogMap, has_failed}
use Rattle.raft_log_engine.specs.raft_log_engine_laws.specs.Holding.{Represents}
use Rattle.raft_log_engine.specs.raft_log_engine_laws.specs.raft_log_active_file.specs.Paths.{IsPathWith, reserved_suffix_of}
use Rattle.raft_log_file_format.specs.Name.{suffix_of}
use Rattle.raft_log_recovery_laws.specs.Bare.{IsBare}
use Rattle.raft_log_recovery_laws.specs.ByCalls.{home_of}
use Rattle.raft_log_recovery_laws.specs.Closed.{IsThatOrItsImage}
use Rattle.raft_voter_messages.specs.declared.round.Round.{Round}
use Rattle.raft_voter_outline.specs.Kept.{outlines_in}
use Rattle.raft_voter_outline.specs.State.{State}
use Rattle.raft_voter.specs.Rounds.{Leads, World, fresh_world}
use Rattle.raft_voter.specs.Service.{IsOpenAt}
use Rattle.raft_voter_group_laws.specs.Laws.{EachGroupKeepsItsVoter}
use Rattle.raft_voter_recovery.specs.Reading.{world_in}
use Rattle.raft_voter_durability_laws.specs.Standing.{Keeps}
use Rattle.raft_voter_store.specs.Service.LeavesAt.{running}
use Rattle.raft_voter_log.specs.ClosedStores.{ClosedStoresAreFound}
use Rattle.raft_voter_log.specs.Kept.{KeptVotersAreTold}
use Rattle.raft_voter_log.specs.Laws.{FirstOpensAreFresh}
use Rattle.raft_voter_log.specs.Opens.{ServesFound}
use Rattle.raft_voter_rounds.specs.Journal.{IsLegal, reached}
use Rattle.raft_voter_shared.specs.Openings.{OpeningsLead, Session, untaken}
use Rattle.raft_voter_shared_log.specs.LogOpenings.{log_service}
use Rattle.raft_voter_shared_log.specs.declared.store.LogStore.{LogStore}
use Rattle.raft_shared_examples.specs.Lives.{ListsFound, LivesShared, ShowsFirstLife}
use Rattle.raft_shared_examples.specs.Sharing.{SharesAndCloses}
use Rattle.raft_shared_examples.specs.declared.lives.Shared.{Shared}

-- A legal journal, with no failure noted, leads to the voters after it. The cut of each round without replies is 0.
journal_leads : OpeningsLead → (W : World) (journal : List Round) → IsLegal W journal → Leads W journal (untaken journal) (reached W journal)
journal_leads lead W journal legal =
    let session : Session = record { journal = journal; failure = None; place = 0 } in
    let leads : Leads W (journal ++ []) (untaken journal ++ []) (reached W journal) =
    lead W (reached W journal) (session ∷ []) (legal, refl, (reached W journal, (omega arith, refl), refl)) in
    subst (λ (rounds : List Round). Leads W rounds (untaken journal) (reached W journal)) (append-nil journal)
    (subst (λ (cuts : List ℕ). Leads W (journal ++ []) cuts (reached W journal)) (append-nil (untaken journal)) leads)

-- what a legal journal of fresh voters shows, if the voters after it are listed
pub first_life_shown : OpeningsLead → EachGroupKeepsItsVoter → (journal : List Round) (voters : List (ℕ × State)) → IsLegal fresh_world journal → world_in voters ≡ reached fresh_world journal → ShowsFirstLife journal voters
first_life_shown lead each journal voters legal listed =
    let leads = journal_leads lead fresh_world journal legal in
    record {
      seen = λ group. (each fresh_world (reached fresh_world journal) journal (untaken journal) leads group).0;
      kept = λ group. ap (λ (W : World). W group) listed ∙ (each fresh_world (reached fresh_world journal) journal (untaken journal) leads group).1;
    }

-- settings that are the same name the same directories
same_home : (c e : Config) → settings_of c ≡ settings_of e → home_of c ≡ home_of e
same_home c e same = ap (λ (s : Settings). record { append = directories_of s; rewrite = directories_of s }) same

bare_for : (c e : Config) (d : Disk) → settings_of e ≡ settings_of c → IsBare c d → IsBare e d
bare_for c e d same bare = record {
  numbered = λ queue n path at. bare.numbered queue n path (subst (λ (s : Settings). IsPathWith (suffix_of queue) (directories_of s) n path) same at);
  reserved = λ n path at. bare.reserved n path (subst (λ (s : Settings). IsPathWith (reserved_suffix_of Append) (directories_of s) n path) same at);
  unnamed = λ path at. bare.unnamed path (subst (λ (s : Settings). Contains (directories_of s) path) same at);
}

-- an engine that represents a log hasn't failed
lives : (home : LogDirectories) (s : EngineState) (m : LogMap) → Represents home s m [] → has_failed s ≡ false
lives home s m h =
    let one : s.pipes.append.failed ≡ false = h.runs.append.alive in
    let other : s.pipes.rewrite.failed ≡ false = h.runs.rewrite.alive in
    rw (one, other) refl

module _ {F : Type 0} (disk : F → Disk) (tells : F → List ℕ → ℕ → Type 0) (shows : LogStore F → EngineState) where
  -- a store that was opened over directories without a log serves fresh voters
  begins : FirstOpensAreFresh disk tells → (config : Config) (old : F) (shared : Shared F) → IsSound (disk old) → IsBare config (disk old) → (life : LivesShared disk tells shows config old shared)
      → IsOpenAt (log_service shows) life.store fresh_world
  begins first config old shared sound bare life =
      let (settings, same, opens) = life.opens in
      let found : ServesFound disk tells settings old fresh_world = (first settings old sound (bare_for config settings (disk old) same bare)).answered in
      let (keeps, are) = found (shows life.store) (outlines_in life.store.store.outlines) opens in
      let named : home_of settings ≡ home_of life.store.config = same_home settings config same ∙ sym (ap home_of life.config_is) in
      let here = subst (λ (h : LogDirectories). Keeps h (shows life.store) fresh_world) named keeps in
      record {
        alive = lives (home_of life.store.config) (shows life.store) here.map here.holds;
        serves = (here, are);
        left = running fresh_world refl here;
      }

  -- the voters that are listed are those after the journal
  listed_after : ClosedStoresAreFound disk tells → KeptVotersAreTold → (W : World) (store : LogStore F) (shared : Shared F) (shares : SharesAndCloses disk shows store shared) → IsOpenAt (log_service shows) store W
      → (found : F) → IsSound (disk found) → IsThatOrItsImage (disk shared.files) (disk found) → (voters : List (ℕ × State)) → ListsFound disk tells shared.config found voters → world_in voters ≡ reached W shared.journal.items
  listed_after closed told W store shared shares at found sound either voters lists =
      let world = reached W shared.journal.items in
      ∥∥₁_elim (shares.serves W at) (Prim.hlevel props) (λ now.
      let opens = closed (home_of shares.settled.config) (shows shares.settled) world (disk shared.files) found shares.sound sound now.serves.0 shares.closes either shared.config shares.named in
      let (keeps, are) = opens.answered lists.engine lists.outlines lists.opens in
      told (home_of shared.config) lists.engine world voters keeps lists.lists)

  pub second_life : FirstOpensAreFresh disk tells → ClosedStoresAreFound disk tells → KeptVotersAreTold → OpeningsLead → EachGroupKeepsItsVoter → ((system : F) → IsSound (disk system))
      → (config : Config) (old found : F) (shared : Shared F) (voters : List (ℕ × State)) → LivesShared disk tells shows config old shared → IsThatOrItsImage (disk shared.files) (disk found)
      → ListsFound disk tells shared.config found voters → IsBare config (disk old) → ShowsFirstLife shared.journal.items voters
  second_life first closed told lead each sound config old found shared voters life either lists bare =
      let at = begins first config old shared (sound old) bare life in
      first_life_shown lead each shared.journal.items voters (life.shares.legal fresh_world at)
      (listed_after closed told fresh_world life.store shared life.shares at found (sound found) either voters lists)

-- what stands in a file system in memory is sound
pub memory_sound : (system : MemoryFileSystem) → IsSound (disk_of system)
memory_sound system = let storage = system.whole.sound in record {
  named = storage.named;
  one_name = storage.one_name;
  apart = storage.apart;
  home = storage.home;
  fresh = storage.fresh;
  files = storage.files;
}
