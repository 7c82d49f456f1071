-- A log's directories are opened for the first time: a scan makes them, and the log that begins there rests.
use Rattle.std.specs.Option.{option_map}
use Rattle.std.specs.Prelude.{IsSomeAnd, Result, Err}
use Rattle.std.specs.Str.{bytes_eq}
use Rattle.std.specs.String.{string_bytes}
use Rattle.std.specs.declared.io.ErrorKind.{ErrorKind}
use Rattle.std.proofs.Common.{◌≡◌, ◌⊎◌, ℕ, Bool, true, false, cond, zero, suc, Option, Some, None, List, [], ◌∷◌, ◌++◌, length, refl, sym, ap, subst, ◌∙◌, inl, inr, Contains, arith, length-append}
use Rattle.std.proofs.lemmas.Bool.{cases_Bool}
use Rattle.std.proofs.lemmas.List.Elements.{Contains-append_left, Contains-append_right}
use Rattle.std.proofs.lemmas.Slice.Eq.{bytes_eq-Decides}
use Rattle.raft_log_record_base.specs.declared.errors.Error.{Error}
use Rattle.raft_log_record_base.specs.declared.errors.Error.TheVariants as errors
use Rattle.raft_log_record_base.specs.declared.pipe_log.LogQueue.{LogQueue}
use Rattle.raft_log_record_base.specs.declared.pipe_log.LogQueue.TheVariants.{Append, Rewrite}
use Rattle.raft_log_fs.specs.Arguments.{WrongDirectory}
use Rattle.raft_log_fs.specs.Calls.{with_directory}
use Rattle.raft_log_fs.specs.Disk.{Disk, IsPathIn}
use Rattle.raft_log_fs.specs.Image.{IsSound}
use Rattle.raft_log_fs.proofs.Public.{kept_directory, IsCalm}
use Rattle.raft_log_active_file.specs.Beginning.{IsFresh}
use Rattle.raft_log_file_format.specs.Name.{suffix_of}
use Rattle.raft_log_engine_laws.specs.raft_log_active_file.specs.QueueFiles.{log_format}
use Rattle.raft_log_engine_laws.specs.raft_log_active_file.specs.Paths.{IsOwnPath, IsPathWith}
use Rattle.raft_log_machine_laws.specs.Fresh.{nothing_stands}
use Rattle.raft_log_file_settings.specs.Sanitized.{Clash, IsFileIn, HasNoFault as IsSoundSettings}
use Rattle.raft_log_file_settings.specs.Settings.{settings_of, spill_directory}
use Rattle.raft_log_file_settings.specs.declared.config.Config.{Config}
use Rattle.raft_log_file_settings.specs.declared.fault.ConfigFault.TheVariants as faults
use Rattle.raft_log_replay_context.specs.declared.context.MemTableRecoverContext.{MemTableRecoverContext}
use Rattle.raft_log_engine_laws.specs.raft_log_memtables.specs.declared.mem_tables.MemTables.{MemTables}
use Rattle.raft_log_recovery_scan.specs.Directories.{FailsToHave, HasDirectories}
use Rattle.raft_log_recovery_scan.specs.Metadata.{ChangesNoFile}
use Rattle.raft_log_recovery_scan.specs.Scanned.{FailsToScan}
use Rattle.raft_log_dual_pipes.specs.OnDisk.{IsDurableAs}
use Rattle.raft_log_dual_pipes.proofs.Public.{logs_go_on_disks}
use Rattle.raft_log_dual_pipes.specs.Pipes.{LogPipes}
use Rattle.raft_log_engine_laws.specs.EngineState.{log_in}
use Rattle.raft_log_engine_laws.specs.Holding.{IsRecoverableAs}
use Rattle.raft_log_recovery.specs.Directories.{paths_of}
use Rattle.raft_log_recovery.specs.Scanning.{FailsToScanLog}
use Rattle.raft_log_recovery.specs.Scanning.FailsToScanLog.{uncleared, unready as scan_unready, unscanned as scan_refused}
use Rattle.raft_log_recovery.specs.declared.builder.DualPipesBuilder.{DualPipesBuilder}
use Rattle.raft_log_recovery_laws.specs.Opened.{HoldsFresh}
use Rattle.raft_log_recovery.specs.Finding.{FindsLog, IsBegun}
use Rattle.raft_log_recovery_laws.specs.Bare.{BareDirectoriesOpen, IsBare}
use Rattle.raft_log_recovery_laws.specs.Outcomes.{OpensByCallsAs}
use Rattle.raft_log_recovery_laws.specs.RefusedByCalls.{FailsToOpenByCalls}
use Rattle.raft_log_recovery_laws.specs.RefusedByCalls.FailsToOpenByCalls.{given_up, undone, unmerged, unopened, unreadied, unrecovered, unscanned}
use Rattle.raft_log_recovery_laws.specs.ByCalls.{home_of, LogIsRecovered, OpensByCalls}
use Rattle.raft_log_recovery_laws.proofs.Unpadded.{resting_plain}
use Rattle.raft_log_recovery_laws.specs.Padding.{BareDirectoriesHaveNoPadding}
use Rattle.raft_log_recovery_laws.proofs.Directory.{call_by_call, not_opened}
use Rattle.raft_log_recovery_laws.proofs.Finding.{begun_directories, some_directory}
use Rattle.raft_log_recovery_laws.proofs.Outcomes.{resting_logs_open_by_calls}
use Rattle.raft_log_recovery_laws.proofs.ByCalls.{two_queues}
use Rattle.raft_log_recovery_laws.proofs.Scanning.{stays_there}

-- a counted call, and a stop, leave bare directories so
pub bare_calm : (config : Config) → IsCalm (IsBare config)
bare_calm config = record {
  at_count = λ d bare. record { numbered = bare.numbered; reserved = bare.reserved; unnamed = bare.unnamed };
  at_end = λ d bare. record { numbered = bare.numbered; reserved = bare.reserved; unnamed = bare.unnamed };
}

-- No directory has the path of a file.

too_long : (directory path name : List ℕ) → directory ≡ path → path ≡ directory ++ 47 ∷ name → ⊥
too_long directory path name same joined = omega (arith, ap length same, ap length joined, length-append directory (47 ∷ name))

no_file_of : (dir : List ℕ) (spill : Option (List ℕ)) → (IsSomeAnd spill (Clash dir) → ⊥) → (directory path : List ℕ) → Contains (dir ∷ spill_directory spill) directory
    → Contains (dir ∷ spill_directory spill) path → IsFileIn directory path → ⊥
no_file_of dir spill apart directory path (zero, l, is) (zero, k, at) (name, file, joined) = too_long directory path name (sym is ∙ at) joined
no_file_of dir None apart directory path (suc i, l, is) listed file = omega (arith, l)
no_file_of dir None apart directory path (zero, l, is) (suc i, k, at) file = omega (arith, k)
no_file_of dir (Some other) apart directory path (suc zero, l, is) (suc zero, k, at) (name, file, joined) = too_long directory path name (sym is ∙ at) joined
no_file_of dir (Some other) apart directory path (zero, l, is) (suc zero, k, at) (name, file, joined) =
    apart (inr (inl (name, file, at ∙ joined ∙ ap (λ (b : List ℕ). b ++ 47 ∷ name) (sym is))))
no_file_of dir (Some other) apart directory path (suc zero, l, is) (zero, k, at) (name, file, joined) =
    apart (inr (inr (name, file, at ∙ joined ∙ ap (λ (b : List ℕ). b ++ 47 ∷ name) (sym is))))
no_file_of dir (Some other) apart directory path (suc (suc i), l, is) listed file = omega (arith, l)
no_file_of dir (Some other) apart directory path (zero, l, is) (suc (suc i), k, at) file = omega (arith, k)
no_file_of dir (Some other) apart directory path (suc zero, l, is) (suc (suc i), k, at) file = omega (arith, k)

module _ (config : Config) (sound : IsSoundSettings (settings_of config)) where
  no_directory : (queue : LogQueue) (n : ℕ) (path : List ℕ) → IsPathWith (suffix_of queue) (paths_of config) n path → Contains (paths_of config) path → ⊥
  no_directory queue n path at listed =
      no_file_of (string_bytes config.dir) (option_map string_bytes config.spill_dir) (λ clash. sound faults.DirectoriesClash clash) at.directory path at.listed listed (at.name, (n, inl (queue, at.named)), at.joined)

  -- What a scan leaves of bare directories.

  bare_made : (list : List (List ℕ)) → ((path : List ℕ) → Contains list path → Contains (paths_of config) path) → (old new : Disk) → HasDirectories list old new → IsBare config old → IsBare config new
  bare_made list within old new made bare = record {
    numbered = λ queue n path at.
        let (none, apart) = bare.numbered queue n path at in
        (ap (λ (d : Disk). d.names path) made.rest ∙ none, made.others path (λ listed. no_directory queue n path at (within path listed)) ∙ apart);
    reserved = λ n path at. ap (λ (d : Disk). d.names path) made.rest ∙ bare.reserved n path at;
    unnamed = λ path listed. ap (λ (d : Disk). d.names path) made.rest ∙ bare.unnamed path listed;
  }

  bare_cleared : (old new : Disk) → ChangesNoFile old new → IsBare config old → IsBare config new
  bare_cleared old new leaves bare = record {
    numbered = λ queue n path at.
        let (none, apart) = bare.numbered queue n path at in
        (ap (λ (d : Disk). d.names path) leaves.rest ∙ none, ap (λ (d : Disk). d.directories path) leaves.rest ∙ apart);
    reserved = λ n path at. ap (λ (d : Disk). d.names path) leaves.rest ∙ bare.reserved n path at;
    unnamed = λ path listed. ap (λ (d : Disk). d.names path) leaves.rest ∙ bare.unnamed path listed;
  }

  bare_with : (directory : List ℕ) → Contains (paths_of config) directory → (d : Disk) → IsBare config d → IsBare config (with_directory directory d)
  bare_with directory listed d bare = record {
    numbered = λ queue n path at. ((bare.numbered queue n path at).0, apart queue n path at);
    reserved = bare.reserved;
    unnamed = bare.unnamed;
  }
    where
      apart : (queue : LogQueue) (n : ℕ) (path : List ℕ) → IsPathWith (suffix_of queue) (paths_of config) n path → (with_directory directory d).directories path ≡ false
      apart queue n path at = elim (cases_Bool (bytes_eq directory path)) [
        | inl same ↦ absurd (no_directory queue n path at (subst (Contains (paths_of config)) ((bytes_eq-Decides directory path).0 same) listed))
        | inr other ↦ ap (λ (b : Bool). cond b true (d.directories path)) other ∙ (bare.numbered queue n path at).1
      ]

  bare_unmade : (path : List ℕ) → Contains (paths_of config) path → (error : Error) (old new : Disk) → FailsToHave path error old new → IsBare config old → IsBare config new
  bare_unmade path listed (errors.Other why) old new (runs, named, told, same) bare = subst (IsBare config) (sym same) bare
  bare_unmade path listed errors.Memory old new (runs, same) bare = subst (IsBare config) (sym same) bare
  bare_unmade path listed (errors.Io kind) old new (why, fails) bare =
      let result : Result (Unit {0}) ErrorKind = Err kind in
      kept_directory (IsBare config) (WrongDirectory path old) result path (bare_calm config) bare (λ free apart. bare_with path listed old bare) tt fails
  bare_unmade path listed _ old new fails bare = absurd fails

  bare_unscanned : (error : Error) (old new : Disk) → FailsToScan (paths_of config) error old new → IsBare config old → IsBare config new
  bare_unscanned error old new (inr (made, why)) bare = bare_made (paths_of config) (λ path listed. listed) old new made bare
  bare_unscanned error old new (inl fails) bare =
      let all : (path : List ℕ) → Contains (fails.before ++ fails.path ∷ fails.behind) path → Contains (paths_of config) path = λ path listed. subst (λ (l : List (List ℕ)). Contains l path) (sym fails.split) listed in
      let within : (path : List ℕ) → Contains fails.before path → Contains (paths_of config) path = λ path listed. all path (Contains-append_left fails.before (fails.path ∷ fails.behind) path listed) in
      let here : Contains (fails.path ∷ fails.behind) fails.path = (0, omega arith, refl) in
      let listed : Contains (paths_of config) fails.path = all fails.path (Contains-append_right fails.before (fails.path ∷ fails.behind) fails.path here) in
      bare_unmade fails.path listed error fails.between new fails.fails (bare_made fails.before within old fails.between fails.has bare)

  bare_unfound : (b : DualPipesBuilder) → IsBegun config b → (error : Error) (old new : Disk) → FailsToScanLog b error old new → IsBare config old → IsBare config new
  bare_unfound b begun error old new (scan_unready why same) bare = subst (IsBare config) (sym same) bare
  bare_unfound b begun error old new (scan_refused fails) bare =
      bare_unscanned error old new (subst (λ (l : List (List ℕ)). FailsToScan l error old new) (begun_directories config b begun) fails) bare
  bare_unfound b begun error old new (uncleared found scanned scans why leaves) bare =
      let made = subst (λ (l : List (List ℕ)). HasDirectories l old scanned) (begun_directories config b begun) scans.made in
      bare_cleared scanned new leaves (bare_made (paths_of config) (λ path listed. listed) old scanned made bare)

-- Where the directories are there, a log in which nothing stands rests in bare ones.
module _ (config : Config) (d : Disk) (bare : IsBare config d) (there : (path : List ℕ) → Contains (paths_of config) path → d.directories path ≡ true) where
  fresh : (queue : LogQueue) → IsFresh (log_format queue (paths_of config)) (IsOwnPath queue (paths_of config)) d d
  fresh queue = record {
    none = λ n less path at. (bare.numbered queue n path at).0;
    places = λ n path less at. record {
      apart = (bare.numbered queue n path at).1;
      home = record { directory = at.directory; inside = record { name = at.name; joined = at.joined; plain = at.plain }; there = there at.directory at.listed };
    };
    others = record { directories = refl; names = λ path other. refl; files = λ path id other is. refl };
  }

  rests_first : IsDurableAs (log_in (home_of config)) d nothing_stands
  rests_first = (logs_go_on_disks (log_in (home_of config)) (two_queues (home_of config) (some_directory config) (some_directory config))).nothing d (fresh Append) (fresh Rewrite)

-- What was found there is found again once the directories are made.
module _ (config : Config) (d : Disk) (sound : IsSound d) (bare : IsBare config d) (found : DualPipesBuilder) (new : Disk) (finds : FindsLog config found d new) where
  abbrev mid : Disk
  mid = finds.scans.scanned

  made : HasDirectories (paths_of config) d mid
  made = subst (λ (l : List (List ℕ)). HasDirectories l d mid) (begun_directories config finds.begun finds.begins) finds.scans.scans.made

  bare_mid : IsBare config mid
  bare_mid = bare_made config finds.begins.sound (paths_of config) (λ path listed. listed) d mid made bare

  still_apart : (path : List ℕ) (id : ℕ) → d.names path ≡ Some id → mid.directories path ≡ false
  still_apart path id at =
      made.others path (λ listed. (let none : d.names path ≡ None = bare.unnamed path listed in (let never : ⊥ = cc in absurd never))) ∙ sound.apart path id at

  still_home : (directory path : List ℕ) (id : ℕ) → d.names path ≡ Some id → IsPathIn directory path → mid.directories directory ≡ true
  still_home directory path id at inside = stays_there (paths_of config) d mid made directory (sound.home directory path id at inside)

  sound_mid : IsSound mid
  sound_mid = subst IsSound (sym made.rest) (record { named = sound.named; one_name = sound.one_name; apart = still_apart; home = still_home; fresh = sound.fresh; files = sound.files })

  -- the same scan, once the directories are there
  again : FindsLog config found mid new
  again = record {
    begun = finds.begun;
    begins = finds.begins;
    scans = record {
      found = finds.scans.found;
      scanned = mid;
      scans = record {
        made = record { there = finds.scans.scans.made.there; others = λ path other. refl; rest = refl };
        is = finds.scans.scans.is;
      };
      cleared = finds.scans.cleared;
      has = finds.scans.has;
      same = finds.scans.same;
    };
  }

  module _ {S : Type 0} (disk : S → Disk) (tells : S → List ℕ → ℕ → Type 0) where
    reopens_first : OpensByCallsAs disk tells config mid nothing_stands
    reopens_first = resting_logs_open_by_calls disk tells config mid nothing_stands sound_mid (rests_first config mid bare_mid made.there)

module _ {S : Type 0} (disk : S → Disk) (tells : S → List ℕ → ℕ → Type 0) (config : Config) (d : Disk) (sound : IsSound d) (bare : IsBare config d) where
  recovered_again : (append rewrite : MemTableRecoverContext) (ready : DualPipesBuilder) (readied : Disk) (r : LogIsRecovered disk tells config d append rewrite ready readied)
      → LogIsRecovered disk tells config (mid config d sound bare r.found r.scanned r.finds) append rewrite ready readied
  recovered_again append rewrite ready readied r = record {
    found = r.found;
    read = r.read;
    scanned = r.scanned;
    cut = r.cut;
    finds = again config d sound bare r.found r.scanned r.finds;
    recovers = r.recovers;
    readies = r.readies;
  }

  first_answered : (v : LogPipes) (tables : MemTables) → OpensByCalls disk tells config d v tables → HoldsFresh (home_of config) v tables nothing_stands
  first_answered v tables r =
      let q = r.recovered in
      (reopens_first config d sound bare q.found q.scanned q.finds disk tells).answered v tables (record {
        ready = r.ready;
        readied = r.readied;
        append = r.append;
        rewrite = r.rewrite;
        recovered = recovered_again r.append r.rewrite r.ready r.readied q;
        opens = r.opens;
        comes = r.comes;
      })

  first_refused : (new : Disk) → FailsToOpenByCalls disk tells config d new → IsBare config new ⊎ IsRecoverableAs (home_of config) new nothing_stands []
  first_refused new (undone same) = inl (subst (IsBare config) (sym same) bare)
  first_refused new (unscanned b error begun fails) = inl (bare_unfound config begun.sound b begun error d new fails bare)
  first_refused new (unrecovered found scanned error finds fails) =
      inr ((reopens_first config d sound bare found scanned finds disk tells).refused new (unrecovered found scanned error (again config d sound bare found scanned finds) fails))
  first_refused new (unmerged found read scanned append rewrite finds recovers) =
      inr ((reopens_first config d sound bare found scanned finds disk tells).refused new (unmerged found read scanned append rewrite (again config d sound bare found scanned finds) recovers))
  first_refused new (unreadied found read scanned cut append rewrite error finds recovers fails) =
      inr ((reopens_first config d sound bare found scanned finds disk tells).refused new
      (unreadied found read scanned cut append rewrite error (again config d sound bare found scanned finds) recovers fails))
  first_refused new (given_up append rewrite ready r) =
      inr ((reopens_first config d sound bare r.found r.scanned r.finds disk tells).refused new (given_up append rewrite ready (recovered_again append rewrite ready new r)))
  first_refused new (unopened append rewrite ready readied error r fails) =
      inr ((reopens_first config d sound bare r.found r.scanned r.finds disk tells).refused new (unopened append rewrite ready readied error (recovered_again append rewrite ready readied r) fails))

-- nothing there is padded
pub bare_plain : BareDirectoriesHaveNoPadding
bare_plain config d sound bare b scanned padding =
    let f = padding.finds in
    resting_plain config (mid config d sound bare b scanned f) nothing_stands (sound_mid config d sound bare b scanned f)
    (rests_first config (mid config d sound bare b scanned f) (bare_mid config d sound bare b scanned f) (made config d sound bare b scanned f).there) b scanned
    (record { finds = again config d sound bare b scanned f; has = padding.has })

pub bare_directories_open : {S : Type 0} (disk : S → Disk) (tells : S → List ℕ → ℕ → Type 0) → BareDirectoriesOpen disk tells
bare_directories_open disk tells config old sound bare = record {
  answered = λ v tables opens. first_answered disk tells config (disk old) sound bare v tables (call_by_call disk tells config old (bare_plain config (disk old) sound bare) v tables opens);
  refused = λ error new fails. first_refused disk tells config (disk old) sound bare (disk new) (not_opened disk tells config old (bare_plain config (disk old) sound bare) error new fails);
}
