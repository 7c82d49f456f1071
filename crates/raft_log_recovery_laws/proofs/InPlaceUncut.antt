-- An open that is refused before anything was cut leaves the log as it lay.
use Rattle.std.specs.Prelude.{Result, Err}
use Rattle.std.specs.declared.io.ErrorKind.{ErrorKind}
use Rattle.std.proofs.Common.{◌≡◌, ℕ, ◌<◌, Bool, true, false, List, ◌∷◌, ◌++◌, length, refl, sym, ap, subst, ◌∙◌, inl, inr, Contains, arith}
use Rattle.std.proofs.lemmas.Bool.{cases_Bool}
use Rattle.std.proofs.lemmas.List.{append_cancel_right}
use Rattle.std.proofs.lemmas.List.Elements.{Contains-append_left, Contains-append_right}
use std.Path.{fun_ext}
use Rattle.raft_log_record_base.specs.declared.errors.Error.{Error}
use Rattle.raft_log_record_base.specs.declared.errors.Error.TheVariants as errors
use Rattle.raft_log_record_base.specs.declared.pipe_log.LogQueue.{LogQueue}
use Rattle.raft_log_record_base.specs.declared.pipe_log.LogQueue.TheVariants.{Append}
use Rattle.raft_log_fs.specs.Arguments.{WrongDirectory}
use Rattle.raft_log_fs.specs.Disk.{Disk}
use Rattle.raft_log_fs.specs.Image.{IsSound}
use Rattle.raft_log_file_writer.specs.LogFormat.{Format}
use Rattle.raft_log_fs.proofs.Public.{kept_directory}
use Rattle.raft_log_active_file.specs.Standing.{IsPlace}
use Rattle.raft_log_file_format.specs.Name.{suffix_of}
use Rattle.raft_log_file_settings.specs.declared.config.Config.{Config}
use Rattle.raft_log_engine_laws.specs.raft_log_active_file.specs.QueueFiles.{log_format}
use Rattle.raft_log_engine_laws.specs.raft_log_active_file.specs.QueueFilesLaws.{is_layout}
use Rattle.raft_log_engine_laws.specs.raft_log_active_file.specs.PathLaws.{one_name}
use Rattle.raft_log_engine_laws.specs.raft_log_active_file.specs.Paths.{IsPathWith}
use Rattle.raft_log_engine_laws.specs.raft_log_active_file.specs.declared.record.LogRecord.{LogRecord}
use Rattle.raft_log_recovery_scan.specs.Directories.{FailsToHave, HasDirectories}
use Rattle.raft_log_recovery_scan.specs.Metadata.{ChangesNoFile}
use Rattle.raft_log_recovery_scan.specs.Scanned.{FailsToScan}
use Rattle.raft_log_dual_pipes.specs.OpenOrClosed.{none_open, LiesQueue}
use Rattle.raft_log_dual_pipes.specs.Own.{log_layout}
use Rattle.raft_log_dual_pipes.specs.Queues.{AreTwoQueues}
use Rattle.raft_log_dual_pipes.specs.State.{Spanned}
use Rattle.raft_log_dual_pipes.proofs.Public.{lies, lying_logs_are_logs}
use Rattle.raft_log_dual_pipes.specs.Pipes.{LogRecordValue}
use Rattle.raft_log_engine_laws.specs.EngineState.{log_in, LogDirectories, LogMap}
use Rattle.raft_log_engine_laws.specs.Holding.{IsRecoverableAs}
use Rattle.raft_log_recovery.specs.Directories.{paths_of}
use Rattle.raft_log_recovery.specs.Scanning.{FailsToScanLog}
use Rattle.raft_log_recovery.specs.Scanning.FailsToScanLog.{uncleared, unready, unscanned as scan_refused}
use Rattle.raft_log_recovery.specs.declared.builder.DualPipesBuilder.{DualPipesBuilder}
use Rattle.raft_log_recovery.specs.Finding.{FindsLog}
use Rattle.raft_log_recovery_laws.specs.Keeping.{KeepsNumbered}
use Rattle.raft_log_recovery_laws.proofs.Calls.{keeps_all, keeps_calm}
use Rattle.raft_log_recovery_laws.proofs.Keeping.{keeps_same, keeps_then, kept_logs_stay}
use Rattle.raft_log_recovery_laws.specs.ByCalls.{home_of}
use Rattle.raft_log_recovery_laws.proofs.Finding.{begun_directories, some_directory}
use Rattle.raft_log_recovery_laws.proofs.ByCalls.{two_queues}
use Rattle.raft_log_recovery_laws.specs.InPlace.{StopsUncut, UncutLogsStay}
use Rattle.raft_log_recovery_laws.specs.InPlace.StopsUncut.{undone, unread, unscanned}

true_is_not_false : (b : Bool) → b ≡ true → b ≡ false → ⊥
true_is_not_false b is isnt = cc

-- A scan where all directories are there.
module _ (directories : List (List ℕ)) (old : Disk) (there : (path : List ℕ) → Contains directories path → old.directories path ≡ true) where
  -- making them changes nothing
  same_made : (list : List (List ℕ)) → ((path : List ℕ) → Contains list path → Contains directories path) → (new : Disk) → HasDirectories list old new → new ≡ old
  same_made list within new made = made.rest ∙ ap (λ (x : List ℕ → Bool). record old { directories = x }) (fun_ext same)
    where
      same : (path : List ℕ) → new.directories path ≡ old.directories path
      same path = elim (cases_Bool (old.directories path)) [
        | inr miss ↦ made.others path (λ listed. true_is_not_false (old.directories path) (there path (within path listed)) miss)
        | inl hit ↦ elim (cases_Bool (new.directories path)) [
          | inl now ↦ now ∙ sym hit
          | inr gone ↦ made.others path (λ listed. true_is_not_false (new.directories path) (made.there path listed) gone)
        ]
      ]

  module _ {R : Type 0} (F : Format R) where
    keeps_equal : (new : Disk) → new ≡ old → KeepsNumbered F old new
    keeps_equal new same = subst (KeepsNumbered F old) (sym same) (keeps_all F old)

    not_made : (path : List ℕ) → Contains directories path → (error : Error) (new : Disk) → FailsToHave path error old new → KeepsNumbered F old new
    not_made path listed (errors.Other why) new (runs, named, told, same) = keeps_equal new same
    not_made path listed errors.Memory new (runs, same) = keeps_equal new same
    not_made path listed (errors.Io kind) new (why, fails) =
        let result : Result (Unit {0}) ErrorKind = Err kind in
        kept_directory (KeepsNumbered F old) (WrongDirectory path old) result path (keeps_calm F old) (keeps_all F old) (λ free apart. absurd (true_is_not_false (old.directories path) (there path listed) apart)) tt fails
    not_made path listed _ new fails = absurd fails

    no_scan : (error : Error) (new : Disk) → FailsToScan directories error old new → KeepsNumbered F old new
    no_scan error new (inr (made, why)) = keeps_equal new (same_made directories (λ path listed. listed) new made)
    no_scan error new (inl fails) =
        let within : (path : List ℕ) → Contains fails.before path → Contains directories path = λ path listed. subst (λ (l : List (List ℕ)). Contains l path) (sym fails.split) (Contains-append_left fails.before (fails.path ∷ fails.behind) path listed) in
        let here : Contains (fails.path ∷ fails.behind) fails.path = (0, omega arith, refl) in
        let listed : Contains directories fails.path = subst (λ (l : List (List ℕ)). Contains l fails.path) (sym fails.split) (Contains-append_right fails.before (fails.path ∷ fails.behind) fails.path here) in
        not_made fails.path listed error new (subst (λ (e : Disk). FailsToHave fails.path error e new) (same_made fails.before within fails.between fails.has) fails.fails)

    scan : (mid new : Disk) → HasDirectories directories old mid → ChangesNoFile mid new → KeepsNumbered F old new
    scan mid new made leaves =
        keeps_then F old mid new (keeps_equal mid (same_made directories (λ path listed. listed) mid made))
        (keeps_same F mid new (ap (λ (d : Disk). d.names) leaves.rest) (ap (λ (d : Disk). d.directories) leaves.rest) (ap (λ (d : Disk). d.files) leaves.rest))

    no_log_scan : (b : DualPipesBuilder) → paths_of b.config ≡ directories → (error : Error) (new : Disk) → FailsToScanLog b error old new → KeepsNumbered F old new
    no_log_scan b set error new (unready memory same) = keeps_equal new same
    no_log_scan b set error new (scan_refused fails) = no_scan error new (subst (λ (l : List (List ℕ)). FailsToScan l error old new) set fails)
    no_log_scan b set error new (uncleared found scanned scans memory leaves) = scan scanned new (subst (λ (l : List (List ℕ)). HasDirectories l old scanned) set scans.made) leaves

-- Where a log lies, its directories are there.
module _ (queue : LogQueue) (directories : List (List ℕ)) (some : 0 < length directories) (q : Spanned LogRecord) (d : Disk) where
  place_of : LiesQueue (log_layout queue directories) q d → (m : ℕ) (path : List ℕ) → m < (log_format queue directories).limit → (log_format queue directories).IsPath m path → IsPlace path d
  place_of (inl (inl left, span)) m path less at = left.stands.places m path less at
  place_of (inl (inr left, span)) m path less at = left.stands.places m path less at
  place_of (inr unbegun) m path less at = unbegun.fresh.places m path less at

  directory_there : LiesQueue (log_layout queue directories) q d → (directory : List ℕ) → Contains directories directory → d.directories directory ≡ true
  directory_there lying directory listed =
      let small : 1 < (log_format queue directories).limit = (let limit = (is_layout queue directories some).limit in omega (arith, limit)) in
      let first : IsPathWith (suffix_of queue) directories 1 _ = (is_layout queue directories some).numbered 0 1 small in
      let path : List ℕ = directory ++ 47 ∷ first.name in
      let place = place_of lying 1 path small (record { directory = directory; listed = listed; name = first.name; named = first.named; plain = first.plain; joined = refl }) in
      let inside = place.home.inside in
      let same : first.name ≡ inside.name = one_name directory place.home.directory first.name inside.name first.plain inside.plain inside.joined in
      let joined : directory ++ 47 ∷ first.name ≡ place.home.directory ++ 47 ∷ first.name = inside.joined ∙ ap (λ (l : List ℕ). place.home.directory ++ 47 ∷ l) (sym same) in
      ap d.directories (append_cancel_right directory place.home.directory (47 ∷ first.name) joined) ∙ place.home.there

module _ (config : Config) (d : Disk) (m : LogMap) (pending : List LogRecordValue) (left : IsRecoverableAs (home_of config) d m pending) where
  abbrev home : LogDirectories
  home = home_of config

  two : AreTwoQueues (log_in home)
  two = two_queues home (some_directory config) (some_directory config)

  dirs_there : (path : List ℕ) → Contains (paths_of config) path → d.directories path ≡ true
  dirs_there =
      let s = left.1.lies.state in
      directory_there Append (paths_of config) (some_directory config) s.append d
      (subst (LiesQueue (log_in home).append s.append) left.1.lies.disk (lies (log_in home).append two.append left.0.append s.append s.disk left.1.lies.stands.append))

  stays : (new : Disk) → ((F : Format LogRecord) → KeepsNumbered F d new) → IsRecoverableAs home new m pending
  stays new keeps = (
    none_open,
    record {
      done = left.1.done;
      rest = left.1.rest;
      splits = left.1.splits;
      lies =
          (let s = left.1.lies in
          (kept_logs_stay (log_in home) two d new (record { append = keeps (log_in home).append.format; rewrite = keeps (log_in home).rewrite.format })).lies _ left.1.rest
          (record { state = s.state; disk = s.disk; stands = (lying_logs_are_logs (log_in home) two).dropped left.0 s.state s.stands; holds = s.holds }));
    },
  )

  -- a scan leaves all files as they are
  pub finds_keep : (found : DualPipesBuilder) (new : Disk) → FindsLog config found d new → (F : Format LogRecord) → KeepsNumbered F d new
  finds_keep found new finds F =
      let s = finds.scans in
      scan (paths_of config) d dirs_there F s.scanned new (subst (λ (l : List (List ℕ)). HasDirectories l d s.scanned) (begun_directories config finds.begun finds.begins) s.scans.made) s.cleared

  pub finds_sound : (found : DualPipesBuilder) (new : Disk) → FindsLog config found d new → IsSound d → IsSound new
  finds_sound found new finds sound =
      let s = finds.scans in
      let made = subst (λ (l : List (List ℕ)). HasDirectories l d s.scanned) (begun_directories config finds.begun finds.begins) s.scans.made in
      let was : IsSound s.scanned = subst IsSound (sym (same_made (paths_of config) d dirs_there (paths_of config) (λ path listed. listed) s.scanned made)) sound in
      subst IsSound (sym s.cleared.rest) (record { named = was.named; one_name = was.one_name; apart = was.apart; home = was.home; fresh = was.fresh; files = was.files })

  pub stops_uncut : (new : Disk) → StopsUncut config d new → IsRecoverableAs home new m pending
  stops_uncut new (undone same) = stays new (λ F. keeps_equal (paths_of config) d dirs_there F new same)
  stops_uncut new (unscanned b error begun fails) = stays new (λ F. no_log_scan (paths_of config) d dirs_there F b (begun_directories config b begun) error new fails)
  stops_uncut new (unread found finds) = stays new (finds_keep found new finds)

pub uncut_logs_stay : UncutLogsStay
uncut_logs_stay config d m pending left new stops = stops_uncut config d m pending left new stops
