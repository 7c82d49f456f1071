-- A scan of a log's directories leaves its files as they are: where a log rests, its directories are there.
use Rattle.std.proofs.Common.{◌≡◌, ℕ, ◌<◌, Bool, true, false, List, [], ◌∷◌, ◌++◌, length, refl, sym, ap, subst, ◌∙◌, inl, inr, Contains, arith}
use Rattle.std.proofs.lemmas.List.{append_cancel_right}
use Rattle.raft_log_record_base.specs.declared.pipe_log.LogQueue.{LogQueue}
use Rattle.raft_log_fs.specs.Disk.{Disk}
use Rattle.raft_log_fs.specs.Image.{IsSound}
use Rattle.raft_log_active_file.specs.Standing.{IsPlace}
use Rattle.raft_log_active_file.specs.declared.format.File.{File}
use Rattle.raft_log_file_format.specs.Name.{suffix_of}
use Rattle.raft_log_engine_laws.specs.raft_log_active_file.specs.QueueFiles.{log_format}
use Rattle.raft_log_engine_laws.specs.raft_log_active_file.specs.QueueFilesLaws.{is_layout}
use Rattle.raft_log_engine_laws.specs.raft_log_active_file.specs.Paths.{IsPathWith}
use Rattle.raft_log_engine_laws.specs.raft_log_active_file.specs.PathLaws.{one_name}
use Rattle.raft_log_engine_laws.specs.raft_log_active_file.specs.declared.record.LogRecord.{LogRecord}
use Rattle.raft_log_recovery_scan.specs.Directories.{FailsToHave, HasDirectories}
use Rattle.raft_log_recovery_scan.specs.Scanned.{FailsToScan}
use Rattle.raft_log_record_base.specs.declared.errors.Error.{Error}
use Rattle.raft_log_record_base.specs.declared.errors.Error.TheVariants as errors
use Rattle.std.specs.declared.io.ErrorKind.{ErrorKind}
use Rattle.std.specs.Prelude.{Result, Err}
use Rattle.std.proofs.lemmas.List.Elements.{Contains-append_left, Contains-append_right}
use Rattle.raft_log_fs.specs.Arguments.{WrongDirectory}
use Rattle.raft_log_fs.proofs.Public.{kept_directory}
use Rattle.raft_log_recovery_laws.proofs.Calls.{keeps_all, keeps_calm}
use Rattle.raft_log_recovery_scan.specs.Metadata.{ChangesNoFile}
use Rattle.raft_log_recovery_scan.specs.Opened.{AreOpen}
use Rattle.raft_log_recovery_scan.specs.declared.file_kind.FileKind.TheVariants.{Reserved}
use Rattle.raft_log_recovery_scan.specs.declared.scanning.found.FoundFile.{FoundFile}
use Rattle.raft_log_fs.specs.declared.handle.Permission.{Permission}
use Rattle.raft_log_dual_pipes.specs.Own.{log_layout}
use Rattle.raft_log_dual_pipes.specs.State.{Spanned}
use Rattle.raft_log_dual_pipes.specs.Reopening.{RestsQueue}
use Rattle.raft_log_engine_laws.specs.raft_log_block_cache.specs.Stored.{Each}
use Rattle.raft_log_recovery_laws.specs.Keeping.{KeepsNumbered}
use Rattle.raft_log_recovery_laws.proofs.Keeping.{keeps_same, keeps_then}

true_is_not_false : (b : Bool) → b ≡ true → b ≡ false → ⊥
true_is_not_false b is isnt = cc

-- the files that a scan kept under reserved names have such
pub open_reserved : (directories : List (List ℕ)) (d : Disk) (permission : Permission) (found : List FoundFile) (files : List File) → AreOpen Reserved directories d permission found files → Each (λ (f : File). f.reserved ≡ true) files
open_reserved directories d permission [] [] are = tt
open_reserved directories d permission [] (f ∷ fs) are = absurd are
open_reserved directories d permission (g ∷ gs) [] are = absurd are
open_reserved directories d permission (g ∷ gs) (f ∷ fs) (one, rest) = (one.reserved, open_reserved directories d permission gs fs rest)

-- where directories were made, those that were there are there
pub stays_there : (list : List (List ℕ)) (old new : Disk) → HasDirectories list old new → (path : List ℕ) → old.directories path ≡ true → new.directories path ≡ true
stays_there list old new made path there = by_case (new.directories path) refl
  where
    by_case : (b : Bool) → new.directories path ≡ b → new.directories path ≡ true
    by_case true is = is
    by_case false is = absurd (true_is_not_false (new.directories path) (made.others path (λ listed. true_is_not_false (new.directories path) (made.there path listed) is) ∙ there) is)

module _ (queue : LogQueue) (directories : List (List ℕ)) (some : 0 < length directories) (q : Spanned LogRecord) (old : Disk) (rests : RestsQueue (log_layout queue directories) q old) where
  place_of : (m : ℕ) (path : List ℕ) → m < (log_format queue directories).limit → (log_format queue directories).IsPath m path → IsPlace path old
  place_of = by_rest rests
    where
      by_rest : RestsQueue (log_layout queue directories) q old → (m : ℕ) (path : List ℕ) → m < (log_format queue directories).limit → (log_format queue directories).IsPath m path → IsPlace path old
      by_rest (inl (left, span)) m path less at = left.stands.places m path less at
      by_rest (inr unbegun) m path less at = unbegun.fresh.places m path less at

  -- the log's directories are there
  pub directory_there : (directory : List ℕ) → Contains directories directory → old.directories directory ≡ true
  directory_there directory listed =
      let small : 1 < (log_format queue directories).limit = (let limit = (is_layout queue directories some).limit in omega (arith, limit)) in
      let first : IsPathWith (suffix_of queue) directories 1 _ = (is_layout queue directories some).numbered 0 1 small in
      let path : List ℕ = directory ++ 47 ∷ first.name in
      let place = place_of 1 path small (record { directory = directory; listed = listed; name = first.name; named = first.named; plain = first.plain; joined = refl }) in
      let inside = place.home.inside in
      let same : first.name ≡ inside.name = one_name directory place.home.directory first.name inside.name first.plain inside.plain inside.joined in
      let joined : directory ++ 47 ∷ first.name ≡ place.home.directory ++ 47 ∷ first.name = inside.joined ∙ ap (λ (l : List ℕ). place.home.directory ++ 47 ∷ l) (sym same) in
      ap old.directories (append_cancel_right directory place.home.directory (47 ∷ first.name) joined) ∙ place.home.there

  module _ (list : List (List ℕ)) (within : (path : List ℕ) → Contains list path → Contains directories path) (new : Disk) (made : HasDirectories list old new) where
    -- no path of a file has become a directory's
    pub stays_apart : (path : List ℕ) → old.directories path ≡ false → new.directories path ≡ false
    stays_apart path apart = made.others path (λ listed. true_is_not_false (old.directories path) (directory_there path (within path listed)) apart) ∙ apart

    pub directories_keep : KeepsNumbered (log_format queue directories) old new
    directories_keep = record {
      names = λ m path less at. ap (λ (d : Disk). d.names path) made.rest;
      files = λ m path id less at there. ap (λ (d : Disk). d.files id) made.rest;
      places = λ m path less at place. record {
        apart = stays_apart path place.apart;
        home = record { directory = place.home.directory; inside = place.home.inside; there = stays_there list old new made place.home.directory place.home.there };
      };
    }

  -- One of the directories wasn't made.
  module _ (path : List ℕ) (listed : Contains directories path) (between : Disk) (there : between.directories path ≡ true) where
    not_made : (error : Error) (new : Disk) → FailsToHave path error between new → KeepsNumbered (log_format queue directories) between new
    not_made (errors.Other why) new (runs, named, told, same) = subst (KeepsNumbered (log_format queue directories) between) (sym same) (keeps_all (log_format queue directories) between)
    not_made errors.Memory new (runs, same) = subst (KeepsNumbered (log_format queue directories) between) (sym same) (keeps_all (log_format queue directories) between)
    not_made (errors.Io kind) new (why, fails) =
        let result : Result (Unit {0}) ErrorKind = Err kind in
        kept_directory (KeepsNumbered (log_format queue directories) between) (WrongDirectory path between) result path (keeps_calm (log_format queue directories) between) (keeps_all (log_format queue directories) between)
        (λ free apart. absurd (true_is_not_false (between.directories path) there apart)) tt fails
    not_made _ new fails = absurd fails

  pub no_scan_keeps : (error : Error) (new : Disk) → FailsToScan directories error old new → KeepsNumbered (log_format queue directories) old new
  no_scan_keeps error new (inr (made, why)) = directories_keep directories (λ path listed. listed) new made
  no_scan_keeps error new (inl fails) =
      let within : (path : List ℕ) → Contains fails.before path → Contains directories path = λ path listed. subst (λ (l : List (List ℕ)). Contains l path) (sym fails.split) (Contains-append_left fails.before (fails.path ∷ fails.behind) path listed) in
      let here : Contains (fails.path ∷ fails.behind) fails.path = (0, omega arith, refl) in
      let listed : Contains directories fails.path = subst (λ (l : List (List ℕ)). Contains l fails.path) (sym fails.split) (Contains-append_right fails.before (fails.path ∷ fails.behind) fails.path here) in
      let there : fails.between.directories fails.path ≡ true = stays_there fails.before old fails.between fails.has fails.path (directory_there fails.path listed) in
      keeps_then (log_format queue directories) old fails.between new (directories_keep fails.before within fails.between fails.has) (not_made fails.path listed fails.between there error new fails.fails)

  module _ (new : Disk) (made : HasDirectories directories old new) where
    pub scan_keeps : (cleared : Disk) → ChangesNoFile new cleared → KeepsNumbered (log_format queue directories) old cleared
    scan_keeps cleared leaves =
        keeps_then (log_format queue directories) old new cleared (directories_keep directories (λ path listed. listed) new made)
        (keeps_same (log_format queue directories) new cleared (ap (λ (d : Disk). d.names) leaves.rest) (ap (λ (d : Disk). d.directories) leaves.rest) (ap (λ (d : Disk). d.files) leaves.rest))

    pub made_sound : IsSound old → IsSound new
    made_sound sound = subst IsSound (sym made.rest) (record {
      named = sound.named;
      one_name = sound.one_name;
      apart = λ path id at. stays_apart directories (λ p listed. listed) new made path (sound.apart path id at);
      home = λ directory path id at inside. stays_there directories old new made directory (sound.home directory path id at inside);
      fresh = sound.fresh;
      files = sound.files;
    })

    pub scan_sound : (cleared : Disk) → ChangesNoFile new cleared → IsSound old → IsSound cleared
    scan_sound cleared leaves sound =
        let was = made_sound sound in
        subst IsSound (sym leaves.rest) (record { named = was.named; one_name = was.one_name; apart = was.apart; home = was.home; fresh = was.fresh; files = was.files })
