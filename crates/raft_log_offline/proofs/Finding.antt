-- The files of a log that are copied are found and open.
use Rattle.std.specs.Prelude.{Contains, All}
use Rattle.std.specs.List.{AllZip}
use Rattle.std.specs.String.{string_bytes}
use Rattle.std.proofs.Common.{◌≡◌, ℕ, ◌<◌, ◌^◌, List, [], ◌∷◌, Vec, String, Global, map, get_or, refl, sym, subst, inl, inr}
use Rattle.std.proofs.lemmas.List.Elements.{Contains-get_or}
use Rattle.raft_log_record_base.specs.declared.errors.Error.{Error}
use Rattle.raft_log_record_base.specs.declared.errors.Error.TheVariants as errors
use Rattle.raft_log_fs.specs.Disk.{Disk}
use Rattle.raft_log_fs.specs.Reading.{IsListing}
use Rattle.raft_log_fs.specs.declared.handle.Permission.TheVariants.{ReadOnly}
use Rattle.raft_log_active_file.specs.declared.format.File.{File}
use Rattle.raft_log_recovery_scan.specs.Found.{AreAmongAll, AreFilesIn, FileLiesIn}
use Rattle.raft_log_recovery_scan.specs.Opened.{AreOpen, IsOpenFile}
use Rattle.raft_log_recovery_scan.specs.Scanned.{FailsToFindFiles}
use Rattle.raft_log_recovery_scan.specs.declared.file_kind.FileKind.{FileKind}
use Rattle.raft_log_recovery_scan.specs.declared.scanning.found.FoundFile.{FoundFile}
use Rattle.raft_log_recovery_scan.proofs.Public.{are_files_in, limit_small, zip_map}
use Rattle.raft_log_file_settings.specs.Settings.{Settings, directories_of}
use Rattle.raft_log_offline.specs.Forks.{AllowsFork, IsForkRefusal}
use Rattle.raft_log_offline.specs.Sources.{AreSourcesOf, IsOneEach, IsSource, IsSourceRefusal, source_of}
use Rattle.raft_log_offline.specs.declared.source_file.SourceFile.{SourceFile}
use Rattle.raft_log_offline.proofs.Lasts.{first, later}

abbrev pub names_of : Vec (String Global) Global → List (List ℕ)
names_of v = map string_bytes v.items

-- the files that were found are those that lie in the directories
pub files_in : (kind : FileKind) (d : Disk) (paths : List (String Global)) (listings : List (Vec (String Global) Global)) (found : List FoundFile)
    → AllZip (λ path names. IsListing (string_bytes path) d (map string_bytes names.items)) paths listings → AreAmongAll kind 0 (map names_of listings) found
    → AreFilesIn kind (map string_bytes paths) d found
files_in kind d paths listings found zip among =
    are_files_in kind (map string_bytes paths) (map names_of listings) d found (zip_map (λ directory listed. IsListing directory d listed) string_bytes names_of paths listings zip) among

-- so are those that were chosen
pub chosen_lie : (kind : FileKind) (directories : List (List ℕ)) (d : Disk) (found chosen : List FoundFile) → AreFilesIn kind directories d found → IsOneEach found chosen → All (FileLiesIn kind directories d) chosen
chosen_lie kind directories d found chosen all each k e lt = all.found (get_or chosen k e) (each.are (get_or chosen k e) (Contains-get_or chosen k e lt)).there

zip_sources : (kind : FileKind) (directories : List (List ℕ)) (d : Disk) (chosen : List FoundFile) (files : List File) → ((f : FoundFile) → Contains chosen f → f.seq < 10 ^ 16)
    → AllZip (IsOpenFile kind directories d ReadOnly) chosen files → AllZip (IsSource kind directories d) chosen (map (source_of kind) files)
zip_sources kind directories d [] [] small zip = tt
zip_sources kind directories d [] (f ∷ fs) small zip = absurd zip
zip_sources kind directories d (c ∷ cs) [] small zip = absurd zip
zip_sources kind directories d (c ∷ cs) (f ∷ fs) small (is, zip) = (
  record { queue = refl; seq = is.seq; small = small c (first c cs); is = is.opened.is },
  zip_sources kind directories d cs fs (λ g there. small g (later c cs g there)) zip,
)

pub sources_of_kind : (kind : FileKind) (directories : List (List ℕ)) (d : Disk) (found chosen : List FoundFile) (files : List File) (sources : List SourceFile) → AreFilesIn kind directories d found
    → IsOneEach found chosen → AreOpen kind directories d ReadOnly chosen files → sources ≡ map (source_of kind) files → AreSourcesOf kind directories d sources
sources_of_kind kind directories d found chosen files sources all each opened is = record {
  found = found;
  all = all;
  chosen = chosen;
  each = each;
  opened = subst (λ (l : List SourceFile). AllZip (IsSource kind directories d) chosen l) (sym is)
      (zip_sources kind directories d chosen files (λ f there. limit_small f.signed f.seq (all.found f (each.are f there).there).small) opened);
}

-- want of memory
pub short_find : (directories : List (List ℕ)) (d : Disk) (error : Error) → error ≡ errors.Memory → FailsToFindFiles directories d error
short_find directories d error is = subst (FailsToFindFiles directories d) (sym is) tt

-- Why there is no fork.

-- files that weren't found
pub unfound : (s : Settings) (target : List ℕ) (d : Disk) (error : Error) → AllowsFork s target d → IsSourceRefusal (directories_of s) d error → IsForkRefusal s target d error
unfound s target d (errors.Io kind) allowed (inl list) = inr (allowed, list)
unfound s target d (errors.Io kind) allowed (inr find) = inl find
unfound s target d (errors.Corruption text) allowed (inl (path, there, list)) = absurd list
unfound s target d (errors.Corruption text) allowed (inr find) = (allowed, find)
unfound s target d errors.Memory allowed why = tt
unfound s target d _ allowed (inl (path, there, list)) = absurd list
unfound s target d _ allowed (inr find) = absurd find
