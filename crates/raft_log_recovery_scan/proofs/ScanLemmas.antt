-- What is listed, found, kept and opened is what the directories hold.
use Rattle.std.specs.Prelude.{Contains, All, None, Some}
use Rattle.std.specs.List.{AllZip}
use Rattle.std.proofs.Common.{◌≡◌, ℕ, zero, suc, ◌<◌, true, Option, List, [], ◌∷◌, ◌++◌, length, get_or, refl, sym, ◌∙◌, subst, inl, inr, arith}
use Rattle.std.proofs.lemmas.Bool.{false≢true}
use Rattle.std.proofs.lemmas.List.Elements.{Contains-get_or, Contains-append_right, All-contains}
use Rattle.std.proofs.lemmas.List.Sorted.{IsPermutation-sym, Contains-permutation}
use Rattle.raft_log_record_base.specs.declared.errors.Error.{Error}
use Rattle.raft_log_record_base.specs.declared.errors.Error.TheVariants as errors
use Rattle.raft_log_fs.specs.Disk.{Disk}
use Rattle.raft_log_fs.specs.Image.{IsSound}
use Rattle.raft_log_fs.specs.Reading.{IsListing}
use Rattle.raft_log_recovery_scan.specs.Directories.{HasDirectories, FailsToListAll}
use Rattle.raft_log_recovery_scan.specs.Found.{FailsAmongAll, FileLiesIn}
use Rattle.raft_log_recovery_scan.specs.Runs.{IsRunOf}
use Rattle.raft_log_recovery_scan.specs.Opened.{FailsToLook}
use Rattle.raft_log_recovery_scan.specs.Scanned.{FailsToFindFiles, IsRunAmong, IsRunIn}
use Rattle.raft_log_recovery_scan.specs.declared.file_kind.FileKind.{FileKind}
use Rattle.raft_log_recovery_scan.specs.declared.scanning.found.FoundFile.{FoundFile}
use Rattle.raft_log_recovery_scan.proofs.FoundLemmas.{are_files_in}

-- what is kept was found
pub kept_found : (found kept : List FoundFile) (f : FoundFile) → IsRunOf found kept → Contains kept f → Contains found f
kept_found found kept f run there =
    Contains-permutation (run.dropped ++ kept) found f (IsPermutation-sym found (run.dropped ++ kept) run.same) (Contains-append_right run.dropped kept f there)

pub kept_lie : (kind : FileKind) (directories : List (List ℕ)) (d : Disk) (kept : List FoundFile) → IsRunIn kind directories d kept → All (FileLiesIn kind directories d) kept
kept_lie kind directories d kept is k e lt = is.all.found (get_or kept k e) (kept_found is.found kept (get_or kept k e) is.run (Contains-get_or kept k e lt))

pub run_in : (kind : FileKind) (directories : List (List ℕ)) (listings : List (List (List ℕ))) (d : Disk) (kept : List FoundFile)
    → AllZip (λ directory listed. IsListing directory d listed) directories listings → IsRunAmong kind listings kept → IsRunIn kind directories d kept
run_in kind directories listings d kept zip is = record { found = is.found; all = are_files_in kind directories listings d is.found zip is.among; run = is.run }

-- Refusals.

-- what was listed is of one of the directories
of_directory : (directories : List (List ℕ)) (listings : List (List (List ℕ))) (d : Disk) (names : List (List ℕ)) (k : ℕ) → AllZip (λ directory listed. IsListing directory d listed) directories listings
    → k < length listings → get_or listings k names ≡ names → (directory : List ℕ) × Contains directories directory × IsListing directory d names
of_directory [] [] d names k zip lt is = absurd (omega (arith, lt))
of_directory [] (l ∷ ls) d names k zip lt is = absurd zip
of_directory (p ∷ ps) [] d names k zip lt is = absurd zip
of_directory (p ∷ ps) (l ∷ ls) d names zero (listing, zip) lt is = (p, (0, omega arith, refl), subst (IsListing p d) is listing)
of_directory (p ∷ ps) (l ∷ ls) d names (suc k) (listing, zip) lt is =
    let rest = of_directory ps ls d names k zip (omega (arith, lt)) is in
    (rest.0, (suc rest.1.0, omega (arith, rest.1.1), rest.1.2), rest.2)

pub fails_to_find : (kind : FileKind) (directories : List (List ℕ)) (listings : List (List (List ℕ))) (d : Disk) (error : Error)
    → AllZip (λ directory listed. IsListing directory d listed) directories listings → FailsAmongAll kind listings error → FailsToFindFiles directories d error
fails_to_find kind directories listings d (errors.Corruption text) zip (names, (k, lt, is), (name, there, misnamed, told)) =
    let from = of_directory directories listings d names k zip lt is in
    let listed = from.2.listed name there in
    (kind, name, record { directory = from.0; listed = from.1; plain = listed.1; there = listed.0 }, misnamed, told)
fails_to_find kind directories listings d errors.Memory zip fails = tt
fails_to_find kind directories listings d _ zip fails = absurd fails

pub fails_to_open : (directories : List (List ℕ)) (d : Disk) (error : Error) → FailsToLook d error → FailsToFindFiles directories d error
fails_to_open directories d (errors.Io kind) fails = fails
fails_to_open directories d errors.Memory fails = tt
fails_to_open directories d _ fails = absurd fails

-- a directory that is there is listed but after a stop, or for want of memory
no_file : (path : List ℕ) (d : Disk) (o : Option ℕ) → IsSound d → d.directories path ≡ true → d.names path ≡ o → (d.names path ≡ None → ⊥) → ⊥
no_file path d None sound there is file = file is
no_file path d (Some id) sound there is file = false≢true (sym (sound.apart path id is) ∙ there)

pub fails_to_list : (directories : List (List ℕ)) (d : Disk) (error : Error) → IsSound d → All (λ path. d.directories path ≡ true) directories → FailsToListAll directories d error → FailsToFindFiles directories d error
fails_to_list directories d (errors.Io kind) sound there (path, listed, inl stop) = stop
fails_to_list directories d (errors.Io kind) sound there (path, listed, inr (runs, inl file)) =
    absurd (no_file path d (d.names path) sound (All-contains (λ p. d.directories p ≡ true) directories path there listed) refl file.1)
fails_to_list directories d (errors.Io kind) sound there (path, listed, inr (runs, inr absent)) =
    absurd (false≢true (sym absent.2 ∙ All-contains (λ p. d.directories p ≡ true) directories path there listed))
fails_to_list directories d errors.Memory sound there fails = tt
fails_to_list directories d _ sound there fails = absurd fails.2

pub all_there : (directories : List (List ℕ)) (old new : Disk) → HasDirectories directories old new → All (λ path. new.directories path ≡ true) directories
all_there directories old new has k e lt = has.there (get_or directories k e) (Contains-get_or directories k e lt)
