use Rattle.std.proofs.Common.{List, ℕ, Vec, String, Global, map, subst, sym}
use Rattle.std.specs.Prelude.{All}
use Rattle.std.specs.List.{AllZip}
use Rattle.std.specs.String.{string_bytes}
use Rattle.std.proofs.lemmas.Result.{err_from_is_err_and}
use Rattle.raft_log_fs.specs.Disk.{Disk}
use Rattle.raft_log_fs.specs.Reading.{IsListing}
use Rattle.raft_log_recovery_scan.specs.Found.{FileLiesIn}
use Rattle.raft_log_recovery_scan.specs.Opened.{IsOpenQueue}
use Rattle.raft_log_recovery_scan.specs.Scanned.{IsRunAmong, IsRunIn}
use Rattle.raft_log_recovery_scan.specs.declared.file_kind.FileKind.{FileKind}
use Rattle.raft_log_recovery_scan.specs.declared.scanning.found.FoundFile.{FoundFile}
use Rattle.raft_log_recovery_scan.proofs.ScanLemmas.{fails_to_find, fails_to_open, kept_lie, run_in}
use Rattle.raft_log_recovery_scan.proofs.Steps.{zip_map}
use Rattle.raft_log_recovery_scan.proofs.scanning.scan_queue.Goals as goal

abbrev names_of : Vec (String Global) Global → List (List ℕ)
names_of v = map string_bytes v.items

-- what is kept, on the disk
kept_in : (kind : FileKind) (d : Disk) (paths : List (String Global)) (listings : List (Vec (String Global) Global)) (kept : List FoundFile)
    → AllZip (λ path names. IsListing (string_bytes path) d (map string_bytes names.items)) paths listings → IsRunAmong kind (map names_of listings) kept
    → IsRunIn kind (map string_bytes paths) d kept
kept_in kind d paths listings kept zip run =
    run_in kind (map string_bytes paths) (map names_of listings) d kept (zip_map (λ directory listed. IsListing directory d listed) string_bytes names_of paths listings zip) run

pub returns-in_err-kept-clause-err : goal.returns-in_err-kept-clause-err
returns-in_err-kept-clause-err g c =
    let gave = err_from_is_err_and c.from_residual.result c.from_residual.ensures.1 in
    let d = g.F.FileSystem.disk c.args.file_system.now in
    let paths = c.args.paths.now in
    let listings = c.args.listings.now in
    rw (gave.1, gave.2) (fails_to_find c.args.kind (map string_bytes paths) (map names_of listings) d c.in_err-kept.field-0.0
    (zip_map (λ directory listed. IsListing directory d listed) string_bytes names_of paths listings c.requires) c.in_err-kept.ensures.err)

pub open_queue-requires : goal.open_queue-requires
open_queue-requires g c =
    let d = g.F.FileSystem.disk c.args.file_system.now in
    let paths = c.args.paths.now in
    let kept = c.in_ok-kept.kept.items in
    subst (All (FileLiesIn c.args.kind (map string_bytes paths) d)) (sym c.as_slice.ensures.value)
    (kept_lie c.args.kind (map string_bytes paths) d kept (kept_in c.args.kind d paths c.args.listings.now kept c.requires c.in_ok-kept.ensures.ok))

pub returns-in_err-files-clause-err : goal.returns-in_err-files-clause-err
returns-in_err-files-clause-err g c =
    let gave = err_from_is_err_and c.from_residual-in_err-files.result c.from_residual-in_err-files.ensures.1 in
    rw (gave.1, gave.2) (fails_to_open (map string_bytes c.args.paths.now) (g.F.FileSystem.disk c.args.file_system.now) c.in_err-files.field-0.0 c.in_err-files.ensures.err)

pub returns-clause-ok : goal.returns-clause-ok
returns-clause-ok g c =
    let d = g.F.FileSystem.disk c.args.file_system.now in
    let paths = c.args.paths.now in
    let kept = c.in_ok-kept.kept.items in
    record {
      kept = kept;
      run = kept_in c.args.kind d paths c.args.listings.now kept c.requires c.in_ok-kept.ensures.ok;
      opened = subst (λ (l : List FoundFile). IsOpenQueue c.args.kind (map string_bytes paths) d c.args.mode l c.in_ok-files.files.items) c.as_slice.ensures.value c.in_ok-files.ensures.ok;
    }
