use Rattle.std.proofs.Common.{map, inl, inr}
use Rattle.std.specs.String.{string_bytes}
use Rattle.std.proofs.lemmas.Result.{err_from_is_err_and}
use Rattle.raft_log_recovery_scan.proofs.ScanLemmas.{all_there}
use Rattle.raft_log_recovery_scan.proofs.scanning.scan.Goals as goal

pub returns-in_err-make_directories-clause-err : goal.returns-in_err-make_directories-clause-err
returns-in_err-make_directories-clause-err g c =
    let gave = err_from_is_err_and c.from_residual.result c.from_residual.ensures.1 in
    rw (gave.1, gave.2) (inl c.in_err-make_directories.ensures.err)

pub scan_files-requires : goal.scan_files-requires
scan_files-requires g c =
    let D = g.F.FileSystem.disk in
    all_there (map string_bytes c.args.paths.now) (D c.args.file_system.now) (D c.make_directories.new.file_system) c.in_ok-make_directories.ensures.ok

pub returns-in_err-scanned-clause-err : goal.returns-in_err-scanned-clause-err
returns-in_err-scanned-clause-err g c =
    let gave = err_from_is_err_and c.from_residual-in_err-scanned.result c.from_residual-in_err-scanned.ensures.1 in
    rw (gave.1, gave.2) (inr (c.in_ok-make_directories.ensures.ok, c.in_err-scanned.ensures.err))

pub returns-clause-ok : goal.returns-clause-ok
returns-clause-ok g c = record { made = c.in_ok-make_directories.ensures.ok; is = c.in_ok-scanned.ensures.ok }
