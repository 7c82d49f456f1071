use Rattle.std.proofs.Common.{map}
use Rattle.std.specs.String.{string_bytes}
use Rattle.std.proofs.lemmas.Result.{err_from_is_err_and}
use Rattle.raft_log_recovery_scan.proofs.ScanLemmas.{fails_to_list}
use Rattle.raft_log_recovery_scan.proofs.scanning.scan_files.Goals as goal

pub returns-in_err-listings-clause-err : goal.returns-in_err-listings-clause-err
returns-in_err-listings-clause-err g c =
    let gave = err_from_is_err_and c.from_residual.result c.from_residual.ensures.1 in
    let system = c.args.file_system.now in
    rw (gave.1, gave.2) (fails_to_list (map string_bytes c.args.paths.now) (g.F.FileSystem.disk system) c.in_err-listings.field-0.0 (g.met.F.FileSystem.sound system) c.requires c.in_err-listings.ensures.err)
