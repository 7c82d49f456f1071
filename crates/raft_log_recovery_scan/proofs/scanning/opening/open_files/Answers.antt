use Rattle.std.proofs.Common.{◌+◌, ◌<◌, List, map, take, length, subst, sym, arith}
use Rattle.std.specs.List.{AllZip}
use Rattle.std.specs.String.{string_bytes}
use Rattle.raft_log_active_file.specs.declared.format.File.{File}
use Rattle.raft_log_recovery_scan.specs.Opened.{IsOpenFile}
use Rattle.raft_log_recovery_scan.proofs.Steps.{zip_more}
use Rattle.raft_log_recovery_scan.proofs.scanning.opening.open_files.Goals as goal

pub loop-one-preserved : goal.loop-one-preserved
loop-one-preserved g c =
    let d = g.F.FileSystem.disk c.args.file_system.now in
    let found = c.args.found.now in
    let i = c.loop-one.one-index in
    let lt : i < length found = omega arith in
    let R = IsOpenFile c.args.kind (map string_bytes c.args.paths.now) d c.args.permission in
    subst (λ (l : List File). AllZip R (take (i + 1) found) l) (sym c.in_ok-push.ensures.items)
    (zip_more R found c.loop-one.files.items i _ c.in_ok-file.file lt c.loop-one.invariant c.in_ok-file.ensures.ok)
