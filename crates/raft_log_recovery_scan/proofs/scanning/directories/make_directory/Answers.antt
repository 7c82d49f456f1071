use Rattle.std.proofs.Common.{rules, ◌≡◌, false, sym, ◌∙◌, inr}
use Rattle.std.specs.declared.io.ErrorKind.TheVariants.{OutOfMemory, NotFound}
use Rattle.raft_log_recovery_scan.proofs.DirectoryLemmas.{lists_none}
use Rattle.raft_log_recovery_scan.proofs.scanning.directories.make_directory.Goals as goal

pub returns-in-Err-create_dir-clause-err : goal.returns-in-Err-create_dir-clause-err
returns-in-Err-create_dir-clause-err g c =
    let d = g.F.FileSystem.disk c.args.file_system.now in
    let runs : d.stopped ≡ false = sym c.has_stopped.ensures ∙ c.if-has_stopped.false in
    let other : c.in-Err.kind ≡ OutOfMemory → ⊥ = search rules in
    let found : c.in-Err.kind ≡ NotFound = search rules in
    (inr (lists_none c.args.path.now d c.in-Err.kind runs other found c.in-Err.ensures.err), c.in-Err-create_dir.ensures.err)
