use Rattle.std.proofs.Common.{◌≤◌, arith, drop, reverse, subst, sym}
use Rattle.std.proofs.lemmas.Result.{err_from_is_err_and}
use Rattle.raft_log_fs.specs.Disk.{Disk}
use Rattle.raft_log_recovery.specs.Dropping.{FailsToDropEach}
use Rattle.raft_log_recovery.proofs.Dropped.{dropped_all, dropped_more, dropped_none, dropped_short}
use Rattle.raft_log_recovery.proofs.dropping.drop_newest.Goals as goal

pub loop-at-init : goal.loop-at-init
loop-at-init g c = dropped_none (g.G.PipeFormat.file_paths c.args.layout.now) c.args.files.now c.args.left (g.F.FileSystem.disk c.args.file_system.now)

pub loop-at-preserved : goal.loop-at-preserved
loop-at-preserved g c =
    let D = g.F.FileSystem.disk in
    let less = c.loop-at-test.true in
    dropped_more (g.G.PipeFormat.file_paths c.args.layout.now) c.args.files.now c.loop-at.at c.args.left _ (D c.args.file_system.now) (D c.loop-at.file_system) (D c.drop_or_not.new.file_system) less c.loop-at.invariant c.in_ok-drop_or_not.ensures.ok

pub returns-in_err-drop_or_not-clause-err : goal.returns-in_err-drop_or_not-clause-err
returns-in_err-drop_or_not-clause-err g c =
    let D = g.F.FileSystem.disk in
    let paths = g.G.PipeFormat.file_paths c.args.layout.now in
    let e = c.in_err-drop_or_not.field-0.0 in
    let gave = err_from_is_err_and c.from_residual.result c.from_residual.ensures.1 in
    let less = c.loop-at-test.true in
    rw (gave.1, gave.2) (subst (λ (d : Disk). FailsToDropEach paths (reverse (drop c.args.left c.args.files.now)) e (D c.args.file_system.now) d) (sym c.in_err-drop_or_not.ensures.err.1)
    (dropped_short paths c.args.files.now c.loop-at.at c.args.left _ e (D c.args.file_system.now) (D c.loop-at.file_system) less c.loop-at.invariant c.in_err-drop_or_not.ensures.err.0))

pub returns-clause-ok : goal.returns-clause-ok
returns-clause-ok g c =
    let D = g.F.FileSystem.disk in
    let less : c.loop-at.at ≤ c.args.left = omega arith in
    dropped_all (g.G.PipeFormat.file_paths c.args.layout.now) c.args.files.now c.loop-at.at c.args.left (D c.args.file_system.now) (D c.loop-at.file_system) less c.loop-at.invariant
