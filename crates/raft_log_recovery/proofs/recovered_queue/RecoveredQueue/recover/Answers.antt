use Rattle.std.proofs.Common.{rules, ◌≤◌, List, length, refl, sym, ap, subst, arith}
use Rattle.std.proofs.lemmas.Result.{err_from_is_err_and}
use Rattle.raft_log_active_file.specs.declared.format.File.{File}
use Rattle.raft_log_recovery.specs.Cutting.{FailsToCutEach}
use Rattle.raft_log_recovery.specs.Reading.{HasReadFiles, FilesAreUnread}
use Rattle.raft_log_recovery.specs.RecoveringQueue.FailsToRecoverFiles.{aligned, unread, uncut}
use Rattle.raft_log_recovery.specs.Unaligned.{AreUnaligned}
use Rattle.raft_log_recovery.proofs.Endings.{endings_fit}
use Rattle.raft_log_recovery.proofs.recovered_queue.RecoveredQueue.recover.Goals as goal

pub returns-in_err-read-clause-err : goal.returns-in_err-read-clause-err
returns-in_err-read-clause-err g c =
    let D = g.F.FileSystem.disk in
    let gave = err_from_is_err_and c.from_residual.result c.from_residual.ensures.1 in
    let e = c.in_err-read.field-0.0 in
    let why : FilesAreUnread g.M.ReplayMachine.declines c.args.config c.args.self.now.files.items (D c.args.file_system.now) e =
    subst (λ (fs : List File). FilesAreUnread g.M.ReplayMachine.declines c.args.config fs (D c.args.file_system.now) e) c.deref.ensures.value c.in_err-read.ensures.err in
    rw (gave.1, gave.2) (unread refl why)

pub cut_files-requires : goal.cut_files-requires
cut_files-requires g c =
    let fit : length c.in_ok-read.read.endings.items ≤ length c.deref.result.now = endings_fit _ _ c.args.config.concurrency (length c.deref.result.now) _ c.in_ok-read.read.endings.items c.in_ok-read.ensures.ok in
    omega (arith, fit, ap length c.deref.ensures.value, ap length c.deref-2.ensures.value, ap length c.deref-3.ensures.value)

pub returns-in_err-cut_files-clause-err : goal.returns-in_err-cut_files-clause-err
returns-in_err-cut_files-clause-err g c =
    let D = g.F.FileSystem.disk in
    let files = c.args.self.now.files.items in
    let es = c.in_ok-read.read.endings.items in
    let m = c.in_ok-read.read.machine in
    let kind = c.in_err-cut_files.field-0.0 in
    let gave = err_from_is_err_and c.from_residual-in_err-cut_files.result c.from_residual-in_err-cut_files.ensures.1 in
    let read : HasReadFiles g.M.ReplayMachine.reads c.args.config files (D c.args.file_system.now) m es = search rules in
    let fails : FailsToCutEach files es kind (D c.args.file_system.now) (D c.cut_files.new.file_system) = search rules in
    let none : AreUnaligned es = search rules in
    rw gave.1 (uncut m es kind read none gave.2 fails)

pub returns-then-not-have_no_padding-clause-err : goal.returns-then-not-have_no_padding-clause-err
returns-then-not-have_no_padding-clause-err g c =
    let files = c.args.self.now.files.items in
    let es = c.in_ok-read.read.endings.items in
    let m = c.in_ok-read.read.machine in
    let read : HasReadFiles g.M.ReplayMachine.reads c.args.config files (g.F.FileSystem.disk c.args.file_system.now) m es = search rules in
    let some : AreUnaligned es → ⊥ = λ all.
    (let yes = c.have_no_padding.ensures.1 (subst AreUnaligned (sym c.deref-2.ensures.value) all) in let no = c.if-not-have_no_padding.true in cc) in
    aligned m es read refl some c.aligned.ensures
