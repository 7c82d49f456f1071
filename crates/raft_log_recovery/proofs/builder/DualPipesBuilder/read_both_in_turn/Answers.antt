use Rattle.std.proofs.Common.{rules, ◌≡◌, List, subst}
use Rattle.std.proofs.lemmas.Result.{err_from_is_err_and}
use Rattle.raft_log_active_file.specs.declared.format.File.{File}
use Rattle.raft_log_recovery_scan.specs.declared.recovery_config.RecoveryConfig.{RecoveryConfig}
use Rattle.raft_log_recovery.specs.ForReading.QueuesAreUnread.{append, rewrite}
use Rattle.raft_log_recovery.specs.Reading.{HasReadFiles, FilesAreUnread}
use Rattle.raft_log_recovery.specs.Recovering.{append_config, append_files, rewrite_config, rewrite_files}
use Rattle.raft_log_recovery.proofs.builder.DualPipesBuilder.read_both_in_turn.Goals as goal

pub returns-in_err-append-clause-err : goal.returns-in_err-append-clause-err
returns-in_err-append-clause-err g c =
    let D = g.F.FileSystem.disk in
    let b = c.args.self.now in
    let gave = err_from_is_err_and c.from_residual.result c.from_residual.ensures.1 in
    let e = c.in_err-append.field-0.0 in
    let workers : c.new-append.result.concurrency ≡ (append_config b).concurrency = search rules in
    let same : c.new-append.result ≡ append_config b = λ i. record { queue = c.new-append.ensures.queue i; mode = c.new-append.ensures.mode i; concurrency = workers i; read_block_size = c.new-append.ensures.block i } in
    let raw : FilesAreUnread g.M.ReplayMachine.declines c.new-append.result c.deref.result.now (D c.args.file_system.now) e = c.in_err-append.ensures.err in
    let why : FilesAreUnread g.M.ReplayMachine.declines (append_config b) (append_files b) (D c.args.file_system.now) e =
    subst (λ (fs : List File). FilesAreUnread g.M.ReplayMachine.declines (append_config b) fs (D c.args.file_system.now) e) c.deref.ensures.value
    (subst (λ (r : RecoveryConfig). FilesAreUnread g.M.ReplayMachine.declines r c.deref.result.now (D c.args.file_system.now) e) same raw) in
    rw (gave.1, gave.2) (append why)

pub returns-in_err-rewrite-clause-err : goal.returns-in_err-rewrite-clause-err
returns-in_err-rewrite-clause-err g c =
    let D = g.F.FileSystem.disk in
    let b = c.args.self.now in
    let gave = err_from_is_err_and c.from_residual-in_err-rewrite.result c.from_residual-in_err-rewrite.ensures.1 in
    let first : HasReadFiles g.M.ReplayMachine.reads (append_config b) (append_files b) (D c.args.file_system.now) c.in_ok-append.append.machine c.in_ok-append.append.endings.items = search rules in
    let e = c.in_err-rewrite.field-0.0 in
    let workers : c.new-rewrite.result.concurrency ≡ (rewrite_config b).concurrency = search rules in
    let same : c.new-rewrite.result ≡ rewrite_config b = λ i. record { queue = c.new-rewrite.ensures.queue i; mode = c.new-rewrite.ensures.mode i; concurrency = workers i; read_block_size = c.new-rewrite.ensures.block i } in
    let raw : FilesAreUnread g.M.ReplayMachine.declines c.new-rewrite.result c.deref-2.result.now (D c.args.file_system.now) e = c.in_err-rewrite.ensures.err in
    let why : FilesAreUnread g.M.ReplayMachine.declines (rewrite_config b) (rewrite_files b) (D c.args.file_system.now) e =
    subst (λ (fs : List File). FilesAreUnread g.M.ReplayMachine.declines (rewrite_config b) fs (D c.args.file_system.now) e) c.deref-2.ensures.value
    (subst (λ (r : RecoveryConfig). FilesAreUnread g.M.ReplayMachine.declines r c.deref-2.result.now (D c.args.file_system.now) e) same raw) in
    rw (gave.1, gave.2) (rewrite c.in_ok-append.append.machine c.in_ok-append.append.endings.items first why)
