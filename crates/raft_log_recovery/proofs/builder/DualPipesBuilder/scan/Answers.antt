use Rattle.std.proofs.Common.{ℕ, List, map, refl, ap, subst, ◌∙◌}
use Rattle.std.specs.String.{string_bytes}
use Rattle.std.proofs.lemmas.Result.{err_from_is_err_and}
use Rattle.raft_log_recovery_scan.specs.Scanned.{Scans}
use Rattle.raft_log_recovery_scan.specs.declared.file_kind.FileKind.TheVariants as kinds
use Rattle.raft_log_recovery.specs.Scanning.FailsToScanLog.{uncleared}
use Rattle.raft_log_recovery.proofs.Small.{queue_small}
use Rattle.raft_log_recovery.proofs.builder.DualPipesBuilder.scan.Goals as goal

pub clear_old-requires-clause-append : goal.clear_old-requires-clause-append
clear_old-requires-clause-append g c =
    let D = g.F.FileSystem.disk in
    queue_small kinds.Append (map string_bytes c.as_slice.result.now) (D c.scan.new.file_system) c.args.self.now.config.recovery_mode c.in_ok-found.found.append.items c.in_ok-found.ensures.ok.is.append

pub clear_old-requires-clause-rewrite : goal.clear_old-requires-clause-rewrite
clear_old-requires-clause-rewrite g c =
    let D = g.F.FileSystem.disk in
    queue_small kinds.Rewrite (map string_bytes c.as_slice.result.now) (D c.scan.new.file_system) c.args.self.now.config.recovery_mode c.in_ok-found.found.rewrite.items c.in_ok-found.ensures.ok.is.rewrite

pub returns-in_err-clear_old-clause-err : goal.returns-in_err-clear_old-clause-err
returns-in_err-clear_old-clause-err g c =
    let D = g.F.FileSystem.disk in
    let found = c.in_ok-found.found in
    let gave = err_from_is_err_and c.from_residual-in_err-clear_old.result c.from_residual-in_err-clear_old.ensures.1 in
    rw (gave.1, gave.2) (uncleared found (D c.scan.new.file_system)
    (subst (λ (ds : List (List ℕ)). Scans ds c.args.self.now.config.recovery_mode found (D c.args.file_system.now) (D c.scan.new.file_system))
    (ap (map string_bytes) c.as_slice.ensures.value ∙ c.in_ok-paths.ensures.ok) c.in_ok-found.ensures.ok)
    c.in_err-clear_old.ensures.err c.clear_old.ensures.files)

pub returns-clause-ok : goal.returns-clause-ok
returns-clause-ok g c =
    let D = g.F.FileSystem.disk in
    let found = c.in_ok-found.found in
    record {
      found = found;
      scanned = D c.scan.new.file_system;
      scans = subst (λ (ds : List (List ℕ)). Scans ds c.args.self.now.config.recovery_mode found (D c.args.file_system.now) (D c.scan.new.file_system))
          (ap (map string_bytes) c.as_slice.ensures.value ∙ c.in_ok-paths.ensures.ok) c.in_ok-found.ensures.ok;
      cleared = c.clear_old.ensures.files;
      has = record { append = c.new.ensures.files; rewrite = c.new-2.ensures.files; reserved = refl; append_unread = c.new.ensures.endings; rewrite_unread = c.new-2.ensures.endings };
      same = refl;
    }
