use Rattle.std.proofs.Common.{◌+◌, ◌<◌, ℕ, List, map, take, drop, length, subst, sym, arith}
use Rattle.std.specs.String.{string_bytes}
use Rattle.std.proofs.lemmas.Result.{err_from_is_err_and}
use Rattle.raft_log_recovery_scan.specs.Directories.{HasDirectories, MakesIfAbsent, FailsToHave}
use Rattle.raft_log_recovery_scan.proofs.DirectoryLemmas.{has_more}
use Rattle.raft_log_recovery_scan.proofs.Steps.{so_far, split_at}
use Rattle.raft_log_recovery_scan.proofs.scanning.directories.make_directories.Goals as goal

pub returns-in_err-make_directory-clause-err : goal.returns-in_err-make_directory-clause-err
returns-in_err-make_directory-clause-err g c =
    let gave = err_from_is_err_and c.from_residual.result c.from_residual.ensures.1 in
    let D = g.F.FileSystem.disk in
    let paths = c.args.paths.now in
    let i = c.loop-path.path-index in
    let path = c.path-item.result in
    let lt : i < length paths = omega arith in
    rw (gave.1, gave.2) (record {
      before = map string_bytes (take i paths);
      path = string_bytes path;
      behind = map string_bytes (drop (i + 1) paths);
      split = split_at string_bytes paths i path lt c.path-item.is;
      between = D c.loop-path.file_system;
      has = c.loop-path.invariant;
      fails = subst (λ (l : List ℕ). FailsToHave l c.in_err-make_directory.field-0.0 (D c.loop-path.file_system) (D c.make_directory.new.file_system)) c.as_str.ensures.value c.in_err-make_directory.ensures.err;
    })

pub loop-path-preserved : goal.loop-path-preserved
loop-path-preserved g c =
    let D = g.F.FileSystem.disk in
    let paths = c.args.paths.now in
    let i = c.loop-path.path-index in
    let path = c.path-item.result in
    let lt : i < length paths = omega arith in
    let made = subst (λ (l : List ℕ). MakesIfAbsent l (D c.loop-path.file_system) (D c.make_directory.new.file_system)) c.as_str.ensures.value c.in_ok-make_directory.ensures.ok in
    subst (λ (l : List (List ℕ)). HasDirectories l (D c.args.file_system.now) (D c.make_directory.new.file_system)) (sym (so_far string_bytes paths i path lt c.path-item.is))
    (has_more (map string_bytes (take i paths)) (string_bytes path) (D c.args.file_system.now) (D c.loop-path.file_system) (D c.make_directory.new.file_system) c.loop-path.invariant made)
