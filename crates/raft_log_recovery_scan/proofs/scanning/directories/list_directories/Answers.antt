use Rattle.std.proofs.Common.{◌≡◌, ◌+◌, ◌<◌, ◌++◌, ◌∷◌, [], ℕ, List, Vec, String, Global, map, take, length, subst, sym, ◌∙◌, ap, arith}
use Rattle.std.specs.List.{AllZip}
use Rattle.std.specs.String.{string_bytes}
use Rattle.std.proofs.lemmas.List.{take_more}
use Rattle.std.proofs.lemmas.Result.{err_from_is_err_and}
use Rattle.raft_log_fs.specs.Reading.{IsListing}
use Rattle.raft_log_recovery_scan.specs.Directories.{FailsToList}
use Rattle.raft_log_recovery_scan.proofs.Steps.{mapped, zip_push}
use Rattle.raft_log_recovery_scan.proofs.scanning.directories.list_directories.Goals as goal

pub returns-in_err-names-clause-err : goal.returns-in_err-names-clause-err
returns-in_err-names-clause-err g c =
    let gave = err_from_is_err_and c.from_residual.result c.from_residual.ensures.1 in
    let d = g.F.FileSystem.disk c.args.file_system.now in
    let lt : c.loop-path.path-index < length c.args.paths.now = omega arith in
    rw (gave.1, gave.2) (
      string_bytes c.path-item.result,
      mapped string_bytes c.args.paths.now c.loop-path.path-index c.path-item.result lt c.path-item.is,
      subst (λ (l : List ℕ). FailsToList l d c.in_err-names.field-0.0) c.as_str.ensures.value c.in_err-names.ensures.err,
    )

pub returns-in_err-push-clause-err : goal.returns-in_err-push-clause-err
returns-in_err-push-clause-err g c =
    let gave = err_from_is_err_and c.from_residual-in_err-push.result c.from_residual-in_err-push.ensures.1 in
    let lt : c.loop-path.path-index < length c.args.paths.now = omega arith in
    rw (gave.1, gave.2) (
      string_bytes c.path-item.result,
      mapped string_bytes c.args.paths.now c.loop-path.path-index c.path-item.result lt c.path-item.is,
      c.in_ok-names.ensures.ok.runs,
    )

pub loop-path-preserved : goal.loop-path-preserved
loop-path-preserved g c =
    let d = g.F.FileSystem.disk c.args.file_system.now in
    let paths = c.args.paths.now in
    let i = c.loop-path.path-index in
    let path = c.path-item.result in
    let lt : i < length paths = omega arith in
    let R = λ (p : String Global) (names : Vec (String Global) Global). IsListing (string_bytes p) d (map string_bytes names.items) in
    let more : take (i + 1) paths ≡ take i paths ++ path ∷ [] = take_more paths i path lt ∙ ap (λ (p : String Global). take i paths ++ p ∷ []) (sym c.path-item.is) in
    let listing = subst (λ (l : List ℕ). IsListing l d (map string_bytes c.in_ok-names.names.items)) c.as_str.ensures.value c.in_ok-names.ensures.ok in
    subst (λ (l : List (String Global)). AllZip R l c.push.new.self.items) (sym more)
    (subst (AllZip R (take i paths ++ path ∷ [])) (sym c.in_ok-push.ensures.items)
    (zip_push R (take i paths) c.loop-path.listings.items path c.in_ok-names.names c.loop-path.invariant listing))
