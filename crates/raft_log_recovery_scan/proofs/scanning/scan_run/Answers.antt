use Rattle.std.proofs.Common.{List, ℕ, Vec, String, Global, map, subst, sym}
use Rattle.std.specs.String.{string_bytes}
use Rattle.std.proofs.lemmas.Result.{err_from_is_err_and}
use Rattle.raft_log_recovery_scan.specs.Found.{FailsAmongAll}
use Rattle.raft_log_recovery_scan.proofs.scanning.scan_run.Goals as goal

abbrev names_of : Vec (String Global) Global → List (List ℕ)
names_of v = map string_bytes v.items

pub returns-in_err-kept-clause-err : goal.returns-in_err-kept-clause-err
returns-in_err-kept-clause-err g c =
    let gave = err_from_is_err_and c.from_residual-in_err-kept.result c.from_residual-in_err-kept.ensures.1 in
    rw (gave.1, gave.2) (subst (FailsAmongAll c.args.kind (map names_of c.args.listings.now)) (sym c.in_err-kept.ensures.err) tt)

pub returns-clause-ok : goal.returns-clause-ok
returns-clause-ok g c = record { found = c.in_ok-found.found.items; among = c.in_ok-found.ensures.ok; run = c.in_ok-kept.ensures.ok }
