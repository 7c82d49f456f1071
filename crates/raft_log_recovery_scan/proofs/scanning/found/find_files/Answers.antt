use Rattle.std.proofs.Common.{◌≡◌, ◌+◌, ◌<◌, ◌++◌, ◌∷◌, [], List, ℕ, Vec, String, Global, map, take, length, subst, sym, arith}
use Rattle.std.proofs.lemmas.List.{length-map, length-take-le}
use Rattle.std.specs.String.{string_bytes}
use Rattle.std.proofs.lemmas.Result.{err_from_is_err_and}
use Rattle.raft_log_recovery_scan.specs.Found.{AreAmong, AreAmongAll, FailsAmong}
use Rattle.raft_log_recovery_scan.proofs.FoundLemmas.{all_more}
use Rattle.raft_log_recovery_scan.proofs.Steps.{so_far, mapped, fails_among_all}
use Rattle.raft_log_recovery_scan.proofs.scanning.found.find_files.Goals as goal

abbrev names_of : Vec (String Global) Global → List (List ℕ)
names_of v = map string_bytes v.items

pub returns-in_err-more-clause-err : goal.returns-in_err-more-clause-err
returns-in_err-more-clause-err c =
    let gave = err_from_is_err_and c.from_residual.result c.from_residual.ensures.1 in
    let found = c.index-listings-path_id.result in
    let lt : c.loop-path_id.path_id < length c.args.listings.now = omega arith in
    rw (gave.1, gave.2) (fails_among_all c.args.kind (map names_of c.args.listings.now) (names_of found) c.in_err-more.field-0.0
    (mapped names_of c.args.listings.now c.loop-path_id.path_id found lt c.index-listings-path_id.is)
    (subst (λ (l : List (String Global)). FailsAmong c.args.kind (map string_bytes l) c.in_err-more.field-0.0) c.as_slice.ensures.value c.in_err-more.ensures.err))

pub loop-path_id-preserved : goal.loop-path_id-preserved
loop-path_id-preserved c =
    let listings = c.args.listings.now in
    let kind = c.args.kind in
    let i = c.loop-path_id.path_id in
    let found = c.index-listings-path_id.result in
    let before = map names_of (take i listings) in
    let lt : i < length listings = omega arith in
    let at : i ≡ 0 + length before = omega (arith, length-map (take i listings) names_of, length-take-le i listings, lt) in
    let among : AreAmong kind i (names_of found) c.in_ok-more.more.items =
    subst (λ (l : List (String Global)). AreAmong kind i (map string_bytes l) c.in_ok-more.more.items) c.as_slice.ensures.value c.in_ok-more.ensures.ok in
    subst (λ (l : List (List (List ℕ))). AreAmongAll kind 0 l c.append.new.self.items) (sym (so_far names_of listings i found lt c.index-listings-path_id.is))
    (subst (AreAmongAll kind 0 (before ++ names_of found ∷ [])) (sym c.in_ok-append.ensures.items)
    (all_more kind 0 before (names_of found) c.loop-path_id.files.items c.in_ok-more.more.items c.loop-path_id.invariant
    (subst (λ (p : ℕ). AreAmong kind p (names_of found) c.in_ok-more.more.items) at among)))
