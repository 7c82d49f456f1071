use Rattle.std.proofs.Common.{◌≡◌, ◌+◌, ◌<◌, ◌++◌, ◌∷◌, [], ℕ, List, Vec, String, Global, map, take, length, subst, sym, ◌∙◌, ap, arith}
use Rattle.std.specs.List.{AllZip}
use Rattle.std.specs.String.{string_bytes}
use Rattle.std.proofs.lemmas.List.{take_more}
use Rattle.raft_log_fs.specs.Reading.{IsListing}
use Rattle.raft_log_recovery_scan.proofs.Public.{zip_push}
use Rattle.raft_log_inspection.proofs.listing.list_all.Goals as goal

pub loop-path-preserved : goal.loop-path-preserved
loop-path-preserved g c =
    let d = g.F.FileSystem.disk c.args.files.now in
    let paths = c.args.paths.now in
    let i = c.loop-path.path-index in
    let path = c.path-item.result in
    let lt : i < length paths = omega arith in
    let R = λ (p : String Global) (names : Vec (String Global) Global). IsListing (string_bytes p) d (map string_bytes names.items) in
    let more : take (i + 1) paths ≡ take i paths ++ path ∷ [] = take_more paths i path lt ∙ ap (λ (p : String Global). take i paths ++ p ∷ []) (sym c.path-item.is) in
    let listing = subst (λ (l : List ℕ). IsListing l d (map string_bytes c.in-Ok.names.items)) c.as_str.ensures.value c.in-Ok.ensures.ok in
    subst (λ (l : List (String Global)). AllZip R l c.push.new.self.items) (sym more)
    (subst (AllZip R (take i paths ++ path ∷ [])) (sym c.in_ok-push-in-Ok.ensures.items)
    (zip_push R (take i paths) c.loop-path.listings.items path c.in-Ok.names c.loop-path.invariant listing))
