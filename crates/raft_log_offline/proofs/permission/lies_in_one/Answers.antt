use Rattle.std.proofs.Common.{◌<◌, ◌≤◌, ℕ, List, String, Global, length, map, take, sym, subst, ◌∙◌, arith}
use Rattle.std.specs.String.{string_bytes}
use Rattle.std.proofs.lemmas.Bool.{false≢true}
use Rattle.std.proofs.lemmas.List.{take_all}
use Rattle.raft_log_recovery_scan.proofs.Public.{so_far}
use Rattle.raft_log_offline.specs.Forks.{LiesInOne, LiesWithin}
use Rattle.raft_log_offline.proofs.Permitting.{none_in_more}
use Rattle.raft_log_offline.proofs.permission.lies_in_one.Goals as goal

pub loop-directory-preserved : goal.loop-directory-preserved
loop-directory-preserved c =
    let paths = c.args.directories.now in
    let path = c.args.path.now in
    let i = c.loop-directory.directory-index in
    let directory = string_bytes c.directory-item.result in
    let lt : i < length paths = omega arith in
    subst (λ (l : List (List ℕ)). LiesInOne l path → ⊥) (sym (so_far string_bytes paths i c.directory-item.result lt c.directory-item.is))
    (none_in_more (map string_bytes (take i paths)) directory path c.loop-directory.invariant
    (λ is. false≢true (sym c.if-lies_within.false ∙ c.lies_within.ensures.1 (subst (λ (l : List ℕ). LiesWithin l path) (sym c.as_str.ensures.value) is))))

pub returns : goal.returns
returns c =
    let paths = c.args.directories.now in
    let i = c.loop-directory.directory-index in
    let all : length paths ≤ i = omega arith in (
      (λ t. absurd (false≢true t)),
      λ has. absurd (c.loop-directory.invariant (subst (λ (l : List (String Global)). LiesInOne (map string_bytes l) c.args.path.now) (sym (take_all i paths all)) has)),
    )
