use Rattle.std.proofs.Common.{List, ℕ, ◌++◌, ◌∷◌, [], ◌∙◌, ap, get_or, map}
use Rattle.std.specs.String.{string_bytes}
use Rattle.raft_log_recovery_scan.proofs.scanning.opening.path_of.Goals as goal

pub returns-clause-ok : goal.returns-clause-ok
returns-clause-ok c =
    let directory = get_or (map string_bytes c.args.paths.now) c.args.found.path_id [] in
    c.in_ok-path.ensures.ok ∙ (ap (λ (l : List ℕ). l ++ 47 ∷ c.as_str.result.now) c.directory_of-directory.ensures
    ∙ ap (λ (l : List ℕ). directory ++ 47 ∷ l) (c.as_str.ensures.value ∙ c.in_ok-name.ensures.ok))
