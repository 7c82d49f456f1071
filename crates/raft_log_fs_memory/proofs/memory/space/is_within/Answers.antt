use Rattle.std.proofs.Common.{rules, sym, subst, ◌∙◌, ◌≡◌, List, ℕ, Some, None, take, lit<}
use Rattle.std.proofs.lemmas.Str.Pattern.{rfind_char}
use Rattle.std.proofs.lemmas.Slice.Eq.{bytes_eq-Decides}
use Rattle.raft_log_fs.specs.Disk.{IsPathIn}
use Rattle.raft_log_fs.proofs.Public.{no_path}
use Rattle.raft_log_fs_state.proofs.Public.{own_path, same_directory}
use Rattle.raft_log_fs_memory.proofs.memory.space.is_within.Goals as goal

pub returns-in_default : goal.returns-in_default
returns-in_default c =
    let path = c.args.path.now in
    let found = rfind_char 47 path None c.in_default.ensures.cases (lit< tt) in
    ((λ is. cc), (λ inside. absurd (no_path path c.args.directory.now found inside)))

pub returns : goal.returns
returns c =
    let path = c.args.path.now in
    let at = c.in-Some.at in
    let found = rfind_char 47 path (Some at) c.in-Some.ensures.cases (lit< tt) in
    let front : c.range.result.now ≡ take at path = search (rules, c.range.ensures.value) in (
      (λ is. let same : c.range.result.now ≡ c.args.directory.now = (bytes_eq-Decides c.range.result.now c.args.directory.now).0 (sym c.eq.ensures ∙ is) in
          subst (λ (d : List ℕ). IsPathIn d path) (sym front ∙ same) (own_path path at found.0 found.1 found.2)),
      (λ inside. c.eq.ensures ∙ (bytes_eq-Decides c.range.result.now c.args.directory.now).1 (front ∙ same_directory path c.args.directory.now at inside found.0 found.1 found.2)),
    )
