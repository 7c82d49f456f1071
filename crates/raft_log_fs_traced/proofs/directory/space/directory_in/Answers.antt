use Rattle.std.proofs.Common.{rules, sym, subst, ◌≡◌, List, ℕ, Some, take, lit<}
use Rattle.std.proofs.lemmas.Str.Pattern.{rfind_char}
use Rattle.raft_log_fs.specs.Disk.{IsPathIn}
use Rattle.raft_log_fs_state.proofs.Public.{own_path}
use Rattle.raft_log_fs_traced.proofs.directory.space.directory_in.Goals as goal

pub returns : goal.returns
returns c =
    let path = c.args.path.now in
    let at = c.in_ok-at.at in
    let found = rfind_char 47 path (Some at) c.in_ok-at.ensures.cases (lit< tt) in
    let front : c.range.result.now ≡ take at path = search (rules, c.range.ensures.value) in
    subst (λ (d : List ℕ). IsPathIn d path) (sym front) (own_path path at found.0 found.1 found.2)
