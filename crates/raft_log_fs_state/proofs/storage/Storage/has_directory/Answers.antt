use Rattle.std.proofs.Common.{rules, sym, ◌∙◌, ap, ◌≡◌, ℕ, List, Some, None, take, lit<}
use Rattle.std.proofs.lemmas.Str.Pattern.{rfind_char}
use Rattle.raft_log_fs_state.specs.Storage.{is_directory, node_at}
use Rattle.raft_log_fs.proofs.Public.{no_path}
use Rattle.raft_log_fs_state.proofs.Paths.{own_path, same_directory}
use Rattle.raft_log_fs_state.proofs.storage.Storage.has_directory.Goals as goal

pub returns-in-Some : goal.returns-in-Some
returns-in-Some c =
    let path = c.args.path.now in
    let at = c.in-Some.at in
    let found = rfind_char 47 path (Some at) c.in-Some.ensures.cases (lit< tt) in
    let front : c.range.result.now ≡ take at path = search (rules, c.range.ensures.value) in
    let says = c.is_directory.ensures ∙ ap (λ (q : List ℕ). is_directory (node_at c.args.self.now q)) front in (
      (λ is. record { directory = take at path; inside = own_path path at found.0 found.1 found.2; there = sym says ∙ is }),
      (λ home. says ∙ (ap (λ (q : List ℕ). is_directory (node_at c.args.self.now q)) (same_directory path home.directory at home.inside found.0 found.1 found.2) ∙ home.there)),
    )

pub returns-in-None : goal.returns-in-None
returns-in-None c =
    let path = c.args.path.now in
    let found = rfind_char 47 path None c.in-None.ensures.cases (lit< tt) in
    ((λ is. cc), (λ home. absurd (no_path path home.directory found home.inside)))
