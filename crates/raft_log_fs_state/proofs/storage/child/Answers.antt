use Rattle.std.proofs.Common.{rules, sym, ap, subst, ◌∙◌, ◌≡◌, ◌+◌, ◌++◌, ◌∷◌, ℕ, List, Some, None, take, drop, lit<}
use Rattle.std.proofs.lemmas.Str.Pattern.{rfind_char}
use Rattle.raft_log_fs.specs.Disk.{IsPathIn}
use Rattle.raft_log_fs_state.specs.declared.storage.Node.{Node}
use Rattle.raft_log_fs_state.specs.Listing.{IsChild}
use Rattle.raft_log_fs_state.specs.Storage.{file_named}
use Rattle.raft_log_fs.proofs.Public.{no_path}
use Rattle.raft_log_fs_state.proofs.Paths.{own_parts, same_directory}
use Rattle.raft_log_fs_state.proofs.storage.child.Goals as goal

inside_of : (directory path name : List ℕ) (node : Node) → IsChild directory path node name → IsPathIn directory path
inside_of directory path name node child = record { name = name; joined = child.joined; plain = child.plain }

pub returns-in_default-rfind : goal.returns-in_default-rfind
returns-in_default-rfind c = λ name child.
    no_path c.args.path.now c.args.directory.now (rfind_char 47 c.args.path.now None c.in_default-rfind.ensures.cases (lit< tt))
    (inside_of c.args.directory.now c.args.path.now name c.args.node child)

pub returns-then-ne : goal.returns-then-ne
returns-then-ne c = λ name child.
    let path = c.args.path.now in
    let at = c.in-Some.at in
    let found = rfind_char 47 path (Some at) c.in-Some.ensures.cases (lit< tt) in
    let front : c.range.result.now ≡ take at path = search (rules, c.range.ensures.value) in
    let apart : c.range.result.now ≡ c.args.directory.now → ⊥ = search rules in
    apart (front ∙ same_directory path c.args.directory.now at (inside_of c.args.directory.now path name c.args.node child) found.0 found.1 found.2)

pub returns : goal.returns
returns c =
    let path = c.args.path.now in
    let at = c.in-Some.at in
    let found = rfind_char 47 path (Some at) c.in-Some.ensures.cases (lit< tt) in
    let front : c.range.result.now ≡ take at path = search (rules, c.range.ensures.value) in
    let same : c.range.result.now ≡ c.args.directory.now = search rules in
    let rest : c.range_from.result.now ≡ drop (at + 1) path = search (rules, c.range_from.ensures.value) in
    let own = own_parts path at found.0 found.1 found.2 in
    let is_file : file_named (Some c.args.node) ≡ None → ⊥ = λ none. file_not (sym (ap (λ (n : Node). file_named (Some n)) c.in-File.is) ∙ none) in
    subst (λ (name : List ℕ). IsChild c.args.directory.now path c.args.node name) (sym rest)
    (record { joined = subst (λ (d : List ℕ). path ≡ d ++ 47 ∷ drop (at + 1) path) (sym front ∙ same) own.0; plain = own.1; file = is_file })
  where
    file_not : Some c.in-File.field-0 ≡ None → ⊥
    file_not e = cc
