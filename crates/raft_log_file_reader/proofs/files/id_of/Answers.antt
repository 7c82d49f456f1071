use Rattle.std.proofs.Common.{rules, ◌≡◌, ◌+◌, Some, None, drop, subst, sym, lit<}
use Rattle.std.proofs.lemmas.Str.Pattern.{rfind_char}
use Rattle.raft_log_file_reader.specs.Files.{IsNameOf}
use Rattle.raft_log_file_reader.proofs.Paths.{LastSlash, log_path, path_name, no_path}
use Rattle.raft_log_file_reader.proofs.files.id_of.Goals as goal

pub returns-in_default : goal.returns-in_default
returns-in_default c = λ id. (
  (λ is. absurd cc),
  (λ says. absurd (no_path id c.args.path.now (rfind_char 47 c.args.path.now None c.in_default.ensures.cases (lit< tt)) says)),
)

pub returns : goal.returns
returns c =
    let path = c.args.path.now in
    let at = c.in-Some.at in
    let found = rfind_char 47 path (Some at) c.in-Some.ensures.cases (lit< tt) in
    let slash : LastSlash path at = record { below = found.0; slash = found.1; last = found.2 } in
    let rest : c.range_from.result.now ≡ drop (at + 1) path = search (rules, c.range_from.ensures.value) in
    λ id. (
      (λ is. log_path id path at slash (subst (IsNameOf id) rest ((c.parse_file_name.ensures id).0 is))),
      (λ says. (c.parse_file_name.ensures id).1 (subst (IsNameOf id) (sym rest) (path_name id path at slash says))),
    )
