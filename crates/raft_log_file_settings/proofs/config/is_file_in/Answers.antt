use Rattle.std.proofs.Common.{◌≡◌, ℕ, List, ◌∷◌, ◌++◌, drop, subst, sym, ap, ◌∙◌, arith}
use Rattle.std.specs.Prelude.{MatchOption}
use Rattle.std.proofs.lemmas.Bool.{false≢true}
use Rattle.std.proofs.lemmas.Str.Pattern.{strip_prefix_char}
use Rattle.raft_log_file_settings.specs.Sanitized.{IsFileName}
use Rattle.raft_log_file_settings.proofs.Directories.{one_rest, text_rest}
use Rattle.raft_log_file_settings.proofs.config.is_file_in.Goals as goal

-- src/config.rt:229:9
pub returns-in_default-strip_prefix : goal.returns-in_default-strip_prefix
returns-in_default-strip_prefix c =
    let cases = c.in-Some.ensures.cases in
    let behind : c.args.path.now ≡ c.args.directory.now ++ c.in-Some.rest.now = text_rest c.args.directory.now c.args.path.now c.in-Some.rest.now cases.0 cases.1.1 cases.2 in
    let no_slash = strip_prefix_char 47 c.in-Some.rest.now c.strip_prefix-2.result c.strip_prefix-2.ensures.cases (omega arith) in
    let none = subst (λ o. MatchOption o ((rest : List ℕ) → c.in-Some.rest.now ≡ 47 ∷ rest → ⊥) (λ x. c.in-Some.rest.now ≡ 47 ∷ x.now)) c.in_default-strip_prefix.is no_slash in
    ((λ t. absurd (false≢true t)), λ file. absurd (none file.0 (one_rest c.args.directory.now c.args.path.now c.in-Some.rest.now (47 ∷ file.0) behind file.2)))

-- src/config.rt:222:1
pub returns : goal.returns
returns c =
    let cases = c.in-Some.ensures.cases in
    let behind : c.args.path.now ≡ c.args.directory.now ++ c.in-Some.rest.now = text_rest c.args.directory.now c.args.path.now c.in-Some.rest.now cases.0 cases.1.1 cases.2 in
    let slash = strip_prefix_char 47 c.in-Some.rest.now c.strip_prefix-2.result c.strip_prefix-2.ensures.cases (omega arith) in
    let name : c.in-Some.rest.now ≡ 47 ∷ c.in-Some-strip_prefix.name.now = subst (λ o. MatchOption o ((rest : List ℕ) → c.in-Some.rest.now ≡ 47 ∷ rest → ⊥) (λ x. c.in-Some.rest.now ≡ 47 ∷ x.now)) c.in-Some-strip_prefix.is slash in
    let whole : c.args.path.now ≡ c.args.directory.now ++ 47 ∷ c.in-Some-strip_prefix.name.now = behind ∙ ap (λ (l : List ℕ). c.args.directory.now ++ l) name in (
      (λ t. (c.in-Some-strip_prefix.name.now, c.is_file_name.ensures.0 t, whole)),
      λ file.
          let same = one_rest c.args.directory.now c.args.path.now (47 ∷ c.in-Some-strip_prefix.name.now) (47 ∷ file.0) whole file.2 in
          c.is_file_name.ensures.1 (subst IsFileName (sym (ap (λ (l : List ℕ). drop 1 l) same)) file.1),
    )
