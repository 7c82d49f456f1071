use Rattle.std.proofs.Common.{◌≡◌, rules, refl, sym, ◌∙◌}
use Rattle.std.proofs.lemmas.Result.{err_from_is_err_and}
use Rattle.std.specs.String.{string_bytes}
use Rattle.raft_log_recovery_scan.proofs.NameLemmas.{named_neither, named_room, names_not, name_refused}
use Rattle.raft_log_recovery_scan.proofs.file_kind.FileKind.read_name.Goals as goal

pub returns-in_default-clause-ok : goal.returns-in_default-clause-ok
returns-in_default-clause-ok c = λ n named. let there = (c.in_default.ensures n).1 named in absurd cc

pub returns-in_err-text-clause-err : goal.returns-in_err-text-clause-err
returns-in_err-text-clause-err c =
    let gave = err_from_is_err_and c.from_residual.result c.from_residual.ensures.1 in
    rw (gave.1, gave.2) (name_refused c.args.self c.args.name.now c.in-Some.seq c.in_err-text.field-0.0 ((c.in-Some.ensures c.in-Some.seq).0 refl) c.in_err-text.ensures.err)

pub returns-then-eq-clause-ok : goal.returns-then-eq-clause-ok
returns-then-eq-clause-ok c =
    let same : string_bytes c.in_ok-text.text ≡ c.args.name.now = search rules in
    let is = sym same ∙ c.in_ok-text.ensures.ok in
    (named_room c.args.self c.in-Some.seq c.args.name.now c.has_plus.result c.in_ok-text.ensures.small is c.has_plus.ensures.0, is)

pub returns-clause-err : goal.returns-clause-err
returns-clause-err c =
    let apart : string_bytes c.in_ok-text.text ≡ c.args.name.now → ⊥ = search rules in
    names_not c.args.self c.args.name.now c.misnamed.result (
      c.in-Some.seq,
      (c.in-Some.ensures c.in-Some.seq).0 refl,
      named_neither c.args.self c.in-Some.seq c.args.name.now c.has_plus.result c.has_plus.ensures.0 c.has_plus.ensures.1 (λ is. apart (c.in_ok-text.ensures.ok ∙ sym is)),
    ) c.misnamed.ensures
