use Rattle.std.proofs.Common.{◌≡◌, ◌++◌, ◌∙◌, sym, arith, rules}
use Rattle.std.proofs.lemmas.Result.{err_from_is_err_and}
use Rattle.raft_voter_messages.specs.StoredForms.{number_text}
use Rattle.raft_voter_messages.proofs.Bytes.{entry_in_range, entry_out_of_range, length-entry}
use Rattle.raft_voter_messages.proofs.stored.entry.read_form_1.Goals as goal

pub returns-then-not-all_fit-clause-err : goal.returns-then-not-all_fit-clause-err
returns-then-not-all_fit-clause-err c =
    let body = c.args.body.now in
    let i = c.split_number-own_index.result.0 in
    let t = c.split_number-term.result.0 in
    let own = c.split_number-term.result.1.now in
    let whole : body ≡ number_text i ++ (number_text t ++ own) = search rules in (
      omega arith,
      omega arith,
      entry_out_of_range body own i t whole c.split_number-own_index.ensures.small c.split_number-term.ensures.small (sym c.all_fit.ensures ∙ c.if-not-all_fit.true),
    )

pub returns-then-own_index-index-clause-err : goal.returns-then-own_index-index-clause-err
returns-then-own_index-index-clause-err c =
    let body = c.args.body.now in
    let i = c.split_number-own_index.result.0 in
    let t = c.split_number-term.result.0 in
    let own = c.split_number-term.result.1.now in
    let whole : body ≡ number_text i ++ (number_text t ++ own) = search rules in
    let fit = entry_in_range i t own (sym c.all_fit.ensures ∙ c.if-not-all_fit.false) (omega (arith, length-entry body own i t whole)) in
    (record { index = i; term = t; bytes = own }, record { text = whole; in_range = fit }, c.if-own_index-index.true)

pub returns-in_err-bytes-clause-err : goal.returns-in_err-bytes-clause-err
returns-in_err-bytes-clause-err c =
    let p = err_from_is_err_and c.from_residual.result c.from_residual.ensures.1 in
    let body = c.args.body.now in
    let i = c.split_number-own_index.result.0 in
    let t = c.split_number-term.result.0 in
    let own = c.split_number-term.result.1.now in
    let whole : body ≡ number_text i ++ (number_text t ++ own) = search rules in
    let fit = entry_in_range i t own (sym c.all_fit.ensures ∙ c.if-not-all_fit.false) (omega (arith, length-entry body own i t whole)) in
    rw (p.1, p.2) (record { index = i; term = t; bytes = own }, record { text = whole; in_range = fit }, c.if-own_index-index.false)
