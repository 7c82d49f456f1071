use Rattle.std.proofs.Common.{◌≡◌, ℕ, ◌==◌, Bool, None, sym, subst, ap, ◌∙◌, IsTrue, ◌↔◌}
use Rattle.raft_log_offline.specs.Findings.{finding_of}
use Rattle.raft_examples.proofs.Whole.{empty_tells}
use Rattle.raft_examples.proofs.consistency.is_whole.Goals as goal

pub returns-clause-ok : goal.returns-clause-ok
returns-clause-ok g c =
    let checks = c.in_ok-findings.ensures.ok in
    let findings = c.in_ok-findings.findings in
    let found = finding_of checks.checks.append checks.checks.rewrite in
    let is = c.is_empty.ensures ∙ ap (λ (n : ℕ). n == 0) findings.ok.0 in
    record {
      findings = findings.items;
      checks = checks;
      tells = subst (λ (b : Bool). IsTrue b ↔ ((group : ℕ) → found group ≡ None)) (sym is) (empty_tells found findings.items checks.checks.lists);
    }
