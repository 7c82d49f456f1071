use Rattle.std.proofs.Common.{◌<◌, ℕ, get_or, ◌++◌, drop, arith, inl, inr, lit<, sym, ap, ◌∙◌}
use Rattle.std.proofs.lemmas.Bool.{cases_lt}
use Rattle.std.proofs.lemmas.List.{get_or-take, get_or_past, take-append-drop}
use Rattle.std.proofs.lemmas.Nat.{be_bytes_8}
use Rattle.raft_voter_messages.specs.StoredForms.{number_text}
use Rattle.raft_voter_recovery.proofs.entry_head.split_number.Goals as goal

pub returns-clause-text : goal.returns-clause-text
unfolding number_text
returns-clause-text c =
    let bytes = c.args.bytes.now in
    let n = c.from_be_bytes-number.result in
    let front = c.split_at.result.0.now in
    let is_byte : (i : ℕ) → get_or front i 0 < 256 = λ (i : ℕ). elim (cases_lt i 8) [
      | inl early ↦ rw (c.split_at.ensures.front, get_or-take 8 bytes i 0 early) (omega (arith, c.type_inv.bytes i))
      | inr past ↦ rw (get_or_past front i 0 (omega (arith, c.split_at.ensures.front_len))) (lit< tt)
    ] in
    let spelled = be_bytes_8 front n c.split_at.ensures.front_len is_byte c.from_be_bytes-number.ensures in
    sym (take-append-drop 8 bytes) ∙ ap (λ x. x ++ drop 8 bytes) (sym c.split_at.ensures.front ∙ sym spelled) ∙ ap (λ x. number_text n ++ x) (sym c.split_at.ensures.back)
