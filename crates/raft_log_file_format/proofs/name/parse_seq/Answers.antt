use Rattle.std.proofs.Common.{◌<◌, length, ◌≢◌, IsSome, subst, sym, ◌∙◌, arith}
use Rattle.std.proofs.lemmas.Bool.{eqb-false, false≢true}
use Rattle.std.proofs.lemmas.Option.{none-some}
use Rattle.raft_log_file_format.proofs.Names.{numbered_boundary, parsed_number}
use Rattle.raft_log_file_format.proofs.name.parse_seq.Goals as goal

-- src/name.rt:55:9
pub returns-in_default : goal.returns-in_default
returns-in_default c n = (
  (λ same. absurd (none-some n same)),
  λ numbered.
      let some = subst (λ o. IsSome o) c.in_default.is (c.split_at_checked.ensures.variant.1 (numbered_boundary c.args.name.now n c.utf8.name numbered)) in
      absurd (false≢true some),
)

-- src/name.rt:51:1
pub returns : goal.returns
returns c n =
    let more : length c.in-Some.back.now ≢ 0 = eqb-false _ _ (sym c.is_empty.ensures ∙ c.if-is_empty.false) in
    let longer : 16 < length c.args.name.now = omega (arith, c.in-Some.ensures.back_len, more) in
    rw c.ok.ensures.value (parsed_number c.args.name.now c.parse.result longer (rw (← c.in-Some.ensures.front) c.parse.ensures.value.0) n)
