use Rattle.std.proofs.Common.{◌≡◌, ◌^◌, ◌*◌, ◌+◌, ◌≤◌, get_or, true, sym, ◌∙◌, arith, rules}
use Rattle.std.specs.Char.{digit_value, is_ascii_digit}
use Rattle.raft_voter_session.proofs.Digits.{value_from-overflow, value_from-all, digit_value-ascii}
use Rattle.raft_voter_session.proofs.words.read_digits.Goals as goal

pub returns-in_err-checked_mul : goal.returns-in_err-checked_mul
returns-in_err-checked_mul c =
    let i = c.loop-b.b-index in
    let digit : is_ascii_digit (get_or c.args.digits.now i 0) ≡ true = search rules in
    let much : 2 ^ 64 ≤ c.loop-b.number * 10 + digit_value (get_or c.args.digits.now i 0) = grind (arith, c.in_err-checked_mul.ensures) in
    c.from_residual.ensures ∙ sym (value_from-overflow c.loop-b.number i c.args.digits.now (omega arith) digit much) ∙ c.loop-b.invariant.0

pub returns-in_err-number : goal.returns-in_err-number
returns-in_err-number c =
    let i = c.loop-b.b-index in
    let digit : is_ascii_digit (get_or c.args.digits.now i 0) ≡ true = search rules in
    let value = digit_value-ascii (get_or c.args.digits.now i 0) digit in
    let much : 2 ^ 64 ≤ c.loop-b.number * 10 + digit_value (get_or c.args.digits.now i 0) = omega (arith, value, c.in_err-number.ensures, c.from.ensures, c.in_ok-checked_mul.ensures) in
    c.from_residual-in_err-number.ensures ∙ sym (value_from-overflow c.loop-b.number i c.args.digits.now (omega arith) digit much) ∙ c.loop-b.invariant.0

pub returns : goal.returns
returns c = sym (value_from-all c.loop-b.number c.loop-b.b-index c.args.digits.now (omega arith) c.loop-b.invariant.1) ∙ c.loop-b.invariant.0
