use Rattle.std.proofs.Common.{◌≡◌, ◌+◌, ◌-◌, ◌*◌, ◌∙◌, true, sym, ap, arith, drop, get_or}
use Rattle.std.specs.Char.{is_ascii_digit}
use Rattle.raft_log_record_base.specs.Size.{number_in}
use Rattle.raft_log_record_base.proofs.Sizes.{number_goes_on, number_stops_there, number_over, number_done}
use Rattle.raft_log_record_base.proofs.size.text.number_in.Goals as goal

pub returns-then-not-is_ascii_digit : goal.returns-then-not-is_ascii_digit
returns-then-not-is_ascii_digit c =
    number_stops_there c.loop-i.number c.loop-i.i c.args.text.now (number_in 0 c.args.text.now) (omega arith) (sym c.is_ascii_digit.ensures.value ∙ c.if-not-is_ascii_digit.true) c.loop-i.invariant

pub returns-in_err-checked_mul : goal.returns-in_err-checked_mul
returns-in_err-checked_mul c =
    let digit : is_ascii_digit (get_or c.args.text.now c.loop-i.i 0) ≡ true = sym c.is_ascii_digit.ensures.value ∙ c.if-not-is_ascii_digit.false in
    let over = number_over c.loop-i.number c.loop-i.i c.args.text.now (number_in 0 c.args.text.now) (omega arith) digit c.loop-i.invariant in
    rw c.from_residual.ensures (omega (arith, over, c.in_err-checked_mul.ensures))

pub returns-in_err-number : goal.returns-in_err-number
returns-in_err-number c =
    let digit : is_ascii_digit (get_or c.args.text.now c.loop-i.i 0) ≡ true = sym c.is_ascii_digit.ensures.value ∙ c.if-not-is_ascii_digit.false in
    let over = number_over c.loop-i.number c.loop-i.i c.args.text.now (number_in 0 c.args.text.now) (omega arith) digit c.loop-i.invariant in
    rw c.from_residual-in_err-number.ensures (omega (arith, over, c.in_ok-checked_mul.ensures.1, c.in_err-number.ensures))

pub loop-i-preserved : goal.loop-i-preserved
loop-i-preserved c =
    let digit : is_ascii_digit (get_or c.args.text.now c.loop-i.i 0) ≡ true = sym c.is_ascii_digit.ensures.value ∙ c.if-not-is_ascii_digit.false in
    let sum : c.in_ok-number.number ≡ c.loop-i.number * 10 + (get_or c.args.text.now c.loop-i.i 0 - 48) = omega (arith, c.in_ok-checked_mul.ensures.1, c.in_ok-number.ensures.1) in
    ap (λ n. number_in n (drop (c.loop-i.i + 1) c.args.text.now)) sum
    ∙ number_goes_on c.loop-i.number c.loop-i.i c.args.text.now (number_in 0 c.args.text.now) (omega arith) digit c.loop-i.invariant

pub returns : goal.returns
returns c = number_done c.loop-i.number c.loop-i.i c.args.text.now (number_in 0 c.args.text.now) (omega arith) c.loop-i.invariant
