use Rattle.std.proofs.Common.{arith, get_or}
use Rattle.raft_log_record_base.specs.Number.{var_u64_at}
use Rattle.raft_log_record_base.proofs.VarLoop.{added_none, digit_below, digit_fits, var_goes_on, var_ends, var_stops, var_last, var_over}
use Rattle.raft_log_record_base.proofs.codec.variable.var_u64_front.Goals as goal

pub loop-i-init : goal.loop-i-init
unfolding var_u64_at
loop-i-init c = record { within = omega arith; below = omega arith; whole = added_none (var_u64_at c.args.bytes.now) }

pub returns-then-bytes-i : goal.returns-then-bytes-i
returns-then-bytes-i c = rw c.unexpected_eof.ensures (var_stops c.loop-i.number c.loop-i.i c.args.bytes.now (var_u64_at c.args.bytes.now) (omega arith) c.loop-i.invariant.whole)

pub overflow_add-number : goal.overflow_add-number
overflow_add-number c = omega (arith, digit_fits (get_or c.args.bytes.now c.loop-i.i 0) c.loop-i.number c.loop-i.i (omega arith) c.loop-i.invariant.below)

pub returns-then-byte-lt-CONTINUES : goal.returns-then-byte-lt-CONTINUES
returns-then-byte-lt-CONTINUES c =
    (var_ends c.loop-i.number c.loop-i.i c.args.bytes.now (var_u64_at c.args.bytes.now) (omega arith) (omega arith) (omega arith) c.loop-i.invariant.whole, omega arith)

pub loop-i-preserved : goal.loop-i-preserved
loop-i-preserved c = record {
  within = omega arith;
  below = digit_below (get_or c.args.bytes.now c.loop-i.i 0) c.loop-i.number c.loop-i.i (omega arith) c.loop-i.invariant.below;
  whole = var_goes_on c.loop-i.number c.loop-i.i c.args.bytes.now (var_u64_at c.args.bytes.now) (omega arith) (omega arith) (omega arith) c.loop-i.invariant.whole;
}

pub returns-then-bytes-le-GOING_ON : goal.returns-then-bytes-le-GOING_ON
returns-then-bytes-le-GOING_ON c = rw c.unexpected_eof-then-bytes-le-GOING_ON.ensures (var_stops c.loop-i.number c.loop-i.i c.args.bytes.now (var_u64_at c.args.bytes.now) (omega arith) c.loop-i.invariant.whole)

pub returns-then-last-gt-GREATEST_LAST : goal.returns-then-last-gt-GREATEST_LAST
returns-then-last-gt-GREATEST_LAST c = var_over c.loop-i.number c.loop-i.i c.args.bytes.now (var_u64_at c.args.bytes.now) (omega arith) (omega arith) (omega arith) c.loop-i.invariant.whole

pub returns : goal.returns
returns c = (var_last c.loop-i.number c.loop-i.i c.args.bytes.now (var_u64_at c.args.bytes.now) (omega arith) (omega arith) (omega arith) c.loop-i.invariant.whole, omega arith)
