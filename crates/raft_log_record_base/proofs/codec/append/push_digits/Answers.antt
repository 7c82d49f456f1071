use Rattle.std.proofs.Common.{ℕ, ◌≡◌, ◌+◌, ◌-◌, ◌≤◌, arith, refl}
use Rattle.std.specs.Prelude.{vec_len}
use Rattle.raft_log_record_base.specs.Number.{var_u64_bytes}
use Rattle.raft_log_record_base.proofs.VarSpelling.{has_room, rest_below_next, append_goes_on, append_ends}
use Rattle.raft_log_record_base.proofs.codec.append.push_digits.Goals as goal

pub loop-rest-init : goal.loop-rest-init
unfolding var_u64_bytes
loop-rest-init c =
    let none : vec_len c.args.out.now - vec_len c.args.out.now ≡ 0 = omega arith in
    record { grown = omega arith; room = omega arith; within = omega arith; below = rw none (omega arith); whole = rw none refl }

pub loop-rest-preserved : goal.loop-rest-preserved
loop-rest-preserved c =
    let len : ℕ = vec_len c.loop-rest.out - vec_len c.args.out.now in
    let next : ℕ = vec_len c.push_reserved.new.self - vec_len c.args.out.now in
    let few : len ≤ 8 = has_room len c.loop-rest.rest c.loop-rest.invariant.within c.loop-rest.invariant.below (omega arith) in
    let is : next ≡ len + 1 = omega (arith, c.push_reserved.ensures.len, c.loop-rest.invariant.grown) in
    record {
      grown = omega (arith, c.push_reserved.ensures.len, c.loop-rest.invariant.grown);
      room = rw c.push_reserved.ensures.capacity c.loop-rest.invariant.room;
      within = omega (arith, is, few);
      below = rest_below_next len next c.loop-rest.rest few is c.loop-rest.invariant.below;
      whole = rw c.push_reserved.ensures.items (append_goes_on len next c.loop-rest.rest c.loop-rest.out.items _ few is (omega arith) c.loop-rest.invariant.whole);
    }

pub returns : goal.returns
returns c = rw c.push_reserved-2.ensures.items (append_ends (vec_len c.loop-rest.out - vec_len c.args.out.now) c.loop-rest.rest c.loop-rest.out.items _ (omega arith) c.loop-rest.invariant.whole)
