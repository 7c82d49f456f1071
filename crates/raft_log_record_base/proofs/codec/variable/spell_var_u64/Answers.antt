use Rattle.std.proofs.Common.{◌≤◌, arith, rules, refl}
use Rattle.raft_log_record_base.specs.Number.{var_u64_bytes}
use Rattle.raft_log_record_base.proofs.VarSpelling.{has_room, rest_below, spelling_goes_on, spelling_ends, var_u64_shortest}
use Rattle.raft_log_record_base.proofs.codec.variable.spell_var_u64.Goals as goal

pub loop-rest-init : goal.loop-rest-init
unfolding var_u64_bytes
loop-rest-init c = record { size = refl; within = omega arith; below = omega arith; whole = refl }

pub loop-rest-preserved : goal.loop-rest-preserved
loop-rest-preserved c =
    let few : c.loop-rest.len ≤ 8 = has_room c.loop-rest.len c.loop-rest.rest c.loop-rest.invariant.within c.loop-rest.invariant.below (omega arith) in
    record {
      size = search rules;
      within = omega arith;
      below = rest_below c.loop-rest.len c.loop-rest.rest few c.loop-rest.invariant.below;
      whole = spelling_goes_on c.loop-rest.len c.loop-rest.rest c.loop-rest.bytes (var_u64_bytes c.args.number) few (omega arith) (omega arith) c.loop-rest.invariant.whole;
    }

pub returns-clause-bytes : goal.returns-clause-bytes
returns-clause-bytes c = spelling_ends c.loop-rest.len c.loop-rest.rest c.loop-rest.bytes (var_u64_bytes c.args.number) (omega arith) (omega arith) c.loop-rest.invariant.whole

pub returns-clause-spelled : goal.returns-clause-spelled
returns-clause-spelled c = var_u64_shortest c.args.number (omega arith)
