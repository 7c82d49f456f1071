use Rattle.std.proofs.Common.{◌≡◌, ◌-◌, ◌+◌, ◌<◌, length, take, is_some, false, subst, arith, rules}
use Rattle.raft_log_replay_context.specs.OpenGroups.{IsSameInSlots}
use Rattle.raft_log_replay_context.proofs.Slots.{same_shorter, same_whole}
use Rattle.raft_log_replay_context.proofs.open_groups.len_to_last.Goals as goal

pub loop-len-init : goal.loop-len-init
loop-len-init c =
    let is : c.len-len.result ≡ length c.args.slots.now.items = search rules in
    (omega (arith, is), same_whole c.args.slots.now.items c.len-len.result is)

pub loop-len-preserved : goal.loop-len-preserved
loop-len-preserved c =
    let ss = c.args.slots.now.items in
    let n = c.loop-len.len in
    let some = c.loop-len-test.true in
    let within = c.loop-len.invariant.0 in
    let lt : n - 1 < length ss = omega (arith, some, within) in
    let back : n ≡ n - 1 + 1 = omega (arith, some) in
    let none : is_some c.index.result.now ≡ false = search rules in
    (omega (arith, within), same_shorter ss (n - 1) c.index.result.now lt c.index.ensures none (subst (λ k. IsSameInSlots ss (take k ss)) back c.loop-len.invariant.1))
