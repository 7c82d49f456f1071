use Rattle.std.proofs.Common.{◌<◌, length, arith}
use Rattle.raft_log_file_listeners.proofs.Least.{none_hold_back, one_more_holds_back}
use Rattle.raft_log_file_listeners.proofs.listeners.least_of.Goals as goal

pub loop-listener-init : goal.loop-listener-init
loop-listener-init g c = none_hold_back _

pub loop-listener-preserved : goal.loop-listener-preserved
loop-listener-preserved g c =
    let i = c.loop-listener.listener-index in
    let lt : i < length c.args.listeners.now = omega arith in
    rw c.lesser-least.ensures (one_more_holds_back _ c.args.listeners.now i c.listener-item.result c.loop-listener.least c.held_by.result lt c.listener-item.is c.loop-listener.invariant c.held_by.ensures)
