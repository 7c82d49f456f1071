use Rattle.std.proofs.Common.{◌≡◌, length, arith}
use Rattle.raft_log_memtables.specs.Tables.{shown_of}
use Rattle.raft_log_purge_steps.proofs.Spending.{pays_all, pays_here, spends_more, spends_none}
use Rattle.raft_log_purge_steps.proofs.weights.affordable.Goals as goal

pub loop-group-init : goal.loop-group-init
loop-group-init c = spends_none c.args.gate c.args.budget (shown_of c.args.tables.now) c.args.groups.now

pub loop-group-preserved : goal.loop-group-preserved
loop-group-preserved c =
    spends_more c.args.gate c.args.budget (shown_of c.args.tables.now) c.args.groups.now c.loop-group.group-index c.loop-group.count c.loop-group.spent c.loop-group.invariant 0 c.in_ok-weight.field-0 c.saturating_add-spent.result c.loop-group-test.true c.in_ok-weight.ensures
    c.saturating_add-spent.ensures c.if-budget-spent.false

pub returns-then-budget-spent : goal.returns-then-budget-spent
returns-then-budget-spent c =
    pays_here c.args.gate c.args.budget (shown_of c.args.tables.now) c.args.groups.now c.loop-group.group-index c.loop-group.count c.loop-group.spent c.loop-group.invariant 0 c.in_ok-weight.field-0 c.saturating_add-spent.result c.loop-group-test.true c.in_ok-weight.ensures
    c.saturating_add-spent.ensures c.if-budget-spent.true

pub returns : goal.returns
returns c =
    let all : c.loop-group.group-index ≡ length c.args.groups.now = omega arith in
    pays_all c.args.gate c.args.budget (shown_of c.args.tables.now) c.args.groups.now c.loop-group.group-index c.loop-group.count c.loop-group.spent c.loop-group.invariant all
