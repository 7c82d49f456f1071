use Rattle.std.proofs.Common.{◌+◌, ◌-◌, arith, refl}
use Rattle.raft_log_extents.proofs.RunSpots.{base_le, first_le, first_low, some_runs, spot_is}
use Rattle.raft_log_extents.proofs.runs.Runs.spot.Goals as goal

pub find-at-requires-clause-some : goal.find-at-requires-clause-some
find-at-requires-clause-some c =
    let r = c.args.self.now in
    let some = some_runs r.front r.base r.len r.runs.items r.starts.items r.sound (omega (arith, c.requires)) in
    let ok = r.runs.ok in omega (arith, some, ok)

pub find-at-requires-clause-low : goal.find-at-requires-clause-low
find-at-requires-clause-low c =
    let r = c.args.self.now in
    first_low r.front r.base r.len (r.front + c.args.position) r.runs.items r.starts.items r.sound (omega (arith, c.requires)) (omega arith)

pub overflow_sub-result : goal.overflow_sub-result
overflow_sub-result c =
    let r = c.args.self.now in
    base_le r.front r.base r.len (r.front + c.args.position) c.find-at.result r.runs.items r.starts.items c.index-run.result.now r.sound c.find-at.ensures c.index-run.ensures

pub overflow_sub-result-2 : goal.overflow_sub-result-2
overflow_sub-result-2 c =
    first_le (c.args.self.now.front + c.args.position) c.find-at.result c.args.self.now.runs.items c.index-run.result.now c.find-at.ensures c.index-run.ensures

pub returns : goal.returns
returns c =
    let r = c.args.self.now in
    spot_is r.front r.base r.len c.args.position (r.front + c.args.position) r.runs.items r.starts.items
    (record { at = c.find-at.result; run = c.index-run.result.now; from = c.index-run.result.now.at - r.base; within = (r.front + c.args.position) - c.index-run.result.now.first })
    r.sound refl c.requires c.find-at.ensures c.index-run.ensures refl refl
