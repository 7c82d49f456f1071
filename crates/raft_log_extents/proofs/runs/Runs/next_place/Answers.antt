use Rattle.std.proofs.Common.{◌+◌, arith, take}
use Rattle.raft_log_extents.specs.Runs.{counts}
use Rattle.raft_log_extents.proofs.RunCopies.{end_is, next_has}
use Rattle.raft_log_extents.proofs.RunTurns.{counts_take}
use Rattle.raft_log_extents.proofs.runs.Runs.next_place.Goals as goal

pub total-requires : goal.total-requires
total-requires c =
    let r = c.args.self.now in
    let ok = r.runs.ok.0 in
    let end = end_is r.front r.base r.len c.args.at r.runs.items r.starts.items c.index.result.now r.sound (omega (arith, ok, c.requires.there)) c.index.ensures in
    let all = counts_take r.runs.items (c.args.at + 1) in
    omega (arith, end, all, r.sound.count, r.sound.fits)

pub returns-then-within-total-clause-same : goal.returns-then-within-total-clause-same
returns-then-within-total-clause-same c =
    let r = c.args.self.now in
    let ok = r.runs.ok.0 in
    let end = end_is r.front r.base r.len c.args.at r.runs.items r.starts.items c.index.result.now r.sound (omega (arith, ok, c.requires.there)) c.index.ensures in
    omega (arith, end, c.total.ensures, c.if-within-total.true)

pub returns-then-within-total-clause-there : goal.returns-then-within-total-clause-there
returns-then-within-total-clause-there c = λ low.
    let r = c.args.self.now in
    let ok = r.runs.ok.0 in
    let end = end_is r.front r.base r.len c.args.at r.runs.items r.starts.items c.index.result.now r.sound (omega (arith, ok, c.requires.there)) c.index.ensures in
    let has = next_has r.front r.base r.len (counts (take c.args.at r.runs.items) + c.args.within) (c.args.at + 1) r.runs.items r.starts.items r.sound low
    (omega (arith, ok, c.requires.there)) (omega (arith, end, c.total.ensures, c.if-within-total.true)) in
    let there = has.there in
    let high = has.high in
    (omega (arith, there, ok), omega (arith, high, end, c.total.ensures, c.if-within-total.true))

pub returns-clause-there : goal.returns-clause-there
returns-clause-there c = λ low.
    let r = c.args.self.now in
    let ok = r.runs.ok.0 in
    let end = end_is r.front r.base r.len c.args.at r.runs.items r.starts.items c.index.result.now r.sound (omega (arith, ok, c.requires.there)) c.index.ensures in
    (c.requires.there, omega (arith, end, c.total.ensures, c.if-within-total.false, c.requires.within))
