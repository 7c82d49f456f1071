use Rattle.std.proofs.Common.{◌-◌, ◌<◌, arith}
use Rattle.raft_log_extents.proofs.RunMore.{alone_few}
use Rattle.raft_log_extents.proofs.RunReplacing.{sound_length}
use Rattle.raft_log_extents.proofs.runs.Runs.takes_alone.Goals as goal

pub returns-then-count-gt0-clause-takes : goal.returns-then-count-gt0-clause-takes
returns-then-count-gt0-clause-takes c = λ some few.
    let r = c.args.self.now in
    let ok = r.runs.ok.0 in
    let long = sound_length r.front r.base r.len r.runs.items r.starts.items r.sound in
    let low = alone_few r.front r.base r.len (c.len-count.result - 1) r.runs.items r.starts.items c.index.result.now r.sound
    (omega (arith, ok, c.len-count.ensures, c.if-count-gt0.true)) c.index.ensures in
    let less : c.index.result.now.alone < 4294967295 = omega (arith, low, few, long, r.sound.count) in
    grind (arith, less)
