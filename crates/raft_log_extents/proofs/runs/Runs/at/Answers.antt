use Rattle.std.proofs.Common.{arith}
use Rattle.raft_log_extents.proofs.RunReplacing.{sound_length}
use Rattle.raft_log_extents.proofs.RunSpots.{at_is}
use Rattle.raft_log_extents.proofs.runs.Runs.at.Goals as goal

pub spot-spot-requires : goal.spot-spot-requires
spot-spot-requires c =
    let r = c.args.self.now in
    let long = sound_length r.front r.base r.len r.runs.items r.starts.items r.sound in
    let count = r.sound.count in omega (arith, long, count, c.requires)

pub returns-clause-value : goal.returns-clause-value
returns-clause-value c =
    let r = c.args.self.now in
    at_is r.front r.base r.len c.args.position r.runs.items r.starts.items c.spot-spot.result r.sound c.spot-spot.ensures c.place_in.result c.place_in.ensures

pub returns-clause-fits : goal.returns-clause-fits
returns-clause-fits c =
    let r = c.args.self.now in
    let long = sound_length r.front r.base r.len r.runs.items r.starts.items r.sound in
    omega (arith, long, r.sound.count, r.sound.fits)
