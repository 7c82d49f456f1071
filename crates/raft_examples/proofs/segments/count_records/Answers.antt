use Rattle.std.proofs.Common.{arith}
use Rattle.raft_examples.proofs.segments.count_records.Goals as goal

pub returns : goal.returns
returns g c =
    let read = c.in_ok-read.ensures.ok in
    record {
      batches = read.batches;
      endings = c.in_ok-read.read.endings.items;
      held = read.held;
      all = let same = read.all in omega (arith, same);
      counted = read.read;
    }
