use Rattle.std.proofs.Common.{refl}
use Rattle.raft_crash_examples.proofs.opening.open.Goals as goal

pub returns-in-Ok : goal.returns-in-Ok
returns-in-Ok g c =
    let e = c.in-Ok.engine in
    record {
      ok = record { pipes = _; tables = e.tables; cache = e.cache; empty = c.in-Ok.ensures.none; opens = c.in-Ok.ensures.ok; is = refl };
    }
