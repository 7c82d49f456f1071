use Rattle.std.proofs.Common.{◌∙◌}
use Rattle.raft_voter_shared.proofs.desk.Desk.close.Goals as goal

pub returns-clause-settled : goal.returns-clause-settled
returns-clause-settled g c =
    let desk = c.args.self in
    let end = c.close-first.ensures in
    record {
      history = desk.journal.history;
      begins = end.taken;
      kept = end.kept;
      whole = end.all;
      count = desk.counted ∙ c.count_all.ensures;
      legal = desk.legal;
      few = desk.fewer;
      serves = desk.serves;
      left = desk.left;
      last = desk.last;
      cause = desk.cause;
      why = desk.why;
    }
