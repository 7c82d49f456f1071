use Rattle.std.proofs.Common.{refl}
use Rattle.raft_log_replay_context.proofs.settle.note_groups.Goals as goal

pub returns-in-None-clause-notes : goal.returns-in-None-clause-notes
returns-in-None-clause-notes c = rw c.in-None.is (λ g. refl)

pub returns-in-Some-clause-notes : goal.returns-in-Some-clause-notes
returns-in-Some-clause-notes c = rw c.in-Some.is c.note_each.ensures.notes

pub returns-in-None-clause-counts : goal.returns-in-None-clause-counts
returns-in-None-clause-counts c = λ g. refl

pub returns-in-Some-clause-counts : goal.returns-in-Some-clause-counts
returns-in-Some-clause-counts c = c.note_each.ensures.counts
