use Rattle.raft_examples.proofs.Dumped.{at_work}
use Rattle.raft_examples.proofs.dump.first_dumped.Goals as goal

pub next-requires : goal.next-requires
next-requires g c = at_work g.F.FileSystem.disk c.args.file_system.now c.args.path.now c.in_ok-items.items c.in_ok-items.ensures.ok

pub returns-clause-ok : goal.returns-clause-ok
returns-clause-ok g c = record {
  reader = c.in_ok-items.items;
  behind = c.next.new.self;
  dumps = c.in_ok-items.ensures.ok;
  gives = c.next.ensures.steps;
}
