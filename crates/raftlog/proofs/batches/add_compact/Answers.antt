use Rattle.std.proofs.Common.{refl}
use Rattle.raftlog.proofs.Saying.{adds_item}
use Rattle.raftlog.proofs.batches.add_compact.Goals as goal

pub returns : goal.returns
returns c = adds_item c.args.batch.now c.add_command.new.self _ _ tt (λ f. refl) c.in_ok-add_command.ensures.ok
