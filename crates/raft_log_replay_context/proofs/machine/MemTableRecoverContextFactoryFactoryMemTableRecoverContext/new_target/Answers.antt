use Rattle.std.proofs.Common.{[]}
use Rattle.raft_log_replay_context.proofs.machine.MemTableRecoverContextFactoryFactoryMemTableRecoverContext.new_target.Goals as goal

pub returns-clause-ok : goal.returns-clause-ok
returns-clause-ok c = λ queue. record { records = []; told = tt; read = c.new.ensures.read queue; written = c.new.ensures.written }
