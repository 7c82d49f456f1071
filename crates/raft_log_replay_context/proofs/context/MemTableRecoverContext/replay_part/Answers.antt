use Rattle.std.proofs.Common.{refl}
use Rattle.raft_log_model_laws.specs.Item.Mark.{Begin, Middle}
use Rattle.raft_log_replay_context.proofs.Contexts.{reads_quiet}
use Rattle.raft_log_replay_context.proofs.context.MemTableRecoverContext.replay_part.Goals as goal

pub returns-in_ok-begin-in-Begin-clause-ok : goal.returns-in_ok-begin-in-Begin-clause-ok
returns-in_ok-begin-in-Begin-clause-ok c = rw c.in-Begin.is (reads_quiet (Begin c.args.number) c.args.part c.args.self.now _ (λ o. refl) c.in_ok-begin-in-Begin.ensures refl)

pub returns-in_ok-go_on-in-Middle-clause-ok : goal.returns-in_ok-go_on-in-Middle-clause-ok
returns-in_ok-go_on-in-Middle-clause-ok c = rw c.in-Middle.is (reads_quiet (Middle c.args.number) c.args.part c.args.self.now _ (λ o. refl) c.in_ok-go_on-in-Middle.ensures refl)

pub returns-in-End-clause-ok : goal.returns-in-End-clause-ok
returns-in-End-clause-ok c = rw c.in-End.is c.replay_end.ensures.ok
