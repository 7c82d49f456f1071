-- the least that those before this one say
use Rattle.std.proofs.Common.{take}
use Rattle.raft_log_file_listeners.specs.Least.{AllHoldBack}
use Rattle.raft_log_file_listeners.proofs.listeners.least_of.Given as goal

abbrev pub invariant-loop-listener : goal.invariant-loop-listener
invariant-loop-listener g l = AllHoldBack (λ one. (goal.EventListener-dyn g (one.vtable, one.value)).holds_back one.value l.queue) (take l.listener-index l.listeners) l.least
