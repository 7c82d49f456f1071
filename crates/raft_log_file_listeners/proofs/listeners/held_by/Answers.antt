use Rattle.std.proofs.Common.{subst}
use Rattle.raft_log_file_listeners.proofs.listeners.held_by.Goals as goal

pub returns : goal.returns
returns g c =
    subst (λ x. (goal.EventListener-dyn g x).holds_back x.1 c.args.queue c.first_file_not_ready_for_purge.result) c.deref_box-1.ensures.1
    c.first_file_not_ready_for_purge.ensures
