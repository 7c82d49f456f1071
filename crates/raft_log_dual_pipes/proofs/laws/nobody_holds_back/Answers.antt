use Rattle.raft_log_dual_pipes.proofs.laws.nobody_holds_back.Goals as goal

pub returns : goal.returns
returns g c = λ queue v held (pipes, shown, none). none
