use Rattle.raft_log_machine_laws.proofs.survival.append_takes.Goals as goal

pub returns : goal.returns
returns g c = λ q m y h. h
