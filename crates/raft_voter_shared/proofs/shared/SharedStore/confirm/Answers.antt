use Rattle.raft_voter_shared.proofs.shared.SharedStore.confirm.Goals as goal

pub returns-clause-found : goal.returns-clause-found
returns-clause-found g c = record { history = _; legal = c.confirm.ensures.legal; found = c.confirm.ensures.found }
