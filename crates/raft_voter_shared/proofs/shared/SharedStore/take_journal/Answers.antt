use Rattle.raft_voter_shared.proofs.shared.SharedStore.take_journal.Goals as goal

pub returns-clause-all : goal.returns-clause-all
returns-clause-all g c = record { history = _; legal = c.take.ensures.legal; kept = _; left = _; takes = c.take.ensures.all }
