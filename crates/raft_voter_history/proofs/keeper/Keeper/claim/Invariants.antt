use Rattle.raft_voter_history.proofs.keeper.Keeper.claim.Given as goal

-- the part is the one that the caller names
abbrev pub ghosts-claimed : goal.ghosts-claimed
ghosts-claimed g a = record { first = a._first; part = a._part.now }
