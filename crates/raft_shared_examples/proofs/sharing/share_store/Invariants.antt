use Rattle.raft_voter.specs.Service.{IsOpenAt}
use Rattle.raft_voter_history.specs.Names.{id_of}
use Rattle.raft_shared_examples.proofs.sharing.share_store.Given as goal

abbrev pub ghosts-share_among-L-Ledger : goal.ghosts-share_among-L-Ledger
ghosts-share_among-L-Ledger g a = record { name = a.blank.name; parts = a.blank.parts }

abbrev pub ghosts-share_among-L-Named : goal.ghosts-share_among-L-Named
ghosts-share_among-L-Named g a = record { history = id_of a.fresh }

-- the opening serves what the store serves
abbrev pub ghosts-share_among-L-Opening : goal.ghosts-share_among-L-Opening
ghosts-share_among-L-Opening g a = record {
  all = a.blank.parts;
  served = λ W. ∥ IsOpenAt g.S.RoundService.service a.store W ∥₁;
  had_failed = g.S.RoundService.service.is_failed a.store;
}
