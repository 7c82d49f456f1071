use Rattle.std.proofs.Common.{List, sym, subst, ◌∙◌}
use Rattle.raft_voter_messages.specs.declared.round.Round.{Round}
use Rattle.raft_voter_history.specs.History.{HasPart}
use Rattle.raft_voter_rounds.proofs.Kept.{none_part}
use Rattle.raft_voter_rounds.proofs.journal.Journal.none_taken.Goals as goal

pub claim-requires : goal.claim-requires
claim-requires g c =
    subst (λ (part : List Round). HasPart c.args.self.now.history 0 part) (sym (c.as_slice.ensures.value ∙ c.new-none.ensures.items))
    (none_part c.args.self.now.history)
