use Rattle.std.proofs.Common.{refl, inr}
use Rattle.raft_voter_messages.specs.declared.request.Request.TheVariants.{Vote}
use Rattle.raft_voter_durability_laws.proofs.examples.rounds_cut_off.Goals as goal

pub returns-clause-with : goal.returns-clause-with
returns-clause-with c = inr ((2, Vote 1 1 0 0), refl, refl)
