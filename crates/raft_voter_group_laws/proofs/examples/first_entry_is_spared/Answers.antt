use Rattle.std.proofs.Common.{refl, arith}
use Rattle.raft_voter_group_laws.proofs.examples.first_entry_is_spared.Goals as goal

pub returns-clause-replaced : goal.returns-clause-replaced
returns-clause-replaced c = λ spares. spares 1 refl 1 (omega arith) (λ same. absurd (cc))
