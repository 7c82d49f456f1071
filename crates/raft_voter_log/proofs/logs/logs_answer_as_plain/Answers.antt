use Rattle.raft_voter_log.proofs.Refusing.{answers_as_plain, answers_taken_as_plain}
use Rattle.raft_voter_log.proofs.logs.logs_answer_as_plain.Goals as goal

pub returns-clause-rounds : goal.returns-clause-rounds
returns-clause-rounds g c = answers_as_plain _

pub returns-clause-taken : goal.returns-clause-taken
returns-clause-taken g c = answers_taken_as_plain _
