-- Voters in memory refuse nothing but requests out of range, so they are a model of each store.
use Rattle.std.proofs.Common.{◌≡◌, Bool, subst}
use Rattle.raft_voter.specs.Service.{Service}
use Rattle.raft_voter_plain.specs.Store.{plain_voters, refused_by}
use Rattle.raft_voter_world.specs.LawsAlike.{AnswersAsModel, AnswersTakenAsModel, RefusesOutOfRange}
use Rattle.raft_voter_world.proofs.Public.{stores_answer_as_models, stores_answer_taken_as_models}

-- while they haven't failed
plain_refuses : RefusesOutOfRange plain_voters
plain_refuses old new requests refused alive may = subst (λ (b : Bool). refused ≡ refused_by b requests) alive may

pub answers_as_plain : {S : Type 0} (v : Service S) → AnswersAsModel plain_voters v
answers_as_plain v = stores_answer_as_models plain_voters v plain_refuses

pub answers_taken_as_plain : {S : Type 0} (v : Service S) → AnswersTakenAsModel plain_voters v
answers_taken_as_plain v = stores_answer_taken_as_models plain_voters v plain_refuses
