-- Rounds in which exactly the requests out of range were refused. Each group then gets the replies of a voter that
-- sees no other group's requests.
use Rattle.std.specs.Prelude.{◌≡◌, ◌==◌, if◌then◌else◌, ℕ, List, [], ◌∷◌, ◌++◌, map}
use Rattle.std.specs.List.{flat_map}
use Rattle.raft_voter_messages.specs.declared.reply.Reply.{Reply}
use Rattle.raft_voter_messages.specs.declared.request.Request.{Request}
use Rattle.raft_voter_messages.specs.declared.round.Outcome.{Outcome}
use Rattle.raft_voter_messages.specs.declared.round.Outcome.TheVariants.{Answered, Cut}
use Rattle.raft_voter_messages.specs.declared.round.Round.{Round}
use Rattle.raft_voter_outline.specs.Rules.{next, reply}
use Rattle.raft_voter_outline.specs.State.{State}
use Rattle.raft_voter.specs.Rounds.{Leads, World, after_rounds, fresh_world}
use Rattle.raft_voter.specs.Service.{IsOpenAt, Service, out_of_range}
use Rattle.raft_voter_world.specs.declared.event.Event.{Event}
use Rattle.raft_voter_world.specs.declared.report.WorldReport.{WorldReport}
use Rattle.raft_voter_world.specs.Alike.{AnswersRounds, refused_in}
use Rattle.raft_voter_world.specs.Cuts.{ServeSome}
use Rattle.raft_voter_world.specs.Run.{IsRun, moments_of}
use Rattle.raft_voter_world.specs.Stores.{Disk, Upkeep}

-- One group.

-- the requests of group `g` in this round, in order
abbrev pub asked_of : ℕ → List (ℕ × Request) → List Request
asked_of g [] = []
asked_of g (q ∷ qs) = if q.0 == g then q.1 ∷ asked_of g qs else asked_of g qs

-- the replies to the requests of group `g` in this round, in order
abbrev pub told_to : ℕ → List (ℕ × Request) → List Reply → List Reply
told_to g [] told = []
told_to g (q ∷ qs) [] = []
told_to g (q ∷ qs) (a ∷ told) = if q.0 == g then a ∷ told_to g qs told else told_to g qs told

-- the requests of group `g` in these rounds, in order
abbrev pub asked_in : ℕ → List (List (ℕ × Request)) → List Request
asked_in g rounds = flat_map (asked_of g) rounds

-- the replies to the requests of group `g` in these rounds, in order
abbrev pub told_in : ℕ → List (List (ℕ × Request)) → List (List Reply) → List Reply
told_in g [] told = []
told_in g (requests ∷ rounds) [] = []
told_in g (requests ∷ rounds) (replies ∷ told) = told_to g requests replies ++ told_in g rounds told

-- One voter alone.

-- voter `v` after these requests, in order
abbrev pub voter_alone : State → List Request → State
voter_alone v [] = v
voter_alone v (q ∷ qs) = voter_alone (next v q) qs

-- the replies of voter `v` to these requests, in order
abbrev pub replies_alone : State → List Request → List Reply
replies_alone v [] = []
replies_alone v (q ∷ qs) = reply v q ∷ replies_alone (next v q) qs

-- `told` has the replies to these rounds. Each group's replies are those that its voter in world `W` gives if it gets
-- that group's requests alone. In world `X` the group has that voter after these requests.
pub record AreIndependent (W : World) (rounds : List (List (ℕ × Request))) (told : List (List Reply)) (X : World)
    : Type 0 where
  pub replies : (g : ℕ) → told_in g rounds told ≡ replies_alone (W g) (asked_in g rounds)
  pub voters : (g : ℕ) → X g ≡ voter_alone (W g) (asked_in g rounds)

-- Stores.

-- If a store refused exactly the requests out of range in these rounds, each group got the replies of a voter of its
-- own. The store serves these voters afterwards.
abbrev pub RoundsAreIndependent : {S : Type 0} → Service S → Type 0
RoundsAreIndependent {S} v = (W : World) (rounds : List (List (ℕ × Request))) (told : List (List Reply)) (old new : S)
    → IsOpenAt v old W → AnswersRounds v rounds told old new → refused_in told ≡ map (out_of_range 0) rounds
    → (X : World) × IsOpenAt v new X × AreIndependent W rounds told X

-- Transcripts.

-- the round got replies, and its refused positions are exactly those of the requests out of range
pub record IsWhole (round : Round) : Type 0 where
  pub replies : List Reply
  pub answered : round.outcome ≡ Answered replies
  pub refused : round.refused ≡ out_of_range 0 round.requests

-- each of these rounds got replies, and exactly its requests out of range were refused
abbrev pub AreWhole : List Round → Type 0
AreWhole [] = Unit {0}
AreWhole (round ∷ rounds) = IsWhole round × AreWhole rounds

-- the replies of this outcome; none if the round was cut off
abbrev pub handed_out : Outcome → List Reply
handed_out (Answered replies) = replies
handed_out Cut = []

-- for each round, its requests
abbrev pub requests_in : List Round → List (List (ℕ × Request))
requests_in rounds = map (λ round. round.requests) rounds

-- for each round, its replies; none if it was cut off
abbrev pub replies_in : List Round → List (List Reply)
replies_in rounds = map (λ round. handed_out round.outcome) rounds

-- Suppose rounds lead from world `W` to `X` (`Leads`), each got replies, and exactly the requests out of range were
-- refused. Then each group got the replies of a voter of its own.
abbrev pub WholeRoundsAreIndependent : Type 0
WholeRoundsAreIndependent = (W X : World) (rounds : List Round) (cuts : List ℕ) → Leads W rounds cuts X
    → AreWhole rounds → AreIndependent W (requests_in rounds) (replies_in rounds) X

-- Suppose a run lost no voters, and each store whose voters were read served some (`ServeSome`). Suppose each round got
-- replies, and exactly its requests out of range were refused. Then each group got the replies of a fresh voter of its
-- own. Crashes, opens and purges between the rounds don't matter.
abbrev pub RunsAreIndependent : {S F : Type 0} → Service S → Upkeep S → Disk S F → Type 0
RunsAreIndependent {S} {F} v u d = (files : F) (events : List Event) (report : WorldReport F)
    → (run : IsRun v u d files events report) → ServeSome v (moments_of run.turns) → report.lost ≡ []
    → AreWhole report.transcript.rounds
    → AreIndependent fresh_world (requests_in report.transcript.rounds) (replies_in report.transcript.rounds)
    (after_rounds fresh_world report.transcript.rounds report.cuts)
