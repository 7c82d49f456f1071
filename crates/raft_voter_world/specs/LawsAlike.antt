-- What two stores reply to the same rounds, if they refuse exactly the requests out of range, or others too.
use Rattle.std.specs.Prelude.{◌≡◌, ◌≤◌, ℕ, false, if◌then◌else◌, List, [], ◌∷◌, length, map}
use Rattle.raft_voter_messages.specs.declared.reply.Reply.{Reply}
use Rattle.raft_voter_messages.specs.declared.request.Request.{Request}
use Rattle.raft_voter.specs.Rounds.{World}
use Rattle.raft_voter.specs.Service.{AnswersRound, IsAlive, IsOpenAt, Service, is_refused, out_of_range, refused_from}
use Rattle.raft_voter_world.specs.Alike.{AnswersRounds, refused_in}
use Rattle.raft_voter_world.specs.Independent.{AreIndependent}

-- Any two stores.

-- The replies of both stores to these rounds, `told` and `heard`, are the same. Each group got the replies that its
-- voter in `W` gives to this group's requests alone. The stores, now `new` and `last`, serve the voters after the
-- rounds.
pub record AnsweredAlike {S T : Type 0} (v : Service S) (w : Service T) (W : World)
    (rounds : List (List (ℕ × Request))) (told heard : List (List Reply)) (new : S) (last : T) : Type 0 where
  pub same : told ≡ heard
  pub voters : World
  pub independent : AreIndependent W rounds told voters
  pub first : IsOpenAt v new voters
  pub second : IsOpenAt w last voters

-- Two stores serve the same voters and reply to the same rounds. If both refuse exactly the requests out of range,
-- they give the same replies and serve the same voters afterwards.
abbrev pub StoresAnswerAlike : {S T : Type 0} → Service S → Service T → Type 0
StoresAnswerAlike {S} {T} v w =
    (W : World) (rounds : List (List (ℕ × Request))) (told heard : List (List Reply)) (old new : S) (first last : T)
    → IsOpenAt v old W → AnswersRounds v rounds told old new → refused_in told ≡ map (out_of_range 0) rounds
    → IsOpenAt w first W → AnswersRounds w rounds heard first last → refused_in heard ≡ map (out_of_range 0) rounds
    → AnsweredAlike v w W rounds told heard new last

-- A store and a model of it.

-- Store `old` gave these replies to this round, and is `new` afterwards. The round has at most 4,096 requests. The
-- store may refuse what it refused, and hasn't failed.
pub record IsServed {S : Type 0} (v : Service S) (requests : List (ℕ × Request)) (replies : List Reply) (old new : S)
    : Type 0 where
  pub answers : AnswersRound v requests replies old new
  pub may_refuse : v.may_refuse old new requests (refused_from 0 replies)
  pub short : length requests ≤ 4096
  pub alive : IsAlive (v.is_failed old) (v.is_failed new)

-- store `old` gave the replies `told` to these rounds, in order and each as `IsServed` says, and is `new` afterwards
abbrev pub AreServed : {S : Type 0} → Service S → List (List (ℕ × Request)) → List (List Reply) → S → S → Type 0
AreServed v [] [] old new = new ≡ old
AreServed {S} v (requests ∷ rounds) (replies ∷ told) old new =
    (now : S) × IsServed v requests replies old now × AreServed v rounds told now new
AreServed v rounds told old new = ⊥

-- if the store hasn't failed after a round, the positions that it may refuse in that round are those of the requests
-- out of range
abbrev pub RefusesOutOfRange : {S : Type 0} → Service S → Type 0
RefusesOutOfRange {S} v = (old new : S) (requests : List (ℕ × Request)) (refused : List ℕ)
    → v.is_failed new ≡ false → v.may_refuse old new requests refused → refused ≡ out_of_range 0 requests

-- A store and a model serve the same voters and reply to the same rounds. If the store refuses exactly the requests
-- out of range, it gives the model's replies, and both serve the same voters afterwards.
abbrev pub AnswersAsModel : {S T : Type 0} → Service S → Service T → Type 0
AnswersAsModel {S} {T} model v =
    (W : World) (rounds : List (List (ℕ × Request))) (told heard : List (List Reply)) (old new : S) (first last : T)
    → IsOpenAt model old W → AreServed model rounds told old new
    → IsOpenAt v first W → AreServed v rounds heard first last → refused_in heard ≡ map (out_of_range 0) rounds
    → AnsweredAlike model v W rounds told heard new last

-- if store `model` can only refuse the requests out of range, then store `v` gives the model's replies whenever `v`
-- refuses exactly these too
abbrev pub StoresAnswerAsModels : {S T : Type 0} → Service S → Service T → Type 0
StoresAnswerAsModels model v = RefusesOutOfRange model → AnswersAsModel model v

-- A store that refused requests in range.

-- the requests of a round whose reply isn't `Refused`, in order
abbrev pub taken_by : List (ℕ × Request) → List Reply → List (ℕ × Request)
taken_by [] told = []
taken_by (q ∷ qs) [] = []
taken_by (q ∷ qs) (a ∷ told) = if is_refused a then taken_by qs told else q ∷ taken_by qs told

-- for each round, its requests whose reply isn't `Refused`
abbrev pub taken_in : List (List (ℕ × Request)) → List (List Reply) → List (List (ℕ × Request))
taken_in [] told = []
taken_in (requests ∷ rounds) [] = []
taken_in (requests ∷ rounds) (replies ∷ told) = taken_by requests replies ∷ taken_in rounds told

-- the replies that aren't `Refused`
abbrev pub answers_in : List Reply → List Reply
answers_in [] = []
answers_in (a ∷ told) = if is_refused a then answers_in told else a ∷ answers_in told

-- The model's replies `told` are the store's replies `heard` without `Refused`. The model, now `new`, and the store,
-- now `last`, serve the same voters.
pub record TellsTaken {S T : Type 0} (model : Service S) (v : Service T) (told heard : List (List Reply)) (new : S)
    (last : T) : Type 0 where
  pub same : told ≡ map answers_in heard
  pub voters : World
  pub first : IsOpenAt model new voters
  pub second : IsOpenAt v last voters

-- A store and a model serve the same voters. The store replies to rounds, and the model to those of their requests
-- that the store didn't refuse. Then the replies to these requests are the same, and both serve the same voters
-- afterwards.
abbrev pub AnswersTakenAsModel : {S T : Type 0} → Service S → Service T → Type 0
AnswersTakenAsModel {S} {T} model v =
    (W : World) (rounds : List (List (ℕ × Request))) (told heard : List (List Reply)) (old new : S) (first last : T)
    → IsOpenAt v first W → AnswersRounds v rounds heard first last
    → IsOpenAt model old W → AreServed model (taken_in rounds heard) told old new
    → TellsTaken model v told heard new last

-- Suppose store `model` can only refuse the requests out of range, and gets the requests that store `v` didn't refuse.
-- Then the model gives the replies that `v` gave to them.
abbrev pub StoresAnswerTakenAsModels : {S T : Type 0} → Service S → Service T → Type 0
StoresAnswerTakenAsModels model v = RefusesOutOfRange model → AnswersTakenAsModel model v
