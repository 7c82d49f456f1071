-- Two stores give the same replies to the same rounds, if they serve the same voters and refuse the same positions.
use Rattle.std.specs.Prelude.{◌≡◌, ℕ, List, [], ◌∷◌, map}
use Rattle.raft_voter_messages.specs.declared.reply.Reply.{Reply}
use Rattle.raft_voter_messages.specs.declared.request.Request.{Request}
use Rattle.raft_voter.specs.Rounds.{World}
use Rattle.raft_voter.specs.Service.{AnswersRound, IsOpenAt, Service, refused_from}

-- store `old` gave the replies `told` to these rounds, in order, and is `new` afterwards
abbrev pub AnswersRounds : {S : Type 0} → Service S → List (List (ℕ × Request)) → List (List Reply) → S → S → Type 0
AnswersRounds v [] [] old new = new ≡ old
AnswersRounds {S} v (requests ∷ rounds) (replies ∷ told) old new =
    (now : S) × AnswersRound v requests replies old now × AnswersRounds v rounds told now new
AnswersRounds v rounds told old new = ⊥

-- for each round, the positions whose reply is `Refused`
abbrev pub refused_in : List (List Reply) → List (List ℕ)
refused_in told = map (refused_from 0) told

-- If two stores serve the same voters, get the same rounds, and refuse the same positions, they give the same replies.
abbrev pub AllReplyAlike : {S T : Type 0} → Service S → Service T → Type 0
AllReplyAlike {S} {T} v w =
    (voters : World) (rounds : List (List (ℕ × Request))) (told others : List (List Reply)) (old new : S) (first last : T)
    → IsOpenAt v old voters → AnswersRounds v rounds told old new
    → IsOpenAt w first voters → AnswersRounds w rounds others first last
    → refused_in told ≡ refused_in others → told ≡ others
