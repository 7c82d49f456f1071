-- Two stores that are asked the same rounds tell the same, if both refuse nothing but requests out of range.
use Rattle.std.proofs.Common.{◌≡◌, ◌∙◌, ℕ, List, [], ◌∷◌, map, refl, sym, subst}
use Rattle.std.proofs.Math.Path.{fun_ext}
use Rattle.raft_voter_messages.specs.declared.reply.Reply.{Reply}
use Rattle.raft_voter_messages.specs.declared.request.Request.{Request}
use Rattle.raft_voter.specs.Rounds.{World}
use Rattle.raft_voter.specs.Service.{IsOpenAt, Service, out_of_range, refused_from}
use Rattle.raft_voter_world.specs.Alike.{AnswersRounds, refused_in}
use Rattle.raft_voter_world.proofs.AlikeLemmas.{all_alike}
use Rattle.raft_voter_world.specs.LawsAlike.{AreServed, RefusesOutOfRange, StoresAnswerAlike, StoresAnswerAsModels}
use Rattle.raft_voter_world.proofs.Parted.{rounds_are_independent}

pub stores_answer_alike : {S T : Type 0} (v : Service S) (w : Service T) → StoresAnswerAlike v w
stores_answer_alike v w W rounds told heard old new first last at answers none here others fewer =
    let (X, is, mine) = rounds_are_independent v W rounds told old new at answers none in
    let (Y, also, theirs) = rounds_are_independent w W rounds heard first last here others fewer in
    let alike : Y ≡ X = fun_ext (λ g. theirs.voters g ∙ sym (mine.voters g)) in
    record {
      same = all_alike v w W rounds told heard old new first last at answers here others (none ∙ sym fewer);
      voters = X;
      independent = mine;
      first = is;
      second = subst (λ (V : World). IsOpenAt w last V) alike also;
    }

-- Models.

-- calls that answered rounds
served_answers : {S : Type 0} (v : Service S) (rounds : List (List (ℕ × Request))) (told : List (List Reply)) (old new : S)
    → AreServed v rounds told old new → AnswersRounds v rounds told old new
served_answers v [] [] old new served = served
served_answers v [] (replies ∷ told) old new served = absurd served
served_answers v (requests ∷ rounds) [] old new served = absurd served
served_answers v (requests ∷ rounds) (replies ∷ told) old new served =
    (served.0, served.1.answers, served_answers v rounds told served.0 new served.2)

-- of a model refused just the requests out of range
served_refused : {S : Type 0} (v : Service S) → RefusesOutOfRange v → (rounds : List (List (ℕ × Request))) (told : List (List Reply)) (old new : S)
    → AreServed v rounds told old new → refused_in told ≡ map (out_of_range 0) rounds
served_refused v only [] [] old new served = refl
served_refused v only [] (replies ∷ told) old new served = absurd served
served_refused v only (requests ∷ rounds) [] old new served = absurd served
served_refused v only (requests ∷ rounds) (replies ∷ told) old new served =
    let here = only old served.0 requests (refused_from 0 replies) served.1.alive.1 served.1.may_refuse in
    let rest = served_refused v only rounds told served.0 new served.2 in
    rw (here, rest) refl

pub stores_answer_as_models : {S T : Type 0} (v : Service S) (w : Service T) → StoresAnswerAsModels v w
stores_answer_as_models v w only W rounds told heard old new first last at served here others fewer =
    stores_answer_alike v w W rounds told heard old new first last at (served_answers v rounds told old new served)
    (served_refused v only rounds told old new served) here (served_answers w rounds heard first last others) fewer
