-- The text of a transcript: its rounds with their replies, the cuts, and the judge's verdict. The verdict says whether
-- voters that never crash give these replies with these cuts.
use Rattle.std.specs.Prelude.{◌≡◌, ℕ, ◌+◌, Bool, true, false, List, [], ◌∷◌, ◌++◌, codes, string_bytes, String}
use Rattle.std.specs.declared.alloc.Global.{Global}
use Rattle.std.specs.Fmt.{decimal}
use Rattle.std.specs.List.{flat_map}
use Rattle.raft_voter_messages.specs.declared.reply.Reply.{Reply}
use Rattle.raft_voter_messages.specs.declared.request.Request.{Request}
use Rattle.raft_voter_messages.specs.declared.round.Outcome.{Outcome}
use Rattle.raft_voter_messages.specs.declared.round.Outcome.TheVariants.{Answered, Cut}
use Rattle.raft_voter_messages.specs.declared.round.Round.{Round}
use Rattle.raft_voter_messages.specs.ReplyText.{reply_text}

-- the bytes `more` were appended to the string
abbrev pub Gains : String Global → String Global → List ℕ → Type 0
Gains old new more = string_bytes new ≡ string_bytes old ++ more

-- a space, then a number
unfoldable pub spaced : ℕ → List ℕ
spaced n = codes " " ++ decimal n

-- numbers, each after a space
abbrev pub spaced_all : List ℕ → List ℕ
spaced_all ns = flat_map spaced ns

-- the line of one reply: its position in the round, the group, and the reply
unfoldable pub place_text : ℕ → ℕ → Reply → List ℕ
place_text place group reply = decimal place ++ spaced group ++ codes " " ++ reply_text reply ++ codes "\n"

-- one line for each request that has a reply; the positions in the round count from `place`
abbrev pub places_text : ℕ → List (ℕ × Request) → List Reply → List ℕ
places_text place [] replies = []
places_text place (q ∷ qs) [] = []
places_text place (q ∷ qs) (reply ∷ replies) =
    place_text place q.0 reply ++ places_text (place + 1) qs replies

-- the word `refused` and these positions; nothing if there are none
abbrev pub refused_text : List ℕ → List ℕ
refused_text [] = []
refused_text (place ∷ places) = codes " refused" ++ spaced_all (place ∷ places)

-- The outcome of a round. With replies it is `answered` and a line for each reply. Without, it is `cut` and the
-- refused positions.
abbrev pub outcome_text : Round → Outcome → List ℕ
outcome_text round (Answered replies) = codes " answered\n" ++ places_text 0 round.requests replies
outcome_text round Cut = codes " cut" ++ refused_text round.refused ++ codes "\n"

-- the text of the round with this number, counted from 0
unfoldable pub round_text : ℕ → Round → List ℕ
round_text number round = codes "round" ++ spaced number ++ outcome_text round round.outcome

-- the text of these rounds, numbered from `number` on
abbrev pub rounds_text : ℕ → List Round → List ℕ
rounds_text number [] = []
rounds_text number (round ∷ rounds) = round_text number round ++ rounds_text (number + 1) rounds

-- the line of the verdict: `yes` if it is `true`, otherwise `no`
abbrev pub verdict_text : Bool → List ℕ
verdict_text true = codes "verdict yes\n"
verdict_text false = codes "verdict no\n"

-- the text of a transcript: these rounds, numbered from 0, the line of the cuts, and the verdict
unfoldable pub transcript_text : List Round → List ℕ → Bool → List ℕ
transcript_text rounds cuts verdict =
    rounds_text 0 rounds ++ codes "cuts" ++ spaced_all cuts ++ codes "\n" ++ verdict_text verdict

-- the text of a transcript was appended to the string
abbrev pub GainsTranscript : String Global → String Global → List Round → List ℕ → Bool → Type 0
GainsTranscript old new rounds cuts verdict = Gains old new (transcript_text rounds cuts verdict)

-- what is written if the line with this number is unreadable
unfoldable pub unreadable_text : ℕ → List ℕ
unreadable_text number = codes "line" ++ spaced number ++ codes ": unreadable\n"
