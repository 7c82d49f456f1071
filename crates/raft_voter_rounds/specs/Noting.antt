-- What a shared store does with rounds of several callers. It serves them together, as one round, and appends a record
-- of each to the journal. Each caller gets the answer to its own round. `v` says what the store promises. `old` is the
-- store before the rounds, and `new` the store after them.
use Rattle.std.specs.Prelude.{◌≡◌, ◌≤◌, ◌<◌, ℕ, ◌+◌, ◌-◌, ◌++◌, ◌==◌, ◌||◌, ◌&&◌, nat_le, nat_lt, Bool, true, if◌then◌else◌, List, [], ◌∷◌, length, map, take, drop, Result, Ok, Err}
use Rattle.std.specs.List.{AllZip}
use Rattle.raft_voter_messages.specs.declared.reply.Reply.{Reply}
use Rattle.raft_voter_messages.specs.declared.request.Request.{Request}
use Rattle.raft_voter_messages.specs.declared.round.Outcome.TheVariants.{Answered, Cut}
use Rattle.raft_voter_messages.specs.declared.round.Round.{Round}
use Rattle.raft_voter.specs.Service.{AnswersRound, CutsOff, FailsAs, IsAlive, Service, refused_from}
use Rattle.raft_voter.specs.declared.service.Cause.{Cause}
use Rattle.raft_voter.specs.declared.service.Cause.TheVariants.{TooLong}
use Rattle.raft_voter_rounds.specs.Handing.{HandsOut}
use Rattle.raft_voter_rounds.specs.declared.done.Told.{Told}
use Rattle.raft_voter_rounds.specs.declared.receipt.SharedFault.{SharedFault}
use Rattle.raft_voter_rounds.specs.declared.receipt.SharedFault.TheVariants as faults

-- Records. Rounds that are served together are given by two lists: `counts` has the number of requests of each round,
-- and `requests` the requests of all rounds, in order.

-- the record of a round with these replies; its refused positions are those whose reply is `Refused`, within the round
abbrev pub answered : List (ℕ × Request) → List Reply → Round
answered requests replies = record {
  requests = requests;
  refused = refused_from 0 (take (length requests) replies);
  outcome = Answered replies;
}

-- the record of a round that was cut off, with these refused positions
abbrev pub cut_off : List (ℕ × Request) → List ℕ → Round
cut_off requests refused = record { requests = requests; refused = refused; outcome = Cut }

-- the records of rounds that were served together: each has its own requests, and the replies to them
abbrev pub answered_each : List ℕ → List (ℕ × Request) → List Reply → List Round
answered_each [] requests replies = []
answered_each (n ∷ counts) requests replies =
    answered (take n requests) (take n replies) ∷ answered_each counts (drop n requests) (drop n replies)

-- Those of these positions that are in the round of `count` requests which begins at position `start`. The results
-- count from the round's first request.
abbrev pub places_within : ℕ → ℕ → List ℕ → List ℕ
places_within start count [] = []
places_within start count (p ∷ ps) =
    if nat_le start p && nat_lt p (start + count) then (p - start) ∷ places_within start count ps
    else places_within start count ps

-- The records of rounds that were cut off together: each has its own requests and refused positions. The arguments
-- count positions through all these rounds: `start` is the position of the first request here, and `refused` has the
-- refused positions.
abbrev pub cut_each : ℕ → List ℕ → List (ℕ × Request) → List ℕ → List Round
cut_each start [] requests refused = []
cut_each start (n ∷ counts) requests refused =
    cut_off (take n requests) (places_within start n refused) ∷ cut_each (start + n) counts (drop n requests) refused

-- Answers.

-- The answers to the callers of rounds that were served together. Each has the place of the caller's own record, and
-- the replies to its own requests. The first record is at `place`.
abbrev pub told_each : ℕ → List ℕ → List Reply → List (Result Told SharedFault)
told_each place [] replies = []
told_each place (n ∷ counts) replies =
    Ok (record { place = place; replies = take n replies }) ∷ told_each (place + 1) counts (drop n replies)

-- The answers to the callers of rounds that were cut off together for this cause. Each has the place of the caller's
-- own record. The first record is at `place`.
abbrev pub cut_told : ℕ → Cause → List ℕ → List (Result Told SharedFault)
cut_told place cause [] = []
cut_told place cause (n ∷ counts) = Err (faults.Cut place cause) ∷ cut_told (place + 1) cause counts

-- Steps.

-- The store `old` replied with `told` to the rounds, as one round, and is `new` afterwards. The callers get `replies`:
-- those in `told`, but `Refused` for Reads whose entries couldn't be copied. `AnswersRound` holds for `replies`. The
-- records were appended to the journal `rounds`, and each caller gets the answer to its own round.
pub record NotesAnswered {S : Type 0} (v : Service S) (counts : List ℕ) (requests : List (ℕ × Request))
    (old : S) (rounds : List Round) (new : S) (rounds' : List Round) (answers : List (Result Told SharedFault))
    : Type 0 where
  pub replies : List Reply
  pub noted : rounds' ≡ rounds ++ answered_each counts requests replies
  pub own : answers ≡ told_each (length rounds) counts replies
  pub replied : AnswersRound v requests replies old new
  pub told : List Reply
  pub handed : AllZip HandsOut (take (length requests) told) replies
  pub may_refuse : v.may_refuse old new requests (refused_from 0 told)
  pub short : length requests ≤ 4096
  pub alive : IsAlive (v.is_failed old) (v.is_failed new)

-- The store cut the rounds off, as one round, for this cause. Their records were appended to the journal `rounds`, and
-- each caller gets the answer to its own round.
pub record NotesCut {S : Type 0} (v : Service S) (cause : Cause) (counts : List ℕ) (requests : List (ℕ × Request))
    (old : S) (rounds : List Round) (new : S) (rounds' : List Round) (answers : List (Result Told SharedFault))
    : Type 0 where
  pub refused : List ℕ
  pub noted : rounds' ≡ rounds ++ cut_each 0 counts requests refused
  pub own : answers ≡ cut_told (length rounds) cause counts
  pub cuts : CutsOff v cause refused requests old new
  pub fails : FailsAs cause (length requests) (v.is_failed old) (v.is_failed new)

-- Why none of these rounds has replies. `Cut`: they were cut off, and the first record is at `place`. `Memory`: memory
-- for their records ran out before they were served. Then nothing changed, and each caller gets `Memory`.
abbrev pub GivesNoReplies : {S : Type 0} → Service S → SharedFault → List ℕ → List (ℕ × Request)
    → S → List Round → S → List Round → List (Result Told SharedFault) → Type 0
GivesNoReplies v (faults.Cut place cause) counts requests old rounds new rounds' answers =
    (place ≡ length rounds) × NotesCut v cause counts requests old rounds new rounds' answers
GivesNoReplies v faults.Memory counts requests old rounds new rounds' answers =
    (new ≡ old) × (rounds' ≡ rounds) × (answers ≡ map (λ n. Err faults.Memory) counts)

-- One caller.

-- how many records a call with this fault appends to the journal
abbrev pub records_of : SharedFault → ℕ
records_of faults.Memory = 0
records_of fault = 1

-- how many records a round with this answer has in the journal
abbrev pub records_in : Result Told SharedFault → ℕ
records_in (Ok told) = 1
records_in (Err fault) = records_of fault

-- A round of `count` requests may get this fault, by its length. `TooLong` needs a round that is too long, and `Memory`
-- is always possible. Any other fault needs a round that isn't too long.
abbrev pub ToldOfLength : SharedFault → ℕ → Type 0
ToldOfLength (faults.Cut place TooLong) count = 4096 < count
ToldOfLength faults.Memory count = Unit {0}
ToldOfLength fault count = count ≤ 4096

-- A round of `count` requests may be cut off for this cause, by its length. `TooLong` needs a round that is too long,
-- and any other cause one that isn't.
abbrev pub may_cut : Cause → ℕ → Bool
may_cut TooLong count = nat_lt 4096 count
may_cut cause count = nat_le count 4096

-- a round of `count` requests may get this answer, by its length
abbrev pub may_tell : Result Told SharedFault → ℕ → Bool
may_tell (Ok told) count = nat_le count 4096
may_tell (Err (faults.Cut place cause)) count = may_cut cause count
may_tell (Err faults.Memory) count = true

-- A round of `count` requests may be served together with `rounds` other rounds, which have `requests` requests in all.
-- It may if there are no others, or if all together have at most 4,096 requests. So a round that is too long goes to
-- the store alone.
abbrev pub may_join : ℕ → ℕ → ℕ → Bool
may_join rounds requests count = (rounds == 0) || nat_le (requests + count) 4096
