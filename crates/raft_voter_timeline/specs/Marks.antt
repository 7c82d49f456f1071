-- The marks of a picture's lines. A mark is the kind of a line: an event, or the result of a round or a request.
use Rattle.std.specs.Prelude.{ℕ, ◌+◌, ◌==◌, Bool, true, false, List, [], ◌∷◌, ◌++◌, codes, drop, if◌then◌else◌, length, map, min, take}
use Rattle.std.specs.List.{list_any}
use Rattle.raft_voter_messages.specs.declared.request.Request.{Request}
use Rattle.raft_voter_messages.specs.declared.round.Outcome.{Outcome}
use Rattle.raft_voter_messages.specs.declared.round.Outcome.TheVariants as outcomes
use Rattle.raft_voter_messages.specs.declared.round.Round.{Round}
use Rattle.raft_voter_world.specs.declared.event.Event.{Event}
use Rattle.raft_voter_world.specs.declared.event.Event.TheVariants as events
use Rattle.raft_voter_timeline.specs.declared.line.Line.{Line}
use Rattle.raft_voter_timeline.specs.declared.line.Mark.{Mark}
use Rattle.raft_voter_timeline.specs.declared.line.Mark.TheVariants as marks

-- the name of this mark in the picture
abbrev pub mark_name : Mark → List ℕ
mark_name marks.Event = codes "event"
mark_name marks.Armed = codes "armed"
mark_name marks.Crash = codes "crash"
mark_name marks.Round = codes "round"
mark_name marks.Answered = codes "answered"
mark_name marks.CutOff = codes "cut-off"
mark_name marks.Taken = codes "taken"
mark_name marks.Refused = codes "refused"
mark_name marks.Lost = codes "lost"
mark_name marks.Durable = codes "durable"
mark_name marks.Unchanged = codes "unchanged"
mark_name marks.Cut = codes "cut"

-- the marks of these lines, from top to bottom
abbrev pub marks_of : List Line → List Mark
marks_of lines = map (λ line. line.mark) lines

-- the mark is that of a round's event, before its result is known
abbrev pub is_round : Mark → Bool
is_round marks.Round = true
is_round mark = false

-- the mark of this event
abbrev pub event_mark : Event → Mark
event_mark (events.Round requests) = marks.Round
event_mark (events.Crash left) = marks.Crash
event_mark (events.CrashAt calls left) = marks.Armed
event_mark (events.Refuse calls) = marks.Armed
event_mark event = marks.Event

-- the mark of the request at position `place`: `Refused` if that position was refused, otherwise `mark`
abbrev pub fate : List ℕ → Mark → ℕ → Mark
fate refused mark place = if list_any (λ other. other == place) refused then marks.Refused else mark

-- the marks of these requests (`fate`), whose positions in the round count from `place`
abbrev pub fates : List ℕ → Mark → ℕ → List (ℕ × Request) → List Mark
fates refused mark place [] = []
fates refused mark place (q ∷ qs) = fate refused mark place ∷ fates refused mark (place + 1) qs

-- the mark of a round's first line, which says whether the round got replies or was cut off
abbrev pub head_mark : Outcome → Mark
head_mark (outcomes.Answered replies) = marks.Answered
head_mark outcomes.Cut = marks.CutOff

-- The mark of the line after the requests that were taken. If the round got replies, the mark says whether the round
-- wrote, and so synced before it replied. If the round was cut off, the line shows its cut.
abbrev pub end_mark : Outcome → Bool → Mark
end_mark (outcomes.Answered replies) true = marks.Durable
end_mark (outcomes.Answered replies) false = marks.Unchanged
end_mark outcomes.Cut wrote = marks.Cut

-- The marks of a round's lines: of the first line, then of the requests before position `up_to`, which were taken
-- unless refused, then of the line after these, and then of the other requests, which were lost unless refused. `wrote`
-- says whether the round wrote.
abbrev pub round_marks : Round → Bool → ℕ → List Mark
round_marks round wrote up_to =
    head_mark round.outcome ∷ fates round.refused marks.Taken 0 (take up_to round.requests)
    ++ end_mark round.outcome wrote ∷ fates round.refused marks.Lost up_to (drop up_to round.requests)

-- The requests of a round before this position were taken. It is `count`, the number of requests, if the round got
-- replies. Otherwise it is the first of `cuts`, at most `count`, or 0 if there are no cuts.
abbrev pub place_of : Outcome → List ℕ → ℕ → ℕ
place_of (outcomes.Answered replies) cuts count = count
place_of outcomes.Cut [] count = 0
place_of outcomes.Cut (cut ∷ cuts) count = min count cut

-- the requests of this round before this position were taken; `cuts` are those of this round and later ones
abbrev pub taken_up_to : Round → List ℕ → ℕ
taken_up_to round cuts = place_of round.outcome cuts (length round.requests)

-- the cuts for later rounds: without the first one, if this round was cut off
abbrev pub behind_outcome : Outcome → List ℕ → List ℕ
behind_outcome (outcomes.Answered replies) cuts = cuts
behind_outcome outcomes.Cut [] = []
behind_outcome outcomes.Cut (cut ∷ cuts) = cuts

-- the cuts for later rounds, after this one
abbrev pub cuts_behind : Round → List ℕ → List ℕ
cuts_behind round cuts = behind_outcome round.outcome cuts

-- The marks of a picture, from top to bottom. The first argument has one for each event. Each round's mark there is
-- replaced by the marks of the next of `rounds`. The next of `writes` says whether that round wrote. If the round was
-- cut off, the next of `cuts` is its cut.
abbrev pub all_marks : List Mark → List Round → List Bool → List ℕ → List Mark
all_marks [] rounds writes cuts = []
all_marks (marks.Round ∷ ms) (round ∷ rounds) (wrote ∷ writes) cuts =
    round_marks round wrote (taken_up_to round cuts) ++ all_marks ms rounds writes (cuts_behind round cuts)
all_marks (mark ∷ ms) rounds writes cuts = mark ∷ all_marks ms rounds writes cuts
