-- The picture of a run. Its heading has the numbers of events and rounds, and the verdict. An event has one line. Only
-- a round has more: one for its outcome, one for each request, and one after the requests that were taken.
use Rattle.std.specs.Prelude.{◌≡◌, ◌↔◌, ℕ, ◌++◌, Bool, true, false, IsTrue, List, codes, length, map}
use Rattle.std.specs.Fmt.{decimal}
use Rattle.raft_voter_messages.specs.declared.round.Round.{Round}
use Rattle.raft_voter.specs.Rounds.{Explains, fresh_world}
use Rattle.raft_voter.specs.Service.{Service}
use Rattle.raft_voter_world.specs.declared.event.Event.{Event}
use Rattle.raft_voter_world.specs.declared.report.WorldReport.{WorldReport}
use Rattle.raft_voter_world.specs.Run.{IsRun}
use Rattle.raft_voter_world.specs.Stores.{Disk, Upkeep}
use Rattle.raft_voter_timeline.specs.declared.line.Line.{Line}
use Rattle.raft_voter_timeline.specs.declared.line.Mark.{Mark}
use Rattle.raft_voter_timeline.specs.Marks.{all_marks, event_mark, marks_of}
use Rattle.raft_voter_timeline.specs.Picture.{ShowsLines}
use Rattle.raft_voter_timeline.specs.Writes.{AreWrites}

-- the word for a verdict
abbrev pub verdict_word : Bool → List ℕ
verdict_word true = codes "yes"
verdict_word false = codes "no"

-- the heading for these numbers of events, of rounds and of rounds that were cut off, and for this verdict's word
abbrev pub heading_with : ℕ → ℕ → ℕ → List ℕ → List ℕ
heading_with events rounds cut_off word =
    codes "events " ++ decimal events ++ codes ", rounds " ++ decimal rounds ++ codes ", cut off " ++ decimal cut_off
    ++ codes ", verdict " ++ word

-- `heading` has the numbers of events and rounds, and a verdict. The verdict is yes exactly if voters that never fail
-- give the replies in these rounds, with these cuts.
pub record IsHeading (events : ℕ) (rounds : List Round) (cuts heading : List ℕ) : Type 0 where
  pub verdict : Bool
  pub judged : IsTrue verdict ↔ Explains rounds cuts
  pub written : heading ≡ heading_with events (length rounds) (length cuts) (verdict_word verdict)

-- The picture has this heading. Its lines have the marks `events`. In place of each round's mark, they have all marks
-- of the next of `rounds`, with its cut. `writes` says which rounds changed a voter if all voters were fresh before
-- the first round.
pub record DrawsRounds (heading : List ℕ) (events : List Mark) (rounds : List Round) (cuts picture : List ℕ)
    : Type 0 where
  pub lines : List Line
  pub writes : List Bool
  pub wrote : AreWrites fresh_world rounds cuts writes
  pub marked : marks_of lines ≡ all_marks events rounds writes cuts
  pub shown : ShowsLines heading lines picture

-- The picture shows a run of these events that began with these files, with the rounds and cuts of its report, and with
-- the verdict on them.
pub record DrawsRun {S F : Type 0} (v : Service S) (u : Upkeep S) (d : Disk S F) (files : F) (events : List Event)
    (picture : List ℕ) : Type 0 where
  pub report : WorldReport F
  pub ran : IsRun v u d files events report
  pub heading : List ℕ
  pub headed : IsHeading (length events) report.transcript.rounds report.cuts heading
  pub drawn : DrawsRounds heading (map event_mark events) report.transcript.rounds report.cuts picture
