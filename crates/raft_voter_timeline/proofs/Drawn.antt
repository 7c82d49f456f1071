-- The picture of a run, from that of its rounds.
use Rattle.std.proofs.Common.{◌≡◌, ℕ, List, length, map, Result, Ok, Err, IfOk, String, string_bytes, subst}
use Rattle.std.specs.declared.alloc.Global.{Global}
use Rattle.raft_voter.specs.Service.{Service}
use Rattle.raft_voter_world.specs.declared.event.Event.{Event}
use Rattle.raft_voter_world.specs.declared.report.WorldReport.{WorldReport}
use Rattle.raft_voter_world.specs.Run.{IsRun}
use Rattle.raft_voter_world.specs.Stores.{Disk, Upkeep}
use Rattle.raft_voter_timeline.specs.declared.line.Mark.{Mark}
use Rattle.raft_voter_timeline.specs.Drawing.{DrawsRounds, DrawsRun, IsHeading}
use Rattle.raft_voter_timeline.specs.Marks.{event_mark}

pub run_drawn :
    {S F E : Type 0} (v : Service S) (u : Upkeep S) (d : Disk S F) (files : F) (events : List Event) (report : WorldReport F) (marks : List Mark) (cuts : List ℕ) (r : Result (String Global) E)
    → IsRun v u d files events report → marks ≡ map event_mark events → cuts ≡ report.cuts
    → (count : ℕ) → count ≡ length events → (judged : List ℕ) → judged ≡ report.cuts → (heading words : List ℕ) → words ≡ heading
    → IsHeading count report.transcript.rounds judged heading
    → IfOk r (λ picture. DrawsRounds words marks report.transcript.rounds cuts (string_bytes picture)) → IfOk r (λ picture. DrawsRun v u d files events (string_bytes picture))
run_drawn v u d files events report marks cuts (Err e) ran titled cut count counted judged so heading words same headed shown = tt
run_drawn v u d files events report marks cuts (Ok picture) ran titled cut count counted judged so heading words same headed shown =
    let with_heading = subst (λ (h : List ℕ). DrawsRounds h marks report.transcript.rounds cuts (string_bytes picture)) same shown in
    let with_cuts = subst (λ (cs : List ℕ). DrawsRounds heading marks report.transcript.rounds cs (string_bytes picture)) cut with_heading in
    record {
      report = report;
      ran = ran;
      heading = heading;
      headed = subst (λ (cs : List ℕ). IsHeading (length events) report.transcript.rounds cs heading) so
          (subst (λ (n : ℕ). IsHeading n report.transcript.rounds judged heading) counted headed);
      drawn = subst (λ (ms : List Mark). DrawsRounds heading ms report.transcript.rounds report.cuts (string_bytes picture)) titled with_cuts;
    }
