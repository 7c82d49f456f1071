-- What is written of a run.
use Rattle.std.proofs.Common.{◌≡◌, ◌∙◌, Bool, true, ℕ, List, ap, refl, Some, string_bytes, if◌then◌else◌}
use Rattle.std.specs.Option.{option_map}
use Rattle.raft_voter.specs.Rounds.{Explains, fresh_world}
use Rattle.raft_voter.specs.Service.{Service, uncut}
use Rattle.raft_voter_world.specs.declared.report.WorldReport.{WorldReport}
use Rattle.raft_voter_world.specs.Stores.{Disk, Upkeep}
use Rattle.raft_voter_world.specs.Run.{IsRun}
use Rattle.raft_voter_session.specs.declared.session.Session.{Session}
use Rattle.raft_voter_session.specs.Told.{said}
use Rattle.raft_voter_session.specs.Text.{transcript_text}
use Rattle.raft_voter_program.specs.StoreSetup.{Setup}
use Rattle.raft_voter_program.specs.Run.{IsJudged, SaysYes}
use Rattle.raft_voter_program.specs.Leaving.{WritesLeaving}

-- the verdict on rounds that are explained is yes
is_yes : {F : Type 0} (report : WorldReport F) (text : List ℕ) (status : ℕ) → IsJudged report.transcript.rounds report.cuts text status
    → Explains report.transcript.rounds report.cuts → SaysYes report text status
is_yes report text status judged explained =
    let yes : judged.verdict ≡ true = judged.judged.1 explained in
    (judged.written ∙ ap (transcript_text report.transcript.rounds report.cuts) yes, judged.told ∙ ap (λ (b : Bool). if b then 0 else 1) yes)

pub run_written : {S F : Type 0} (v : Service S) (u : Upkeep S) (d : Disk S F) (s : Setup F) (session : Session) (files : F) (report : WorldReport F) (text : List ℕ) (status : ℕ)
    → s.makes (option_map string_bytes session.settings) files → d.leaves files (uncut fresh_world) → IsRun v u d files session.events.items report
    → IsJudged report.transcript.rounds report.cuts text status
    → WritesLeaving v u d s (Some report.files) (said session) text status
run_written v u d s session files report text status made empty ran judged = (
  record {
    files = files;
    made = made;
    empty = empty;
    events = session.events.items;
    same = refl;
    report = report;
    ran = ran;
    judged = judged;
    agreed = λ served none. is_yes report text status judged (ran.explained served none);
  },
  refl,
)
