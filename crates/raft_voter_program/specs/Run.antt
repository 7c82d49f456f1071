-- What the program writes, and its exit status. `old` and `new` are the bytes that the writer has before and after,
-- `None` if they aren't known. What the store promises is said by `v` of its rounds, by `u` of its purges and armed
-- faults, by `d` of its files, and by `s` of its settings.
use Rattle.std.specs.Prelude.{◌≡◌, ◌↔◌, ◌⊎◌, ℕ, Bool, true, false, IsTrue, if◌then◌else◌, List, [], map, Option, Result, Ok, Err, codes}
use Rattle.std.specs.Io.KnownBytes.{Appends, Keeps}
use Rattle.std.specs.declared.io.ErrorKind.{ErrorKind}
use Rattle.std.specs.declared.io.ErrorKind.TheVariants.{OutOfMemory}
use Rattle.raft_voter_messages.specs.declared.round.Round.{Round}
use Rattle.raft_voter.specs.Rounds.{Explains, fresh_world}
use Rattle.raft_voter.specs.Service.{Service, uncut}
use Rattle.raft_voter_world.specs.declared.event.Event.{Event}
use Rattle.raft_voter_world.specs.declared.report.WorldReport.{WorldReport}
use Rattle.raft_voter_world.specs.Stores.{Disk, Upkeep}
use Rattle.raft_voter_world.specs.Cuts.{ServeSome}
use Rattle.raft_voter_world.specs.Run.{IsRun, moments_of}
use Rattle.raft_voter_session.specs.Told.{SessionContent, told}
use Rattle.raft_voter_session.specs.Session.{session_of}
use Rattle.raft_voter_session.specs.Text.{transcript_text, unreadable_text}
use Rattle.raft_voter_program.specs.StoreSetup.{Setup}
use Rattle.raft_voter_program.specs.Writing.{StopsWithin}

-- `text` is a transcript with its cuts and a verdict. The verdict is yes exactly if voters that never fail give the
-- replies in these rounds, with these cuts. The status is then 0, else 1.
pub record IsJudged (rounds : List Round) (cuts text : List ℕ) (status : ℕ) : Type 0 where
  pub verdict : Bool
  pub judged : IsTrue verdict ↔ Explains rounds cuts
  pub written : text ≡ transcript_text rounds cuts verdict
  pub told : status ≡ (if verdict then 0 else 1)

-- the report is written as a transcript with the verdict yes, and the status is 0
abbrev pub SaysYes : {F : Type 0} → WorldReport F → List ℕ → ℕ → Type 0
SaysYes report text status = (text ≡ transcript_text report.transcript.rounds report.cuts true) × (status ≡ 0)

-- A run of exactly the events of the session, from files that its settings make. In these files, all voters are fresh.
-- The run's report is written as a transcript with a verdict. The verdict is yes if no open lost voters, and each store
-- whose voters were read served the voters of some world.
pub record WritesRun {S F : Type 0} (v : Service S) (u : Upkeep S) (d : Disk S F) (s : Setup F) (session : SessionContent)
    (text : List ℕ) (status : ℕ) : Type 0 where
  pub files : F
  pub made : s.makes session.settings files
  pub empty : d.leaves files (uncut fresh_world)
  pub events : List Event
  pub same : map told events ≡ session.events
  pub report : WorldReport F
  pub ran : IsRun v u d files events report
  pub judged : IsJudged report.transcript.rounds report.cuts text status
  pub agreed : ServeSome v (moments_of ran.turns) → report.lost ≡ [] → SaysYes report text status

-- the text for settings that were rejected
abbrev pub settings_refused : List ℕ
settings_refused = codes "settings refused\n"

-- What may be written for a session, and the status: that its settings were rejected, with 1; or the transcript of a
-- run.
abbrev pub WritesSession :
    {S F : Type 0} → Service S → Upkeep S → Disk S F → Setup F → SessionContent → List ℕ → ℕ → Type 0
WritesSession v u d s session text status =
    (s.refuses session.settings × (text ≡ settings_refused) × (status ≡ 1))
    ⊎ WritesRun v u d s session text status

-- What may be written for lines, and the status. If the lines are a session, `Writes` says what may be written for the
-- session. If line `line` is the first unreadable one, the text says so, with status 2.
abbrev pub TellsLines : (SessionContent → List ℕ → ℕ → Type 0) → Result SessionContent ℕ → List ℕ → ℕ → Type 0
TellsLines Writes (Ok session) text status = Writes session text status
TellsLines Writes (Err line) text status = (text ≡ unreadable_text line) × (status ≡ 2)

-- what may be written for the bytes `input`, and the status; `Writes` gives this for a session
abbrev pub MayWrite : (SessionContent → List ℕ → ℕ → Type 0) → List ℕ → List ℕ → ℕ → Type 0
MayWrite Writes input text status = TellsLines Writes (session_of input) text status

-- the text of a program that rejects its arguments
abbrev pub refused_text : List ℕ
refused_text = codes "arguments refused\n"

-- What the program may write, and the status. If it was given arguments (`true`), it rejects them with status 2,
-- whatever the input is. Otherwise it writes what its session may write.
abbrev pub ProgramMayWrite : (SessionContent → List ℕ → ℕ → Type 0) → Bool → List ℕ → List ℕ → ℕ → Type 0
ProgramMayWrite Writes true input text status = (text ≡ refused_text) × (status ≡ 2)
ProgramMayWrite Writes false input text status = MayWrite Writes input text status

-- The program ended early. The writer got nothing, or a prefix of a text that the program may write, but not all of it.
abbrev pub EndsEarly :
    (SessionContent → List ℕ → ℕ → Type 0)
    → Bool → List ℕ → Option (List ℕ) → Option (List ℕ) → Type 0
EndsEarly Writes given input old new =
    Keeps old new
    ⊎ ((text : List ℕ) × (status : ℕ) × ProgramMayWrite Writes given input text status × StopsWithin old new text)

-- A session wasn't written in full:
-- - either the writer got nothing, and the error is that memory ran out
-- - or the writer got a prefix of a text that may be written for the session, but not all of it; then any error is
--   possible
abbrev pub IsUntoldFor :
    (SessionContent → List ℕ → ℕ → Type 0) → List ℕ → Option (List ℕ) → Option (List ℕ) → ErrorKind → Type 0
IsUntoldFor Writes input old new kind =
    (Keeps old new × (kind ≡ OutOfMemory))
    ⊎ ((text : List ℕ) × (status : ℕ) × MayWrite Writes input text status × StopsWithin old new text)

-- the program ended, and the writer got all of a text that the program may write
abbrev pub Ends :
    (SessionContent → List ℕ → ℕ → Type 0)
    → Bool → List ℕ → Option (List ℕ) → Option (List ℕ) → ℕ → Type 0
Ends Writes given input old new status =
    (text : List ℕ) × ProgramMayWrite Writes given input text status × Appends old new text
