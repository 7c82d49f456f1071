-- What is printed for a session.
use Rattle.std.specs.Prelude.{◌≡◌, ◌↔◌, ℕ, Bool, true, IsTrue, List, [], ◌∷◌, ◌++◌, codes}
use Rattle.std.specs.List.{flat_map}
use Rattle.raft_log_machine_laws.specs.Fresh.{nothing_stands}
use Rattle.raft_log_engine.specs.raft_log_fs_memory.specs.Memory.{disk_of}
use Rattle.raft_log_engine.specs.raft_log_file_settings.specs.declared.config.Config.{Config}
use Rattle.raft_log_fs_state.specs.declared.remainder.Remainder.{Remainder}
use Rattle.raft_log_record_batches.specs.Batch.{Batch}
use Rattle.raft_log_world.specs.declared.event.Answer.{Answer}
use Rattle.raft_log_world.specs.declared.event.Event.{Event}
use Rattle.raft_log_world.specs.declared.report.LogReport.{LogReport}
use Rattle.raft_log_world.specs.declared.storage.Storage.TheVariants.{Closed}
use Rattle.raft_log_world.specs.Explained.{NoneCollides}
use Rattle.raft_log_world.specs.Logs.{LogOf}
use Rattle.raft_log_world.specs.Model.ModelLog.{resting}
use Rattle.raft_log_world.specs.Run.{IsLogRun}
use Rattle.raft_log_judge.specs.declared.change.Change.{Change}
use Rattle.raft_log_judge.specs.Judging.{IsExplained}
use Rattle.raft_log_session.specs.Answers.{answer_line, verdict_line}
use Rattle.raft_log_world_engine.specs.declared.files.ClosedLog.{ClosedLog}
use Rattle.raft_log_world_engine.specs.declared.files.OpenLog.{OpenLog}
use Rattle.raft_log_world_engine.specs.Instance.{IsFilesLog}
use Rattle.raftlog.specs.Same.{SameEvents}

-- the text of a transcript: a line for each answer, and one for the verdict
abbrev pub transcript_text : List Answer → Bool → List ℕ
transcript_text answers verdict = flat_map answer_line answers ++ verdict_line verdict

-- `text` is the transcript of a run of exactly these events, from an empty log with these settings. `report` is the
-- run's report:
-- - `judged`: the verdict is yes exactly if the model log, empty at first, may give the report's answers to these
--   events.
-- - `agreed`: the verdict is yes if no event met a CRC collision.
pub record IsTranscript (l : LogOf OpenLog ClosedLog Batch Remainder) (config : Config)
    (events : List (Event (List Change) Remainder)) (text : List ℕ) (verdict : Bool) : Type 0 where
  pub files : ClosedLog
  pub settings : files.config ≡ config
  pub empty : IsFilesLog config (disk_of files.files) (resting nothing_stands)
  pub played : List (Event Batch Remainder)
  pub same : SameEvents events played
  pub report : LogReport OpenLog ClosedLog
  pub ran : IsLogRun l files played report
  pub judged : IsTrue verdict ↔ IsExplained events report.answers.items
  pub written : text ≡ transcript_text report.answers.items verdict
  pub agreed : NoneCollides l (Closed files) ran.moments → verdict ≡ true

-- the text is the transcript of some session's run
abbrev pub IsSomeTranscript : LogOf OpenLog ClosedLog Batch Remainder → List ℕ → Bool → Type 0
IsSomeTranscript l text verdict =
    (config : Config) × (events : List (Event (List Change) Remainder)) × IsTranscript l config events text verdict

-- the line between two transcripts
abbrev pub between : List ℕ
between = codes "---\n"

-- each of these texts is the transcript of some session's run, with the verdict yes
abbrev pub EachIsTranscript : LogOf OpenLog ClosedLog Batch Remainder → List (List ℕ) → Type 0
EachIsTranscript l [] = Unit {0}
EachIsTranscript l (text ∷ texts) = IsSomeTranscript l text true × EachIsTranscript l texts

-- The text has transcripts of some sessions' runs, one or more, with a line between two. Each verdict is yes.
abbrev pub AreTranscripts : LogOf OpenLog ClosedLog Batch Remainder → List ℕ → Type 0
AreTranscripts l text = (texts : List (List ℕ)) × (last : List ℕ)
    × EachIsTranscript l texts × IsSomeTranscript l last true
    × (text ≡ flat_map (λ t. t ++ between) texts ++ last)
