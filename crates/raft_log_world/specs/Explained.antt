-- What it means that the model explains the moments of a run, or a list of answers to events. Also the laws that it
-- explains all runs.
-- A moment is an event, its answer, and the engine or the files after it.
use Rattle.std.specs.Prelude.{◌≡◌, List, [], ◌∷◌}
use Rattle.raft_log_world.specs.declared.event.Answer.{Answer}
use Rattle.raft_log_world.specs.declared.event.Event.{Event}
use Rattle.raft_log_world.specs.declared.report.LogReport.{LogReport}
use Rattle.raft_log_world.specs.declared.storage.Storage.{Storage}
use Rattle.raft_log_world.specs.declared.storage.Storage.TheVariants.{Closed}
use Rattle.raft_log_world.specs.Model.{Answers, BatchRecord, ModelLog}
use Rattle.raft_log_world.specs.Logs.{Asks, LogOf, Stands}
use Rattle.raft_log_world.specs.Run.{IsLogRun, Moment}

-- `at` represents `log`. From `log` on, the model gives each moment's answer in turn. After each moment, the engine or
-- the files represent the log that the model becomes. The claim ends before the first moment that doesn't meet `Asks`:
-- one with a CRC collision, or a copy whose target isn't clear.
abbrev pub Goes :
    {S F B C : Type 0}
    → (l : LogOf S F B C) (at : Storage S F) (log : ModelLog) → Stands l at log → List (Moment S F B C) → Type 0
Goes l at log known [] = Unit {0}
Goes l at log known (m ∷ ms) =
    Asks l at log known.1 m.event m.now
    → (next : ModelLog) × Answers l.says log m.event m.answer next
    × ((still : Stands l m.now next) × Goes l m.now next still ms)

-- Let the files with which a run begins represent a model log. From that log on, the model explains all moments of the
-- run, as `Goes` says.
abbrev pub AllGoOn : {S F B C : Type 0} → LogOf S F B C → Type 0
AllGoOn {S} {F} {B} {C} l =
    (files : F) (events : List (Event B C)) (report : LogReport S F) (run : IsLogRun l files events report)
    (log : ModelLog) (known : Stands l (Closed files) log) → Goes l (Closed files) log known run.moments

-- from the log `log` on, the model gives these answers to these events in turn, and becomes `last`
abbrev pub Explains :
    {B C : Type 0} → (B → BatchRecord) → ModelLog → List (Event B C) → List Answer → ModelLog → Type 0
Explains says log [] [] last = last ≡ log
Explains says log (event ∷ events) (answer ∷ answers) last =
    (next : ModelLog) × Answers says log event answer next × Explains says next events answers last
Explains says log events answers last = ⊥

-- No moment meets a CRC collision, and each copy has a clear target. This is so for every model log that the engine or
-- the files may represent before the moment.
abbrev pub NoneCollides : {S F B C : Type 0} → LogOf S F B C → Storage S F → List (Moment S F B C) → Type 0
NoneCollides l at [] = Unit {0}
NoneCollides l at (m ∷ ms) =
    ((log : ModelLog) (is : l.is at log) → Asks l at log is m.event m.now) × NoneCollides l m.now ms

-- Let the files with which a run begins represent a model log. If no moment meets a CRC collision, and each copy has a
-- clear target, the model explains the report's answers. The report's engine or files represent the log that the model
-- has become.
abbrev pub AllExplained : {S F B C : Type 0} → LogOf S F B C → Type 0
AllExplained {S} {F} {B} {C} l =
    (files : F) (events : List (Event B C)) (report : LogReport S F) (run : IsLogRun l files events report)
    (log : ModelLog) → Stands l (Closed files) log → NoneCollides l (Closed files) run.moments
    → (last : ModelLog) × Explains l.says log events report.answers.items last × Stands l report.storage last
