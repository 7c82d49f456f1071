-- A run of events. Each event makes a moment, and the model explains all moments.
use Rattle.std.specs.Prelude.{◌≡◌, List, [], ◌∷◌, map}
use Rattle.raft_log_world.specs.declared.event.Answer.{Answer}
use Rattle.raft_log_world.specs.declared.event.Event.{Event}
use Rattle.raft_log_world.specs.declared.report.LogReport.{LogReport}
use Rattle.raft_log_world.specs.declared.storage.Storage.{Storage}
use Rattle.raft_log_world.specs.declared.storage.Storage.TheVariants.{Closed}
use Rattle.raft_log_world.specs.Logs.{Follows, LogOf}

-- one event of a run, how it ended, and the engine or the files after it
pub record Moment (S F B C : Type 0) : Type 0 where
  pub event : Event B C
  pub answer : Answer
  pub now : Storage S F

-- the engine or the files after these moments
abbrev pub behind : {S F B C : Type 0} → Storage S F → List (Moment S F B C) → Storage S F
behind at [] = at
behind at (m ∷ ms) = behind m.now ms

-- The model explains each of these moments (`Follows`). The first begins with the engine or the files `at`, and each
-- later one with those that the moment before it left.
abbrev pub FollowAll : {S F B C : Type 0} → LogOf S F B C → Storage S F → List (Moment S F B C) → Type 0
FollowAll l at [] = Unit {0}
FollowAll l at (m ∷ ms) = Follows l at m.event m.answer m.now × FollowAll l m.now ms

-- A run of these events that began with these files. Each event made a moment, the report has the answers of all, and
-- the model explains them.
pub record IsLogRun {S F B C : Type 0} (l : LogOf S F B C) (files : F) (events : List (Event B C))
    (report : LogReport S F) : Type 0 where
  pub moments : List (Moment S F B C)
  pub played : map (λ m. m.event) moments ≡ events
  pub told : map (λ m. m.answer) moments ≡ report.answers.items
  pub ended : behind (Closed files) moments ≡ report.storage
  pub explained : FollowAll l (Closed files) moments
