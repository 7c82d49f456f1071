-- What it means that an engine, or the files of a log, represent a log of the model, and that the model explains an
-- event.
use Rattle.std.specs.Prelude.{◌≡◌, ℕ, Bool, true, false, List}
use Rattle.std.specs.String.{string_bytes}
use Rattle.raft_log_world.specs.declared.event.Answer.{Answer}
use Rattle.raft_log_world.specs.declared.event.Event.{Event}
use Rattle.raft_log_world.specs.declared.event.Event.TheVariants.{Open as OpenEvent, Crash, Fork}
use Rattle.raft_log_world.specs.declared.storage.Storage.{Storage}
use Rattle.raft_log_world.specs.declared.storage.Storage.TheVariants.{Closed, Open}
use Rattle.raft_log_world.specs.Model.{Answers, BatchRecord, ModelLog, is_open}
use Rattle.raft_log_world.specs.Model.ModelLog.{resting, left}

-- What an implementation of a log defines, for its types of engines `S`, of files `F` and of batches `B`. A value of
-- `C` says what a crash leaves.
-- - `is`: an engine, or the files, represent this log of the model;
-- - `says`: the record of a batch;
-- - `read_spared`: there is no CRC collision in the files, which represent this log;
-- - `crash_spared`: there is no CRC collision in the files that a crash left of an engine or files with this log;
-- - `is_clear`: files may be copied into this directory.
pub record LogOf (S F B C : Type 0) : Type 1 where
  pub is : Storage S F → ModelLog → Type 0
  pub says : B → BatchRecord
  pub read_spared : (at : Storage S F) (log : ModelLog) → is at log → Type 0
  pub crash_spared : (at : Storage S F) (log : ModelLog) → is at log → C → F → Type 0
  pub is_clear : Storage S F → List ℕ → Type 0

-- whether this is an engine
abbrev pub has_engine : {S F : Type 0} → Storage S F → Bool
has_engine (Closed files) = false
has_engine (Open engine) = true

-- `at` represents this log of the model; it is an engine exactly if the log is one that an engine has open
abbrev pub Stands : {S F B C : Type 0} → LogOf S F B C → Storage S F → ModelLog → Type 0
Stands l at log = (is_open log ≡ has_engine at) × l.is at log

-- `P` holds, if the log is one that a close or a failed open left
abbrev pub IfLeft : ModelLog → Type 0 → Type 0
IfLeft (left m pending) P = P
IfLeft log P = Unit {0}

-- `P` holds, unless the log is one that a crash or a copy left
abbrev pub UnlessResting : ModelLog → Type 0 → Type 0
UnlessResting (resting m) P = Unit {0}
UnlessResting log P = P

-- The premise under which the model explains an event that leads to `now`:
-- - an open or a copy: no CRC collision in the files, if a close or a failed open left them;
-- - a copy also: its target is clear;
-- - a crash: no CRC collision in the files that it leaves, unless the log was already as a crash or a copy leaves it;
-- - any other event: no premise.
abbrev pub Asks :
    {S F B C : Type 0}
    → (l : LogOf S F B C) (at : Storage S F) (log : ModelLog) → l.is at log → Event B C → Storage S F → Type 0
Asks l at log is (OpenEvent workers) now = IfLeft log (l.read_spared at log is)
Asks l at log is (Fork target) now = l.is_clear at (string_bytes target) × IfLeft log (l.read_spared at log is)
Asks l at log is (Crash what) (Closed files) = UnlessResting log (l.crash_spared at log is what files)
Asks l at log is event now = Unit {0}

-- The model explains that the event had this answer and led from `at` to `now`. Take any log of the model that `at`
-- represents, and suppose that `Asks` is met. Then the log may give this answer, and `now` represents what the log
-- becomes.
abbrev pub Follows :
    {S F B C : Type 0} → LogOf S F B C → Storage S F → Event B C → Answer → Storage S F → Type 0
Follows l at event answer now =
    (log : ModelLog) (known : Stands l at log) → Asks l at log known.1 event now
    → (next : ModelLog) × Answers l.says log event answer next × Stands l now next
