-- What the judge decides: whether the model log explains the answers to a list of events.
use Rattle.std.specs.Prelude.{List, None}
use Rattle.raft_log_world.specs.declared.event.Answer.{Answer}
use Rattle.raft_log_world.specs.declared.event.Event.{Event}
use Rattle.raft_log_world.specs.Explained.{Explains}
use Rattle.raft_log_world.specs.Model.{ModelLog}
use Rattle.raft_log_world.specs.Model.ModelLog.{resting}
use Rattle.raft_log_world.specs.Reads.{Contents}
use Rattle.raft_log_judge.specs.declared.change.Change.{Change}
use Rattle.raft_log_judge.specs.Changes.{says_of}

-- the contents of an empty log
abbrev pub no_contents : Contents
no_contents = λ group slot. None

-- From the empty log on, the model gives `answers` to `events`, one after another. At each event it may choose which
-- batches are durable, lost or written.
abbrev pub IsExplained : {C : Type 0} → List (Event (List Change) C) → List Answer → Type 0
IsExplained events answers = (last : ModelLog) × Explains says_of (resting no_contents) events answers last
