-- The logs that the judge keeps. A candidate lists the batches of a log that may explain the answers so far. The first
-- `durable` of them are durable, and the others are pending. Its standing says whether an engine has the log open.
use Rattle.std.specs.Prelude.{◌≡◌, ◌++◌, Bool, true, false, List, [], ◌∷◌, drop, map, take}
use Rattle.raft_log_model_laws.specs.Groups.{taken}
use Rattle.raft_log_world.specs.declared.event.Answer.{Answer}
use Rattle.raft_log_world.specs.declared.event.Event.{Event}
use Rattle.raft_log_world.specs.Model.{BatchRecord, ModelLog}
use Rattle.raft_log_world.specs.Model.ModelLog.{left, running, failed}
use Rattle.raft_log_world.specs.Reads.{Contents}
use Rattle.raft_log_judge.specs.declared.candidate.Candidate.{Candidate}
use Rattle.raft_log_judge.specs.declared.change.Change.{Change}
use Rattle.raft_log_judge.specs.declared.outcome.Standing.{Standing}
use Rattle.raft_log_judge.specs.declared.outcome.Standing.TheVariants.{Broken, Closed, Running}
use Rattle.raft_log_judge.specs.Changes.{says_of}
use Rattle.raft_log_judge.specs.Judging.{no_contents}
use Rattle.raft_log_judge.specs.Views.{LeadTo}

-- The log with the durable contents `m` and these pending batches. No engine has it open (`Closed`), one has
-- (`Running`), or one has and has failed (`Broken`).
abbrev pub standing_log : Standing → Contents → List BatchRecord → ModelLog
standing_log Closed m pending = left m pending
standing_log Running m pending = running m pending
standing_log Broken m pending = failed m pending

-- the contents after the durable batches of a candidate
abbrev pub durable_of : Candidate → Contents
durable_of c = taken no_contents (take c.durable (map says_of c.batches))

-- the pending batches of a candidate
abbrev pub pending_of : Candidate → List BatchRecord
pending_of c = drop c.durable (map says_of c.batches)

-- the contents after all batches of a candidate
abbrev pub contents_of : Candidate → Contents
contents_of c = taken no_contents (map says_of c.batches)

-- the log that a candidate represents
abbrev pub log_of : Candidate → ModelLog
log_of c = standing_log c.standing (durable_of c) (pending_of c)

-- the log of a candidate, with another standing; if the flag is true, all its batches are durable
abbrev pub turned : Standing → Bool → Candidate → ModelLog
turned standing false c = standing_log standing (durable_of c) (pending_of c)
turned standing true c = standing_log standing (taken (durable_of c) (pending_of c)) []

-- the logs that an open may find if the durable contents are `m`: one for each number of pending batches that are kept
abbrev pub opened_logs : Contents → List BatchRecord → List ModelLog
opened_logs m [] = running m [] ∷ []
opened_logs m (batch ∷ pending) = running m [] ∷ opened_logs (taken m (batch ∷ [])) pending

-- the candidates for these logs were added at the end of the list
pub record AddsLogs (logs : List ModelLog) (old new : List Candidate) : Type 0 where
  pub more : List Candidate
  pub adds : new ≡ old ++ more
  pub are : map log_of more ≡ logs

-- candidates were added at the end of the list `old`: those for the logs that `log` may become by this event with this
-- answer
pub record AddsNexts {C : Type 0} (log : ModelLog) (event : Event (List Change) C) (answer : Answer)
    (old new : List Candidate) : Type 0 where
  pub more : List Candidate
  pub adds : new ≡ old ++ more
  pub lead : LeadTo says_of (log ∷ []) event answer (map log_of more)
