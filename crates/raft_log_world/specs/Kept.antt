-- What a run keeps: durable contents are never lost, and what is added to them are whole batches, in order.
use Rattle.std.specs.Prelude.{◌≡◌, ◌⊎◌, List, [], ◌∷◌, ◌++◌}
use Rattle.raft_log_model_laws.specs.Groups.{taken}
use Rattle.raft_log_world.specs.declared.event.Answer.{Answer}
use Rattle.raft_log_world.specs.declared.event.Call.TheVariants.{Compact, Write}
use Rattle.raft_log_world.specs.declared.event.Event.{Event}
use Rattle.raft_log_world.specs.declared.event.Event.TheVariants.{Serve}
use Rattle.raft_log_world.specs.Explained.{Explains}
use Rattle.raft_log_world.specs.Model.{BatchRecord, ModelLog, compacts}
use Rattle.raft_log_world.specs.Model.ModelLog.{resting, left, running, failed}
use Rattle.raft_log_world.specs.Reads.{Contents}

-- the durable contents of a log
abbrev pub durable : ModelLog → Contents
durable (resting m) = m
durable (left m pending) = m
durable (running m pending) = m
durable (failed m pending) = m

-- the batches of a log that are written and not yet synced
abbrev pub pending_in : ModelLog → List BatchRecord
pending_in (resting m) = []
pending_in (left m pending) = pending
pending_in (running m pending) = pending
pending_in (failed m pending) = pending

-- the records of all batches that these events ask to write, those of compactions included, whether or not the events
-- succeed
abbrev pub written_in : {B C : Type 0} → (B → BatchRecord) → List (Event B C) → List BatchRecord
written_in says [] = []
written_in says (Serve (Write batch sync) ∷ events) = says batch ∷ written_in says events
written_in says (Serve (Compact group index) ∷ events) = compacts group index ∷ written_in says events
written_in says (event ∷ events) = written_in says events

-- the first list is a subsequence of the second: its elements occur there in the same order
abbrev pub IsPart : {A : Type 0} → List A → List A → Type 0
IsPart [] ys = Unit {0}
IsPart (x ∷ xs) [] = ⊥
IsPart (x ∷ xs) (y ∷ ys) = ((x ≡ y) × IsPart xs ys) ⊎ IsPart (x ∷ xs) ys

-- The durable contents of `last` are those of `log`, and then the batches `done`, whole and in order. `done`, followed
-- by the batches that are pending in `last`, is a subsequence of `batches`.
pub record GrowsBy (log : ModelLog) (batches : List BatchRecord) (last : ModelLog) : Type 0 where
  pub done : List BatchRecord
  pub contents : durable last ≡ taken (durable log) done
  pub part : IsPart (done ++ pending_in last) batches

-- A log's durable contents stay, after any events that the model explains. Only batches are added to them, whole and in
-- order: some of those that were pending or that the events asked to write.
abbrev pub KeepsDurable : Type 0 → Type 0 → Type 0
KeepsDurable B C =
    (says : B → BatchRecord) (log last : ModelLog) (events : List (Event B C)) (answers : List Answer)
    → Explains says log events answers last → GrowsBy log (pending_in log ++ written_in says events) last
