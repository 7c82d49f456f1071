-- Changing keys of a log: what a change adds to a batch, and the contents of the log afterwards.
use Rattle.std.specs.Prelude.{◌≡◌, ℕ, List, [], ◌∷◌, ◌++◌, Bool, true, false, Option, Some, None, map}
use Rattle.std.specs.Global.{Vec}
use Rattle.raft_log_engine.specs.raft_log_model_laws.specs.Groups.{taken}
use Rattle.raft_log_engine.specs.raft_log_model_laws.specs.Item.{Item}
use Rattle.raft_log_engine.specs.raft_log_model_laws.specs.Item.Item.{Del, Put}
use Rattle.raft_log_engine.specs.raft_log_model_laws.specs.Item.Record.{Plain}
use Rattle.raft_log_engine.specs.raft_log_record_items.specs.Items.{del_item, put_item}
use Rattle.raft_log_engine.specs.raft_log_record_items.specs.declared.item.LogItem.{LogItem}
use Rattle.raft_log_engine.specs.raft_log_record_frames.specs.Key.{is_internal}
use Rattle.raft_log_engine.specs.raft_log_record_batches.specs.Batch.{Batch}
use Rattle.raft_log_engine.specs.raft_log_dual_pipes.specs.Pipes.{LogRecordValue}
use Rattle.raft_log_engine.specs.raft_log_engine_core.specs.ModelCalls.{IsEngineLog}
use Rattle.raft_log_engine.specs.raft_log_engine_laws.specs.EngineState.{LogDirectories, LogMap, EngineState}
use Rattle.raft_log_engine.specs.raft_log_engine_laws.specs.Holding.{Represents}
use Rattle.raft_log_world.specs.Model.{HasWritten, ModelLog}
use Rattle.raft_crash_examples.specs.declared.changing.KeyChange.{KeyChange}

-- the item that a change adds to a record: it puts the value at the key, or deletes the key if there is no value
abbrev pub word_of : List ℕ → Option (Vec ℕ) → Item (List ℕ) (List ℕ)
word_of key None = Del key
word_of key (Some value) = Put key value.items

-- the record of a batch with only this change
abbrev pub said_by : KeyChange → LogRecordValue
said_by c = Plain (record { group = c.group; item = word_of c.key.items c.value } ∷ [])

-- the item that a change adds to a batch: it puts the value at the key, or deletes the key if there is no value
abbrev pub item_of : ℕ → List ℕ → Option (Vec ℕ) → LogItem
item_of group key None = del_item group key
item_of group key (Some value) = put_item group key value.items

-- The change was added to a batch. Its key isn't reserved for the log itself.
pub record AddsChange (c : KeyChange) (old new : Batch) : Type 0 where
  pub adds : new.items ≡ old.items ++ item_of c.group c.key.items c.value ∷ []
  pub filling : new.state ≡ old.state
  pub users : is_internal c.key.items ≡ false

-- A batch was written as the record `written`, with a sync if `sync` is true. If the log had the contents `m`, with
-- nothing pending, the record is now durable, or pending after `m`. With a sync it is durable.
abbrev pub WritesRecord : LogRecordValue → Bool → EngineState → EngineState → Type 0
WritesRecord written sync s t = (home : LogDirectories) (m : LogMap) → Represents home s m []
    → (next : ModelLog) × HasWritten sync m (written ∷ []) next × IsEngineLog home t next

-- A key was changed durably: if the log had the contents `m`, with nothing pending, it now has `m` with the change, and
-- nothing is pending.
abbrev pub ChangesKey : KeyChange → EngineState → EngineState → Type 0
ChangesKey c s t = WritesRecord (said_by c) true s t

-- Keys were changed durably, in this order: if the log had the contents `m`, with nothing pending, it now has `m` with
-- all changes, and nothing is pending.
abbrev pub ChangesKeys : List KeyChange → EngineState → EngineState → Type 0
ChangesKeys cs s t = (home : LogDirectories) (m : LogMap) → Represents home s m []
    → Represents home t (taken m (map said_by cs)) []
