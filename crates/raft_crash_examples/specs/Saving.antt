-- Saving a key's value in a log, and reading it from a log.
use Rattle.std.specs.Prelude.{ℕ, List, [], ◌∷◌, Bool, true, Option}
use Rattle.raft_log_engine.specs.raft_log_model_laws.specs.Item.Item.{Put}
use Rattle.raft_log_engine.specs.raft_log_model_laws.specs.Item.Record.{Plain}
use Rattle.raft_log_engine.specs.raft_log_fs.specs.Disk.{Disk}
use Rattle.raft_log_engine.specs.raft_log_file_settings.specs.declared.config.Config.{Config}
use Rattle.raft_log_engine.specs.raft_log_dual_pipes.specs.Pipes.{LogRecordValue}
use Rattle.raft_log_engine.specs.raft_log_engine_laws.specs.EngineState.{EngineState}
use Rattle.raft_log_engine.specs.raft_log_engine_laws.specs.Reading.{ReadsValue}
use Rattle.raft_crash_examples.specs.Changing.{WritesRecord}
use Rattle.raft_crash_examples.specs.Opening.{OpensAnd}

-- the record of a batch that puts `value` at `key` of group `group`
abbrev pub put_of : ℕ → List ℕ → List ℕ → LogRecordValue
put_of group key value = Plain (record { group = group; item = Put key value } ∷ [])

-- a batch that puts a value at a key was written, and synced if `sync` is true
abbrev pub PutsKey : ℕ → List ℕ → List ℕ → Bool → EngineState → EngineState → Type 0
PutsKey group key value sync s t = WritesRecord (put_of group key value) sync s t

-- the log of these settings was opened, and a value was put at a key with a sync
abbrev pub Saves : {F : Type 0} → (F → Disk) → (F → List ℕ → ℕ → Type 0) → Config → ℕ → List ℕ → List ℕ → F
    → EngineState → Type 0
Saves disk tells config group key value old engine =
    OpensAnd disk tells config old (λ opened. PutsKey group key value true opened engine)

-- the log of these settings was opened, and `found` was read at a key
abbrev pub Loads : {F : Type 0} → (F → Disk) → (F → List ℕ → ℕ → Type 0) → Config → ℕ → List ℕ → F → Option (List ℕ)
    → Type 0
Loads disk tells config group key old found =
    OpensAnd disk tells config old (λ opened. ReadsValue opened group key found)
