-- Writing two changes in one batch, and then losing power.
use Rattle.std.specs.Prelude.{◌≡◌, ◌⊎◌, ℕ, List, [], ◌∷◌, Bool, true, Option, None}
use Rattle.raft_log_machine_laws.specs.Fresh.{nothing_stands}
use Rattle.raft_log_engine.specs.raft_log_model_laws.specs.Groups.{taken}
use Rattle.raft_log_engine.specs.raft_log_model_laws.specs.Item.Record.{Plain}
use Rattle.raft_log_engine.specs.raft_log_fs.specs.Disk.{Disk}
use Rattle.raft_log_engine.specs.raft_log_fs.specs.Image.{IsImage}
use Rattle.raft_log_engine.specs.raft_log_file_settings.specs.declared.config.Config.{Config}
use Rattle.raft_log_engine.specs.raft_log_dual_pipes.specs.Pipes.{LogRecordValue}
use Rattle.raft_log_engine.specs.raft_log_engine_laws.specs.EngineState.{LogDirectories, LogMap, EngineState}
use Rattle.raft_log_engine.specs.raft_log_engine_laws.specs.Holding.{Represents}
use Rattle.raft_log_engine.specs.raft_log_engine_laws.specs.Reading.{ReadsValue}
use Rattle.raft_log_recovery_laws.specs.Bare.{IsBare}
use Rattle.raft_log_recovery_laws.specs.ByCalls.{home_of}
use Rattle.raft_log_world.specs.Model.{ModelLog}
use Rattle.raft_log_world.specs.Model.ModelLog.{failed, running}
use Rattle.raft_log_world_engine.specs.Instance.{CrashSparesEngine}
use Rattle.raft_crash_examples.specs.declared.changing.KeyChange.{KeyChange}
use Rattle.raft_crash_examples.specs.Changing.{word_of}
use Rattle.raft_crash_examples.specs.Following.{HasLog, IsOpenWith}
use Rattle.raft_crash_examples.specs.Keys.{value_behind}
use Rattle.raft_crash_examples.specs.Opening.{OpensAnd}

-- the record of a batch that makes the two changes, in this order
abbrev pub said_by_both : KeyChange → KeyChange → LogRecordValue
said_by_both one other = Plain (record { group = one.group; item = word_of one.key.items one.value }
    ∷ record { group = other.group; item = word_of other.key.items other.value } ∷ [])

-- A log with the contents `m` became `log` by a write of the batch. The write succeeded if `answered` is true.
-- - `either`: the contents are `m`, or `m` with the batch; or the engine has failed, and the batch is pending.
-- - `has`: if the write succeeded, the log has `m` with the batch, durably.
pub record MayHave (answered : Bool) (m : LogMap) (batch : LogRecordValue) (log : ModelLog) : Type 0 where
  pub either : IsOpenWith m [] log ⊎ (log ≡ running (taken m (batch ∷ [])) []) ⊎ (log ≡ failed m (batch ∷ []))
  pub has : answered ≡ true → log ≡ running (taken m (batch ∷ [])) []

-- A write of both changes, in one batch with a sync, succeeded if `answered` is true, and failed otherwise. If the log
-- had the contents `m` before, with nothing pending, `MayHave` says what it has now.
abbrev pub TriesBoth : KeyChange → KeyChange → Bool → EngineState → EngineState → Type 0
TriesBoth one other answered s t = (home : LogDirectories) (m : LogMap) → Represents home s m []
    → HasLog home t (MayHave answered m (said_by_both one other))

-- `first` and `second` are what an engine reads at the keys of the two changes
abbrev pub ReadsBoth : EngineState → KeyChange → KeyChange → Option (List ℕ) → Option (List ℕ) → Type 0
ReadsBoth e one other first second = ReadsValue e one.group one.key.items first
    × ReadsValue e other.group other.key.items second

-- the log of these settings was opened, and a write of both changes in one batch ended as `TriesBoth` says
abbrev pub TriesToWrite : {F : Type 0} → (F → Disk) → (F → List ℕ → ℕ → Type 0) → Config → KeyChange → KeyChange → F
    → Bool → EngineState → Type 0
TriesToWrite disk tells config one other old answered engine =
    OpensAnd disk tells config old (λ opened. TriesBoth one other answered opened engine)

-- the log of these settings was opened, and `first` and `second` were read at the keys of the two changes
abbrev pub LoadsBoth : {F : Type 0} → (F → Disk) → (F → List ℕ → ℕ → Type 0) → Config → KeyChange → KeyChange → F
    → Option (List ℕ) → Option (List ℕ) → Type 0
LoadsBoth disk tells config one other old first second =
    OpensAnd disk tells config old (λ opened. ReadsBoth opened one other first second)

-- neither key had a value at first, and `first` and `second` are the values of the two keys after both changes
abbrev pub AreBoth : KeyChange → KeyChange → Option (List ℕ) → Option (List ℕ) → Type 0
AreBoth one other first second = (first ≡ value_behind one.group one.key.items (one ∷ other ∷ []) None)
    × (second ≡ value_behind other.group other.key.items (one ∷ other ∷ []) None)

-- neither key has a value
abbrev pub IsNeither : Option (List ℕ) → Option (List ℕ) → Type 0
IsNeither first second = (first ≡ None) × (second ≡ None)

-- A write of two changes in one batch succeeded or failed, the power went, and both keys were read. Suppose that there
-- was no log at first, both settings name the same directories, and there is no CRC collision. Then both keys have
-- their values after both changes (`AreBoth`), or neither has a value. If the write succeeded, `AreBoth` holds.
pub record WritesBothOrNeither {F : Type 0} (disk : F → Disk) (tells : F → List ℕ → ℕ → Type 0) (config : Config)
    (one other : KeyChange) (again : Config) (old : F) (answered : Bool) (first second : Option (List ℕ))
    : Type 0 where
  pub engine : EngineState
  pub tries : TriesToWrite disk tells config one other old answered engine
  pub left : F
  pub crashes : IsImage engine.pipes.disk (disk left)
  pub loads : LoadsBoth disk tells again one other left first second
  pub atomic : IsBare config (disk old) → home_of again ≡ home_of config
      → (may : HasLog (home_of config) engine (MayHave answered nothing_stands (said_by_both one other)))
      × (CrashSparesEngine (home_of config) engine may.log may.is (disk left)
      → (AreBoth one other first second ⊎ IsNeither first second)
      × (answered ≡ true → AreBoth one other first second))
