-- When an event with one of the engine's batches is the same as an event with a list of changes.
use Rattle.std.specs.Prelude.{◌≡◌, ℕ, List, [], ◌∷◌}
use Rattle.std.specs.String.{string_bytes}
use Rattle.raft_log_fs_state.specs.declared.remainder.Remainder.{Remainder}
use Rattle.raft_log_record_batches.specs.Batch.{Batch}
use Rattle.raft_log_engine.specs.raft_log_engine_laws.specs.EngineState.{said_of}
use Rattle.raft_log_world.specs.declared.event.Call.{Call}
use Rattle.raft_log_world.specs.declared.event.Call.TheVariants.{Write, Sync, Get, GetEntry, FirstIndex, LastIndex, Fetch, Scan, Compact, Purge}
use Rattle.raft_log_world.specs.declared.event.Event.{Event}
use Rattle.raft_log_world.specs.declared.event.Event.TheVariants.{Open, Serve, Close, Fork, Crash, Arm}
use Rattle.raft_log_world.specs.Reads.{bytes_of}
use Rattle.raft_log_judge.specs.declared.change.Change.{Change}
use Rattle.raft_log_judge.specs.Changes.{says_of}

-- the calls are the same: a write makes the same changes, and keys and bounds have the same bytes
abbrev pub SameCall : Call (List Change) → Call Batch → Type 0
SameCall (Write changes sync) (Write batch flag) = (said_of batch ≡ says_of changes) × (flag ≡ sync)
SameCall Sync Sync = Unit {0}
SameCall (Get group key) (Get g k) = (g ≡ group) × (k.items ≡ key.items)
SameCall (GetEntry group index) (GetEntry g i) = (g ≡ group) × (i ≡ index)
SameCall (FirstIndex group) (FirstIndex g) = g ≡ group
SameCall (LastIndex group) (LastIndex g) = g ≡ group
SameCall (Fetch group begin end max) (Fetch g b e m) = (g ≡ group) × (b ≡ begin) × (e ≡ end) × (m ≡ max)
SameCall (Scan group start end) (Scan g s e) = (g ≡ group) × (bytes_of s ≡ bytes_of start) × (bytes_of e ≡ bytes_of end)
SameCall (Compact group index) (Compact g i) = (g ≡ group) × (i ≡ index)
SameCall (Purge kind) (Purge k) = k ≡ kind
SameCall _ _ = ⊥

-- the events are the same; any two crashes count as the same, whatever they leave
abbrev pub SameEvent : Event (List Change) Remainder → Event Batch Remainder → Type 0
SameEvent (Open workers) (Open w) = w ≡ workers
SameEvent (Serve call) (Serve c) = SameCall call c
SameEvent Close Close = Unit {0}
SameEvent (Fork target) (Fork t) = string_bytes t ≡ string_bytes target
SameEvent (Arm fault) (Arm f) = f ≡ fault
SameEvent (Crash left) (Crash l) = Unit {0}
SameEvent _ _ = ⊥

-- the events are the same, in order
abbrev pub SameEvents : List (Event (List Change) Remainder) → List (Event Batch Remainder) → Type 0
SameEvents [] [] = Unit {0}
SameEvents (event ∷ events) (e ∷ es) = SameEvent event e × SameEvents events es
SameEvents _ _ = ⊥
