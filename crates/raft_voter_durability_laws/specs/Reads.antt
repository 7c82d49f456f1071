-- Reads of the entries that a request asks for, through an engine.
use Rattle.std.specs.Prelude.{◌≡◌, ℕ, false, List, length, Option, Some}
use Rattle.raft_log_model_laws.specs.Groups.{taken}
use Rattle.raft_log_record_base.specs.declared.errors.Error.{Error}
use Rattle.raft_log_engine_laws.specs.EngineState.{LogDirectories, LogMap, EngineState, has_failed}
use Rattle.raft_log_engine_laws.specs.Holding.{Represents}
use Rattle.raft_log_engine_laws.specs.Fetching.{StaysButBlock}
use Rattle.raft_log_engine_laws.specs.raft_log_dual_pipes.specs.Pipes.{LogRecordValue}
use Rattle.raft_voter_messages.specs.declared.reply.Entry.{Entry as VoterEntry}
use Rattle.raft_voter_messages.specs.declared.request.Request.{Request}
use Rattle.raft_voter_outline.specs.Rules.{entries_between}
use Rattle.raft_voter_outline.specs.State.{State}
use Rattle.raft_voter.specs.Rounds.{World}
use Rattle.raft_voter_records.specs.Voters.{Means}
use Rattle.raft_voter_durability_laws.specs.Standing.{AreOutlines}
use Rattle.raft_voter_durability_laws.specs.Requests.{WasTurnedDown}

-- messages are raw bytes: any bytes parse as a message, and the text of that message is the same bytes
abbrev pub IsRaw : {M : Type 0} → (M → List ℕ) → (List ℕ → Option M) → Type 0
IsRaw {M} text reading = (bytes : List ℕ) → (x : M) × (reading bytes ≡ Some x) × (text x ≡ bytes)

-- A group counts if it has an item after its last Clean. The tables show no entry of a group that doesn't count.
abbrev pub IsCounted : EngineState → Type 0
IsCounted s = (g : ℕ) → s.counts g ≡ false → length (s.tables g).places ≡ 0

-- Engine `s` read `es`: the entries of the voter of group `g` from index `from` on, below `to`. At most the cached
-- block changed (engine `t`). `os` are the outlines of the voters.
pub record ReadsEntries (g from to : ℕ) (s t : EngineState) (os : ℕ → State) (es : List VoterEntry) : Type 0 where
  pub alive : has_failed s ≡ false
  pub stays : StaysButBlock s t
  pub exact : (home : LogDirectories) (m : LogMap) (pending : List LogRecordValue) (W : World) → Represents home s m pending
      → Means (taken m pending) W → AreOutlines os W → es ≡ entries_between (W g) from to

-- Engine `s` didn't read the entries that request `q` asks for, for one of the reasons in `WasTurnedDown`. At most the
-- cached block changed (engine `t`). `os` are the outlines of the voters.
pub record ReadsNone (q : ℕ × Request) (error : Error) (s t : EngineState) (os : ℕ → State) : Type 0 where
  pub alive : has_failed s ≡ false
  pub stays : StaysButBlock s t
  pub why : (home : LogDirectories) (m : LogMap) (pending : List LogRecordValue) (W : World) → Represents home s m pending
      → Means (taken m pending) W → AreOutlines os W → WasTurnedDown q error s t
