-- Reads of a group's entries through the engine. `s` is the engine's state before a call, and `t` the state after it.
use Rattle.std.specs.Prelude.{◌≡◌, ℕ, List, [], length, map, Option, Some}
use Rattle.raft_log_record_base.specs.declared.errors.Error.{Error}
use Rattle.raft_log_record_base.specs.declared.errors.Error.TheVariants as errors
use Rattle.raft_log_record_items.specs.declared.raw_message.RawMessage.{RawMessage}
use Rattle.raft_log_engine.specs.raft_log_engine_laws.specs.EngineState.{EngineState}
use Rattle.raft_log_engine.specs.raft_log_engine_laws.specs.Fetching.{FailsToFetch, FetchesTo, HadFailed}
use Rattle.raft_voter_messages.specs.declared.reply.Entry.{Entry}
use Rattle.raft_voter.specs.Laws.{AreReadAs}

-- the message of any bytes: the bytes themselves
abbrev pub raw_message : List ℕ → Option RawMessage
raw_message bytes = Some (record { bytes = bytes })

-- The engine fetched the entries of group `g` from index `low` on, below `high`: always the first, and more while their
-- total length in the log is at most `max`. Their bytes are `messages`.
abbrev pub FetchesRaw : ℕ → ℕ → ℕ → Option ℕ → EngineState → EngineState → List RawMessage → Type 0
FetchesRaw g low high max s t messages = FetchesTo raw_message g low high max s t [] messages (length messages)

-- The engine fetched entries (`FetchesRaw`), and their bytes encode the entries `es`, with indexes from `low` on.
pub record ReadsEntriesTo (g low high : ℕ) (max : Option ℕ) (s t : EngineState) (es : List Entry) : Type 0 where
  pub messages : List RawMessage
  pub fetches : FetchesRaw g low high max s t messages
  pub read : AreReadAs low (map (λ m. m.bytes) messages) es

-- Reading entries failed with `error`:
-- - `failed`: the engine had failed before
-- - `unfetched`: the engine failed to fetch them
-- - `unread`: it fetched them, and memory ran out when they were read, or their bytes aren't entries
pub data FailsToReadEntries (g low high : ℕ) (max : Option ℕ) (s t : EngineState) (error : Error) : Type 0 where
  failed : HadFailed s t error → FailsToReadEntries g low high max s t error
  unfetched : FailsToFetch raw_message g low high s t error → FailsToReadEntries g low high max s t error
  unread : error ≡ errors.Memory → (messages : List RawMessage) → FetchesRaw g low high max s t messages
      → FailsToReadEntries g low high max s t error
