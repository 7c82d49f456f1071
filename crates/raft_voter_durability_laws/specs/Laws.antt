-- What follows from the definitions: how each result of an engine's calls changes the voters that its log stores, and
-- laws on rounds.
use Rattle.std.specs.Prelude.{◌≡◌, ◌⊎◌, ◌≤◌, ◌<◌, ◌^◌, ◌||◌, ℕ, Bool, true, false, None, IsTrue, List, [], ◌∷◌, ◌++◌, length, map, slice_get, Option, Some}
use Rattle.raft_log_fs.specs.Disk.{Disk}
use Rattle.raft_log_machine_laws.specs.Fresh.{nothing_stands}
use Rattle.raft_log_record_base.specs.declared.errors.Error.{Error}
use Rattle.raft_log_record_base.specs.declared.errors.Error.TheVariants as errors
use Rattle.raft_log_record_frames.specs.Record.{record_len}
use Rattle.raft_log_record_batches.specs.Batch.{Batch}
use Rattle.raft_log_engine_laws.specs.raft_log_memtables.specs.declared.mem_tables.MemTables.{MemTables}
use Rattle.raft_log_engine_laws.specs.raft_log_dual_pipes.specs.Pipes.{LogPipes}
use Rattle.raft_log_engine_laws.specs.raft_log_block_cache.specs.declared.block_cache.BlockCache.{BlockCache}
use Rattle.raft_log_engine_laws.specs.EngineState.{LogDirectories, EngineState, has_failed, shows}
use Rattle.raft_log_engine_laws.specs.Holding.{Represents, IsRecoverableAs}
use Rattle.raft_log_engine_laws.specs.Fetching.{FailsToFetch, FetchesTo}
use Rattle.raft_log_engine_laws.specs.Syncing.{NotSynced, SyncsAppend}
use Rattle.raft_log_engine_laws.specs.Writing.{NotWritten, WritesBytes}
use Rattle.raft_voter_messages.specs.declared.reply.Entry.{Entry as VoterEntry}
use Rattle.raft_voter_messages.specs.declared.reply.Reply.{Reply}
use Rattle.raft_voter_messages.specs.declared.reply.Reply.TheVariants as replies
use Rattle.raft_voter_messages.specs.declared.request.Request.{Request}
use Rattle.raft_voter_outline.specs.declared.outline.decision.Answer.TheVariants as answers
use Rattle.raft_voter_outline.specs.declared.outline.decision.Change.{Change}
use Rattle.raft_voter_outline.specs.Outlines.{ChangesEach, IsReplyOfEach, LeavesEach, without_bytes}
use Rattle.raft_voter_outline.specs.State.{State}
use Rattle.raft_voter.specs.Laws.{AreReadAs}
use Rattle.raft_voter.specs.Rounds.{TakesFirst, World, fresh_world, are_rising, replies_from, taken_from}
use Rattle.raft_voter.specs.Service.{refused_from}
use Rattle.raft_voter_durability_laws.specs.Standing.{AreOutlines, IsLeftAmong, IsLeftWith, Keeps}
use Rattle.raft_voter_durability_laws.specs.Rounds.{AreTold, IsPassedOrOneMore, took}
use Rattle.raft_voter_durability_laws.specs.Requests.{Broke, SaysChange, Served, StepsOutlines, TurnedDown}
use Rattle.raft_voter_durability_laws.specs.Reads.{IsCounted, IsRaw, ReadsEntries, ReadsNone}
use Rattle.raft_voter_durability_laws.specs.Ends.{Answered, GaveUp, Unsynced, Went}
use Rattle.raft_voter_durability_laws.specs.Calls.{KeepsMap, KeepsOrLeaves, KeepsOrLeavesMap, LeavesLeft, LeavesLog, OpensAmong}

-- One request.

-- `o` is an outline: it has no data of entries
abbrev pub IsBare : State → Type 0
IsBare o = without_bytes o ≡ o

-- A request that doesn't change its voter is served without a record, if the reply follows from the outline.
abbrev pub ToldRequestsAreServed : Type 0
ToldRequestsAreServed = (q : ℕ × Request) (a : Reply) (s : EngineState) (os : ℕ → State) → has_failed s ≡ false
    → IsBare (os q.0) → IsReplyOfEach (os q.0) q.1 (answers.Told a) → LeavesEach (os q.0) q.1
    → Served q a false s s os os

-- A request that changes its voter is served, if the record of the change was written. The outline of its group must
-- have made the same step.
abbrev pub WrittenRequestsAreServed : Type 0
WrittenRequestsAreServed = (q : ℕ × Request) (a : Reply) (c : Change) (b : Batch) (len : ℕ) (s t : EngineState)
    (os us : ℕ → State) → IsBare (os q.0) → IsReplyOfEach (os q.0) q.1 (answers.Told a)
    → ChangesEach (os q.0) q.1 c → SaysChange q.0 q.1 c b → StepsOutlines q os us
    → WritesBytes b false len s t → Served q a true s t os us

-- A request for entries is served, if the entries were read.
abbrev pub ReadRequestsAreServed : Type 0
ReadRequestsAreServed = (q : ℕ × Request) (from to : ℕ) (es : List VoterEntry) (s t : EngineState) (os : ℕ → State)
    → IsReplyOfEach (os q.0) q.1 (answers.Entries from to) → LeavesEach (os q.0) q.1
    → ReadsEntries q.0 from to s t os es → Served q (replies.Entries es) false s t os os

-- If a group has no item after its last Clean, the tables of an engine show no entry of this group.
abbrev pub EnginesAreCounted : Type 0
EnginesAreCounted = (v : LogPipes) (tables : MemTables) (cache : BlockCache) → IsCounted (shows v tables cache)

-- Entries that a fetch returned are those of the group's voter. This requires that messages are raw bytes, and that
-- each message parses as an entry at its index.
abbrev pub FetchedEntriesAreRead : Type 0 → Type 0
FetchedEntriesAreRead M = (text : M → List ℕ) (reading : List ℕ → Option M) (q : ℕ × Request)
    (from to count : ℕ) (s t : EngineState) (os : ℕ → State) (messages : List M) (es : List VoterEntry)
    → IsRaw text reading → IsCounted s → IsReplyOfEach (os q.0) q.1 (answers.Entries from to)
    → FetchesTo reading q.0 from to None s t [] messages count → AreReadAs from (map text messages) es
    → ReadsEntries q.0 from to s t os es

-- If fetching the entries that a request asks for failed, they weren't read, for a reason in `WasTurnedDown`.
abbrev pub UnfetchedEntriesAreUnread : Type 0 → Type 0
UnfetchedEntriesAreUnread M = (text : M → List ℕ) (reading : List ℕ → Option M) (q : ℕ × Request)
    (from to : ℕ) (error : Error) (s t : EngineState) (os : ℕ → State) → IsRaw text reading
    → IsReplyOfEach (os q.0) q.1 (answers.Entries from to) → FailsToFetch reading q.0 from to s t error
    → ReadsNone q error s t os

-- If a request's record, of less than 2^56 bytes, wasn't written, either the request is turned down, or the engine
-- failed at it.
abbrev pub UnwrittenRequests : Type 0
UnwrittenRequests = (q : ℕ × Request) (c : Change) (b : Batch) (error : Error) (s t : EngineState) (os : ℕ → State)
    → has_failed s ≡ false → ChangesEach (os q.0) q.1 c → SaysChange q.0 q.1 c b
    → record_len b.items b.entries < 2 ^ 56 → NotWritten b error s t
    → TurnedDown q error s t os ⊎ ((error ≡ errors.Failed) × Broke q s t os)

-- If memory ran out before anything was done for a request, it is turned down with `Memory`.
abbrev pub UnmadeRequestsAreTurnedDown : Type 0
UnmadeRequestsAreTurnedDown = (q : ℕ × Request) (s : EngineState) (os : ℕ → State) → has_failed s ≡ false
    → TurnedDown q errors.Memory s s os

-- A request for entries is turned down, if they weren't read.
abbrev pub UnreadRequestsAreTurnedDown : Type 0
UnreadRequestsAreTurnedDown = (q : ℕ × Request) (error : Error) (s t : EngineState) (os : ℕ → State)
    → ReadsNone q error s t os → TurnedDown q error s t os

-- Rounds.

-- A round begins without replies. A request that was served adds its reply. A request that was turned down adds the
-- reply `Refused`.
pub record RoundsGoOn : Type 0 where
  pub begins : (qs : List (ℕ × Request)) (s : EngineState) (os : ℕ → State) → has_failed s ≡ false
      → Went qs [] false s s os os
  pub served : (qs : List (ℕ × Request)) (told : List Reply) (q : ℕ × Request) (a : Reply) (wrote more : Bool)
      (s t u : EngineState) (os us ws : ℕ → State) → Went qs told wrote s t os us
      → slice_get qs (length told) ≡ Some q → Served q a more t u us ws
      → Went qs (told ++ a ∷ []) (wrote || more) s u os ws
  pub turned_down : (qs : List (ℕ × Request)) (told : List Reply) (q : ℕ × Request) (error : Error) (wrote : Bool)
      (s t u : EngineState) (os us : ℕ → State) → Went qs told wrote s t os us
      → slice_get qs (length told) ≡ Some q → TurnedDown q error t u us
      → Went qs (told ++ replies.Refused ∷ []) wrote s u os us

-- A round ends in one of these ways:
-- - `unwritten`: nothing was written, no sync is needed, and the replies are returned.
-- - `answered`: its sync succeeds, and the replies are returned.
-- - `gave_up`: the engine fails at a request.
-- - `unsynced`: its sync fails.
pub record RoundsEnd : Type 0 where
  pub unwritten : (home : LogDirectories) (V : World) (qs : List (ℕ × Request)) (told : List Reply) (s t : EngineState)
      (os us : ℕ → State) → Keeps home s V → AreOutlines os V → Went qs told false s t os us
      → Answered home V qs told s t us
  pub answered : (home : LogDirectories) (V : World) (qs : List (ℕ × Request)) (told : List Reply) (wrote : Bool)
      (s t u : EngineState) (os us : ℕ → State) → Keeps home s V → AreOutlines os V → Went qs told wrote s t os us
      → SyncsAppend t u → Answered home V qs told s u us
  pub gave_up : (home : LogDirectories) (V : World) (qs : List (ℕ × Request)) (told : List Reply) (q : ℕ × Request)
      (wrote : Bool) (s t u : EngineState) (os us : ℕ → State) → Keeps home s V → AreOutlines os V
      → Went qs told wrote s t os us → slice_get qs (length told) ≡ Some q → Broke q t u us
      → GaveUp home V qs told s u
  pub unsynced : (home : LogDirectories) (V : World) (qs : List (ℕ × Request)) (told : List Reply) (wrote : Bool)
      (error : Error) (s t u : EngineState) (os us : ℕ → State) → Keeps home s V → AreOutlines os V
      → Went qs told wrote s t os us → NotSynced error t u → Unsynced home V qs told s u

-- Replies and refused places.

-- The positions at which a round's replies are `Refused` determine all its replies and the requests that were taken.
pub record RepliesTellPlaces (V : World) (qs : List (ℕ × Request)) (told : List Reply) : Type 0 where
  pub rising : IsTrue (are_rising 0 (length qs) (refused_from 0 told))
  pub told_is : told ≡ replies_from 0 (refused_from 0 told) V qs
  pub taken_is : took qs told ≡ taken_from 0 (length qs) (refused_from 0 told) qs

-- Let each request of a round have a reply, and let each reply that isn't `Refused` be the voter's own. Then the
-- refused positions determine the replies and the requests taken.
abbrev pub ToldRoundsAreAnswered : Type 0
ToldRoundsAreAnswered = (V : World) (qs : List (ℕ × Request)) (told : List Reply) → AreTold V qs told
    → length told ≡ length qs → RepliesTellPlaces V qs told

-- After a round was cut off, the voters have taken its requests below one position, except those at refused positions.
abbrev pub PassedVotersTookFirst : Type 0
PassedVotersTookFirst = (V : World) (qs : List (ℕ × Request)) (told : List Reply) → AreTold V qs told
    → (X : World) → IsPassedOrOneMore V qs told X → TakesFirst V qs (refused_from 0 told) X

-- The engine's other calls.

-- A purge changes no voter, whether it succeeds or fails.
pub record PurgesKeepVoters : Type 0 where
  pub answered : (home : LogDirectories) (V : World) (s t : EngineState) → Keeps home s V → KeepsMap s t → Keeps home t V
  pub refused : (home : LogDirectories) (V : World) (error : Error) (s t : EngineState) → Keeps home s V
      → KeepsOrLeavesMap error s t → KeepsOrLeaves home error t V

-- If an engine is dropped, as by a crash, its log's files on the disk can be opened, with the same contents and
-- pending batches.
abbrev pub EnginesLeaveLogs : Type 0
EnginesLeaveLogs = (s : EngineState) → LeavesLog s s.pipes.disk

-- After an engine was closed or dropped, its log's files can be opened with the same voters. `forked`: a round was cut
-- off, and the log was forked afterwards. The source's files still have voters that took the round's requests below one
-- position, except refused ones.
pub record VotersAreLeft : Type 0 where
  pub gone : (home : LogDirectories) (V : World) (s : EngineState) (d : Disk) → Keeps home s V → LeavesLog s d
      → IsLeftWith home d V
  pub forked : (home : LogDirectories) (V : World) (qs : List (ℕ × Request)) (refused : List ℕ) (d e : Disk)
      → IsLeftAmong home d (TakesFirst V qs refused) → LeavesLeft home d e
      → IsLeftAmong home e (TakesFirst V qs refused)

-- An empty log stores fresh voters, for which nothing was ever written. If a first open succeeds, the engine's log
-- stores them; if it fails, the log's files can be opened with them.
pub record FreshLogsHaveFreshVoters : Type 0 where
  pub answered : (home : LogDirectories) (e : EngineState) → Represents home e nothing_stands [] → Keeps home e fresh_world
  pub refused : (home : LogDirectories) (d : Disk) → IsRecoverableAs home d nothing_stands [] → IsLeftWith home d fresh_world

-- After a round was cut off, the log's files store voters that took its requests below one position, except refused
-- ones. `alone`: files that store the voters of `V` are a case of this, with a round without requests.
pub record LeftBehindRounds : Type 0 where
  pub gave_up : (home : LogDirectories) (V : World) (qs : List (ℕ × Request)) (told : List Reply) (s t : EngineState)
      → GaveUp home V qs told s t
      → IsLeftAmong home t.pipes.disk (TakesFirst V qs (refused_from 0 told))
  pub unsynced : (home : LogDirectories) (V : World) (qs : List (ℕ × Request)) (told : List Reply) (s t : EngineState)
      → Unsynced home V qs told s t
      → IsLeftAmong home t.pipes.disk (TakesFirst V qs (refused_from 0 told))
  pub alone : (home : LogDirectories) (V : World) (d : Disk) → IsLeftWith home d V
      → IsLeftAmong home d (TakesFirst V [] [])

-- A round was cut off, and an open then finds voters that took its requests below one position, except refused ones. If
-- the open fails, a later one finds such voters too. This holds for an open in place (no crash has touched the files),
-- for an open after a crash, and for an open of a fork.
abbrev pub OpensFindVoters : Type 0
OpensFindVoters = (home : LogDirectories) (d : Disk) (V : World) (qs : List (ℕ × Request)) (refused : List ℕ)
    (left : IsLeftAmong home d (TakesFirst V qs refused)) (k : ℕ) → k ≤ length left.pending
    → OpensAmong home d (TakesFirst V qs refused) left k
