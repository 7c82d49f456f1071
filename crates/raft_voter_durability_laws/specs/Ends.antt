-- A round in progress, and the ways in which it ends.
use Rattle.std.specs.Prelude.{◌≡◌, ℕ, Bool, false, true, List, [], ◌++◌}
use Rattle.raft_log_fs.specs.Causes.{Fails, IsLater}
use Rattle.raft_log_model_laws.specs.Groups.{taken}
use Rattle.raft_log_engine_laws.specs.EngineState.{LogDirectories, LogMap, EngineState, has_failed}
use Rattle.raft_log_engine_laws.specs.Holding.{EndsAt, Represents}
use Rattle.raft_log_engine_laws.specs.raft_log_dual_pipes.specs.Pipes.{LogRecordValue}
use Rattle.raft_voter_messages.specs.declared.reply.Reply.{Reply}
use Rattle.raft_voter_messages.specs.declared.request.Request.{Request}
use Rattle.raft_voter_outline.specs.State.{State}
use Rattle.raft_voter.specs.Rounds.{World, after}
use Rattle.raft_voter_records.specs.Voters.{Means}
use Rattle.raft_voter_records.specs.Among.{MeansAmong}
use Rattle.raft_voter_durability_laws.specs.Standing.{AreOutlines, IsLeftAmong, Keeps}
use Rattle.raft_voter_durability_laws.specs.Rounds.{AreTold, IsPassed, IsPassedOrOneMore, took}

-- A round of the requests `qs` got as far as the replies `told`. It began with engine `s` and the outlines `os`, and
-- now has engine `t` and the outlines `us`.
-- - `said`, `silent`, `holds`: `said` are the round's records, none if `wrote` is false. A prefix of them may be
--   durable.
-- - `leads`: these records lead from the voters at the round's start to the voters after the requests taken.
-- - `among`: if only a prefix of the records is kept, it leads to the voters after a prefix of the requests taken.
-- - `outlines`: the outlines `us` are those of the voters after the requests taken.
-- - `tells`: each reply that isn't `Refused` is the voter's own.
pub record Went (qs : List (ℕ × Request)) (told : List Reply) (wrote : Bool) (s t : EngineState) (os us : ℕ → State)
    : Type 0 where
  pub said : List LogRecordValue
  pub silent : wrote ≡ false → said ≡ []
  pub alive : has_failed t ≡ false
  pub later : IsLater s.pipes.disk t.pipes.disk
  pub holds : (home : LogDirectories) (m : LogMap) (pending : List LogRecordValue) → Represents home s m pending
      → EndsAt home t m (pending ++ said)
  pub leads : (m : LogMap) (W : World) → Means m W → AreOutlines os W
      → Means (taken m said) (after W (took qs told))
  pub among : (m : LogMap) (W : World) → Means m W → AreOutlines os W → MeansAmong (IsPassed W qs told) m said
  pub outlines : (W : World) → AreOutlines os W → AreOutlines us (after W (took qs told))
  pub tells : (home : LogDirectories) (m : LogMap) (W : World) → Represents home s m [] → Means m W → AreOutlines os W
      → AreTold W qs told

-- A round of the requests `qs` began with engine `s` and the voters of `V`, and ended with the replies `told`. Engine
-- `t` runs on, and its log stores the voters after the requests taken, with nothing pending. The outlines `us` are
-- those of these voters. Each reply that isn't `Refused` is the voter's own.
pub record Answered (home : LogDirectories) (V : World) (qs : List (ℕ × Request)) (told : List Reply) (s t : EngineState)
    (us : ℕ → State) : Type 0 where
  pub alive : has_failed t ≡ false
  pub later : IsLater s.pipes.disk t.pipes.disk
  pub keeps : Keeps home t (after V (took qs told))
  pub outlines : AreOutlines us (after V (took qs told))
  pub tells : AreTold V qs told

-- A round of the requests `qs` began with engine `s` and the voters of `V`. The engine, now `t`, failed at one of these
-- requests, as a file system call failed. `told` has the replies to the requests before that one. Replies that aren't
-- `Refused` are the voters' own. The log's files can be opened. They store the voters after a prefix of the requests
-- before that one, without those that were refused; or after all of these and the request at which the engine failed.
pub record GaveUp (home : LogDirectories) (V : World) (qs : List (ℕ × Request)) (told : List Reply) (s t : EngineState)
    : Type 0 where
  pub failed : has_failed t ≡ true
  pub fails : Fails s.pipes.disk t.pipes.disk
  pub tells : AreTold V qs told
  pub left : IsLeftAmong home t.pipes.disk (IsPassedOrOneMore V qs told)

-- A round of the requests `qs` began with engine `s` and the voters of `V`. The sync at its end failed, as a file
-- system call failed; the engine is now `t`. `told` has the replies; those that aren't `Refused` are the voters' own.
-- The log's files can be opened, and store the voters after a prefix of the requests taken.
pub record Unsynced (home : LogDirectories) (V : World) (qs : List (ℕ × Request)) (told : List Reply) (s t : EngineState)
    : Type 0 where
  pub failed : has_failed t ≡ true
  pub fails : Fails s.pipes.disk t.pipes.disk
  pub tells : AreTold V qs told
  pub left : IsLeftAmong home t.pipes.disk (IsPassed V qs told)
