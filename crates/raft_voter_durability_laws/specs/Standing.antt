-- Which voters an engine's log stores, and which voters a recovery may find on a disk. A voter is what one Raft group
-- keeps at the receiving side: term, vote, base, commit index and entries. A world `W` has one for each group.
use Rattle.std.specs.Prelude.{◌≡◌, ℕ, List, []}
use Rattle.raft_log_fs.specs.Disk.{Disk}
use Rattle.raft_log_engine_laws.specs.EngineState.{LogDirectories, LogMap, EngineState}
use Rattle.raft_log_engine_laws.specs.Holding.{Represents, IsRecoverableAs}
use Rattle.raft_log_engine_laws.specs.raft_log_dual_pipes.specs.Pipes.{LogRecordValue}
use Rattle.raft_voter_outline.specs.Outlines.{without_bytes}
use Rattle.raft_voter_outline.specs.State.{State}
use Rattle.raft_voter.specs.Rounds.{World}
use Rattle.raft_voter_records.specs.Voters.{Means}
use Rattle.raft_voter_records.specs.Among.{MeansAmong}

-- Between calls, the log of engine `s` in the directories `home` stores the voters of world `W`, and nothing is
-- pending.
pub record Keeps (home : LogDirectories) (s : EngineState) (W : World) : Type 0 where
  pub map : LogMap
  pub holds : Represents home s map []
  pub means : Means map W

-- A log's files are on disk `d` and can be opened. However many of the first pending batches a crash keeps, the log
-- then stores voters for which `P` holds.
pub record IsLeftAmong (home : LogDirectories) (d : Disk) (P : World → Type 0) : Type 0 where
  pub map : LogMap
  pub pending : List LogRecordValue
  pub left : IsRecoverableAs home d map pending
  pub among : MeansAmong P map pending

-- a log's files are on disk `d` and can be opened; however many pending batches a crash keeps, the log stores the
-- voters of `W`
abbrev pub IsLeftWith : LogDirectories → Disk → World → Type 0
IsLeftWith home d W = IsLeftAmong home d (λ X. X ≡ W)

-- each group's outline is its voter in `W` without the data of its entries
abbrev pub AreOutlines : (ℕ → State) → World → Type 0
AreOutlines os W = (g : ℕ) → os g ≡ without_bytes (W g)
