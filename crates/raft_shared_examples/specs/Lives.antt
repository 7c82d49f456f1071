-- The lives of a store. In the first, two threads share it. In the second, its voters are listed.
use Rattle.std.specs.Prelude.{◌≡◌, ℕ, List}
use Rattle.raft_log_fs.specs.Disk.{Disk}
use Rattle.raft_log_file_settings.specs.declared.config.Config.{Config}
use Rattle.raft_log_engine.specs.raft_log_engine_laws.specs.EngineState.{EngineState}
use Rattle.raft_voter_outline.specs.Kept.{outlines_in}
use Rattle.raft_voter_outline.specs.State.{State}
use Rattle.raft_voter_messages.specs.declared.round.Round.{Round}
use Rattle.raft_voter_group_laws.specs.Calls.{after_calls, calls_of}
use Rattle.raft_voter_group_laws.specs.Laws.{HasOneVoter}
use Rattle.raft_voter_outline.specs.State.{fresh}
use Rattle.raft_voter_recovery.specs.Reading.{ListsVoters, world_in}
use Rattle.raft_voter_store.specs.Opening.{OpensVoters}
use Rattle.raft_voter_shared.specs.Openings.{untaken}
use Rattle.raft_voter_shared_log.specs.Opening.{OpensStore}
use Rattle.raft_voter_shared_log.specs.declared.store.LogStore.{LogStore}
use Rattle.raft_shared_examples.specs.Sharing.{SharesAndCloses}
use Rattle.raft_shared_examples.specs.declared.lives.Shared.{Shared}

-- A store was opened with the settings `config` from the files `old`. Then it was shared and closed.
pub record LivesShared {F : Type 0} (disk : F → Disk) (tells : F → List ℕ → ℕ → Type 0)
    (shows : LogStore F → EngineState) (config : Config) (old : F) (shared : Shared F) : Type 0 where
  pub store : LogStore F
  pub config_is : store.config ≡ config
  pub opens : OpensStore disk tells config old (shows store) (outlines_in store.store.outlines)
  pub shares : SharesAndCloses disk shows store shared

-- A store was opened with the settings `config` from the files `old`, and these are its voters.
pub record ListsFound {F : Type 0} (disk : F → Disk) (tells : F → List ℕ → ℕ → Type 0) (config : Config) (old : F)
    (voters : List (ℕ × State)) : Type 0 where
  pub engine : EngineState
  pub outlines : ℕ → State
  pub opens : OpensVoters disk tells config old engine outlines
  pub lists : ListsVoters engine voters

-- What the second life shows of the first, for each group. The group's voter starts fresh, and never stops. It takes
-- the group's requests in the order of the journal, except those that were refused, and those of rounds without
-- replies.
-- - `seen`: it gives all replies to the group.
-- - `kept`: in the second life it is listed as the group's voter. A group that isn't listed has a fresh voter.
pub record ShowsFirstLife (journal : List Round) (voters : List (ℕ × State)) : Type 0 where
  pub seen : (group : ℕ) → HasOneVoter group journal (untaken journal)
  pub kept : (group : ℕ) → world_in voters group ≡ after_calls fresh (calls_of group journal (untaken journal))
