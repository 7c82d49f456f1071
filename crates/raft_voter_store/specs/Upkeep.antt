-- What a purge does to the voters of a store.
use Rattle.raft_log_record_base.specs.declared.errors.Error.{Error}
use Rattle.raft_log_engine.specs.raft_log_engine_laws.specs.EngineState.{LogDirectories, EngineState}
use Rattle.raft_voter.specs.Rounds.{World}
use Rattle.raft_voter_durability_laws.specs.Standing.{Keeps}
use Rattle.raft_voter_durability_laws.specs.Calls.{KeepsOrLeaves}

-- if the log of `s` stores the voters of a world, with nothing pending, the log of `t` stores them too, in the same
-- directories
abbrev pub KeepsVoters : EngineState → EngineState → Type 0
KeepsVoters s t = (home : LogDirectories) (V : World) → Keeps home s V → Keeps home t V

-- A purge failed with `error`. If the log of `s` stored the voters of a world, the log of `t` stores the same voters.
-- Or the engine of `t` has failed, and its files can be opened with just these voters.
abbrev pub KeepsOrLeavesVoters : Error → EngineState → EngineState → Type 0
KeepsOrLeavesVoters error s t = (home : LogDirectories) (V : World) → Keeps home s V → KeepsOrLeaves home error t V
