-- Which files are pinned against a purge.
use Rattle.std.specs.Prelude.{◌≡◌, ℕ, Option, None}
use Rattle.raft_log_record_base.specs.declared.pipe_log.LogQueue.{LogQueue}
use Rattle.raft_log_dual_pipes.specs.Pipes.{LogPipes}

-- There are pipes in the state `v` that pin files of this queue as `held` says: the files from the number in `held` on,
-- or none if `held` is `None`.
abbrev pub PipesHoldBack : {P : Type 0} → (P → LogPipes) → (P → LogQueue → Option ℕ → Type 0)
    → LogQueue → LogPipes → Option ℕ → Type 0
PipesHoldBack {P} shown holds_back queue v held =
    (pipes : P) × (shown pipes ≡ v) × holds_back pipes queue held

-- no file is pinned, whatever the state of the pipes
abbrev pub NothingIsHeldBack : (LogPipes → Option ℕ → Type 0) → Type 0
NothingIsHeldBack hold_back = (v : LogPipes) (held : Option ℕ) → hold_back v held → held ≡ None
