-- How many of the worker threads of a recovery read each queue.
use Rattle.std.specs.Prelude.{ℕ, suc, zero, ◌+◌, ◌-◌, ◌*◌, ◌/◌, max}

-- How many of `all` workers read Append. `append` and `rewrite` say how many files the queues have. If both have files,
-- the result is Append's share by the number of files, rounded down, but at least one. Otherwise it is `all`.
abbrev pub append_share : ℕ → ℕ → ℕ → ℕ
append_share all zero rewrite = all
append_share all (suc append) zero = all
append_share all (suc append) (suc rewrite) = max 1 (all * suc append / (suc append + suc rewrite))

-- How many of `all` workers read Rewrite. If both queues have files, the workers that don't read Append do, but at
-- least one. Otherwise the result is `all`.
abbrev pub rewrite_share : ℕ → ℕ → ℕ → ℕ
rewrite_share all zero rewrite = all
rewrite_share all (suc append) zero = all
rewrite_share all (suc append) (suc rewrite) = max 1 (all - append_share all (suc append) (suc rewrite))
