-- The places that a list of runs encodes, and its spare capacity.
use Rattle.std.specs.Prelude.{ℕ, ◌+◌, ◌*◌, ◌≤◌, ◌<◌, ◌^◌, List}
use Rattle.std.specs.VecDeque.{deque_capacity, deque_len}
use Rattle.raft_log_extents.specs.declared.place.Place.{Place}
use Rattle.raft_log_extents.specs.declared.runs.Runs.{Runs}
use Rattle.raft_log_extents.specs.Runs.{expand}

-- the places that the runs encode
abbrev pub places : Runs → List Place
places r = expand r.runs.items r.starts.items

-- the number of runs
abbrev pub run_total : Runs → ℕ
run_total r = deque_len r.runs

-- the number of starts
abbrev pub start_total : Runs → ℕ
start_total r = deque_len r.starts

-- the bytes that store the places: 64 for each run, and four for each start
abbrev pub bytes_of : Runs → ℕ
bytes_of r = run_total r * 64 + start_total r * 4

-- `n` more entries fit without an allocation, even if each needs a run and eight starts. The entry numbers and the
-- start numbers stay below 2 ^ 64.
abbrev pub HasRoom : Runs → ℕ → Type 0
HasRoom r n =
    (deque_len r.runs + n ≤ deque_capacity r.runs) × (deque_len r.starts + n * 8 ≤ deque_capacity r.starts)
    × (r.front + r.len + n < 2 ^ 64) × (r.base + deque_len r.starts + n * 8 < 2 ^ 64)
