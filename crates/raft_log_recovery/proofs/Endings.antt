-- What is told of files that were read.
use Rattle.std.proofs.Common.{◌≡◌, ℕ, ◌≤◌, zero, suc, List, [], ◌∷◌, length, refl, ap, arith}
use Rattle.raft_log_replay.specs.Machines.{Batch}
use Rattle.raft_log_replay.specs.Segments.{HasReadSegments, read_by}
use Rattle.raft_log_replay.specs.Sources.{HoldEach}

one_each : {E : Type 0} (holds : ℕ → List Batch → E → Type 0) (k : ℕ) (bss : List (List Batch)) (es : List E) → HoldEach holds k bss es → length bss ≡ length es
one_each holds k [] [] held = refl
one_each holds k [] (e ∷ es) held = absurd held
one_each holds k (bs ∷ bss) [] held = absurd held
one_each holds k (bs ∷ bss) (e ∷ es) held = ap suc (one_each holds (suc k) bss es held.1)

all_or_none : (workers count : ℕ) → read_by workers count ≤ count
all_or_none zero count = omega arith
all_or_none (suc workers) count = omega arith

-- there are no more of them than files
pub endings_fit : {M E : Type 0} (holds : ℕ → List Batch → E → Type 0) (reads : List Batch → M → Type 0) (workers count : ℕ) (machine : M) (endings : List E)
    → HasReadSegments holds reads 0 (read_by workers count) machine endings → length endings ≤ count
endings_fit holds reads workers count machine endings read =
    omega (arith, one_each holds 0 read.batches endings read.held, read.all, all_or_none workers count)
