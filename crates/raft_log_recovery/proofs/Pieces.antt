-- Pieces are written one after the other.
use Rattle.std.proofs.Common.{◌≡◌, ℕ, ◌+◌, ◌*◌, ◌<◌, ◌≤◌, suc, List, length, subst, arith}
use Rattle.std.specs.Int.{div_ceil}
use Rattle.std.proofs.lemmas.Grind.{div_ceil_times}
use Rattle.std.proofs.lemmas.Nat.{mul-le}
use Rattle.raft_log_fs.specs.Disk.{Disk}
use Rattle.raft_log_fs.specs.Exits.{Writes}
use Rattle.raft_log_fs.specs.declared.handle.Handle.{Handle}
use Rattle.raft_log_recovery.specs.Filling.{WritesPieces}

-- one more is written
pub pieces_more : (handle : Handle) (bytes : List ℕ) (n : ℕ) (a b c : Disk) → WritesPieces handle bytes n a b → Writes handle (n * length bytes) bytes b c → WritesPieces handle bytes (n + 1) a c
pieces_more handle bytes n a b c all one =
    let next : suc n ≡ n + 1 = omega arith in
    subst (λ (m : ℕ). WritesPieces handle bytes m a c) next (b, all, one)

-- each begins before the size is reached
pub piece_begins : (size n long : ℕ) → 0 < long → n < div_ceil size long → n * long < size
piece_begins size n long some below =
    let up = (div_ceil_times size long some).1 in
    let less : suc n ≤ div_ceil size long = omega (arith, below) in
    let same : long ≤ long = omega arith in
    let times : suc n * long ≤ div_ceil size long * long = mul-le (suc n) long (div_ceil size long) long less same in
    omega (arith, up, times)
