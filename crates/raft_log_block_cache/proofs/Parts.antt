-- Parts of bytes, behind which more may stand.
use Rattle.std.proofs.Common.{◌≡◌, ℕ, ◌+◌, ◌≤◌, List, ◌++◌, length, take, drop, ap, sym, ◌∙◌, arith}
use Rattle.std.proofs.lemmas.List.{take-append-drop, take-append-le, drop-append-le, length-drop}
use Rattle.raft_log_block_cache.specs.Stored.{part}

pub part_front : (offset len : ℕ) (bytes more : List ℕ) → offset + len ≤ length bytes → part offset len (bytes ++ more) ≡ part offset len bytes
part_front offset len bytes more inside =
    ap (λ (l : List ℕ). take len l) (drop-append-le offset bytes more (omega (arith, inside)))
    ∙ take-append-le len (drop offset bytes) more (omega (arith, inside, length-drop offset bytes))

-- a part of the first bytes is that part of them all
pub part_of_front : (offset len n : ℕ) (bytes front : List ℕ) → front ≡ take n bytes → offset + len ≤ length front → part offset len front ≡ part offset len bytes
part_of_front offset len n bytes front first inside =
    sym (part_front offset len front (drop n bytes) inside)
    ∙ ap (λ (l : List ℕ). part offset len (l ++ drop n bytes)) first
    ∙ ap (λ (l : List ℕ). part offset len l) (take-append-drop n bytes)
