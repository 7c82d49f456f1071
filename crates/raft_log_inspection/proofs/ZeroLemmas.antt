-- Zeros of a file, piece by piece.
use Rattle.std.proofs.Common.{◌≡◌, ◌↔◌, ℕ, ◌+◌, ◌≤◌, Bool, true, false, not, IsTrue, List, ◌++◌, length, take, drop, sym, ap, subst, ◌∙◌, rules}
use Rattle.std.proofs.lemmas.List.{drop-drop, length-take-le, take-append-drop}
use Rattle.std.proofs.lemmas.List.Elements.{All-append, All-drop, All-take}
use Rattle.std.proofs.Math.Seq.{take-append_seam}
use Rattle.raft_log_inspection.specs.Intact.{AreZeros}

-- what a read of so many bytes left in the front of the room
pub read_front : (zs before after : List ℕ) (count : ℕ) → count ≤ length zs → after ≡ take count zs ++ drop count before → take count after ≡ take count zs
read_front zs before after count le is =
    ap (take count) is
    ∙ subst (λ (n : ℕ). take n (take count zs ++ drop count before) ≡ take count zs) (length-take-le count zs le) (take-append_seam (take count zs) (drop count before))

-- behind zeros all are zeros exactly if the rest is
pub zeros_behind : (content : List ℕ) (at count : ℕ) → AreZeros (take count (drop at content)) → AreZeros (drop at content) ↔ AreZeros (drop (at + count) content)
zeros_behind content at count front =
    let rest = drop-drop count at content in (
      (λ all. subst AreZeros rest (All-drop (λ byte. byte ≡ 0) count (drop at content) all)),
      (λ behind. subst AreZeros (take-append-drop count (drop at content)) (All-append (λ byte. byte ≡ 0) (take count (drop at content)) (drop count (drop at content)) front (subst AreZeros (sym rest) behind))),
    )

pub not_false : (b : Bool) → not b ≡ false → IsTrue b
not_false true is = search rules
not_false false is = absurd cc

-- a piece that isn't all zeros, and so the rest isn't
pub not_zeros : (has : Bool) (content : List ℕ) (offset at count : ℕ) → not has ≡ true → (IsTrue has ↔ AreZeros (take count (drop at content)))
    → (AreZeros (drop offset content) ↔ AreZeros (drop at content)) → IsTrue false ↔ AreZeros (drop offset content)
not_zeros true content offset at count is piece since = absurd cc
not_zeros false content offset at count is piece since = (
  (λ never. absurd (search rules)),
  (λ all. piece.1 (All-take (λ byte. byte ≡ 0) count (drop at content) (since.0 all))),
)
