-- How far a change lengthens a file.
use Rattle.std.specs.Prelude.{◌≡◌, ℕ, ◌+◌, ◌-◌, ◌<◌, List, [], ◌∷◌, ◌++◌, length}
use Rattle.std.proofs.Common.{◌∙◌, ap, arith, take, drop}
use Rattle.std.proofs.lemmas.List.{length-append, length-drop, length-take-le, length-replicate}
use Rattle.raft_log_fs.specs.Disk.{zeros, grown, spliced, overwritten}

pub length-grown : (size : ℕ) (old : List ℕ) → length (grown size old) ≡ length old + (size - length old)
length-grown size old = length-append old (zeros (size - length old)) ∙ ap (λ (n : ℕ). length old + n) (length-replicate {A = ℕ} (size - length old) 0)

length-spliced : (at : ℕ) (bytes old : List ℕ) → length (spliced at bytes old) ≡ length old + (at + length bytes - length old)
length-spliced at bytes old =
    let room : List ℕ = grown (at + length bytes) old in
    let size : length room ≡ length old + (at + length bytes - length old) = length-grown (at + length bytes) old in
    let front : length (take at room) ≡ at = length-take-le at room (omega (arith, size)) in
    let whole : length (spliced at bytes old) ≡ at + (length bytes + (length room - (at + length bytes))) =
    length-append (take at room) (bytes ++ drop (at + length bytes) room)
    ∙ (ap (λ (n : ℕ). n + length (bytes ++ drop (at + length bytes) room)) front
    ∙ ap (λ (n : ℕ). at + n) (length-append bytes (drop (at + length bytes) room)
    ∙ ap (λ (n : ℕ). length bytes + n) (length-drop (at + length bytes) room))) in
    omega (arith, whole, size)

-- a write of some bytes fills its file up to its end
pub length-written : (at : ℕ) (bytes old : List ℕ) → 0 < length bytes → length (overwritten at bytes old) ≡ length old + (at + length bytes - length old)
length-written at [] old some = absurd (omega arith)
length-written at (b ∷ bs) old some = length-spliced at (b ∷ bs) old
