-- A path's directory ends before its last slash.
use Rattle.std.specs.Prelude.{◌≡◌, ℕ, ◌+◌, ◌-◌, ◌<◌, ◌≤◌, List, ◌∷◌, ◌++◌, length, suc}
use Rattle.std.proofs.Common.{refl, sym, ◌∙◌, ap, arith, inl, inr, take, drop, get_or}
use Rattle.std.proofs.lemmas.List.{take-append-drop, drop_more, get_or-drop, get_or-append_right, length-append, length-drop, take_at}
use Rattle.std.proofs.lemmas.Bool.{cases_order}
use Rattle.raft_log_fs.specs.Disk.{IsPathIn, IsPlain}
use Rattle.raft_log_fs.proofs.Public.{slash_in}

pub own_parts : (path : List ℕ) (at : ℕ) → at < length path → get_or path at 0 ≡ 47 → ((i : ℕ) → at < i → i < length path → get_or path i 0 ≡ 47 → ⊥)
    → (path ≡ take at path ++ 47 ∷ drop (at + 1) path) × IsPlain (drop (at + 1) path)
own_parts path at below slash last = (
  sym (take-append-drop at path) ∙ ap (λ (xs : List ℕ). take at path ++ xs) (drop_more path at 0 below ∙ ap (λ (b : ℕ). b ∷ drop (at + 1) path) slash),
  λ k less is. last (at + 1 + k) (omega arith) (omega (arith, less, length-drop (at + 1) path)) (sym (get_or-drop (at + 1) path k 0) ∙ is),
)

pub own_path : (path : List ℕ) (at : ℕ) → at < length path → get_or path at 0 ≡ 47 → ((i : ℕ) → at < i → i < length path → get_or path i 0 ≡ 47 → ⊥) → IsPathIn (take at path) path
own_path path at below slash last = let parts = own_parts path at below slash last in record { name = drop (at + 1) path; joined = parts.0; plain = parts.1 }

pub same_directory : (path directory : List ℕ) (at : ℕ) → IsPathIn directory path → at < length path → get_or path at 0 ≡ 47
    → ((i : ℕ) → at < i → i < length path → get_or path i 0 ≡ 47 → ⊥) → take at path ≡ directory
same_directory path directory at inside below slash last =
    let size : length path ≡ length directory + (length inside.name + 1) = ap length inside.joined ∙ (length-append directory (47 ∷ inside.name) ∙ ap (λ (n : ℕ). length directory + n) (let one : suc (length inside.name) ≡ length inside.name + 1 = omega arith in one)) in
    let there : get_or path (length directory) 0 ≡ 47 = ap (λ (xs : List ℕ). get_or xs (length directory) 0) inside.joined ∙ slash_in directory inside.name in
    elim (cases_order (length directory) at) [
      | inl same ↦ ap (take at) inside.joined ∙ take_at directory (47 ∷ inside.name) at same
      | inr rest ↦ elim rest [
        | inl before ↦
            let behind : length directory ≤ at = omega (arith, before) in
            let reached : at - length directory ≡ suc (at - length directory - 1) = omega (arith, before) in
            absurd (inside.plain (at - length directory - 1) (omega (arith, size, before, below))
            (sym (ap (λ (n : ℕ). get_or (47 ∷ inside.name) n 0) reached)
            ∙ (sym (get_or-append_right directory (47 ∷ inside.name) (length directory) at 0 refl behind)
            ∙ (sym (ap (λ (xs : List ℕ). get_or xs at 0) inside.joined) ∙ slash))))
        | inr after ↦ absurd (last (length directory) after (omega (arith, size)) there)
      ]
    ]
