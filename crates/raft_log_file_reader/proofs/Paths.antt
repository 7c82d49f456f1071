-- The name in a path stands behind its last slash.
use Rattle.std.specs.Prelude.{suc}
use Rattle.std.proofs.Common.{◌≡◌, ℕ, ◌+◌, ◌-◌, ◌<◌, ◌≤◌, List, [], ◌∷◌, ◌++◌, length, refl, sym, ◌∙◌, ap, subst, arith, inl, inr, take, drop, get_or}
use Rattle.std.proofs.lemmas.List.{take-append-drop, drop_more, get_or-drop, get_or-append_right, length-append, length-drop}
use Rattle.std.proofs.lemmas.Bool.{cases_order}
use Rattle.raft_log_record_base.specs.declared.pipe_log.FileId.{FileId}
use Rattle.raft_log_fs.specs.Disk.{IsPathIn}
use Rattle.raft_log_file_reader.specs.Files.{IsNameOf, IsLogPath}

slash_in : (directory name : List ℕ) → get_or (directory ++ 47 ∷ name) (length directory) 0 ≡ 47
slash_in [] name = refl
slash_in (b ∷ bs) name = slash_in bs name

name_in : (directory name : List ℕ) → drop (length directory + 1) (directory ++ 47 ∷ name) ≡ name
name_in [] name = refl
name_in (b ∷ bs) name =
    let n : suc (length bs) + 1 ≡ suc (length bs + 1) = omega arith in
    ap (λ (k : ℕ). drop k (b ∷ (bs ++ 47 ∷ name))) n ∙ name_in bs name

-- the last slash of a path is at this place
pub record LastSlash (path : List ℕ) (at : ℕ) : Type 0 where
  pub below : at < length path
  pub slash : get_or path at 0 ≡ 47
  pub last : (i : ℕ) → at < i → i < length path → get_or path i 0 ≡ 47 → ⊥

ends_at : (path directory : List ℕ) (at : ℕ) → LastSlash path at → (inside : IsPathIn directory path) → length directory ≡ at
ends_at path directory at is inside =
    let size : length path ≡ length directory + (length inside.name + 1) = omega (arith, ap length inside.joined, length-append directory (47 ∷ inside.name)) in
    let there : get_or path (length directory) 0 ≡ 47 = ap (λ (xs : List ℕ). get_or xs (length directory) 0) inside.joined ∙ slash_in directory inside.name in
    elim (cases_order (length directory) at) [
      | inl same ↦ same
      | inr rest ↦ elim rest [
        | inl before ↦
            let behind : length directory ≤ at = omega (arith, before) in
            let reached : at - length directory ≡ suc (at - length directory - 1) = omega (arith, before) in
            absurd (inside.plain (at - length directory - 1) (omega (arith, size, before, is.below))
            (sym (ap (λ (n : ℕ). get_or (47 ∷ inside.name) n 0) reached)
            ∙ (sym (get_or-append_right directory (47 ∷ inside.name) (length directory) at 0 refl behind)
            ∙ (sym (ap (λ (xs : List ℕ). get_or xs at 0) inside.joined) ∙ is.slash))))
        | inr after ↦ absurd (is.last (length directory) after (omega (arith, size)) there)
      ]
    ]

-- the path in its directory
abbrev own_path : (path : List ℕ) (at : ℕ) → LastSlash path at → IsPathIn (take at path) path
own_path path at is = record {
  name = drop (at + 1) path;
  joined = sym (take-append-drop at path) ∙ ap (λ (xs : List ℕ). take at path ++ xs) (drop_more path at 0 is.below ∙ ap (λ (b : ℕ). b ∷ drop (at + 1) path) is.slash);
  plain = λ k less slash. is.last (at + 1 + k) (omega arith) (omega (arith, less, length-drop (at + 1) path)) (sym (get_or-drop (at + 1) path k 0) ∙ slash);
}

pub log_path : (id : FileId) (path : List ℕ) (at : ℕ) → LastSlash path at → IsNameOf id (drop (at + 1) path) → IsLogPath id path
log_path id path at is named = record { directory = take at path; inside = own_path path at is; named = named }

pub path_name : (id : FileId) (path : List ℕ) (at : ℕ) → LastSlash path at → IsLogPath id path → IsNameOf id (drop (at + 1) path)
path_name id path at is says =
    let ends = ends_at path says.directory at is says.inside in
    subst (IsNameOf id) (sym (ap (λ (n : ℕ). drop (n + 1) path) (sym ends) ∙ (ap (drop (length says.directory + 1)) says.inside.joined ∙ name_in says.directory says.inside.name))) says.named

pub no_path : (id : FileId) (path : List ℕ) → ((i : ℕ) → i < length path → get_or path i 0 ≡ 47 → ⊥) → IsLogPath id path → ⊥
no_path id path none says =
    none (length says.directory) (omega (arith, ap length says.inside.joined, length-append says.directory (47 ∷ says.inside.name)))
    (ap (λ (xs : List ℕ). get_or xs (length says.directory) 0) says.inside.joined ∙ slash_in says.directory says.inside.name)
