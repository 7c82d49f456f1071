-- The names that a listing has, made entry by entry.
use Rattle.std.specs.Prelude.{◌++◌, ℕ, List, [], ◌∷◌}
use Rattle.std.specs.String.{string_bytes}
use Rattle.std.proofs.Common.{refl, ap, inl, inr, Global, String}
use Rattle.raft_log_fs_state.specs.declared.storage.Node.{Node}
use Rattle.raft_log_fs_state.specs.Listing.{IsChild, ListsNames}

-- one more entry, which is listed or isn't
pub names_more : (directory : List ℕ) (es : List (String Global × Node)) (e : String Global × Node) (names : List (List ℕ)) (name : List ℕ)
    → ListsNames directory es names → IsChild directory (string_bytes e.0) e.1 name → ListsNames directory (es ++ e ∷ []) (names ++ name ∷ [])
names_more directory [] e names name is child = inl (name, [], ap (λ (xs : List (List ℕ)). xs ++ name ∷ []) is, child, refl)
names_more directory (f ∷ es) e names name (inl (first, rest, same, own, more)) child =
    inl (first, rest ++ name ∷ [], ap (λ (xs : List (List ℕ)). xs ++ name ∷ []) same, own, names_more directory es e rest name more child)
names_more directory (f ∷ es) e names name (inr (other, more)) child = inr (other, names_more directory es e names name more child)

pub names_skip : (directory : List ℕ) (es : List (String Global × Node)) (e : String Global × Node) (names : List (List ℕ))
    → ListsNames directory es names → ((name : List ℕ) → IsChild directory (string_bytes e.0) e.1 name → ⊥) → ListsNames directory (es ++ e ∷ []) names
names_skip directory [] e names is none = inr (none, is)
names_skip directory (f ∷ es) e names (inl (first, rest, same, own, more)) none = inl (first, rest, same, own, names_skip directory es e rest more none)
names_skip directory (f ∷ es) e names (inr (other, more)) none = inr (other, names_skip directory es e names more none)
