-- Which names the listing of a directory has.
use Rattle.std.specs.Prelude.{◌≡◌, ℕ, ◌⊎◌, ◌++◌, List, [], ◌∷◌, Option, Some, None, MatchOption}
use Rattle.std.specs.Borrow.{Bor}
use Rattle.std.specs.declared.string.String.{String}
use Rattle.std.specs.String.{string_bytes}
use Rattle.std.proofs.Common.{Global}
use Rattle.raft_log_fs.specs.Disk.{IsPlain}
use Rattle.raft_log_fs_state.specs.declared.storage.Node.{Node}
use Rattle.raft_log_fs_state.specs.Storage.{file_named}

-- `node` is a file, and `path` consists of `directory`, a slash and `name`, which has no slash
pub record IsChild (directory path : List ℕ) (node : Node) (name : List ℕ) : Type 0 where
  pub joined : path ≡ directory ++ 47 ∷ name
  pub plain : IsPlain name
  pub file : file_named (Some node) ≡ None → ⊥

-- `told` is the name that the file at `path` has in `directory`. It is `None` if the node at `path` is no file, or if
-- `path` isn't directly in `directory`.
abbrev pub TellsChild : List ℕ → List ℕ → Node → Option (Bor (List ℕ)) → Type 0
TellsChild directory path node told =
    MatchOption told ((name : List ℕ) → IsChild directory path node name → ⊥) (λ name.
    IsChild directory path node name.now)

-- `names` are the names of the files in `directory` among these entries, in the order of the entries
abbrev pub ListsNames : List ℕ → List (String Global × Node) → List (List ℕ) → Type 0
ListsNames directory [] names = names ≡ []
ListsNames directory (e ∷ es) names =
    ((name : List ℕ) × (rest : List (List ℕ)) × (names ≡ name ∷ rest)
    × IsChild directory (string_bytes e.0) e.1 name × ListsNames directory es rest)
    ⊎ (((name : List ℕ) → IsChild directory (string_bytes e.0) e.1 name → ⊥) × ListsNames directory es names)
