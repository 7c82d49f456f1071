-- Keys that are reserved for the log itself.
use Rattle.std.specs.Prelude.{ℕ, Bool, false, List, [], ◌∷◌, ◌==◌, ◌&&◌}

-- the key begins with two underscores
abbrev pub is_internal : List ℕ → Bool
is_internal [] = false
is_internal (a ∷ []) = false
is_internal (a ∷ b ∷ rest) = (a == 95) && (b == 95)
