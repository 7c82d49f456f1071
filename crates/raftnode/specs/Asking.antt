-- What the program's arguments ask for.
use Rattle.std.specs.Prelude.{◌≡◌, ◌≢◌, ℕ, Bool, false, List, [], ◌∷◌, None, Some, codes, nat_eq, string_bytes}
use Rattle.std.specs.List.{starts_with}
use Rattle.raftnode.specs.declared.asking.Asked.{Asked}
use Rattle.raftnode.specs.declared.asking.Asked.TheVariants.{Help, Node, Others}

-- whether an argument is an option, and not a path: it begins with a dash
abbrev pub is_option : List ℕ → Bool
is_option word = starts_with nat_eq word (codes "-")

-- the arguments that ask for the usage text
abbrev pub help_words : List (List ℕ)
help_words = codes "--help" ∷ []

-- the arguments `words` are one path, of a directory; it doesn't begin with a dash
abbrev pub AreDirectory : List (List ℕ) → List ℕ → Type 0
AreDirectory words directory = (words ≡ directory ∷ []) × (is_option directory ≡ false)

-- the arguments `words` are two paths, of a directory and of a file with settings; neither begins with a dash
abbrev pub AreBoth : List (List ℕ) → List ℕ → List ℕ → Type 0
AreBoth words directory settings =
    (words ≡ directory ∷ settings ∷ []) × (is_option directory ≡ false) × (is_option settings ≡ false)

-- What the arguments `words` ask for:
-- - `Help`: the usage text
-- - `Node`: a node over a directory, and with settings from a file if a second path is given
-- - `Others`: the arguments are none of these, so they are wrong
abbrev pub Asks : List (List ℕ) → Asked → Type 0
Asks words Help = words ≡ help_words
Asks words (Node directory None) = AreDirectory words (string_bytes directory)
Asks words (Node directory (Some settings)) = AreBoth words (string_bytes directory) (string_bytes settings)
Asks words Others = (words ≢ help_words)
    × ((directory : List ℕ) → AreDirectory words directory → ⊥)
    × ((directory settings : List ℕ) → AreBoth words directory settings → ⊥)
