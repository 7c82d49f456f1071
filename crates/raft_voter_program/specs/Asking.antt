-- What the program's arguments ask for.
use Rattle.std.specs.Prelude.{◌≡◌, ◌≢◌, ℕ, List, [], ◌∷◌, codes, string_bytes}
use Rattle.raft_voter_program.specs.declared.arguments.Arguments.{Arguments}
use Rattle.raft_voter_program.specs.declared.arguments.Arguments.TheVariants.{Nothing, Help, Load, Save, Others}

-- the arguments that ask for the usage text
abbrev pub help_words : List (List ℕ)
help_words = codes "--help" ∷ []

-- the arguments `words` are `option` and a directory
abbrev pub AreOption : List ℕ → List (List ℕ) → List ℕ → Type 0
AreOption option words directory = words ≡ option ∷ directory ∷ []

-- What the arguments `words` ask for:
-- - `Nothing`: to run a session; there are no arguments
-- - `Help`: the usage text
-- - `Load`, `Save`: to load or to save files; the arguments are this option and a directory
-- - `Others`: the arguments are none of these, so they are wrong
abbrev pub Asks : List (List ℕ) → Arguments → Type 0
Asks words Nothing = words ≡ []
Asks words Help = words ≡ help_words
Asks words (Load directory) = AreOption (codes "--load") words (string_bytes directory)
Asks words (Save directory) = AreOption (codes "--save") words (string_bytes directory)
Asks words Others = (words ≢ []) × (words ≢ help_words)
    × ((directory : List ℕ) → AreOption (codes "--load") words directory → ⊥)
    × ((directory : List ℕ) → AreOption (codes "--save") words directory → ⊥)
