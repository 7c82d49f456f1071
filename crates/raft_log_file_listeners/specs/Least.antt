-- What several listeners pin together. Each listener returns a number, and pins the files from that number on. Or it
-- returns `None`, and pins no file.
use Rattle.std.specs.Prelude.{◌≡◌, ◌≤◌, ℕ, min, Option, Some, None, IfSome, List, [], ◌∷◌, All, Contains}
use Rattle.std.specs.List.{AllZip}

-- the lesser of two numbers; if there is only one, that number
abbrev pub lesser : Option ℕ → Option ℕ → Option ℕ
lesser None other = other
lesser (Some n) None = Some n
lesser (Some n) (Some m) = Some (min n m)

-- the second argument is the least number in the list `said`, or `None` if the list has no number
abbrev pub IsLeast : List (Option ℕ) → Option ℕ → Type 0
IsLeast said None = All (λ one. one ≡ None) said
IsLeast said (Some n) = Contains said (Some n) × All (λ one. IfSome one (λ m. n ≤ m)) said

-- `held` is what the listeners `all` pin together: the least number that one of them returns, or `None` if none returns
-- a number
pub record AllHoldBack {A : Type 0} (holds : A → Option ℕ → Type 0) (all : List A) (held : Option ℕ)
    : Type 0 where
  pub said : List (Option ℕ)
  pub each : AllZip holds all said
  pub least : IsLeast said held

-- `held` is what two listeners pin together. `one` and `other` say what each may return. `held` is the lesser number,
-- or `None` if neither returns a number.
pub record BothHoldBack (one other : Option ℕ → Type 0) (held : Option ℕ) : Type 0 where
  pub first : Option ℕ
  pub second : Option ℕ
  pub says : one first
  pub says_too : other second
  pub least : IsLeast (first ∷ second ∷ []) held
