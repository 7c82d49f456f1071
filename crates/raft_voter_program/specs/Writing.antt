-- Which bytes a writer got. `old` and `new` are the bytes that the writer has before and after, `None` if they aren't
-- known.
use Rattle.std.specs.Prelude.{◌≡◌, ℕ, ◌<◌, List, ◌++◌, length, Option}
use Rattle.std.specs.Io.KnownBytes.{Appends}

-- the writer got a prefix of `bytes`, and `left` is the rest of them
pub record TakesFront (old new : Option (List ℕ)) (bytes left : List ℕ) : Type 0 where
  pub front : List ℕ
  pub whole : bytes ≡ front ++ left
  pub gained : Appends old new front

-- the writer got a prefix of `bytes`, perhaps an empty one, but not all of them
pub record StopsWithin (old new : Option (List ℕ)) (bytes : List ℕ) : Type 0 where
  pub left : List ℕ
  pub some : 0 < length left
  pub taken : TakesFront old new bytes left
