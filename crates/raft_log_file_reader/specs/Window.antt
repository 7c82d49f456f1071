-- A part of a file's bytes that is kept in memory.
use Rattle.std.specs.Prelude.{◌≡◌, ℕ, ◌+◌, ◌≤◌, List, ◌++◌, length, drop}

-- `content` has `bytes` from the offset `start` on
pub record IsPart (start : ℕ) (bytes content : List ℕ) : Type 0 where
  pub inside : start ≤ length content
  pub rest : List ℕ
  pub splits : drop start content ≡ bytes ++ rest

-- the `size` bytes from `offset` on are all among `bytes`, which begin at the offset `start`
pub record Covers (start : ℕ) (bytes : List ℕ) (offset size : ℕ) : Type 0 where
  pub from : start ≤ offset
  pub to : offset + size ≤ start + length bytes
