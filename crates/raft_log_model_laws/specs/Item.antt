-- The items of a log. A batch is written as a record, whose items may be of several raft groups. A record may be one
-- of several that form an atomic group.
use Rattle.std.specs.Prelude.{ℕ, List}

-- an item of one raft group; type `E` represents an entry, as its bytes or its location, and `V` a key's value
pub data Item (E V : Type 0) : Type 0 where
  -- consecutive entries from this index on; they replace all entries of the group from there on
  Run : ℕ → List E → Item E V
  -- all entries and keys of the raft group are deleted
  Clean : Item E V
  -- all entries of the raft group below this index are deleted
  Compact : ℕ → Item E V
  -- this key, a string of bytes, has this value
  Put : List ℕ → V → Item E V
  -- this key is deleted
  Del : List ℕ → Item E V

-- an item, with the number of its raft group
pub record Tagged (E V : Type 0) : Type 0 where
  pub group : ℕ
  pub item : Item E V

-- which part of an atomic group a record is; the number is that of the atomic group
pub data Mark : Type 0 where
  Begin : ℕ → Mark
  Middle : ℕ → Mark
  End : ℕ → Mark

-- What one write appends to a queue: a plain record, whose items count at once, or a part of an atomic group.
pub data Record (E V : Type 0) : Type 0 where
  Plain : List (Tagged E V) → Record E V
  Part : Mark → List (Tagged E V) → Record E V

-- the items of this record
abbrev pub items_of : {E V : Type 0} → Record E V → List (Tagged E V)
items_of (Plain xs) = xs
items_of (Part m xs) = xs
