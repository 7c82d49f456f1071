-- What the bytes of a plain file begin with: a number, an entry, several entries or a record. `rest` are the bytes
-- after it.
use Rattle.std.specs.Prelude.{◌≡◌, ℕ, ◌<◌, ◌^◌, true, List, ◌++◌, length}
use Rattle.std.specs.List.{flat_map}
use Rattle.raft_voter_messages.specs.declared.reply.Entry.{Entry}
use Rattle.raft_voter_messages.specs.StoredForms.{number_text, stored_entry_fits}
use Rattle.raft_voter.specs.State.{State}
use Rattle.raft_voter_plain.specs.Records.{AreEntries, IsStorableRecord, stored_entry, voter_record}

-- the bytes are `front`, which has `count` bytes, then `rest`
pub record StartsWith (bytes : List ℕ) (count : ℕ) (front rest : List ℕ) : Type 0 where
  pub size : length front ≡ count
  pub text : bytes ≡ front ++ rest

-- the bytes are the eight bytes of `number`, then `rest`
pub record BeginsWithNumber (bytes : List ℕ) (number : ℕ) (rest : List ℕ) : Type 0 where
  pub small : number < 2 ^ 64
  pub text : bytes ≡ number_text number ++ rest

-- the bytes are the stored entry `e`, in range and at `index`, then `rest`
pub record BeginsWithEntry (bytes : List ℕ) (index : ℕ) (e : Entry) (rest : List ℕ) : Type 0 where
  pub at_index : e.index ≡ index
  pub in_range : stored_entry_fits e ≡ true
  pub text : bytes ≡ stored_entry e ++ rest

-- the bytes are the stored entries `es`, `count` of them and in range, then `rest`; their indexes rise by one from
-- `first`
pub record BeginsWithEntries (bytes : List ℕ) (first count : ℕ) (es : List Entry) (rest : List ℕ)
    : Type 0 where
  pub entries : AreEntries first es
  pub size : length es ≡ count
  pub text : bytes ≡ flat_map stored_entry es ++ rest

-- the bytes are the record `r`, which can be stored, then `rest`
pub record BeginsWithRecord (bytes : List ℕ) (r : ℕ × State) (rest : List ℕ) : Type 0 where
  pub storable : IsStorableRecord r
  pub text : bytes ≡ voter_record r ++ rest
