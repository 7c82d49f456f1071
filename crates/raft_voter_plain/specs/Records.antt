-- The records in the bytes of a plain file, and the voters that they store.
use Rattle.std.specs.Prelude.{◌≡◌, ℕ, ◌+◌, ◌<◌, ◌^◌, Bool, true, false, List, [], ◌∷◌, ◌++◌, length, unwrap_or}
use Rattle.std.specs.BTreeMap.{get}
use Rattle.std.specs.List.{flat_map, list_all}
use Rattle.std.specs.Ordering.{nat_cmp}
use Rattle.std.specs.declared.alloc.Global.{Global}
use Rattle.std.specs.declared.collections.BTreeMap.{BTreeMap}
use Rattle.raft_voter_messages.specs.declared.reply.Entry.{Entry}
use Rattle.raft_voter_messages.specs.declared.request.Request.{Request}
use Rattle.raft_voter_messages.specs.declared.request.Request.TheVariants.{Read, Status}
use Rattle.raft_voter.specs.Rounds.{World, fresh_world, put}
use Rattle.raft_voter.specs.Rules.{numbered}
use Rattle.raft_voter_messages.specs.Ranges.{in_range}
use Rattle.raft_voter.specs.State.{State, fresh, state_of}
use Rattle.raft_voter.specs.InRange.{IsStorable}
use Rattle.raft_voter.specs.Restoring.{are_in_order}
use Rattle.raft_voter_messages.specs.StoredForms.{entry_text, number_text, state_text, stored_entry_fits}

-- The bytes of records.

-- An entry's bytes in a record: the length of its encoding, then its encoding. The encoding has 17 bytes more than the
-- entry's own bytes.
unfoldable pub stored_entry : Entry → List ℕ
stored_entry e = number_text (length e.bytes + 17) ++ entry_text e

-- a log entry's bytes in a record, with this index
abbrev pub stored_at : ℕ → ℕ × List ℕ → List ℕ
stored_at index e = stored_entry (record { index = index; term = e.0; bytes = e.1 })

-- the bytes of a log's entries in a record; their indexes rise by one from `first`
abbrev pub log_bytes : ℕ → List (ℕ × List ℕ) → List ℕ
log_bytes first log = flat_map stored_entry (numbered first log)

-- A voter's bytes in a record: its state, the number of its entries, and each entry.
unfoldable pub voter_bytes : State → List ℕ
voter_bytes v = state_text (state_of v) ++ (number_text (length v.log) ++ log_bytes (v.base_index + 1) v.log)

-- a record: the group's number, then the bytes of its voter
unfoldable pub voter_record : ℕ × State → List ℕ
voter_record r = number_text r.0 ++ voter_bytes r.1

-- The voters of records.

-- the world of these voters: for each group its voter in the map, or a fresh one
abbrev pub world_in : BTreeMap ℕ State Global → World
world_in voters = λ group. unwrap_or (get nat_cmp voters group) fresh

-- the request may change its voter: it is in range, and is neither Read nor Status
abbrev pub may_change : Request → Bool
may_change (Read from to) = false
may_change Status = false
may_change request = in_range request

-- the record's group is below 2^64, and its voter can be stored
pub record IsStorableRecord (r : ℕ × State) : Type 0 where
  pub group : r.0 < 2 ^ 64
  pub voter : IsStorable r.1

-- each of these records can be stored: its group is below 2^64, and its voter can be stored
abbrev pub AreStorable : List (ℕ × State) → Type 0
AreStorable [] = Unit {0}
AreStorable (r ∷ records) = IsStorableRecord r × AreStorable records

-- world `W` after these records: each one replaces its group's voter, so the last of a group counts
abbrev pub with_records : World → List (ℕ × State) → World
with_records W [] = W
with_records W (r ∷ records) = with_records (put W r.0 r.1) records

-- the bytes are a sequence of records that can be stored, and world `W` after them is world `X`
pub record LeadTo (W : World) (bytes : List ℕ) (X : World) : Type 0 where
  pub records : List (ℕ × State)
  pub storable : AreStorable records
  pub text : bytes ≡ flat_map voter_record records
  pub world : X ≡ with_records W records

-- The bytes are a sequence of records that can be stored, and store the voters of world `W`. A group without a record
-- has a fresh voter.
abbrev pub StandsFor : List ℕ → World → Type 0
StandsFor bytes W = LeadTo fresh_world bytes W

-- these entries are in range, and their indexes rise by one from `first`
pub record AreEntries (first : ℕ) (entries : List Entry) : Type 0 where
  pub fit : list_all stored_entry_fits entries ≡ true
  pub ordered : are_in_order first entries ≡ true
