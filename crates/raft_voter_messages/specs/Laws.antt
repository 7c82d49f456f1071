-- The laws of stored states and entries: bytes decode in at most one way, and encoded values are read back.
use Rattle.std.specs.Prelude.{◌≡◌, ◌≢◌, ℕ, List, IsTrue}
use Rattle.raft_voter_messages.specs.declared.reply.Entry.{Entry}
use Rattle.raft_voter_messages.specs.declared.reply.VoterState.{VoterState}
use Rattle.raft_voter_messages.specs.declared.stored.StoredFault.{StoredFault}
use Rattle.raft_voter_messages.specs.declared.stored.StoredFault.TheVariants.{Memory}
use Rattle.raft_voter_messages.specs.StoredForms.{EntryFault, IsEntry, IsState, StateFault, entry_text, state_fits, state_text, stored_entry_fits}

-- a voter's state as a store keeps it: with the index and term of its base (a snapshot's last included ones) in place
-- of those of the last entry
abbrev pub bare : VoterState → VoterState
bare s = record s { last_index = s.base_index; last_term = s.base_term }

-- Bytes encode at most one state, even across different forms.
abbrev pub OneState : Type 0
OneState = (bytes : List ℕ) (s r : VoterState) → IsState bytes s → IsState bytes r → s ≡ r

-- If bytes have a fault, they encode no state, and they have no other fault.
abbrev pub OneStateFault : Type 0
OneStateFault =
    (bytes : List ℕ) (fault : StoredFault) → StateFault fault bytes
    → ((s : VoterState) → ¬ IsState bytes s)
    × ((other : StoredFault) → StateFault other bytes → other ≡ fault)

-- For a state in range, the written bytes are read as that state, with its base in place of the last entry.
abbrev pub StatesAreReadBack : Type 0
StatesAreReadBack = (s : VoterState) → IsTrue (state_fits s) → IsState (state_text s) (bare s)

-- Bytes encode at most one entry, at one index.
abbrev pub OneEntry : Type 0
OneEntry =
    (bytes : List ℕ) (i j : ℕ) (e f : Entry) → IsEntry bytes i e → IsEntry bytes j f → (i ≡ j) × (e ≡ f)

-- Suppose bytes that are read as the entry at an index have a fault other than `Memory`. Then they encode no entry at
-- that index, and have no other fault.
abbrev pub OneEntryFault : Type 0
OneEntryFault =
    (bytes : List ℕ) (index : ℕ) (fault : StoredFault) → fault ≢ Memory → EntryFault fault bytes index
    → ((e : Entry) → ¬ IsEntry bytes index e)
    × ((other : StoredFault) → EntryFault other bytes index → other ≡ fault)

-- For an entry in range, the written bytes are read as that entry, at its own index.
abbrev pub EntriesAreReadBack : Type 0
EntriesAreReadBack = (e : Entry) → IsTrue (stored_entry_fits e) → IsEntry (entry_text e) e.index e
