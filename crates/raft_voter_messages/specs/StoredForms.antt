-- How a voter's state and its entries are stored as bytes. The first byte is the number of the form. A form defines
-- which bytes may follow and which faults they can have. A state's base is a snapshot's last included index and term.
use Rattle.std.specs.Prelude.{◌≡◌, ◌≢◌, ℕ, ◌<◌, ◌≤◌, ◌⊎◌, ◌&&◌, nat_le, Bool, true, IsTrue, List, [], ◌∷◌, ◌++◌, length, Option, None, Some}
use Rattle.std.specs.Int.{to_be_bytes, w64}
use Rattle.std.specs.Option.{option_map_or}
use Rattle.raft_voter_messages.specs.declared.reply.Entry.{Entry}
use Rattle.raft_voter_messages.specs.declared.reply.VoterState.{VoterState}
use Rattle.raft_voter_messages.specs.declared.stored.StoredFault.{StoredFault}
use Rattle.raft_voter_messages.specs.declared.stored.StoredFault.TheVariants.{Length, Form, Range, Index, Memory}
use Rattle.raft_voter_messages.specs.Ranges.{fits}

-- The parts of the forms.

-- the eight bytes of a number, big-endian
unfoldable pub number_text : ℕ → List ℕ
number_text n = to_be_bytes w64 n

-- The nine bytes of a vote. The first is 1, and the candidate follows. Without a vote, all nine are 0.
abbrev pub vote_text : Option ℕ → List ℕ
vote_text None = 0 ∷ number_text 0
vote_text (Some candidate) = 1 ∷ number_text candidate

-- the bytes of the term, the nine bytes `vote` of the vote, then the bytes of the base's index and term
abbrev pub head_text : ℕ → List ℕ → ℕ → ℕ → List ℕ
head_text term vote base_index base_term =
    number_text term ++ (vote ++ (number_text base_index ++ number_text base_term))

-- there is no vote, or its candidate is in range
abbrev pub vote_fits : Option ℕ → Bool
vote_fits vote = option_map_or fits vote true

-- The state's term, vote, base and commit are in range, and the index of its base is at most its commit. Its last entry
-- may be anything.
abbrev pub state_fits : VoterState → Bool
state_fits s =
    fits s.term && vote_fits s.vote && fits s.base_index && fits s.base_term && fits s.commit
    && nat_le s.base_index s.commit

-- the entry's index and term are in range, and it has at most 65,535 bytes
abbrev pub stored_entry_fits : Entry → Bool
stored_entry_fits e = fits e.index && fits e.term && nat_le (length e.bytes) 65535

-- the state is in range, and its last entry is its base
pub record IsBareState (s : VoterState) : Type 0 where
  pub in_range : IsTrue (state_fits s)
  pub last_index : s.last_index ≡ s.base_index
  pub last_term : s.last_term ≡ s.base_term

-- State form 1: 34 bytes. A reader accepts it, but it is no longer written.

-- `body`, the bytes after the form byte, has the state's term, vote and base. This form has no commit: the commit is
-- the base's index.
pub record IsStateForm1 (body : List ℕ) (s : VoterState) : Type 0 where
  pub text : body ≡ head_text s.term (vote_text s.vote) s.base_index s.base_term
  pub commit : s.commit ≡ s.base_index

-- The fault of the bytes `body` after form byte 1. It is `Length` if `body` doesn't have 33 bytes. It is `Range` if it
-- has 33, but encodes no state in range.
abbrev pub StateForm1Fault : StoredFault → List ℕ → Type 0
StateForm1Fault Length body = length body ≢ 33
StateForm1Fault Range body =
    (length body ≡ 33) × ((s : VoterState) → IsTrue (state_fits s) → ¬ IsStateForm1 body s)
StateForm1Fault _ body = ⊥

-- State form 2: 42 bytes.

-- the bytes after form byte 2: the state's term, vote, base and commit
abbrev pub state_form_2 : VoterState → List ℕ
state_form_2 s = head_text s.term (vote_text s.vote) s.base_index s.base_term ++ number_text s.commit

-- The fault of the bytes `body` after form byte 2. It is `Length` if `body` doesn't have 41 bytes. It is `Range` if it
-- has 41, but encodes no state in range.
abbrev pub StateForm2Fault : StoredFault → List ℕ → Type 0
StateForm2Fault Length body = length body ≢ 41
StateForm2Fault Range body =
    (length body ≡ 41) × ((s : VoterState) → IsTrue (state_fits s) → body ≢ state_form_2 s)
StateForm2Fault _ body = ⊥

-- A state.

-- the bytes that are written for a state: form byte 2 and its body
abbrev pub state_text : VoterState → List ℕ
state_text s = 2 ∷ state_form_2 s

-- the bytes are form byte 1 or 2, then state `s` in that form
abbrev pub SpellsState : List ℕ → VoterState → Type 0
SpellsState [] s = ⊥
SpellsState (form ∷ body) s = ((form ≡ 1) × IsStateForm1 body s) ⊎ ((form ≡ 2) × (body ≡ state_form_2 s))

-- the bytes encode state `s` in one of the forms, `s` is in range, and its last entry is its base
abbrev pub IsState : List ℕ → VoterState → Type 0
IsState bytes s = SpellsState bytes s × IsBareState s

-- The fault of bytes that are read as a state. It is `Length` if there are no bytes, `Form` if the form byte is neither
-- 1 nor 2, and otherwise the fault of that form.
abbrev pub StateFault : StoredFault → List ℕ → Type 0
StateFault fault [] = fault ≡ Length
StateFault fault (form ∷ body) =
    ((form ≡ 1) × StateForm1Fault fault body) ⊎ ((form ≡ 2) × StateForm2Fault fault body)
    ⊎ ((form ≢ 1) × (form ≢ 2) × (fault ≡ Form))

-- Entry form 1: 17 to 65,552 bytes.

-- the bytes after form byte 1: the entry's index, its term, and its own bytes
abbrev pub entry_form_1 : Entry → List ℕ
entry_form_1 e = number_text e.index ++ (number_text e.term ++ e.bytes)

-- `body`, the bytes after form byte 1, encodes entry `e`, which is in range
pub record IsEntryForm1 (body : List ℕ) (e : Entry) : Type 0 where
  pub text : body ≡ entry_form_1 e
  pub in_range : IsTrue (stored_entry_fits e)

-- The fault of the bytes `body` after form byte 1, read as the entry at `index`:
-- - `Length`: there are fewer than 16 bytes or more than 65,551;
-- - `Range`: there are 16 to 65,551 bytes, but they encode no entry in range;
-- - `Index`: they encode an entry with another index;
-- - `Memory`: they have no other fault, but memory can run out when the entry is read.
abbrev pub EntryForm1Fault : StoredFault → List ℕ → ℕ → Type 0
EntryForm1Fault Length body index = (length body < 16) ⊎ (65551 < length body)
EntryForm1Fault Range body index =
    (16 ≤ length body) × (length body ≤ 65551) × ((e : Entry) → ¬ IsEntryForm1 body e)
EntryForm1Fault Index body index = (e : Entry) × IsEntryForm1 body e × (e.index ≢ index)
EntryForm1Fault Memory body index = (e : Entry) × IsEntryForm1 body e × (e.index ≡ index)
EntryForm1Fault _ body index = ⊥

-- An entry.

-- the bytes that are written for an entry: form byte 1 and its body
abbrev pub entry_text : Entry → List ℕ
entry_text e = 1 ∷ entry_form_1 e

-- the bytes encode entry `e`, which is in range and has this index
pub record IsEntry (bytes : List ℕ) (index : ℕ) (e : Entry) : Type 0 where
  pub text : bytes ≡ entry_text e
  pub in_range : IsTrue (stored_entry_fits e)
  pub at_index : e.index ≡ index

-- The fault of bytes that are read as the entry at `index`. It is `Length` if there are no bytes, `Form` if the form
-- byte isn't 1, and otherwise the fault of form 1.
abbrev pub EntryFault : StoredFault → List ℕ → ℕ → Type 0
EntryFault fault [] index = fault ≡ Length
EntryFault fault (form ∷ body) index =
    ((form ≡ 1) × EntryForm1Fault fault body index) ⊎ ((form ≢ 1) × (fault ≡ Form))
