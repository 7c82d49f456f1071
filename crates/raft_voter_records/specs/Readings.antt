-- What must be read of a group to know that it holds a voter, or that no voter has its contents.
use Rattle.std.specs.Prelude.{◌≡◌, ◌≢◌, ℕ, ◌+◌, ◌-◌, ◌^◌, ◌<◌, ◌≤◌, nat_le, if◌then◌else◌, List, length, map, slice_get, Option, Some, None, option_map}
use Rattle.raft_log_model_laws.specs.Meaning.{Slot, Content}
use Rattle.raft_log_model_laws.specs.Meaning.Slot.{Index, Key}
use Rattle.raft_log_model_laws.specs.Meaning.Content.{Entry, Value}
use Rattle.raft_voter_messages.specs.declared.reply.Entry.{Entry as VoterEntry}
use Rattle.raft_voter_messages.specs.declared.reply.VoterState.{VoterState}
use Rattle.raft_voter_messages.specs.declared.stored.StoredFault.{StoredFault}
use Rattle.raft_voter_messages.specs.declared.stored.StoredFault.TheVariants.{Memory}
use Rattle.raft_voter_messages.specs.StoredForms.{EntryFault, IsState, StateFault}
use Rattle.raft_voter_outline.specs.Restoring.{with_log}
use Rattle.raft_voter_outline.specs.State.{State}
use Rattle.raft_voter.specs.Laws.{AreReadAs}
use Rattle.raft_voter_records.specs.Voters.{Group, voter_key}

-- the content at index `i`, if `texts` are the bytes of a group's entries and the first has the index `first`
abbrev pub run_content : ℕ → List (List ℕ) → ℕ → Option (Content (List ℕ) (List ℕ))
run_content first texts i = if nat_le first i then option_map Entry (slice_get texts (i - first)) else None

-- Reading the group finds the state `s` and the entries `es`. The voter's key is the group's only key, and the value of
-- this key encodes `s`. The group's entries encode `es`, and have consecutive indexes right after the base of `s`. The
-- last index is below 2 ^ 63.
pub record IsReadAs (grp : Group) (s : VoterState) (es : List VoterEntry) : Type 0 where
  pub bytes : List ℕ
  pub head : grp (Key voter_key) ≡ Some (Value bytes)
  pub state : IsState bytes s
  pub keys : (k : List ℕ) → (voter_key ≡ k → ⊥) → grp (Key k) ≡ None
  pub texts : List (List ℕ)
  pub entries : (i : ℕ) → grp (Index i) ≡ run_content (s.base_index + 1) texts i
  pub read : AreReadAs (s.base_index + 1) texts es
  pub small : s.base_index + length es < 2 ^ 63

-- the voter with the state `s` and the entries `es`
abbrev pub read_voter : VoterState → List VoterEntry → State
read_voter s es = with_log s (map (λ e. (e.term, e.bytes)) es)

-- The flaws by which a group is foreign:
-- - `other_key`: it has another key than the voter's.
-- - `no_state`: it has an entry or a key, but not the voter's key.
-- - `broken_state`: the value under the voter's key encodes no state.
-- - `below_base`: an entry has an index up to the base of the state.
-- - `behind_gap`: an index above the base has no entry, but a later index has one.
-- - `broken_entry`: the bytes of an entry encode no entry at its index.
-- - `too_far`: an entry has an index of 2 ^ 63 or more.
pub data HasForeign (grp : Group) : Type 0 where
  other_key : (k : List ℕ) → (voter_key ≡ k → ⊥) → (grp (Key k) ≡ None → ⊥) → HasForeign grp
  no_state : (s : Slot) → (grp s ≡ None → ⊥) → grp (Key voter_key) ≡ None → HasForeign grp
  broken_state : (bytes : List ℕ) (fault : StoredFault) → grp (Key voter_key) ≡ Some (Value bytes)
      → StateFault fault bytes → HasForeign grp
  below_base : (bytes : List ℕ) (s : VoterState) (i : ℕ) → grp (Key voter_key) ≡ Some (Value bytes)
      → IsState bytes s → i ≤ s.base_index → (grp (Index i) ≡ None → ⊥) → HasForeign grp
  behind_gap : (bytes : List ℕ) (s : VoterState) (i j : ℕ) → grp (Key voter_key) ≡ Some (Value bytes)
      → IsState bytes s → s.base_index < i → i < j → grp (Index i) ≡ None → (grp (Index j) ≡ None → ⊥)
      → HasForeign grp
  broken_entry : (i : ℕ) (bytes : List ℕ) (fault : StoredFault) → grp (Index i) ≡ Some (Entry bytes)
      → fault ≢ Memory → EntryFault fault bytes i → HasForeign grp
  too_far : (i : ℕ) → 2 ^ 63 ≤ i → (grp (Index i) ≡ None → ⊥) → HasForeign grp
