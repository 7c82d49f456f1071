-- Which voters the contents of a log represent. Each group holds its voter's state under one key, and the voter's
-- entries at their indexes.
use Rattle.std.specs.Prelude.{◌≡◌, ◌⊎◌, ℕ, List, codes, Option, Some, None, option_map}
use Rattle.raft_log_model_laws.specs.Meaning.{Slot, Content}
use Rattle.raft_log_model_laws.specs.Meaning.Slot.{Index, Key}
use Rattle.raft_log_model_laws.specs.Meaning.Content.{Entry, Value}
use Rattle.raft_log_model_laws.specs.Groups.{Map}
use Rattle.raft_voter_messages.specs.StoredForms.{IsState, entry_text}
use Rattle.raft_voter_outline.specs.Outlines.{stored_state}
use Rattle.raft_voter_outline.specs.State.{State, entry_at, fresh}
use Rattle.raft_voter.specs.InRange.{IsStorable}
use Rattle.raft_voter.specs.Rounds.{World}

-- the contents of one group: entries by index and values by key, each as bytes
abbrev pub Group : Type 0
Group = Slot → Option (Content (List ℕ) (List ℕ))

-- the contents of all groups
abbrev pub Groups : Type 0
Groups = Map (List ℕ) (List ℕ)

-- the only key that a voter's group has: its value is the voter's state
abbrev pub voter_key : List ℕ
voter_key = codes "voter"

-- the group has no entry and no key
abbrev pub IsVoid : Group → Type 0
IsVoid grp = (s : Slot) → grp s ≡ None

-- the stored bytes of a voter's entry at index `i`
abbrev pub stored_entry : ℕ → ℕ × List ℕ → List ℕ
stored_entry i e = entry_text (record { index = i; term = e.0; bytes = e.1 })

-- the content that voter `v` has at index `i`: the stored form of its entry, if there is one
abbrev pub entry_content : State → ℕ → Option (Content (List ℕ) (List ℕ))
entry_content v i = option_map (λ e. Entry (stored_entry i e)) (entry_at v i)

-- The group holds the voter `v`, whose numbers are in range. The group has the voter's key; its value is the encoded
-- state, in the current or the old form. The group has no other key, and exactly the voter's entries.
pub record HoldsVoter (grp : Group) (v : State) : Type 0 where
  pub storable : IsStorable v
  pub bytes : List ℕ
  pub head : grp (Key voter_key) ≡ Some (Value bytes)
  pub state : IsState bytes (stored_state v)
  pub keys : (k : List ℕ) → (voter_key ≡ k → ⊥) → grp (Key k) ≡ None
  pub entries : (i : ℕ) → grp (Index i) ≡ entry_content v i

-- the group is empty and `v` is fresh, or the group holds `v`
abbrev pub IsVoter : Group → State → Type 0
IsVoter grp v = (IsVoid grp × (v ≡ fresh)) ⊎ HoldsVoter grp v

-- the contents `m` represent the world `W`: in each group, the voter that `W` has for it
abbrev pub Means : Groups → World → Type 0
Means m W = (g : ℕ) → IsVoter (m g) (W g)

-- the group has contents that no voter has, not even a fresh one
abbrev pub IsForeign : Group → Type 0
IsForeign grp = (v : State) → ¬ IsVoter grp v
