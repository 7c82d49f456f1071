-- What is read of a group before its entries: its one key, and the range of its indexes.
use Rattle.std.specs.Prelude.{◌≡◌, ◌⊎◌, ◌+◌, ◌^◌, ◌<◌, ◌≤◌, ℕ, List, [], ◌∷◌, length, Option, None, Some}
use Rattle.raft_log_model_laws.specs.Meaning.Slot.{Index, Key}
use Rattle.raft_log_model_laws.specs.Meaning.Content.{Value}
use Rattle.raft_voter_durability_laws.specs.raft_log_engine_laws.specs.Reading.{ReadsFirst, ReadsLast}
use Rattle.raft_voter_durability_laws.specs.raft_log_engine_laws.specs.EngineState.{EngineState}
use Rattle.raft_voter_durability_laws.specs.raft_log_engine_laws.specs.raft_log_memtable.specs.Reads.{AreIn}
use Rattle.raft_voter_messages.specs.declared.reply.VoterState.{VoterState}
use Rattle.raft_voter_messages.specs.declared.stored.StoredFault.{StoredFault}
use Rattle.raft_voter_messages.specs.StoredForms.{IsState, StateFault}
use Rattle.raft_voter_records.specs.Voters.{Group, IsVoid, voter_key}
use Rattle.raft_voter_recovery.specs.declared.heads.Head.{Head}
use Rattle.raft_voter_recovery.specs.declared.unread.Unread.{Unread}
use Rattle.raft_voter_recovery.specs.declared.unread.Unread.TheVariants as causes
use Rattle.raft_voter_recovery.specs.Reading.{Tells}

-- Keys.

-- `es` are the keys of a group with their values. `None`: there are none. `Some s`: there is only the voter's key, and
-- its value encodes the state `s`.
abbrev pub PairsTell : Option VoterState → List (List ℕ × List ℕ) → Type 0
PairsTell None es = es ≡ []
PairsTell (Some s) es = (bytes : List ℕ) × (es ≡ (voter_key, bytes) ∷ []) × IsState bytes s

-- The keys and values `es` of a group aren't a voter's:
-- - there is one key, but another than the voter's
-- - there is only the voter's key, but its value doesn't parse as a state
-- - there are two keys or more
abbrev pub ArePairsForeign : List (List ℕ × List ℕ) → Type 0
ArePairsForeign es =
    ((k bytes : List ℕ) × (es ≡ (k, bytes) ∷ []) × (voter_key ≡ k → ⊥))
    ⊎ (((bytes : List ℕ) × (fault : StoredFault) × (es ≡ (voter_key, bytes) ∷ []) × StateFault fault bytes)
    ⊎ (2 ≤ length es))

-- the keys and values `es` aren't a voter's, and the error names group `g`
abbrev pub ForeignPairs : ℕ → List (List ℕ × List ℕ) → Unread → Type 0
ForeignPairs g es cause = (cause ≡ causes.Foreign g) × ArePairsForeign es

-- group `grp` has the one key of a voter, with the value `bytes`, and no other key
pub record HasOneKey (grp : Group) (bytes : List ℕ) : Type 0 where
  pub head : grp (Key voter_key) ≡ Some (Value bytes)
  pub keys : (k : List ℕ) → (voter_key ≡ k → ⊥) → grp (Key k) ≡ None

-- group `grp` has no key
abbrev pub HasNoKey : Group → Type 0
HasNoKey grp = (k : List ℕ) → grp (Key k) ≡ None

-- the state `s` of group `g` was parsed from the value of the group's one key, the voter's
pub record ReadsState (e : EngineState) (g : ℕ) (s : VoterState) : Type 0 where
  pub bytes : List ℕ
  pub state : IsState bytes s
  pub tells : Tells e (λ m. HasOneKey (m g) bytes)

-- The keys of group `g` were read. `None`: the group has no key. `Some s`: it has only the voter's key, whose value is
-- the state `s`.
abbrev pub ReadsKey : EngineState → ℕ → Option VoterState → Type 0
ReadsKey e g None = Tells e (λ m. HasNoKey (m g))
ReadsKey e g (Some s) = ReadsState e g s

-- Indexes.

-- the first and the last index of group `g` were read, or `None` if it has no entries
abbrev pub ReadsSpan : EngineState → ℕ → Option (ℕ × ℕ) → Type 0
ReadsSpan e g None = ReadsFirst e g None
ReadsSpan e g (Some span) = ReadsFirst e g (Some span.0) × ReadsLast e g (Some span.1)

-- group `grp` has no entry at an index up to `base`, and none from index `end` on
abbrev pub NoneOutside : ℕ → ℕ → Group → Type 0
NoneOutside base end grp = (i : ℕ) → (i ≤ base) ⊎ (end ≤ i) → grp (Index i) ≡ None

-- The tables have an entry of group `g` for each index after `base` and below `end`. The group has no others, and `end`
-- is at most 2^63.
pub record ReadsEnd (e : EngineState) (g base end : ℕ) : Type 0 where
  pub reaches : base < end
  pub small : end ≤ 2 ^ 63
  pub placed : AreIn (e.tables g) (base + 1) end
  pub outside : Tells e (λ m. NoneOutside base end (m g))

-- what was read of group `g` before its entries: the state of its voter, and the index after its last entry
pub record ReadsHead (e : EngineState) (g : ℕ) (head : Head) : Type 0 where
  pub state : ReadsState e g head.state
  pub ends : ReadsEnd e g head.state.base_index head.end

-- `None`: group `g` is empty. `Some`: `head` is what was read of the group before its entries.
abbrev pub TellsHead : EngineState → ℕ → Option Head → Type 0
TellsHead e g None = Tells e (λ m. IsVoid (m g))
TellsHead e g (Some head) = ReadsHead e g head
