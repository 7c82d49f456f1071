-- Reading consecutive entries of a group's voter.
use Rattle.std.specs.Prelude.{◌≡◌, ◌≢◌, ◌+◌, ◌≤◌, ◌<◌, ℕ, List, [], ◌∷◌, length, slice_get, Some}
use Rattle.raft_log_model_laws.specs.Meaning.Slot.{Index}
use Rattle.raft_log_model_laws.specs.Meaning.Content.{Entry}
use Rattle.raft_voter_durability_laws.specs.raft_log_engine_laws.specs.EngineState.{EngineState}
use Rattle.raft_voter_messages.specs.declared.reply.Entry.{Entry as VoterEntry}
use Rattle.raft_voter_messages.specs.declared.stored.StoredFault.{StoredFault}
use Rattle.raft_voter_messages.specs.declared.stored.StoredFault.TheVariants as faults
use Rattle.raft_voter_messages.specs.StoredForms.{EntryFault}
use Rattle.raft_voter.specs.Laws.{AreReadAs}
use Rattle.raft_voter_records.specs.Voters.{Group}
use Rattle.raft_voter_recovery.specs.declared.unread.Unread.{Unread}
use Rattle.raft_voter_recovery.specs.declared.unread.Unread.TheVariants as causes
use Rattle.raft_voter_recovery.specs.Reading.{Tells}

-- group `grp` has these bytes as its consecutive entries from index `i` on
abbrev pub StandFrom : Group → ℕ → List (List ℕ) → Type 0
StandFrom grp i [] = Unit {0}
StandFrom grp i (bytes ∷ others) = (grp (Index i) ≡ Some (Entry bytes)) × StandFrom grp (i + 1) others

-- One of `texts`, the stored bytes of consecutive entries, doesn't parse as an entry with its index, and `fault` says
-- why. The first of `texts` has the index `first`.
pub record HasBroken (first : ℕ) (texts : List (List ℕ)) : Type 0 where
  pub place : ℕ
  pub bytes : List ℕ
  pub fault : StoredFault
  pub at : slice_get texts place ≡ Some bytes
  pub broken : fault ≢ faults.Memory
  pub why : EntryFault fault bytes (first + place)

-- Why parsing `texts` as the entries from index `first` on fails:
-- - `Foreign`: one of them isn't an entry of a voter at its index; the error names group `g`
-- - `Memory`: memory ran out
abbrev pub AreNoEntries : ℕ → ℕ → List (List ℕ) → Unread → Type 0
AreNoEntries g first texts (causes.Foreign h) = (h ≡ g) × HasBroken first texts
AreNoEntries g first texts (causes.Engine error) = ⊥
AreNoEntries g first texts causes.Memory = Unit {0}

-- engine `e` read `es` as the consecutive entries of group `g` from index `first` on
pub record ReadsRun (e : EngineState) (g first : ℕ) (es : List VoterEntry) : Type 0 where
  pub texts : List (List ℕ)
  pub read : AreReadAs first texts es
  pub stand : Tells e (λ m. StandFrom (m g) first texts)

-- engine `e` read `es` as the entries of group `g` from index `first` on; there is at least one, and all are below
-- `end`
pub record ReadsPiece (e : EngineState) (g first end : ℕ) (es : List VoterEntry) : Type 0 where
  pub run : ReadsRun e g first es
  pub some : 0 < length es
  pub within : first + length es ≤ end

-- engine `e` read `es` as all entries of group `g` after index `base` and below index `next`
pub record ReadsBelow (e : EngineState) (g base next : ℕ) (es : List VoterEntry) : Type 0 where
  pub run : ReadsRun e g (base + 1) es
  pub count : base + 1 + length es ≡ next
