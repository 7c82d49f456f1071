-- Reading the terms of a group's entries, without the entries' data. The head of an entry (`EntryHead`) is its index
-- and its term.
use Rattle.std.specs.Prelude.{◌≡◌, ◌+◌, ◌≤◌, ◌<◌, ℕ, List, [], ◌∷◌, ◌++◌, length, map, slice_get, None, Some}
use Rattle.raft_log_model_laws.specs.Meaning.Slot.{Index}
use Rattle.raft_log_model_laws.specs.Meaning.Content.{Entry}
use Rattle.raft_voter_durability_laws.specs.raft_log_engine_laws.specs.EngineState.{EngineState}
use Rattle.raft_voter_messages.specs.declared.reply.Entry.{Entry as VoterEntry}
use Rattle.raft_voter_messages.specs.declared.reply.VoterState.{VoterState}
use Rattle.raft_voter_messages.specs.StoredForms.{IsEntry}
use Rattle.raft_voter_outline.specs.Restoring.{with_log}
use Rattle.raft_voter_outline.specs.State.{State}
use Rattle.raft_voter_records.specs.Voters.{Group}
use Rattle.raft_voter_recovery.specs.declared.entry_head.EntryHead.{EntryHead}
use Rattle.raft_voter_recovery.specs.declared.unread.Unread.{Unread}
use Rattle.raft_voter_recovery.specs.declared.unread.Unread.TheVariants as causes
use Rattle.raft_voter_recovery.specs.Numbers.{term_told}
use Rattle.raft_voter_recovery.specs.Reading.{Tells}

-- What a group has.

-- group `grp` has an entry at index `i`, with the term `t`
pub record HasTerm (grp : Group) (i t : ℕ) : Type 0 where
  pub bytes : List ℕ
  pub entry : VoterEntry
  pub stands : grp (Index i) ≡ Some (Entry bytes)
  pub is : IsEntry bytes i entry
  pub term : entry.term ≡ t

-- group `grp` has consecutive entries from index `i` on, with these terms
abbrev pub HaveTerms : Group → ℕ → List ℕ → Type 0
HaveTerms grp i [] = Unit {0}
HaveTerms grp i (t ∷ ts) = HasTerm grp i t × HaveTerms grp (i + 1) ts

-- What the heads have.

-- The entry heads `hs` give the terms `ts`. They are the heads of consecutive entries, the first at index `i`.
abbrev pub AreTold : ℕ → List EntryHead → List ℕ → Type 0
AreTold i [] ts = ts ≡ []
AreTold i (h ∷ hs) [] = ⊥
AreTold i (h ∷ hs) (t ∷ ts) = (term_told i h.numbers ≡ Some t) × AreTold (i + 1) hs ts

-- One of the heads `hs` gives no term: it isn't the head of an entry at its index. The first head is that of index
-- `first`.
pub record HasUntold (first : ℕ) (hs : List EntryHead) : Type 0 where
  pub place : ℕ
  pub head : EntryHead
  pub at : slice_get hs place ≡ Some head
  pub untold : term_told (first + place) head.numbers ≡ None

-- Why reading terms from entry heads fails:
-- - `Foreign`: one of the heads isn't that of an entry at its index; the error names group `g`
-- - `Memory`: memory ran out
abbrev pub AreNotTold : ℕ → ℕ → List EntryHead → Unread → Type 0
AreNotTold g first hs (causes.Foreign h) = (h ≡ g) × HasUntold first hs
AreNotTold g first hs (causes.Engine error) = ⊥
AreNotTold g first hs causes.Memory = Unit {0}

-- What is known.

-- the entries of a voter's log, with these terms and no data
abbrev pub alone : List ℕ → List (ℕ × List ℕ)
alone ts = map (λ t. (t, [])) ts

-- Voter `p` is `o` with more entries in its log. These have no data, and the terms that the heads `hs` give. The heads
-- are those of consecutive entries from index `first` on.
pub record AddsTold (first : ℕ) (hs : List EntryHead) (o p : State) : Type 0 where
  pub terms : List ℕ
  pub told : AreTold first hs terms
  pub now : p ≡ record o { log = o.log ++ alone terms }

-- `ts` are the terms of consecutive entries of group `g` from index `first` on; there is at least one, and all are
-- below `end`
pub record ReadsTerms (e : EngineState) (g first end : ℕ) (ts : List ℕ) : Type 0 where
  pub have : Tells e (λ m. HaveTerms (m g) first ts)
  pub some : 0 < length ts
  pub within : first + length ts ≤ end

-- Voter `p` is `o` with `count` more entries in its log, at least one. These have no data, and the terms of the entries
-- of group `g` from index `first` on, below `end`.
pub record AddsTerms (e : EngineState) (g first end count : ℕ) (o p : State) : Type 0 where
  pub terms : List ℕ
  pub read : ReadsTerms e g first end terms
  pub number : count ≡ length terms
  pub now : p ≡ record o { log = o.log ++ alone terms }

-- The terms of all entries of group `g` after the base of `s` and below index `next` were read. `o` is the outline of a
-- voter with the state `s` and these entries.
pub record KnowsTerms (e : EngineState) (g : ℕ) (s : VoterState) (next : ℕ) (o : State) : Type 0 where
  pub terms : List ℕ
  pub have : Tells e (λ m. HaveTerms (m g) (s.base_index + 1) terms)
  pub count : s.base_index + 1 + length terms ≡ next
  pub is : o ≡ with_log s (alone terms)
