-- Where a group's entries begin and end.
use Rattle.std.proofs.Common.{◌≡◌, ◌⊎◌, ℕ, ◌+◌, ◌-◌, ◌^◌, ◌<◌, ◌≤◌, nat_lt, Bool, true, false, [], length, Some, None, if◌then◌else◌, refl, inl, inr, arith}
use Rattle.std.proofs.lemmas.Bool.{cases_lt}
use Rattle.std.proofs.lemmas.Bool.Decides.{nat_tests}
use Rattle.raft_log_model_laws.specs.Meaning.{Slot}
use Rattle.raft_log_model_laws.specs.Meaning.Slot.{Index, Key}
use Rattle.raft_log_model_laws.proofs.Public.{from_lt_true}
use Rattle.raft_log_memtable_index.specs.Shown.{Shown}
use Rattle.raft_voter_durability_laws.specs.raft_log_engine_laws.specs.raft_log_memtable.specs.Reads.{first_of, last_of}
use Rattle.raft_voter_durability_laws.specs.raft_log_engine_laws.specs.EngineState.{LogDirectories, LogMap, EngineState}
use Rattle.raft_voter_durability_laws.specs.raft_log_engine_laws.specs.Holding.{Represents}
use Rattle.raft_voter_messages.specs.declared.reply.VoterState.{VoterState}
use Rattle.raft_voter_messages.specs.StoredForms.{state_fits}
use Rattle.raft_voter_records.specs.Voters.{IsForeign, IsVoid, voter_key}
use Rattle.raft_voter_records.specs.Readings.HasForeign.{behind_gap, below_base, no_state, too_far}
use Rattle.raft_voter_records.proofs.Public.{foreign_groups_are_foreign}
use Rattle.raft_voter_recovery.specs.Groups.{HasNoKey, ReadsEnd, ReadsSpan, ReadsState}
use Rattle.raft_voter_recovery.specs.Reading.{Tells}

-- the base of a state that was read is in range
pub base_fits : (s : EngineState) (g : ℕ) (state : VoterState) → ReadsState s g state → state.base_index < 2 ^ 63
base_fits s g state read = in_range state read.state.1.in_range
  where
    in_range : (r : VoterState) → state_fits r ≡ true → r.base_index < 2 ^ 63
    in_range r h = grind (arith, nat_tests)

-- tables that show an entry at first and one at last have all between
span_is : (v : Shown) (first last : ℕ) → Some first ≡ first_of v → Some last ≡ last_of v → (first ≡ v.first) × (last + 1 ≡ v.first + length v.places)
span_is v first last = by (nat_lt 0 (length v.places)) refl
  where
    by : (b : Bool) → nat_lt 0 (length v.places) ≡ b → Some first ≡ (if b then Some v.first else None)
        → Some last ≡ (if b then Some (v.first + (length v.places - 1)) else None) → (first ≡ v.first) × (last + 1 ≡ v.first + length v.places)
    by true some f l =
        let many : 0 < length v.places = from_lt_true 0 (length v.places) some in
        let first_is : first ≡ v.first = cc in
        let last_is : last ≡ v.first + (length v.places - 1) = cc in
        (first_is, omega (arith, last_is, many))
    by false none f l = absurd (let no : ⊥ = cc in no)

-- No entries.

pub ends_at_base : (s : EngineState) (g : ℕ) (state : VoterState) → ReadsState s g state → ReadsSpan s g None → ReadsEnd s g state.base_index (state.base_index + 1)
ends_at_base s g state read none = record {
  reaches = omega arith;
  small = let fit = base_fits s g state read in omega (arith, fit);
  placed = λ some. absurd (omega (arith, some));
  outside = λ home m h i out. none.exact home m [] h i;
}

pub no_slot : (s : EngineState) (g : ℕ) → Tells s (λ m. HasNoKey (m g)) → ReadsSpan s g None → Tells s (λ m. IsVoid (m g))
no_slot s g keys none = λ home m h slot. by_slot home m h slot
  where
    by_slot : (home : LogDirectories) (m : LogMap) → Represents home s m [] → (slot : Slot) → m g slot ≡ None
    by_slot home m h (Index i) = none.exact home m [] h i
    by_slot home m h (Key k) = keys home m h k

-- entries without a state
pub no_head : (s : EngineState) (g first last : ℕ) → Tells s (λ m. HasNoKey (m g)) → ReadsSpan s g (Some (first, last)) → Tells s (λ m. IsForeign (m g))
no_head s g first last keys span = λ home m h.
    foreign_groups_are_foreign (m g) (no_state (Index first) (span.0.exact home m [] h).0 (keys home m h voter_key))

-- Entries.

pub ends_behind : (s : EngineState) (g first last : ℕ) (state : VoterState) → ReadsState s g state → ReadsSpan s g (Some (first, last))
    → first ≡ state.base_index + 1 → last < 2 ^ 63 → ReadsEnd s g state.base_index (last + 1)
ends_behind s g first last state read span begins small = record {
  reaches = ordered;
  small = omega (arith, small);
  placed = λ some. (omega (arith, is.0, begins), omega (arith, is.1));
  outside = λ home m h i out. by_side home m h i out;
}
  where
    is : (first ≡ (s.tables g).first) × (last + 1 ≡ (s.tables g).first + length (s.tables g).places)
    is = span_is (s.tables g) first last span.0.shown span.1.shown

    many : (v : Shown) → Some first ≡ first_of v → 0 < length v.places
    many v = by (nat_lt 0 (length v.places)) refl
      where
        by : (b : Bool) → nat_lt 0 (length v.places) ≡ b → Some first ≡ (if b then Some v.first else None) → 0 < length v.places
        by true some f = from_lt_true 0 (length v.places) some
        by false none f = absurd (let no : ⊥ = cc in no)

    ordered : state.base_index < last + 1
    ordered = let some = many (s.tables g) span.0.shown in omega (arith, some, is.0, is.1, begins)

    by_side : (home : LogDirectories) (m : LogMap) → Represents home s m [] → (i : ℕ) → (i ≤ state.base_index) ⊎ (last + 1 ≤ i) → m g (Index i) ≡ None
    by_side home m h i (inl low) = (span.0.exact home m [] h).1 i (omega (arith, low, begins))
    by_side home m h i (inr high) = (span.1.exact home m [] h).1 i (omega (arith, high))

-- the first stands at or below the base, or behind a gap
pub begins_elsewhere : (s : EngineState) (g first last : ℕ) (state : VoterState) → ReadsState s g state → ReadsSpan s g (Some (first, last))
    → (first ≡ state.base_index + 1 → ⊥) → Tells s (λ m. IsForeign (m g))
begins_elsewhere s g first last state read span apart = λ home m h.
    let head = (read.tells home m h).head in
    let stands = (span.0.exact home m [] h).0 in
    let before = (span.0.exact home m [] h).1 in
    foreign_groups_are_foreign (m g) (elim (cases_lt state.base_index first) [
      | inr low ↦ below_base read.bytes state first head read.state low stands
      | inl high ↦
          let gap : state.base_index + 1 < first = further high in
          let above : state.base_index < state.base_index + 1 = omega arith in
          behind_gap read.bytes state (state.base_index + 1) first head read.state above gap (before (state.base_index + 1) gap) stands
    ])
  where
    further : state.base_index < first → state.base_index + 1 < first
    further high = elim (cases_lt (state.base_index + 1) first) [
      | inl less ↦ less
      | inr more ↦ (let equal : first ≡ state.base_index + 1 = omega (arith, high, more) in absurd (apart equal))
    ]

-- the last is out of range
pub ends_too_far : (s : EngineState) (g first last : ℕ) → ReadsSpan s g (Some (first, last)) → 2 ^ 63 ≤ last → Tells s (λ m. IsForeign (m g))
ends_too_far s g first last span far = λ home m h.
    foreign_groups_are_foreign (m g) (too_far last far (span.1.exact home m [] h).0)
