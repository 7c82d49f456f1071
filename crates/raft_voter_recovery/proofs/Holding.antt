-- A group that was read holds the voter that was.
use Rattle.std.proofs.Common.{◌≡◌, ◌∙◌, ◌⊎◌, ℕ, ◌+◌, ◌-◌, ◌<◌, ◌≤◌, nat_le, true, List, [], ◌∷◌, length, map, get_or, slice_get, Some, None, Ok, option_map, refl, sym, ap, subst, inl, inr, arith}
use Rattle.std.specs.List.{list_all}
use Rattle.std.specs.Prelude.{Result}
use Rattle.std.proofs.lemmas.Bool.{cases_lt}
use Rattle.std.proofs.lemmas.Option.{slice_get_cases}
use Rattle.raft_log_model_laws.specs.Meaning.Slot.{Index}
use Rattle.raft_log_model_laws.specs.Meaning.Content.{Entry}
use Rattle.raft_log_model_laws.proofs.Public.{eq_true, if_false, if_true, le_false, le_true}
use Rattle.raft_voter_durability_laws.specs.raft_log_engine_laws.specs.EngineState.{LogDirectories, LogMap, EngineState}
use Rattle.raft_voter_durability_laws.specs.raft_log_engine_laws.specs.Holding.{Represents}
use Rattle.raft_voter_messages.specs.declared.reply.Entry.{Entry as VoterEntry}
use Rattle.raft_voter_messages.specs.declared.stored.StoredFault.{StoredFault}
use Rattle.raft_voter_messages.specs.StoredForms.{stored_entry_fits}
use Rattle.raft_voter_outline.specs.Restoring.{are_in_order, restored}
use Rattle.raft_voter_outline.specs.State.{State}
use Rattle.raft_voter_outline.proofs.Public.{restored_ok}
use Rattle.raft_voter.specs.Laws.{AreReadAs}
use Rattle.raft_voter_records.specs.Voters.{Group, HoldsVoter}
use Rattle.raft_voter_records.specs.Readings.{IsReadAs, read_voter, run_content}
use Rattle.raft_voter_records.proofs.Public.{read_groups_hold_voters}
use Rattle.raft_voter_recovery.specs.declared.heads.Head.{Head}
use Rattle.raft_voter_recovery.specs.Entries.{ReadsBelow, StandFrom}
use Rattle.raft_voter_recovery.specs.Groups.{NoneOutside, ReadsHead}
use Rattle.raft_voter_recovery.specs.Reading.{Tells}
use Rattle.raft_voter_recovery.proofs.Pieces.{length-read, stand_at}

-- entries behind a base, and none outside, are the whole run
pub run_is : (grp : Group) (base end : ℕ) (texts : List (List ℕ)) → NoneOutside base end grp → StandFrom grp (base + 1) texts → base + 1 + length texts ≡ end
    → (i : ℕ) → grp (Index i) ≡ run_content (base + 1) texts i
run_is grp base end texts outside stand size i = elim (cases_lt base i) [
  | inr low ↦ outside i (inl low) ∙ sym (if_false (nat_le (base + 1) i) _ None (le_false (base + 1) i (omega (arith, low))))
  | inl high ↦ behind high (slice_get_cases texts (i - (base + 1))).1
]
  where
    behind : base < i → ((x : List ℕ) × (i - (base + 1) < length texts) × (slice_get texts (i - (base + 1)) ≡ Some x) × (get_or texts (i - (base + 1)) x ≡ x))
        ⊎ ((length texts ≤ i - (base + 1)) × (slice_get texts (i - (base + 1)) ≡ None)) → grp (Index i) ≡ run_content (base + 1) texts i
    behind high (inl one) =
        let place : base + 1 + (i - (base + 1)) ≡ i = omega (arith, high) in
        subst (λ (n : ℕ). grp (Index n) ≡ Some (Entry one.0)) place (stand_at grp (base + 1) texts stand (i - (base + 1)) one.0 one.2)
        ∙ sym (ap (option_map Entry) one.2)
        ∙ sym (if_true (nat_le (base + 1) i) _ None (le_true (base + 1) i (omega (arith, high))))
    behind high (inr past) =
        let far : end ≤ i = omega (arith, past.0, size, high) in
        outside i (inr far)
        ∙ sym (ap (option_map Entry) past.1)
        ∙ sym (if_true (nat_le (base + 1) i) _ None (le_true (base + 1) i (omega (arith, high))))

pub voter_held : (s : EngineState) (g : ℕ) (head : Head) (es : List VoterEntry) → ReadsHead s g head → ReadsBelow s g head.state.base_index head.end es
    → Tells s (λ m. HoldsVoter (m g) (read_voter head.state es))
voter_held s g head es known below = λ home m h. read_groups_hold_voters (m g) head.state es (as_read home m h)
  where
    as_read : (home : LogDirectories) (m : LogMap) → Represents home s m [] → IsReadAs (m g) head.state es
    as_read home m h = record {
      bytes = known.state.bytes;
      head = (known.state.tells home m h).head;
      state = known.state.state;
      keys = (known.state.tells home m h).keys;
      texts = below.run.texts;
      entries =
          let size = length-read (head.state.base_index + 1) below.run.texts es below.run.read in
          run_is (m g) head.state.base_index head.end below.run.texts (known.ends.outside home m h) (below.run.stand home m h) (omega (arith, size, below.count));
      read = below.run.read;
      small = let fit = known.ends.small in omega (arith, fit, below.count);
    }

-- The voter.

all_fit : (i : ℕ) (texts : List (List ℕ)) (es : List VoterEntry) → AreReadAs i texts es → list_all stored_entry_fits es ≡ true
all_fit i [] [] h = refl
all_fit i [] (e ∷ es) h = absurd h
all_fit i (t ∷ texts) [] h = absurd h
all_fit i (t ∷ texts) (e ∷ es) h = rw (h.0.in_range, all_fit (i + 1) texts es h.1) refl

in_order : (i : ℕ) (texts : List (List ℕ)) (es : List VoterEntry) → AreReadAs i texts es → are_in_order i es ≡ true
in_order i [] [] h = refl
in_order i [] (e ∷ es) h = absurd h
in_order i (t ∷ texts) [] h = absurd h
in_order i (t ∷ texts) (e ∷ es) h = rw (eq_true e.index i h.0.at_index, in_order (i + 1) texts es h.1) refl

pub restored_held : (s : EngineState) (g : ℕ) (head : Head) (es items : List VoterEntry) (v : State) → ReadsHead s g head → ReadsBelow s g head.state.base_index head.end es
    → items ≡ es → restored head.state items ≡ Ok v → Tells s (λ m. HoldsVoter (m g) v)
restored_held s g head es items v known below same is =
    let first : ℕ = head.state.base_index + 1 in
    let whole : restored head.state es ≡ Ok (read_voter head.state es) =
    restored_ok head.state es known.state.state.1.in_range (all_fit first below.run.texts es below.run.read) (in_order first below.run.texts es below.run.read) in
    let given : restored head.state es ≡ Ok v = ap (restored head.state) (sym same) ∙ is in
    let one : read_voter head.state es ≡ v = ok_is (sym whole ∙ given) in
    subst (λ (w : State). Tells s (λ m. HoldsVoter (m g) w)) one (voter_held s g head es known below)
  where
    ok_is : {v w : State} → ◌≡◌ {A = Result State StoredFault} (Ok v) (Ok w) → v ≡ w
    ok_is h = cc
