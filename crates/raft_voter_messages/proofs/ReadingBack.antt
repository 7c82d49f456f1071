-- What is written is read back, and bytes are read in one way.
use Rattle.std.proofs.Common.{◌≡◌, ◌≢◌, ℕ, ◌+◌, ◌<◌, ◌≤◌, ◌^◌, true, List, [], ◌∷◌, ◌++◌, ◌∙◌, length, append-nil, ◌⊎◌, inl, inr, refl, sym, ap, drop, arith}
use Rattle.std.proofs.lemmas.Bool.Decides.{nat_tests}
use Rattle.raft_voter_messages.specs.declared.reply.Entry.{Entry}
use Rattle.raft_voter_messages.specs.declared.reply.VoterState.{VoterState}
use Rattle.raft_voter_messages.specs.declared.stored.StoredFault.{StoredFault}
use Rattle.raft_voter_messages.specs.declared.stored.StoredFault.TheVariants.{Length, Form, Range, Index, Order, Memory}
use Rattle.raft_voter_messages.specs.Laws.{EntriesAreReadBack, OneEntry, OneEntryFault, OneState, OneStateFault, StatesAreReadBack, bare}
use Rattle.raft_voter_messages.specs.StoredForms.{EntryForm1Fault, IsBareState, IsEntry, IsEntryForm1, IsState, IsStateForm1, StateFault, StateForm1Fault, StateForm2Fault, entry_form_1, head_text, state_fits, state_form_2, stored_entry_fits, vote_text}
use Rattle.raft_voter_messages.proofs.Bytes.{entry_numbers, head_first, length-entry, length-state_text, length-head_text, length-vote_text, state_form_2-same, state_numbers_small, vote_fits-below, vote_in_range, vote_text-same}
use Rattle.raft_voter_messages.proofs.Equality.{entry_built, state_built}

pub entries_are_read_back : EntriesAreReadBack
entries_are_read_back e fit = record { text = refl; in_range = fit; at_index = refl }

pub one_entry : OneEntry
one_entry bytes i j e f one other =
    let own : stored_entry_fits e ≡ true = one.in_range in
    let bounds : (e.index < 2 ^ 64) × (e.term < 2 ^ 64) = grind (arith, nat_tests) in
    let same = entry_numbers (entry_form_1 e) e.bytes e.index e.term f refl bounds.0 bounds.1 other.in_range (ap (drop 1) (sym one.text ∙ other.text)) in
    (sym one.at_index ∙ same.0 ∙ other.at_index, entry_built e f same.0 same.1 same.2)

length-form_1 : (body : List ℕ) (e : Entry) → body ≡ entry_form_1 e → length body ≡ 16 + length e.bytes
length-form_1 body e is = length-entry body e.bytes e.index e.term is

-- an entry in range has a length of its form
sized : (body : List ℕ) (e : Entry) → IsEntryForm1 body e → ((length body < 16) ⊎ (65551 < length body)) → ⊥
sized body e is (inl short) = omega (arith, short, length-form_1 body e is.text)
sized body e is (inr long) =
    let own : stored_entry_fits e ≡ true = is.in_range in
    let small : length e.bytes ≤ 65535 = grind (arith, nat_tests) in
    omega (arith, long, small, length-form_1 body e is.text)

no_entry_of_form_1 :
    (fault : StoredFault) (body : List ℕ) (index : ℕ) (e : Entry) → fault ≢ Memory → EntryForm1Fault fault body index
    → IsEntryForm1 body e → e.index ≡ index → ⊥
no_entry_of_form_1 Length body index e other fault is at = sized body e is fault
no_entry_of_form_1 Range body index e other fault is at = fault.2 e is
no_entry_of_form_1 Index body index e other fault is at =
    let f = fault.0 in
    let one : IsEntry (1 ∷ body) f.index f = record { text = ap (λ xs. 1 ∷ xs) fault.1.text; in_range = fault.1.in_range; at_index = refl } in
    let own : IsEntry (1 ∷ body) e.index e = record { text = ap (λ xs. 1 ∷ xs) is.text; in_range = is.in_range; at_index = refl } in
    fault.2 ((one_entry (1 ∷ body) f.index e.index f e one own).0 ∙ at)
no_entry_of_form_1 Form body index e other fault is at = fault
no_entry_of_form_1 Order body index e other fault is at = fault
no_entry_of_form_1 Memory body index e other fault is at = other refl

one_fault_of_form_1 :
    (fault other : StoredFault) (body : List ℕ) (index : ℕ) → fault ≢ Memory → EntryForm1Fault fault body index
    → EntryForm1Fault other body index → other ≡ fault
one_fault_of_form_1 Length Length body index not a b = refl
one_fault_of_form_1 Range Range body index not a b = refl
one_fault_of_form_1 Index Index body index not a b = refl
one_fault_of_form_1 Length Range body index not (inl short) b = absurd (omega (arith, short, b.0))
one_fault_of_form_1 Length Range body index not (inr long) b = absurd (omega (arith, long, b.1))
one_fault_of_form_1 Range Length body index not a (inl short) = absurd (omega (arith, short, a.0))
one_fault_of_form_1 Range Length body index not a (inr long) = absurd (omega (arith, long, a.1))
one_fault_of_form_1 Range Index body index not a b = absurd (a.2 b.0 b.1)
one_fault_of_form_1 Index Range body index not a b = absurd (b.2 a.0 a.1)
one_fault_of_form_1 Length Index body index not a b = absurd (sized body b.0 b.1 a)
one_fault_of_form_1 Index Length body index not a b = absurd (sized body a.0 a.1 b)
one_fault_of_form_1 Length Memory body index not a b = absurd (sized body b.0 b.1 a)
one_fault_of_form_1 Range Memory body index not a b = absurd (a.2 b.0 b.1)
one_fault_of_form_1 Index Memory body index not a b =
    absurd (no_entry_of_form_1 Index body index b.0 not a b.1 b.2)
one_fault_of_form_1 Memory other body index not a b = absurd (not refl)
one_fault_of_form_1 Form other body index not a b = absurd a
one_fault_of_form_1 Order other body index not a b = absurd a
one_fault_of_form_1 fault Form body index not a b = absurd b
one_fault_of_form_1 fault Order body index not a b = absurd b

pub one_entry_fault : OneEntryFault
one_entry_fault [] index fault not a = (λ e is. cc (is.text), λ other b. b ∙ sym a)
one_entry_fault (form ∷ body) index fault not (inl (first, a)) = (
  λ e is. no_entry_of_form_1 fault body index e not a (record { text = ap (drop 1) is.text; in_range = is.in_range }) is.at_index,
  λ other b. elim b [
    | inl own ↦ one_fault_of_form_1 fault other body index not a own.1
    | inr none ↦ absurd (none.0 first)
  ],
)
one_entry_fault (form ∷ body) index fault not (inr (unknown, a)) = (
  λ e is. unknown (cc (is.text)),
  λ other b. elim b [
    | inl own ↦ absurd (unknown own.0)
    | inr none ↦ none.1 ∙ sym a
  ],
)

-- States.

-- states in range with one head are the same but for their commits and what is known of their logs
heads_same :
    (s r : VoterState) (x y : List ℕ) → state_fits s ≡ true → state_fits r ≡ true
    → head_text s.term (vote_text s.vote) s.base_index s.base_term ++ x ≡ head_text r.term (vote_text r.vote) r.base_index r.base_term ++ y
    → (s.term ≡ r.term) × (s.vote ≡ r.vote) × (s.base_index ≡ r.base_index) × (s.base_term ≡ r.base_term)
heads_same s r x y fit own same =
    let small = state_numbers_small s fit in
    let known = head_first s.term s.base_index s.base_term (vote_text s.vote) x y r small.0 small.1 small.2 (length-vote_text s.vote) own same in
    let votes = vote_text-same s.vote r.vote (vote_in_range s fit) (λ c here. vote_fits-below r.vote c (vote_in_range r own) here) known.1 in
    (known.0, votes, known.2, known.3)

-- bare states with the same numbers are the same
bare_same :
    (s r : VoterState) → IsBareState s → IsBareState r
    → (s.term ≡ r.term) × (s.vote ≡ r.vote) × (s.base_index ≡ r.base_index) × (s.base_term ≡ r.base_term) → s.commit ≡ r.commit → s ≡ r
bare_same s r a b same commit =
    state_built s r same.0 same.1 same.2 same.3 (a.last_index ∙ same.2 ∙ sym b.last_index) (a.last_term ∙ same.3 ∙ sym b.last_term) commit

pub one_state : OneState
one_state [] s r (one, a) other = absurd one
one_state (form ∷ body) s r (inl (first, one), a) (inl (again, other), b) =
    let same = heads_same s r [] [] a.in_range b.in_range (append-nil _ ∙ sym one.text ∙ other.text ∙ sym (append-nil _)) in
    bare_same s r a b same (one.commit ∙ same.2 ∙ sym other.commit)
one_state (form ∷ body) s r (inl (first, one), a) (inr (second, other), b) = absurd (omega (arith, first, second))
one_state (form ∷ body) s r (inr (second, one), a) (inl (first, other), b) = absurd (omega (arith, first, second))
one_state (form ∷ body) s r (inr (second, one), a) (inr (again, other), b) =
    let same = state_form_2-same s r a.in_range b.in_range (sym one ∙ other) in
    bare_same s r a b (same.0, same.1, same.2, same.3) same.4

pub states_are_read_back : StatesAreReadBack
states_are_read_back s fit = (inr (refl, refl), record { in_range = fit; last_index = refl; last_term = refl })

no_state_of_form_1 : (fault : StoredFault) (body : List ℕ) (s : VoterState) → StateForm1Fault fault body → state_fits s ≡ true → IsStateForm1 body s → ⊥
no_state_of_form_1 Length body s fault fit is =
    fault (ap length is.text ∙ length-head_text s.term s.base_index s.base_term (vote_text s.vote) (length-vote_text s.vote))
no_state_of_form_1 Range body s fault fit is = fault.1 s fit is
no_state_of_form_1 Form body s fault fit is = fault
no_state_of_form_1 Index body s fault fit is = fault
no_state_of_form_1 Order body s fault fit is = fault
no_state_of_form_1 Memory body s fault fit is = fault

no_state_of_form_2 : (fault : StoredFault) (body : List ℕ) (s : VoterState) → StateForm2Fault fault body → state_fits s ≡ true → body ≡ state_form_2 s → ⊥
no_state_of_form_2 Length body s fault fit is =
    fault (omega (arith, ap length is, length-state_text s))
no_state_of_form_2 Range body s fault fit is = fault.1 s fit is
no_state_of_form_2 Form body s fault fit is = fault
no_state_of_form_2 Index body s fault fit is = fault
no_state_of_form_2 Order body s fault fit is = fault
no_state_of_form_2 Memory body s fault fit is = fault

one_fault_of_state_1 : (fault other : StoredFault) (body : List ℕ) → StateForm1Fault fault body → StateForm1Fault other body → other ≡ fault
one_fault_of_state_1 Length Length body a b = refl
one_fault_of_state_1 Range Range body a b = refl
one_fault_of_state_1 Length Range body a b = absurd (a b.0)
one_fault_of_state_1 Range Length body a b = absurd (b a.0)
one_fault_of_state_1 Form other body a b = absurd a
one_fault_of_state_1 Index other body a b = absurd a
one_fault_of_state_1 Order other body a b = absurd a
one_fault_of_state_1 Memory other body a b = absurd a
one_fault_of_state_1 fault Form body a b = absurd b
one_fault_of_state_1 fault Index body a b = absurd b
one_fault_of_state_1 fault Order body a b = absurd b
one_fault_of_state_1 fault Memory body a b = absurd b

one_fault_of_state_2 : (fault other : StoredFault) (body : List ℕ) → StateForm2Fault fault body → StateForm2Fault other body → other ≡ fault
one_fault_of_state_2 Length Length body a b = refl
one_fault_of_state_2 Range Range body a b = refl
one_fault_of_state_2 Length Range body a b = absurd (a b.0)
one_fault_of_state_2 Range Length body a b = absurd (b a.0)
one_fault_of_state_2 Form other body a b = absurd a
one_fault_of_state_2 Index other body a b = absurd a
one_fault_of_state_2 Order other body a b = absurd a
one_fault_of_state_2 Memory other body a b = absurd a
one_fault_of_state_2 fault Form body a b = absurd b
one_fault_of_state_2 fault Index body a b = absurd b
one_fault_of_state_2 fault Order body a b = absurd b
one_fault_of_state_2 fault Memory body a b = absurd b

no_state : (bytes : List ℕ) (fault : StoredFault) (s : VoterState) → StateFault fault bytes → IsState bytes s → ⊥
no_state [] fault s a (none, bare) = none
no_state (form ∷ body) fault s (inl (first, a)) (inl (again, is), bare) = no_state_of_form_1 fault body s a bare.in_range is
no_state (form ∷ body) fault s (inl (first, a)) (inr (second, is), bare) = omega (arith, first, second)
no_state (form ∷ body) fault s (inr (inl (second, a))) (inl (first, is), bare) = omega (arith, first, second)
no_state (form ∷ body) fault s (inr (inl (second, a))) (inr (again, is), bare) = no_state_of_form_2 fault body s a bare.in_range is
no_state (form ∷ body) fault s (inr (inr unknown)) (inl (first, is), bare) = unknown.0 first
no_state (form ∷ body) fault s (inr (inr unknown)) (inr (second, is), bare) = unknown.1 second

one_fault : (bytes : List ℕ) (fault other : StoredFault) → StateFault fault bytes → StateFault other bytes → other ≡ fault
one_fault [] fault other a b = b ∙ sym a
one_fault (form ∷ body) fault other (inl (first, a)) (inl (again, b)) = one_fault_of_state_1 fault other body a b
one_fault (form ∷ body) fault other (inl (first, a)) (inr (inl (second, b))) = absurd (omega (arith, first, second))
one_fault (form ∷ body) fault other (inl (first, a)) (inr (inr b)) = absurd (b.0 first)
one_fault (form ∷ body) fault other (inr (inl (second, a))) (inl (first, b)) = absurd (omega (arith, first, second))
one_fault (form ∷ body) fault other (inr (inl (second, a))) (inr (inl (again, b))) = one_fault_of_state_2 fault other body a b
one_fault (form ∷ body) fault other (inr (inl (second, a))) (inr (inr b)) = absurd (b.1 second)
one_fault (form ∷ body) fault other (inr (inr a)) (inl (first, b)) = absurd (a.0 first)
one_fault (form ∷ body) fault other (inr (inr a)) (inr (inl (second, b))) = absurd (a.1 second)
one_fault (form ∷ body) fault other (inr (inr a)) (inr (inr b)) = b.2 ∙ sym a.2

pub one_state_fault : OneStateFault
one_state_fault bytes fault a = (λ s is. no_state bytes fault s a is, λ other b. one_fault bytes fault other a b)
