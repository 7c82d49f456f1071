-- What is told as damaged holds no records.
use Rattle.std.proofs.Common.{◌≡◌, ◌≢◌, ℕ, ◌+◌, ◌<◌, ◌≤◌, ◌^◌, ◌∙◌, true, List, [], ◌∷◌, ◌++◌, length, length-append, append_assoc, Result, Ok, Err, IfErr, sym, ap, subst, arith}
use Rattle.std.proofs.lemmas.Bool.Decides.{nat_tests}
use Rattle.std.specs.List.{flat_map, list_all}
use Rattle.std.specs.Prelude.{IsErrAnd}
use Rattle.raft_voter_messages.proofs.Public.{entry_no_fault, length-entry_text, length-number_text, length-state_text, number_first, split_same, state_no_fault, state_read_back}
use Rattle.raft_voter_messages.specs.declared.reply.Entry.{Entry}
use Rattle.raft_voter_messages.specs.declared.reply.VoterState.{VoterState}
use Rattle.raft_voter_messages.specs.declared.stored.StoredFault.{StoredFault}
use Rattle.raft_voter_messages.specs.declared.stored.StoredFault.TheVariants.{Length, Form, Range, Index, Order, Memory}
use Rattle.raft_voter.specs.Rounds.{World}
use Rattle.raft_voter.specs.Rules.{numbered}
use Rattle.raft_voter.specs.State.{State, state_of}
use Rattle.raft_voter.specs.Restoring.{are_in_order}
use Rattle.raft_voter_messages.specs.StoredForms.{EntryFault, IsState, StateFault, entry_text, number_text, state_text, stored_entry_fits}
use Rattle.raft_voter_plain.specs.declared.record.OpenFault.{OpenFault}
use Rattle.raft_voter_plain.specs.declared.record.OpenFault.TheVariants.{Damaged, Memory as OutOfMemory}
use Rattle.raft_voter_plain.specs.Beginnings.{BeginsWithEntries, BeginsWithRecord}
use Rattle.raft_voter_plain.specs.Damage.{LacksEntries, HasNoEntry, HasNoVoterRecord, StandsForNothing, TellsDamage, open_fault}
use Rattle.raft_voter_plain.specs.Records.{AreEntries, AreStorable, StandsFor, IsStorableRecord, voter_record, stored_entry, voter_bytes}
use Rattle.raft_voter.proofs.Public.{entries_in_range, length-numbered, numbered_in_order, state_in_range}
use Rattle.raft_voter_plain.proofs.Records.{entry_same, length-record, record_same}

-- Faults.

tells : (P : Type 0) (fault : OpenFault) → P → TellsDamage P fault
tells P Damaged h = h
tells P OutOfMemory h = tt

tells_fault : (P : Type 0) (given : StoredFault) (fault : OpenFault) → fault ≡ open_fault given → (given ≢ Memory → P) → TellsDamage P fault
tells_fault P Length fault e h = tells P fault (h (λ m. absurd (cc)))
tells_fault P Form fault e h = tells P fault (h (λ m. absurd (cc)))
tells_fault P Range fault e h = tells P fault (h (λ m. absurd (cc)))
tells_fault P Index fault e h = tells P fault (h (λ m. absurd (cc)))
tells_fault P Order fault e h = tells P fault (h (λ m. absurd (cc)))
tells_fault P Memory fault e h = rw e tt

told_on : (P Q : Type 0) (fault : OpenFault) → TellsDamage P fault → (P → Q) → TellsDamage Q fault
told_on P Q Damaged h f = f h
told_on P Q OutOfMemory h f = tt

-- an error, whichever it is
pub any_err : {T : Type 0} (r : Result T OpenFault) (P : Type 0) → P → IfErr r (TellsDamage P)
any_err (Ok v) P h = tt
any_err (Err e) P h = tells P e h

-- one that is handed on
pub handed_on : {T : Type 0} (r : Result T OpenFault) (P Q : Type 0) (fault : OpenFault) → IsErrAnd r (λ e. e ≡ fault) → TellsDamage P fault → (P → Q) → IfErr r (TellsDamage Q)
handed_on (Ok v) P Q fault same h f = absurd same
handed_on (Err e) P Q fault same h f = subst (TellsDamage Q) (sym same) (told_on P Q fault h f)

-- one that stored bytes give
pub stored_fault : {T : Type 0} (r : Result T OpenFault) (P : Type 0) (given : StoredFault) → IsErrAnd r (λ e. e ≡ open_fault given) → (given ≢ Memory → P) → IfErr r (TellsDamage P)
stored_fault (Ok v) P given same h = absurd same
stored_fault (Err e) P given same h = tells_fault P given e same h

-- One entry.

-- the parts of an entry that stands at the front of bytes
own_there : (bytes behind rest : List ℕ) (size : ℕ) (e : Entry) → bytes ≡ number_text size ++ behind → size < 2 ^ 64 → stored_entry_fits e ≡ true
    → bytes ≡ stored_entry e ++ rest → (size ≡ length e.bytes + 17) × (behind ≡ entry_text e ++ rest)
unfolding stored_entry
own_there bytes behind rest size e a small fit same =
    let bound : length e.bytes + 17 < 2 ^ 64 = grind (arith, nat_tests) in
    number_first size (length e.bytes + 17) behind (entry_text e ++ rest) small bound
    (sym a ∙ same ∙ append_assoc (number_text (length e.bytes + 17)) (entry_text e) rest)

length-stored_entry : (e : Entry) (rest : List ℕ) → 8 ≤ length (stored_entry e ++ rest)
unfolding stored_entry
length-stored_entry e rest =
    omega (
      arith,
      length-number_text (length e.bytes + 17),
      length-append (number_text (length e.bytes + 17)) (entry_text e),
      length-append (number_text (length e.bytes + 17) ++ entry_text e) rest,
    )

pub no_size : (bytes : List ℕ) (index : ℕ) → length bytes < 8 → HasNoEntry index bytes
no_size bytes index short = λ e rest is. omega (arith, length-stored_entry e rest, ap length is.text)

pub no_own : (bytes behind : List ℕ) (size index : ℕ) → bytes ≡ number_text size ++ behind → size < 2 ^ 64 → length behind < size → HasNoEntry index bytes
no_own bytes behind size index a small short = λ e rest is.
    let there = own_there bytes behind rest size e a small is.in_range is.text in
    omega (arith, there.0, ap length there.1, length-append (entry_text e) rest, length-entry_text e)

pub no_entry_read : (bytes behind own left : List ℕ) (size index : ℕ) (given : StoredFault) → bytes ≡ number_text size ++ behind → size < 2 ^ 64
    → length own ≡ size → behind ≡ own ++ left → EntryFault given own index → given ≢ Memory → HasNoEntry index bytes
no_entry_read bytes behind own left size index given a small long split fault other = λ e rest is.
    let there = own_there bytes behind rest size e a small is.in_range is.text in
    let texts = split_same own (entry_text e) left rest size long (omega (arith, length-entry_text e, there.0)) (sym split ∙ there.1) in
    let P : List ℕ → Type 0 = λ bs. EntryFault given bs index in
    let Q : ℕ → Type 0 = λ i. EntryFault given (entry_text e) i in
    other (entry_no_fault given e is.in_range (subst Q (sym is.at_index) (subst P texts.0 fault)))

-- Entries.

-- what stands behind entries that were read, of more that are there
next_entry : (i : ℕ) (es fs : List Entry) (left rest : List ℕ) → list_all stored_entry_fits es ≡ true → list_all stored_entry_fits fs ≡ true
    → are_in_order i fs ≡ true → length es < length fs → flat_map stored_entry es ++ left ≡ flat_map stored_entry fs ++ rest
    → (f : Entry) × (more : List ℕ) × (f.index ≡ i + length es) × (stored_entry_fits f ≡ true) × (left ≡ stored_entry f ++ more)
next_entry i [] [] left rest he hf order size same = absurd (omega arith)
next_entry i [] (f ∷ fs) left rest he hf order size same =
    let fit : stored_entry_fits f ≡ true = grind (arith, nat_tests) in
    let at : f.index ≡ i + 0 = grind (arith, nat_tests) in
    (f, flat_map stored_entry fs ++ rest, at, fit, same ∙ append_assoc (stored_entry f) (flat_map stored_entry fs) rest)
next_entry i (e ∷ es) [] left rest he hf order size same = absurd (omega arith)
next_entry i (e ∷ es) (f ∷ fs) left rest he hf order size same =
    let a : (stored_entry_fits e ≡ true) × (list_all stored_entry_fits es ≡ true) = grind (arith, nat_tests) in
    let b : (stored_entry_fits f ≡ true) × (list_all stored_entry_fits fs ≡ true) = grind (arith, nat_tests) in
    let others : are_in_order (i + 1) fs ≡ true = grind (arith, nat_tests) in
    let grouped = sym (append_assoc (stored_entry e) (flat_map stored_entry es) left) ∙ same ∙ append_assoc (stored_entry f) (flat_map stored_entry fs) rest in
    let one = entry_same e f (flat_map stored_entry es ++ left) (flat_map stored_entry fs ++ rest) a.0 b.0 grouped in
    let more = next_entry (i + 1) es fs left rest a.1 b.1 others (omega arith) one.1 in
    (more.0, more.1, omega (arith, more.2), more.3, more.4)

pub no_entries : (bytes left : List ℕ) (base count i : ℕ) (es : List Entry) → BeginsWithEntries bytes (base + 1) i es left → i < count
    → HasNoEntry (base + 1 + i) left → LacksEntries (base + 1) count bytes
no_entries bytes left base count i es read more none = λ fs rest is.
    let are = is.entries in
    let next = next_entry (base + 1) es fs left rest read.entries.fit are.fit are.ordered (omega (arith, read.size, is.size)) (sym read.text ∙ is.text) in
    none next.0 next.1 (record { at_index = omega (arith, next.2, read.size); in_range = next.3; text = next.4 })

-- Records.

grouped : (v : State) (x : List ℕ) → voter_bytes v ++ x
    ≡ state_text (state_of v) ++ (number_text (length v.log) ++ (flat_map stored_entry (numbered (v.base_index + 1) v.log) ++ x))
unfolding voter_bytes
grouped v x = simp append_assoc

-- behind the group of a record stand its voter's state, the number of its entries, and its entries
voter_there : (bytes one x : List ℕ) (group : ℕ) (r : ℕ × State) → bytes ≡ number_text group ++ one → group < 2 ^ 64 → IsStorableRecord r → bytes ≡ voter_record r ++ x
    → one ≡ state_text (state_of r.1) ++ (number_text (length r.1.log) ++ (flat_map stored_entry (numbered (r.1.base_index + 1) r.1.log) ++ x))
unfolding voter_record
voter_there bytes one x group r a small h same =
    (number_first group r.0 one (voter_bytes r.1 ++ x) small h.group (sym a ∙ same ∙ append_assoc (number_text r.0) (voter_bytes r.1) x)).1 ∙ grouped r.1 x

-- the state, and what stands behind it
state_there : (bytes one state two x : List ℕ) (group : ℕ) (r : ℕ × State) → bytes ≡ number_text group ++ one → group < 2 ^ 64 → one ≡ state ++ two
    → length state ≡ 42 → IsStorableRecord r → bytes ≡ voter_record r ++ x
    → (state ≡ state_text (state_of r.1)) × (two ≡ number_text (length r.1.log) ++ (flat_map stored_entry (numbered (r.1.base_index + 1) r.1.log) ++ x))
state_there bytes one state two x group r a small b long h same =
    split_same state (state_text (state_of r.1)) two _ 42 long (length-state_text (state_of r.1)) (sym b ∙ voter_there bytes one x group r a small h same)

pub no_group : (bytes : List ℕ) → length bytes < 8 → HasNoVoterRecord bytes
no_group bytes short = λ r x is. omega (arith, length-record r x, ap length is.text)

pub no_state : (bytes one : List ℕ) (group : ℕ) → bytes ≡ number_text group ++ one → group < 2 ^ 64 → length one < 42 → HasNoVoterRecord bytes
no_state bytes one group a small short = λ r x begins.
    let h = begins.storable in
    let same = begins.text in
    let there = voter_there bytes one x group r a small h same in
    omega (
      arith,
      ap length there,
      length-state_text (state_of r.1),
      length-append (state_text (state_of r.1)) (number_text (length r.1.log) ++ (flat_map stored_entry (numbered (r.1.base_index + 1) r.1.log) ++ x)),
    )

pub no_state_read : (bytes one state two : List ℕ) (group : ℕ) (given : StoredFault) → bytes ≡ number_text group ++ one → group < 2 ^ 64 → one ≡ state ++ two
    → length state ≡ 42 → StateFault given state → HasNoVoterRecord bytes
no_state_read bytes one state two group given a small b long fault = λ r x begins.
    let h = begins.storable in
    let same = begins.text in
    let there = state_there bytes one state two x group r a small b long h same in
    state_no_fault given (state_of r.1) (state_in_range r.1 h.voter.in_range) (subst (StateFault given) there.0 fault)

pub no_count : (bytes one state two : List ℕ) (group : ℕ) → bytes ≡ number_text group ++ one → group < 2 ^ 64 → one ≡ state ++ two
    → length state ≡ 42 → length two < 8 → HasNoVoterRecord bytes
no_count bytes one state two group a small b long short = λ r x begins.
    let h = begins.storable in
    let same = begins.text in
    let there = state_there bytes one state two x group r a small b long h same in
    omega (
      arith,
      ap length there.1,
      length-number_text (length r.1.log),
      length-append (number_text (length r.1.log)) (flat_map stored_entry (numbered (r.1.base_index + 1) r.1.log) ++ x),
    )

pub no_entries_read : (bytes one state two three : List ℕ) (group count : ℕ) (s : VoterState) → bytes ≡ number_text group ++ one → group < 2 ^ 64
    → one ≡ state ++ two → length state ≡ 42 → IsState state s → two ≡ number_text count ++ three → count < 2 ^ 64
    → LacksEntries (s.base_index + 1) count three → HasNoVoterRecord bytes
no_entries_read bytes one state two three group count s a small b long is c few none = λ r x begins.
    let h = begins.storable in
    let same = begins.text in
    let v = r.1 in
    let es = numbered (v.base_index + 1) v.log in
    let there = state_there bytes one state two x group r a small b long h same in
    let counts = number_first count (length v.log) three (flat_map stored_entry es ++ x) few (omega (arith, h.voter.end_fits)) (sym c ∙ there.1) in
    let P : List ℕ → Type 0 = λ bs. IsState bs s in
    let base : s.base_index ≡ v.base_index = (state_read_back (state_of v) s (state_in_range v h.voter.in_range) (subst P there.0 is)).2 in
    let are : AreEntries (v.base_index + 1) es = record { fit = entries_in_range v h.voter; ordered = numbered_in_order (v.base_index + 1) v.log } in
    let Q : ℕ → Type 0 = λ b. AreEntries (b + 1) es in
    none es x (record { entries = subst Q (sym base) are; size = length-numbered (v.base_index + 1) v.log ∙ sym counts.0; text = counts.1 })

-- Files.

-- where bytes hold records, those that are left are records too
abbrev pub AreLeft : List ℕ → List ℕ → Type 0
AreLeft bytes left = (W : World) → StandsFor bytes W → (rs : List (ℕ × State)) × AreStorable rs × (left ≡ flat_map voter_record rs)

pub all_left : (bytes : List ℕ) → AreLeft bytes bytes
all_left bytes = λ W h. (h.records, h.storable, h.text)

behind : (rs : List (ℕ × State)) (r : ℕ × State) (left rest : List ℕ) → AreStorable rs → left ≡ flat_map voter_record rs → IsStorableRecord r → left ≡ voter_record r ++ rest
    → (ss : List (ℕ × State)) × AreStorable ss × (rest ≡ flat_map voter_record ss)
behind [] r left rest h e fit f = absurd (omega (arith, length-record r rest, ap length e, ap length f))
behind (s ∷ rs) r left rest h e fit f =
    let one = record_same s r (flat_map voter_record rs) rest h.0 fit (sym e ∙ f) in
    (rs, h.1, sym one.1)

pub one_less : (bytes left rest : List ℕ) (r : ℕ × State) → AreLeft bytes left → BeginsWithRecord left r rest → AreLeft bytes rest
one_less bytes left rest r so_far is = λ W h. let there = so_far W h in behind there.0 r left rest there.1 there.2 is.storable is.text

none_behind : (rs : List (ℕ × State)) (left : List ℕ) → AreStorable rs → left ≡ flat_map voter_record rs → 0 < length left → HasNoVoterRecord left → ⊥
none_behind [] left h e more none = omega (arith, ap length e)
none_behind (r ∷ rs) left h e more none = none r (flat_map voter_record rs) (record { storable = h.0; text = e })

pub nothing_held : (bytes left : List ℕ) → AreLeft bytes left → 0 < length left → HasNoVoterRecord left → StandsForNothing bytes
nothing_held bytes left so_far more none = λ W h. let there = so_far W h in none_behind there.0 left there.1 there.2 more none
