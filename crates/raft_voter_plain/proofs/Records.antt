-- Records are known by their bytes.
use Rattle.std.proofs.Common.{◌≡◌, ℕ, ◌+◌, ◌<◌, ◌≤◌, ◌^◌, ◌==◌, ◌∙◌, true, List, [], ◌∷◌, ◌++◌, map, drop, inl, inr, length, length-append, append_assoc, append-nil, Ok, Option, refl, sym, ap, subst, arith}
use Rattle.std.proofs.lemmas.Bool.Decides.{nat_tests}
use Rattle.std.proofs.lemmas.Grind.{common_steps}
use Rattle.std.proofs.lemmas.List.Concat.{flat_map-append}
use Rattle.std.proofs.lemmas.List.Folds.{list_all-append}
use Rattle.std.specs.List.{flat_map, list_all}
use Rattle.raft_voter_messages.proofs.Public.{entry_numbers, length-entry_text, length-head_text, length-number_text, length-state_text, length-vote_text, number_first, split_same, state_form_2-same, vote_in_range}
use Rattle.raft_voter.proofs.Public.{entries_in_range, last_in_range, length-numbered, restored_ok, state_in_range, unnumbered}
use Rattle.raft_voter_messages.specs.declared.reply.Entry.{Entry}
use Rattle.raft_voter_messages.specs.declared.reply.VoterState.{VoterState}
use Rattle.raft_voter.specs.Rules.{numbered}
use Rattle.raft_voter_messages.specs.Ranges.{entry_fits, fits}
use Rattle.raft_voter.specs.InRange.{IsStorable}
use Rattle.raft_voter.specs.State.{State, state_of}
use Rattle.raft_voter.specs.Restoring.{are_in_order, restored}
use Rattle.raft_voter_messages.specs.StoredForms.{IsEntry, IsState, entry_form_1, entry_text, number_text, state_fits, state_text, stored_entry_fits, vote_text}
use Rattle.raft_voter_plain.specs.Beginnings.{StartsWith, BeginsWithEntries, BeginsWithEntry, BeginsWithNumber, BeginsWithRecord}
use Rattle.raft_voter_plain.specs.Records.{AreEntries, AreStorable, IsStorableRecord, voter_record, stored_entry, voter_bytes}

-- Entries.

abbrev entry_with : ℕ → ℕ → List ℕ → Entry
entry_with i t own = record { index = i; term = t; bytes = own }

entry_with-same : (i j t u : ℕ) (a b : List ℕ) → i ≡ j → t ≡ u → a ≡ b → entry_with i t a ≡ entry_with j u b
entry_with-same i j t u a b e f g = cc

pub entry_same : (e f : Entry) (x y : List ℕ) → stored_entry_fits e ≡ true → stored_entry_fits f ≡ true → stored_entry e ++ x ≡ stored_entry f ++ y → (e ≡ f) × (x ≡ y)
unfolding stored_entry
entry_same e f x y he hf same =
    let bounds : (length e.bytes + 17 < 2 ^ 64) × (length f.bytes + 17 < 2 ^ 64) × (e.index < 2 ^ 64) × (e.term < 2 ^ 64) = grind (arith, nat_tests) in
    let grouped = sym (append_assoc (number_text (length e.bytes + 17)) (entry_text e) x) ∙ same ∙ append_assoc (number_text (length f.bytes + 17)) (entry_text f) y in
    let sizes = number_first (length e.bytes + 17) (length f.bytes + 17) (entry_text e ++ x) (entry_text f ++ y) bounds.0 bounds.1 grouped in
    let texts = split_same (entry_text e) (entry_text f) x y (17 + length e.bytes) (length-entry_text e) (omega (arith, length-entry_text f, sizes.0)) sizes.1 in
    let parts = entry_numbers (entry_form_1 e) e.bytes e.index e.term f refl bounds.2 bounds.3 hf (ap (drop 1) texts.0) in
    (entry_with-same _ _ _ _ _ _ parts.0 parts.1 parts.2, texts.1)

entries_same : (es fs : List Entry) (x y : List ℕ) → length es ≡ length fs → list_all stored_entry_fits es ≡ true → list_all stored_entry_fits fs ≡ true
    → flat_map stored_entry es ++ x ≡ flat_map stored_entry fs ++ y → (es ≡ fs) × (x ≡ y)
entries_same [] [] x y size he hf same = (refl, same)
entries_same [] (f ∷ fs) x y size he hf same = absurd (omega arith)
entries_same (e ∷ es) [] x y size he hf same = absurd (omega arith)
entries_same (e ∷ es) (f ∷ fs) x y size he hf same =
    let a : (stored_entry_fits e ≡ true) × (list_all stored_entry_fits es ≡ true) = grind (arith, nat_tests) in
    let b : (stored_entry_fits f ≡ true) × (list_all stored_entry_fits fs ≡ true) = grind (arith, nat_tests) in
    let grouped = sym (append_assoc (stored_entry e) (flat_map stored_entry es) x) ∙ same ∙ append_assoc (stored_entry f) (flat_map stored_entry fs) y in
    let one = entry_same e f (flat_map stored_entry es ++ x) (flat_map stored_entry fs ++ y) a.0 b.0 grouped in
    let more = entries_same es fs x y (omega arith) a.1 b.1 one.1 in
    let first = one.0 in
    let others = more.0 in
    (cc, more.1)

-- Voters.

abbrev state_with : ℕ → Option ℕ → ℕ → ℕ → ℕ → List (ℕ × List ℕ) → State
state_with t o b u c es = record { term = t; vote = o; base_index = b; base_term = u; commit = c; log = es }

state_with-same : (t t' : ℕ) (o o' : Option ℕ) (b b' u u' c c' : ℕ) (es fs : List (ℕ × List ℕ)) → t ≡ t' → o ≡ o' → b ≡ b' → u ≡ u' → c ≡ c' → es ≡ fs
    → state_with t o b u c es ≡ state_with t' o' b' u' c' fs
state_with-same t t' o o' b b' u u' c c' es fs p q r s w x = cc

-- entries that are numbered alike are the same
log_same : (v w : State) → numbered (v.base_index + 1) v.log ≡ numbered (w.base_index + 1) w.log → v.log ≡ w.log
log_same v w same = sym (unnumbered (v.base_index + 1) v.log) ∙ ap (map (λ e. (e.term, e.bytes))) same ∙ unnumbered (w.base_index + 1) w.log

voter_same : (v w : State) (x y : List ℕ) → IsStorable v → IsStorable w → voter_bytes v ++ x ≡ voter_bytes w ++ y → (v ≡ w) × (x ≡ y)
unfolding voter_bytes
voter_same v w x y hv hw same =
    let es = numbered (v.base_index + 1) v.log in
    let fs = numbered (w.base_index + 1) w.log in
    let left : (state_text (state_of v) ++ (number_text (length v.log) ++ flat_map stored_entry es)) ++ x ≡ state_text (state_of v) ++ (number_text (length v.log) ++ (flat_map stored_entry es ++ x)) = simp append_assoc in
    let right : (state_text (state_of w) ++ (number_text (length w.log) ++ flat_map stored_entry fs)) ++ y ≡ state_text (state_of w) ++ (number_text (length w.log) ++ (flat_map stored_entry fs ++ y)) = simp append_assoc in
    let grouped = sym left ∙ same ∙ right in
    let states = split_same (state_text (state_of v)) (state_text (state_of w)) (number_text (length v.log) ++ (flat_map stored_entry es ++ x)) (number_text (length w.log) ++ (flat_map stored_entry fs ++ y)) 42 (length-state_text (state_of v)) (length-state_text (state_of w)) grouped in
    let known = state_form_2-same (state_of v) (state_of w) (state_in_range v hv.in_range) (state_in_range w hw.in_range) (ap (drop 1) states.0) in
    let sizes = number_first (length v.log) (length w.log) (flat_map stored_entry es ++ x) (flat_map stored_entry fs ++ y) (omega (arith, hv.end_fits)) (omega (arith, hw.end_fits)) states.1 in
    let entries = entries_same es fs x y (omega (arith, sizes.0, length-numbered (v.base_index + 1) v.log, length-numbered (w.base_index + 1) w.log)) (entries_in_range v hv) (entries_in_range w hw) sizes.1 in
    (state_with-same _ _ _ _ _ _ _ _ _ _ _ _ known.0 known.1 known.2 known.3 known.4 (log_same v w entries.0), entries.1)

pub record_same : (r s : ℕ × State) (x y : List ℕ) → IsStorableRecord r → IsStorableRecord s → voter_record r ++ x ≡ voter_record s ++ y → (r ≡ s) × (x ≡ y)
unfolding voter_record
record_same r s x y hr hs same =
    let grouped = sym (append_assoc (number_text r.0) (voter_bytes r.1) x) ∙ same ∙ append_assoc (number_text s.0) (voter_bytes s.1) y in
    let groups = number_first r.0 s.0 (voter_bytes r.1 ++ x) (voter_bytes s.1 ++ y) hr.group hs.group grouped in
    let voters = voter_same r.1 s.1 x y hr.voter hs.voter groups.1 in
    (ap (λ g. (g, r.1)) groups.0 ∙ ap (λ v. (s.0, v)) voters.0, voters.1)

pub length-record : (r : ℕ × State) (x : List ℕ) → 8 ≤ length (voter_record r ++ x)
unfolding voter_record
length-record r x = omega (arith, length-number_text r.0, length-append (number_text r.0) (voter_bytes r.1), length-append (number_text r.0 ++ voter_bytes r.1) x)

pub records_same : (rs ss : List (ℕ × State)) → AreStorable rs → AreStorable ss → flat_map voter_record rs ≡ flat_map voter_record ss → rs ≡ ss
records_same [] [] hr hs same = refl
records_same [] (s ∷ ss) hr hs same = absurd (omega (arith, ap length same, length-record s (flat_map voter_record ss)))
records_same (r ∷ rs) [] hr hs same = absurd (omega (arith, ap length same, length-record r (flat_map voter_record rs)))
records_same (r ∷ rs) (s ∷ ss) hr hs same =
    let one = record_same r s (flat_map voter_record rs) (flat_map voter_record ss) hr.0 hs.0 same in
    let first = one.0 in
    let others = records_same rs ss hr.1 hs.1 one.1 in
    cc

pub shorter : (bytes rest : List ℕ) (r : ℕ × State) → bytes ≡ voter_record r ++ rest → length rest < length bytes
unfolding voter_record
shorter bytes rest r e =
    rw e (omega (arith, length-append (number_text r.0 ++ voter_bytes r.1) rest, length-append (number_text r.0) (voter_bytes r.1), length-number_text r.0))

-- Reading.

in_order : (i : ℕ) (es : List Entry) → are_in_order i es ≡ true → numbered i (map (λ e. (e.term, e.bytes)) es) ≡ es
in_order i [] h = refl
in_order i (e ∷ es) h =
    let facts : (e.index ≡ i) × (are_in_order (i + 1) es ≡ true) = grind (arith, nat_tests) in
    let first : entry_with i e.term e.bytes ≡ e = entry_with-same i e.index e.term e.term e.bytes e.bytes (sym facts.0) refl refl in
    let others = in_order (i + 1) es facts.1 in
    cc

unnumbered_fit : (es : List Entry) → list_all stored_entry_fits es ≡ true → list_all entry_fits (map (λ e. (e.term, e.bytes)) es) ≡ true
unnumbered_fit [] h = refl
unnumbered_fit (e ∷ es) h =
    let facts : (stored_entry_fits e ≡ true) × (list_all stored_entry_fits es ≡ true) = grind (arith, nat_tests) in
    let first : entry_fits (e.term, e.bytes) ≡ true = grind (arith, nat_tests) in
    rw (first, unnumbered_fit es facts.1) refl

-- one more entry behind others
order_more : (i : ℕ) (es : List Entry) (e : Entry) → are_in_order i es ≡ true → e.index ≡ i + length es → are_in_order i (es ++ e ∷ []) ≡ true
order_more i [] e h at = let here : e.index ≡ i = omega arith in grind (arith, nat_tests)
order_more i (f ∷ es) e h at =
    let facts : ((f.index == i) ≡ true) × (are_in_order (i + 1) es ≡ true) = grind (arith, nat_tests) in
    rw facts.0 (order_more (i + 1) es e facts.1 (omega arith))

more_entries : (first : ℕ) (es : List Entry) (e : Entry) → AreEntries first es → e.index ≡ first + length es → stored_entry_fits e ≡ true → AreEntries first (es ++ e ∷ [])
more_entries first es e h at fit = record {
  fit = list_all-append stored_entry_fits es (e ∷ []) ∙ rw (h.fit, fit) refl;
  ordered = order_more first es e h.ordered at;
}

more_text : (bytes left rest : List ℕ) (es : List Entry) (e : Entry) → bytes ≡ flat_map stored_entry es ++ left → left ≡ stored_entry e ++ rest → bytes ≡ flat_map stored_entry (es ++ e ∷ []) ++ rest
more_text bytes left rest es e text one =
    rw (text, one) (sym (append_assoc (flat_map stored_entry es) (stored_entry e) rest)
    ∙ ap (λ bs. bs ++ rest) (ap (λ bs. flat_map stored_entry es ++ bs) (sym (append-nil (stored_entry e))) ∙ sym (flat_map-append stored_entry es (e ∷ []))))

-- one more entry is read behind others
pub one_more : (bytes left rest : List ℕ) (first count : ℕ) (es : List Entry) (e : Entry) → BeginsWithEntries bytes first count es left
    → BeginsWithEntry left (first + count) e rest → BeginsWithEntries bytes first (count + 1) (es ++ e ∷ []) rest
one_more bytes left rest first count es e h k = record {
  entries = more_entries first es e h.entries (omega (arith, k.at_index, h.size)) k.in_range;
  size = omega (arith, h.size, length-append es (e ∷ []));
  text = more_text bytes left rest es e h.text k.text;
}

pub one_entry : (bytes behind own rest : List ℕ) (size index : ℕ) (e : Entry) → BeginsWithNumber bytes size behind → StartsWith behind size own rest → IsEntry own index e
    → BeginsWithEntry bytes index e rest
unfolding stored_entry
one_entry bytes behind own rest size index e number split is =
    let sized : size ≡ length e.bytes + 17 = omega (arith, split.size, ap length is.text, length-entry_text e) in record {
      at_index = is.at_index;
      in_range = is.in_range;
      text = number.text ∙ ap (λ bs. number_text size ++ bs) split.text ∙ ap (λ n. number_text n ++ (own ++ rest)) sized ∙ ap (λ bs. number_text (length e.bytes + 17) ++ (bs ++ rest)) is.text
          ∙ sym (append_assoc (number_text (length e.bytes + 17)) (entry_text e) rest);
    }

-- a state of form 2 is read as it was written
as_written : (bytes : List ℕ) (s : VoterState) → length bytes ≡ 42 → IsState bytes s → bytes ≡ state_text s
as_written [] s wide is = absurd (omega arith)
as_written (form ∷ body) s wide (inl (first, one), bare) =
    absurd (omega (arith, wide, ap length one.text, length-head_text s.term s.base_index s.base_term (vote_text s.vote) (length-vote_text s.vote)))
as_written (form ∷ body) s wide (inr (second, same), bare) = ap (λ f. f ∷ body) second ∙ ap (λ bs. 2 ∷ bs) same

regroup : (g s n e r : List ℕ) → g ++ (s ++ (n ++ (e ++ r))) ≡ (g ++ (s ++ (n ++ e))) ++ r
regroup g s n e r = simp append_assoc

pub record_read : (bytes one state two three rest : List ℕ) (group count : ℕ) (s : VoterState) (es : List Entry) (v : State)
    → BeginsWithNumber bytes group one → StartsWith one 42 state two → IsState state s → BeginsWithNumber two count three → BeginsWithEntries three (s.base_index + 1) count es rest
    → restored s es ≡ Ok v → BeginsWithRecord bytes (group, v) rest
unfolding voter_record voter_bytes
record_read bytes one state two three rest group count s es v a b is c d made =
    let entries = d.entries in
    let fit = is.1.in_range in
    let built = state_with s.term s.vote s.base_index s.base_term s.commit (map (λ e. (e.term, e.bytes)) es) in
    let same : v ≡ built = let e = restored_ok s es fit entries.fit entries.ordered in cc in
    let facts : (fits s.term ≡ true) × (fits s.base_index ≡ true) × (fits s.base_term ≡ true) × (fits s.commit ≡ true) × (s.base_index ≤ s.commit) = let own : state_fits s ≡ true = fit in grind (arith, nat_tests) in
    let base : s.base_index < 2 ^ 63 = let own : fits s.base_index ≡ true = facts.1 in grind (arith, nat_tests) in
    let ends = last_in_range es s.base_index entries.fit entries.ordered base in
    let sized : length {A = ℕ × List ℕ} (map (λ e. (e.term, e.bytes)) es) ≡ length es = grind (arith, common_steps) in
    let storable : IsStorableRecord (group, built) = record {
      group = a.small;
      voter = record {
        in_range = record { term = facts.0; vote = vote_in_range s fit; base_index = facts.1; base_term = facts.2; commit = facts.3; committed = facts.4; log = unnumbered_fit es entries.fit };
        end_fits = omega (arith, sized, ends);
      };
    } in
    let P : State → Type 0 = λ w. BeginsWithRecord bytes (group, w) rest in
    let text : bytes ≡ voter_record (group, built) ++ rest =
    rw (in_order (s.base_index + 1) es entries.ordered, sized, d.size) (a.text ∙ ap (λ bs. number_text group ++ bs) (b.text ∙ ap (λ bs. bs ++ two) (as_written state s b.size is) ∙ ap (λ bs. state_text s ++ bs) (c.text ∙ ap (λ bs. number_text count ++ bs) d.text))
    ∙ regroup (number_text group) (state_text s) (number_text count) (flat_map stored_entry es) rest) in
    subst P (sym same) (record { storable = storable; text = text })
