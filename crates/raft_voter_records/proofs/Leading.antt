-- What is written of a request leads from voters to voters.
use Rattle.std.proofs.Common.{◌≡◌, ◌∙◌, ◌⊎◌, ℕ, ◌-◌, ◌<◌, ◌==◌, Bool, true, false, List, [], ◌∷◌, ◌++◌, length, drop, None, unwrap_or, refl, sym, ap, subst, inl, inr, arith, append-nil, length-drop}
use Rattle.std.proofs.Math.Path.{fun_ext}
use Rattle.std.proofs.lemmas.Bool.{cases_Bool}
use Rattle.std.specs.Option.{option_or}
use Rattle.raft_log_model_laws.specs.Item.Item.{Clean}
use Rattle.raft_log_model_laws.specs.Meaning.{after, says}
use Rattle.raft_log_model_laws.specs.Meaning.Slot.{Index, Key}
use Rattle.raft_log_model_laws.specs.Groups.{appended, of_group, taken}
use Rattle.raft_log_model_laws.proofs.Public.{eq_true, from_eq_true, if_false, if_true, put_leaves, put_sets, says_append}
use Rattle.raft_voter_messages.specs.declared.request.Request.{Request}
use Rattle.raft_voter_messages.specs.declared.request.Request.TheVariants.{Vote, Append, Compact, Install, Read, Status, Retire}
use Rattle.raft_voter_messages.specs.Ranges.{in_range}
use Rattle.raft_voter_messages.specs.StoredForms.{state_text}
use Rattle.raft_voter_messages.proofs.Public.{states_are_read_back}
use Rattle.raft_voter_outline.specs.declared.outline.decision.Write.{Write}
use Rattle.raft_voter_outline.specs.declared.outline.decision.Write.TheVariants.{StateAlone, Entries, CompactTo, Clean as CleanWrite}
use Rattle.raft_voter_outline.specs.Outlines.{CanWrite, RestsOn, log_written, sent_of, stored_state, write_of}
use Rattle.raft_voter_outline.specs.Rules.{is_retire, next, next_in_range}
use Rattle.raft_voter_outline.specs.State.{State, fresh}
use Rattle.raft_voter_outline.proofs.Public.{Pair}
use Rattle.raft_voter.specs.InRange.{IsStorable}
use Rattle.raft_voter.specs.Rounds.{World}
use Rattle.raft_voter.proofs.Public.{state_in_range, storable_is_kept}
use Rattle.raft_voter_records.specs.Voters.{Group, Groups, HoldsVoter, IsVoid, IsVoter, Means, entry_content, voter_key}
use Rattle.raft_voter_records.specs.MeaningChanges.{Words, change_items, change_record, log_items, record_in, state_items, tagged_with, write_items}
use Rattle.raft_voter_records.specs.Laws.{EmptyMapsAreFresh, RecordsLead, SameMapsMeanTheSame}
use Rattle.raft_voter_records.proofs.Entries.{content_at, content_none}
use Rattle.raft_voter_records.proofs.Writing.{compact_stands, once_taken, run_no_key, run_stands}
use Rattle.raft_voter_records.proofs.Saying.{IsNeeded, alone_said, said, writes}

-- Writes.

-- what is written of a log says nothing of keys
write_no_key : (v : State) (base : ℕ) (w : Write) (sent : List Pair) → IsNeeded v base w sent → (k : List ℕ) → says (Key k) (write_items w sent) ≡ None
write_no_key v base StateAlone sent needed k = refl
write_no_key v base (Entries skipped index) sent needed k = run_no_key index (drop skipped sent) k
write_no_key v base (CompactTo index) sent needed k = refl
write_no_key v base CleanWrite sent needed k = absurd needed

alone_stands : (v x : State) → x.log ≡ v.log → (x.base_index ≡ v.base_index) ⊎ (v.log ≡ []) → (i : ℕ) → entry_content v i ≡ entry_content x i
alone_stands v x same (inl stays) i =
    ap (λ b. content_at b v.log i) (sym stays) ∙ ap (λ l. content_at x.base_index l i) (sym same)
alone_stands v x same (inr none) i =
    ap (λ l. content_at v.base_index l i) none ∙ content_none v.base_index i
    ∙ sym (ap (λ l. content_at x.base_index l i) (same ∙ none) ∙ content_none x.base_index i)

-- what stands at an index for the voter, once this was written, is what stands there for the new one
write_stands : (v x : State) (q : Request) (w : Write) → x.log ≡ log_written w (sent_of q) v → CanWrite w q v → RestsOn w v x.base_index
    → IsNeeded v x.base_index w (sent_of q) → (i : ℕ) → once_taken i (write_items w (sent_of q)) (entry_content v i) ≡ entry_content x i
write_stands v x q StateAlone is can rests needed i = alone_stands v x is rests i
write_stands v x q (Entries skipped index) is can rests needed i =
    let some : 0 < length (drop skipped (sent_of q)) = omega (arith, length-drop skipped (sent_of q), can.2) in
    run_stands v.base_index (index - v.base_index - 1) v.log (drop skipped (sent_of q)) index (omega (arith, can.0, can.1)) (omega (arith, can.0)) some i
    ∙ ap (λ l. content_at v.base_index l i) (sym is) ∙ ap (λ b. content_at b x.log i) (sym rests)
write_stands v x q (CompactTo index) is can rests needed i =
    compact_stands v.base_index v.log index x.base_index can.0 rests i ∙ ap (λ l. content_at x.base_index l i) (sym is)
write_stands v x q CleanWrite is can rests needed i = absurd needed

-- Groups.

-- what is known of a group whose voter this is
pub record ShowsGroup (grp : Group) (v : State) : Type 0 where
  pub keys : (k : List ℕ) → (voter_key ≡ k → ⊥) → grp (Key k) ≡ None
  pub entries : (i : ℕ) → grp (Index i) ≡ entry_content v i
  pub storable : IsStorable v

pub shown : (grp : Group) (v : State) → IsVoter grp v → ShowsGroup grp v
shown grp v (inl (void, is)) = record {
  keys = λ k other. void (Key k);
  entries = λ i. void (Index i) ∙ sym (ap (λ w. entry_content w i) is ∙ content_none 0 i);
  storable = subst IsStorable (sym is) (storable_is_kept.0);
}
shown grp v (inr holds) = record { keys = holds.keys; entries = holds.entries; storable = holds.storable }

-- once items that say nothing of keys were taken, and then a state
pub holds_after : (grp : Group) (xs : List Words) (w : State) → IsStorable w → ((k : List ℕ) → says (Key k) xs ≡ None)
    → ((k : List ℕ) → (voter_key ≡ k → ⊥) → grp (Key k) ≡ None)
    → ((i : ℕ) → once_taken i xs (grp (Index i)) ≡ entry_content w i) → HoldsVoter (after grp (xs ++ state_items w)) w
holds_after grp xs w storable silent others stand = record {
  storable = storable;
  bytes = state_text (stored_state w);
  head =
      ap (λ o. unwrap_or o (grp (Key voter_key)))
      (says_append (Key voter_key) xs (state_items w) ∙ ap (λ o. option_or o (says (Key voter_key) xs)) (put_sets voter_key voter_key (state_text (stored_state w)) refl));
  state = states_are_read_back (stored_state w) (state_in_range w storable.in_range);
  keys = λ k other.
      ap (λ o. unwrap_or o (grp (Key k)))
      (says_append (Key k) xs (state_items w) ∙ ap (λ o. option_or o (says (Key k) xs)) (put_leaves voter_key k (state_text (stored_state w)) other) ∙ silent k)
      ∙ others k other;
  entries = λ i.
      ap (λ o. unwrap_or o (grp (Index i))) (says_append (Index i) xs (state_items w)) ∙ stand i;
}

retired : (grp : Group) → IsVoid (after grp (Clean ∷ []))
retired grp (Index i) = refl
retired grp (Key k) = refl

-- a voter that takes a request in range
taken_in_range : (grp : Group) (v : State) (q : Request) → is_retire q ≡ false → in_range q ≡ true → IsVoter grp v
    → HoldsVoter (after grp (log_items v (next_in_range v q) ++ state_items (next_in_range v q))) (next_in_range v q)
taken_in_range grp v q kept fits h =
    let s = shown grp v h in
    let w = writes v q kept fits in
    let x : State = next_in_range v q in
    let storable : IsStorable (next_in_range v q) = subst IsStorable (if_true (in_range q) (next_in_range v q) v fits) (storable_is_kept.1 v q s.storable) in
    let base = holds_after grp (write_items (write_of v q) (sent_of q)) (next_in_range v q) storable (write_no_key v _ (write_of v q) (sent_of q) w.needed) s.keys
    (λ i. ap (once_taken i (write_items (write_of v q) (sent_of q))) (s.entries i)
    ∙ write_stands v (next_in_range v q) q (write_of v q) w.does.log_is w.does.can w.does.rests w.needed i) in
    subst (λ (xs : List Words). HoldsVoter (after grp (xs ++ state_items (next_in_range v q))) (next_in_range v q)) (sym (said v q kept fits)) base

-- one that takes none
taken_out : (grp : Group) (v : State) → IsVoter grp v → HoldsVoter (after grp (log_items v v ++ state_items v)) v
taken_out grp v h =
    let s = shown grp v h in
    let base = holds_after grp [] v s.storable (λ k. refl) s.keys s.entries in
    subst (λ (xs : List Words). HoldsVoter (after grp (xs ++ state_items v)) v) (sym (alone_said v v refl (inl refl))) base

taken_kept : (grp : Group) (v : State) (q : Request) → is_retire q ≡ false → IsVoter grp v
    → HoldsVoter (after grp (log_items v (next v q) ++ state_items (next v q))) (next v q)
taken_kept grp v q kept h = elim (cases_Bool (in_range q)) [
  | inl fits ↦
      subst (λ (x : State). HoldsVoter (after grp (log_items v x ++ state_items x)) x) (sym (if_true (in_range q) (next_in_range v q) v fits)) (taken_in_range grp v q kept fits h)
  | inr not ↦
      subst (λ (x : State). HoldsVoter (after grp (log_items v x ++ state_items x)) x) (sym (if_false (in_range q) (next_in_range v q) v not)) (taken_out grp v h)
]

retire_fresh : (v : State) (q : Request) → is_retire q ≡ true → next v q ≡ fresh
retire_fresh v Retire is = refl
retire_fresh v (Vote t c i u) is = cc
retire_fresh v (Append t p u c sent) is = cc
retire_fresh v (Compact i) is = cc
retire_fresh v (Install t i u) is = cc
retire_fresh v (Read from to) is = cc
retire_fresh v Status is = cc

pub group_leads : (grp : Group) (v : State) (q : Request) → IsVoter grp v → IsVoter (after grp (change_items v q)) (next v q)
group_leads grp v q h = elim (cases_Bool (is_retire q)) [
  | inl is ↦
      subst (λ (xs : List Words). IsVoter (after grp xs) (next v q)) (sym (if_true (is_retire q) (Clean ∷ []) (log_items v (next v q) ++ state_items (next v q)) is))
      (inl (retired grp, retire_fresh v q is))
  | inr kept ↦
      subst (λ (xs : List Words). IsVoter (after grp xs) (next v q)) (sym (if_false (is_retire q) (Clean ∷ []) (log_items v (next v q) ++ state_items (next v q)) kept))
      (inr (taken_kept grp v q kept h))
]

-- Maps.

pub own_items : (g : ℕ) (xs : List Words) → of_group g (tagged_with g xs) ≡ xs
own_items g [] = refl
own_items g (x ∷ xs) = if_true (g == g) _ _ (eq_true g g refl) ∙ ap (λ more. x ∷ more) (own_items g xs)

pub other_items : (g h : ℕ) (xs : List Words) → (g == h) ≡ false → of_group h (tagged_with g xs) ≡ []
other_items g h [] other = refl
other_items g h (x ∷ xs) other = if_false (g == h) _ _ other ∙ other_items g h xs other

record_says : (g h : ℕ) (xs : List Words) → appended h (record_in g xs ∷ []) ≡ of_group h (tagged_with g xs)
record_says g h xs = ap (of_group h) (append-nil (tagged_with g xs))

own_leads : (m : Groups) (W : World) (q : ℕ × Request) → IsVoter (m q.0) (W q.0) → IsVoter (taken m (change_record W q ∷ []) q.0) (next (W q.0) q.1)
own_leads m W q h =
    let is = record_says q.0 q.0 (change_items (W q.0) q.1) ∙ own_items q.0 (change_items (W q.0) q.1) in
    subst (λ (xs : List Words). IsVoter (after (m q.0) xs) (next (W q.0) q.1)) (sym is) (group_leads (m q.0) (W q.0) q.1 h)

other_leads : (m : Groups) (W : World) (q : ℕ × Request) (h : ℕ) → (q.0 == h) ≡ false → IsVoter (m h) (W h) → IsVoter (taken m (change_record W q ∷ []) h) (W h)
other_leads m W q h other is =
    let none = record_says q.0 h (change_items (W q.0) q.1) ∙ other_items q.0 h (change_items (W q.0) q.1) other in
    subst (λ (xs : List Words). IsVoter (after (m h) xs) (W h)) (sym none) is

-- two tests of the same numbers
turned : (a b : ℕ) → (a == b) ≡ false → (b == a) ≡ false
turned a b other = elim (cases_Bool (b == a)) [
  | inl same ↦ absurd (no (eq_true a b (sym (from_eq_true b a same))) other)
  | inr other' ↦ other'
]
  where
    no : {t : Bool} → t ≡ true → t ≡ false → ⊥
    no a b = cc

pub records_lead : RecordsLead
records_lead m W q means h = elim (cases_Bool (h == q.0)) [
  | inl same ↦
      let is : h ≡ q.0 = from_eq_true h q.0 same in
      subst (λ (v : State). IsVoter (taken m (change_record W q ∷ []) h) v) (sym (if_true (h == q.0) (next (W q.0) q.1) (W h) same))
      (subst (λ (g : ℕ). IsVoter (taken m (change_record W q ∷ []) g) (next (W q.0) q.1)) (sym is) (own_leads m W q (means q.0)))
  | inr other ↦
      subst (λ (v : State). IsVoter (taken m (change_record W q ∷ []) h) v) (sym (if_false (h == q.0) (next (W q.0) q.1) (W h) other))
      (other_leads m W q h (turned h q.0 other) (means h))
]

pub empty_maps_are_fresh : EmptyMapsAreFresh
empty_maps_are_fresh m void g = inl (void g, refl)

pub same_maps_mean_the_same : SameMapsMeanTheSame
same_maps_mean_the_same m n same W means =
    let is : m ≡ n = fun_ext (λ g. fun_ext (λ s. same g s)) in
    subst (λ (k : Groups). Means k W) is means
