-- What is written by the old voter and the new one is what was decided.
use Rattle.std.proofs.Common.{◌≡◌, ◌≢◌, ◌∙◌, ◌⊎◌, ℕ, zero, suc, ◌+◌, ◌-◌, ◌<◌, ◌≤◌, ◌==◌, ◌&&◌, nat_lt, nat_le, cond, true, false, List, [], ◌∷◌, ◌++◌, length, take, drop, slice_get, Some, if◌then◌else◌, refl, sym, ap, inl, inr, arith, length-drop, length-take-le}
use Rattle.std.proofs.lemmas.Bool.{cases_Bool, cases_lt, ltb-false, ltb-true, and_parts}
use Rattle.std.proofs.lemmas.List.{drop_all, drop_at}
use Rattle.std.specs.List.{common_prefix_len}
use Rattle.raft_log_model_laws.specs.Item.Item.{Compact, Put}
use Rattle.raft_log_model_laws.proofs.Public.{eq_false, eq_true, from_eq_false, from_le_false, if_false, if_true, same_key}
use Rattle.raft_voter_messages.specs.declared.reply.VoterState.{VoterState}
use Rattle.raft_voter_messages.specs.declared.request.Request.{Request}
use Rattle.raft_voter_messages.specs.declared.request.Request.TheVariants as requests
use Rattle.raft_voter_messages.specs.Ranges.{in_range}
use Rattle.raft_voter_messages.specs.StoredForms.{state_text}
use Rattle.raft_voter_outline.specs.declared.outline.decision.Change.{Change}
use Rattle.raft_voter_outline.specs.declared.outline.decision.Write.{Write}
use Rattle.raft_voter_outline.specs.declared.outline.decision.Write.TheVariants.{StateAlone, Entries, CompactTo, Clean}
use Rattle.raft_voter_outline.specs.Outlines.{CanWrite, IsChangeOf, RestsOn, append_write, log_written, sent_of, write_of}
use Rattle.raft_voter_outline.specs.Rules.{agrees_at, can_compact, is_retire, matching, next, next_in_range}
use Rattle.raft_voter_outline.specs.State.{State, last_index}
use Rattle.raft_voter_outline.proofs.Public.{agrees_above, append_small, by_test, does_append, does_compact, does_install, does_vote, get_drop, matching-le, other_there, term_of, Does, Pair}
use Rattle.raft_voter_records.specs.Voters.{voter_key}
use Rattle.raft_voter_records.specs.MeaningChanges.{Words, brought_items, change_items, decided_items, gone_items, is_entry, log_items, run_items, shared, state_items, write_items}
use Rattle.raft_voter_records.specs.Laws.{DecisionsAreWritten}
use Rattle.raft_voter_records.proofs.Entries.{drop_here}

-- Up to the first other entry.

same_entry : (e : Pair) → is_entry e e ≡ true
same_entry e = rw (eq_true e.0 e.0 refl, same_key e.1 e.1 refl) refl

other_entry : (d e : Pair) → (d.0 ≡ e.0 → ⊥) → is_entry d e ≡ false
other_entry d e h = rw (eq_false d.0 e.0 h) refl

shared_whole : (log : List Pair) → common_prefix_len is_entry log log ≡ length log
shared_whole [] = refl
shared_whole (e ∷ log) =
    let more = shared_whole log in
    ap (λ b. cond b (1 + common_prefix_len is_entry log log) 0) (same_entry e) ∙ omega (arith, more)

shared_up_to : (n : ℕ) (log : List Pair) (e : Pair) (es : List Pair) → n ≤ length log → term_of (slice_get log n) ≢ Some e.0
    → common_prefix_len is_entry log (take n log ++ e ∷ es) ≡ n
shared_up_to zero [] e es within other = refl
shared_up_to zero (d ∷ log) e es within other =
    ap (λ b. cond b (1 + common_prefix_len is_entry log es) 0) (other_entry d e (λ same. other (ap Some same)))
shared_up_to (suc n) [] e es within other = absurd (omega arith)
shared_up_to (suc n) (d ∷ log) e es within other =
    let more = shared_up_to n log e es (omega arith) other in
    ap (λ b. cond b (1 + common_prefix_len is_entry log (take n log ++ e ∷ es)) 0) (same_entry d) ∙ omega (arith, more)

-- The three ways in which a log becomes another one.

brought_none : (v x : State) → x.log ≡ v.log → brought_items v x ≡ []
brought_none v x same =
    let whole : shared v x ≡ length v.log = ap (λ l. common_prefix_len is_entry v.log l) same ∙ shared_whole v.log in
    let none : drop (length v.log) x.log ≡ [] = ap (drop (length v.log)) same ∙ drop_all (length v.log) v.log (omega arith) in
    ap (λ k. run_items (v.base_index + k + 1) (drop k x.log)) whole
    ∙ ap (run_items (v.base_index + length v.log + 1)) none

gone_none : (v x : State) → v.log ≡ [] → gone_items v x ≡ []
gone_none v x none = if_true (length v.log == 0) _ _ (eq_true (length v.log) 0 (ap length none))

-- the log stays
pub alone_said : (v x : State) → x.log ≡ v.log → (x.base_index ≡ v.base_index) ⊎ (v.log ≡ []) → log_items v x ≡ []
alone_said v x same (inl stays) = if_true (x.base_index == v.base_index) _ _ (eq_true _ _ stays) ∙ brought_none v x same
alone_said v x same (inr none) =
    by_test (λ l. l ≡ []) (x.base_index == v.base_index) (brought_items v x) (gone_items v x) (λ _. brought_none v x same) (λ _. gone_none v x none)

-- entries come in
brought_said : (v x : State) (n index : ℕ) (e : Pair) (es : List Pair) → x.base_index ≡ v.base_index → x.log ≡ take n v.log ++ e ∷ es
    → n ≤ length v.log → index ≡ v.base_index + n + 1 → term_of (slice_get v.log n) ≢ Some e.0
    → log_items v x ≡ run_items index (e ∷ es)
brought_said v x n index e es stays is within place other =
    let up_to : shared v x ≡ n = ap (λ l. common_prefix_len is_entry v.log l) is ∙ shared_up_to n v.log e es within other in
    let rest : drop n x.log ≡ e ∷ es = ap (drop n) is ∙ drop_at (take n v.log) (e ∷ es) n (length-take-le n v.log within) in
    if_true (x.base_index == v.base_index) _ _ (eq_true _ _ stays)
    ∙ ap (λ k. run_items (v.base_index + k + 1) (drop k x.log)) up_to
    ∙ ap (run_items (v.base_index + n + 1)) rest
    ∙ ap (λ i. run_items i (e ∷ es)) (sym place)

-- what is said where entries go
abbrev pub some_gone : State → State → List Words
some_gone v x = if length x.log == 0 then Compact (last_index v + 1) ∷ [] else Compact (x.base_index + 1) ∷ []

-- entries go
gone_said : (v x : State) (index : ℕ) → v.base_index < x.base_index → v.base_index < index → index ≤ last_index v
    → x.log ≡ drop (index - v.base_index) v.log → (x.base_index ≡ index) ⊎ (index ≡ last_index v)
    → log_items v x ≡ Compact (index + 1) ∷ []
gone_said v x index moves high within is rests =
    let some : length v.log ≡ 0 → ⊥ = λ none. omega (arith, none) in
    let size : length x.log ≡ length v.log - (index - v.base_index) = ap length is ∙ length-drop (index - v.base_index) v.log in
    let other : x.base_index ≡ v.base_index → ⊥ = λ same. omega (arith, same) in
    if_false (x.base_index == v.base_index) _ _ (eq_false _ _ other)
    ∙ if_false (length v.log == 0) _ _ (eq_false _ _ some)
    ∙ by_rest size rests (cases_lt index (last_index v))
  where
    all_go : length x.log ≡ length v.log - (index - v.base_index) → index ≡ last_index v
        → some_gone v x ≡ Compact (index + 1) ∷ []
    all_go size last =
        let none : length x.log ≡ 0 = omega (arith, size, last) in
        if_true (length x.log == 0) _ _ (eq_true _ _ none) ∙ ap (λ n. Compact (n + 1) ∷ []) (sym last)

    by_rest : length x.log ≡ length v.log - (index - v.base_index) → (x.base_index ≡ index) ⊎ (index ≡ last_index v) → (index < last_index v) ⊎ (last_index v ≤ index)
        → some_gone v x ≡ Compact (index + 1) ∷ []
    by_rest size (inr last) _ = all_go size last
    by_rest size (inl base) (inr far) = all_go size (omega arith)
    by_rest size (inl base) (inl near) =
        let some : length x.log ≡ 0 → ⊥ = λ none. omega (arith, size, none, near, high) in
        if_false (length x.log == 0) _ _ (eq_false _ _ some) ∙ ap (λ n. Compact (n + 1) ∷ []) base

-- Writes.

-- what is asked of a write beside that it can be made: the first entry that goes in isn't there, with its term;
-- and where entries go the base moves
abbrev pub IsNeeded : State → ℕ → Write → List Pair → Type 0
IsNeeded v base StateAlone sent = Unit {0}
IsNeeded v base (Entries skipped index) sent =
    (e : Pair) × (slice_get sent skipped ≡ Some e) × (term_of (slice_get v.log (index - v.base_index - 1)) ≢ Some e.0)
IsNeeded v base (CompactTo index) sent = v.base_index < base
IsNeeded v base Clean sent = ⊥

pub write_said : (v x : State) (q : Request) (w : Write) → x.log ≡ log_written w (sent_of q) v → CanWrite w q v → RestsOn w v x.base_index
    → IsNeeded v x.base_index w (sent_of q) → log_items v x ≡ write_items w (sent_of q)
write_said v x q StateAlone is can rests needed = alone_said v x is rests
write_said v x q (Entries skipped index) is can rests needed =
    let first : drop skipped (sent_of q) ≡ needed.0 ∷ drop (skipped + 1) (sent_of q) = drop_here (sent_of q) skipped needed.0 needed.1 in
    let whole : x.log ≡ take (index - v.base_index - 1) v.log ++ needed.0 ∷ drop (skipped + 1) (sent_of q) =
    is ∙ ap (λ l. take (index - v.base_index - 1) v.log ++ l) first in
    brought_said v x (index - v.base_index - 1) index needed.0 (drop (skipped + 1) (sent_of q)) rests whole
    (omega (arith, can.0, can.1)) (omega (arith, can.0)) needed.2
    ∙ ap (run_items index) (sym first)
write_said v x q (CompactTo index) is can rests needed = gone_said v x index needed can.0 can.1 is rests
write_said v x q Clean is can rests needed = absurd needed

-- What each request writes is needed.

needed_append : (v : State) (base t p u : ℕ) (sent : List Pair) → IsNeeded v base (append_write v t p u sent) sent
needed_append v base t p u sent = elim (cases_Bool (nat_lt t v.term)) [
  | inl stale ↦ rw stale tt
  | inr current ↦ elim (cases_Bool (agrees_at v p u)) [
    | inr differs ↦ rw (current, differs) tt
    | inl agrees ↦ rw (current, agrees) (elim (cases_Bool (matching (drop (p - v.base_index) v.log) sent == length sent)) [
      | inl all ↦ rw all tt
      | inr more ↦ rw more (first_other v p u sent agrees more)
    ])
  ]
]
  where
    fewer : (a b : ℕ) → a ≤ b → (a ≡ b → ⊥) → a < b
    fewer a b h other = omega arith

    first_other : (v : State) (p u : ℕ) (sent : List Pair) → agrees_at v p u ≡ true
        → (matching (drop (p - v.base_index) v.log) sent == length sent) ≡ false
        → IsNeeded v base (Entries (matching (drop (p - v.base_index) v.log) sent) (p + 1 + matching (drop (p - v.base_index) v.log) sent)) sent
    first_other v p u sent agrees more =
        let above : v.base_index ≤ p = ltb-false p v.base_index (agrees_above v p u agrees) in
        let few = (matching-le (drop (p - v.base_index) v.log) sent).1 in
        let less : matching (drop (p - v.base_index) v.log) sent < length sent = fewer _ _ few (from_eq_false _ _ more) in
        let there = other_there (drop (p - v.base_index) v.log) sent less in
        let place : (p - v.base_index) + matching (drop (p - v.base_index) v.log) sent
        ≡ p + 1 + matching (drop (p - v.base_index) v.log) sent - v.base_index - 1 = omega (arith, above) in (
          there.0,
          there.1,
          λ same. there.2 (
              ap term_of (get_drop (p - v.base_index) v.log (matching (drop (p - v.base_index) v.log) sent)
              ∙ ap (slice_get v.log) place) ∙ same),
        )

needed_compact : (v : State) (base i : ℕ) → (can_compact v i ≡ true → v.base_index < base) → IsNeeded v base (write_of v (requests.Compact i)) []
needed_compact v base i moves = elim (cases_Bool (can_compact v i)) [
  | inl can ↦ rw can (moves can)
  | inr cannot ↦ rw cannot tt
]

needed_install : (v : State) (base t i u : ℕ) → (nat_lt t v.term ≡ false → nat_le i v.base_index ≡ false → v.base_index < base)
    → IsNeeded v base (write_of v (requests.Install t i u)) []
needed_install v base t i u moves = elim (cases_Bool (nat_lt t v.term)) [
  | inl stale ↦ rw stale tt
  | inr current ↦ elim (cases_Bool (nat_le i v.base_index)) [
    | inl old ↦ rw (current, old) tt
    | inr new ↦ elim (cases_Bool (agrees_at v i u)) [
      | inl agrees ↦ rw (current, new, agrees) (moves current new)
      | inr differs ↦ elim (cases_Bool (length v.log == 0)) [
        | inl none ↦ rw (current, new, differs, none) tt
        | inr some ↦ rw (current, new, differs, some) (moves current new)
      ]
    ]
  ]
]

-- the base moves to an entry that is compacted away, or to a snapshot's last entry
base_compact : (v : State) (i : ℕ) → can_compact v i ≡ true → v.base_index < (next_in_range v (requests.Compact i)).base_index
base_compact v i can =
    let parts = and_parts (nat_lt v.base_index i && nat_le i (last_index v)) (nat_le i v.commit) can in
    let first = and_parts (nat_lt v.base_index i) (nat_le i (last_index v)) parts.0 in
    let is : (next_in_range v (requests.Compact i)).base_index ≡ i = rw can refl in
    omega (arith, is, ltb-true v.base_index i first.0)

base_install : (v : State) (t i u : ℕ) → nat_lt t v.term ≡ false → nat_le i v.base_index ≡ false
    → v.base_index < (next_in_range v (requests.Install t i u)).base_index
base_install v t i u current new =
    let is : (next_in_range v (requests.Install t i u)).base_index ≡ i = rw (current, new) refl in
    let above : v.base_index < i = from_le_false i v.base_index new in
    omega (arith, is, above)

-- what a request in range does, and that it is needed
pub record Writes (v : State) (q : Request) : Type 0 where
  pub does : Does v q (write_of v q)
  pub needed : IsNeeded v (next_in_range v q).base_index (write_of v q) (sent_of q)

pub writes : (v : State) (q : Request) → is_retire q ≡ false → in_range q ≡ true → Writes v q
writes v (requests.Vote t c i u) kept fits = record { does = does_vote v t c i u; needed = tt }
writes v (requests.Append t p u c sent) kept fits = record {
  does = does_append v t p u c sent (append_small t p u c sent fits);
  needed = needed_append v _ t p u sent;
}
writes v (requests.Compact i) kept fits = record { does = does_compact v i; needed = needed_compact v _ i (base_compact v i) }
writes v (requests.Install t i u) kept fits = record { does = does_install v t i u; needed = needed_install v _ t i u (base_install v t i u) }
writes v (requests.Read from to) kept fits = record { does = record { log_is = refl; can = refl; rests = inl refl; moves = λ none. absurd none }; needed = tt }
writes v requests.Status kept fits = record { does = record { log_is = refl; can = refl; rests = inl refl; moves = λ none. absurd none }; needed = tt }
writes v requests.Retire kept fits = cc

pub said : (v : State) (q : Request) → is_retire q ≡ false → in_range q ≡ true
    → log_items v (next_in_range v q) ≡ write_items (write_of v q) (sent_of q)
said v q kept fits =
    let w = writes v q kept fits in
    write_said v (next_in_range v q) q (write_of v q) w.does.log_is w.does.can w.does.rests w.needed

-- A change that was decided.

-- a request that isn't in range changes nothing
in_range_moves : (v : State) (q : Request) → next v q ≢ v → in_range q ≡ true
in_range_moves v q moves = elim (cases_Bool (in_range q)) [
  | inl fits ↦ fits
  | inr not ↦ absurd (moves (if_false (in_range q) _ _ not))
]

pub retire_writes : (v : State) (q : Request) → is_retire q ≡ true → write_of v q ≡ Clean
retire_writes v requests.Retire is = refl
retire_writes v (requests.Vote t c i u) is = cc
retire_writes v (requests.Append t p u c sent) is = cc
retire_writes v (requests.Compact i) is = cc
retire_writes v (requests.Install t i u) is = cc
retire_writes v (requests.Read from to) is = cc
retire_writes v requests.Status is = cc

-- a state under its key
abbrev pub put_of : VoterState → List Words
put_of s = Put voter_key (state_text s) ∷ []

-- unless the group is retired
abbrev pub put_unless : Request → VoterState → List Words
put_unless q s = if is_retire q then [] else put_of s

pub decided : (v : State) (q : Request) (c : Change) → IsChangeOf v q c → change_items v q ≡ decided_items c q
decided v q c h = elim (cases_Bool (is_retire q)) [
  | inl is ↦
      if_true (is_retire q) _ _ is
      ∙ sym (ap (λ w. write_items w (sent_of q) ++ put_unless q c.state) (h.write_is ∙ retire_writes v q is) ∙ ap (λ l. write_items Clean (sent_of q) ++ l) (if_true (is_retire q) _ _ is))
  | inr kept ↦
      let fits : in_range q ≡ true = in_range_moves v q h.moves in
      let now : next v q ≡ next_in_range v q = if_true (in_range q) _ _ fits in
      if_false (is_retire q) _ _ kept
      ∙ ap (λ x. log_items v x ++ state_items (next v q)) now
      ∙ ap (λ l. l ++ state_items (next v q)) (said v q kept fits ∙ ap (λ w. write_items w (sent_of q)) (sym h.write_is))
      ∙ ap (λ s. write_items c.write (sent_of q) ++ put_of s) (sym h.state)
      ∙ ap (λ l. write_items c.write (sent_of q) ++ l) (sym (if_false (is_retire q) [] (put_of c.state) kept))
]

pub decisions_are_written : DecisionsAreWritten
decisions_are_written o q c h v is = decided v q c (h v is)
