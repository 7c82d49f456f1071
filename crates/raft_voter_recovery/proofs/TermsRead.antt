-- Terms that were read, and what they tell of a group.
use Rattle.std.proofs.Common.{◌≡◌, ◌∙◌, ℕ, zero, suc, ◌+◌, ◌-◌, ◌<◌, ◌≤◌, ◌^◌, List, [], ◌∷◌, ◌++◌, length, map, take, get_or, slice_get, Option, Some, None, refl, sym, ap, subst, inr, arith, add-zero, append-nil, append_assoc, length-append, length-take}
use Rattle.std.proofs.lemmas.List.{length-map, map-append, take_more}
use Rattle.raft_log_model_laws.specs.Groups.{taken}
use Rattle.raft_voter_durability_laws.specs.raft_log_engine_laws.specs.raft_log_memtable.specs.Reads.{AreIn}
use Rattle.raft_voter_durability_laws.specs.raft_log_engine_laws.specs.EngineState.{LogDirectories, LogMap, EngineState}
use Rattle.raft_voter_durability_laws.specs.raft_log_engine_laws.specs.Holding.{Represents}
use Rattle.raft_voter_durability_laws.specs.raft_log_engine_laws.specs.Fetching.{AreEntriesOf, FetchesTo, StaysButBlock}
use Rattle.raft_voter_messages.specs.declared.reply.Entry.{Entry as VoterEntry}
use Rattle.raft_voter_messages.specs.declared.reply.VoterState.{VoterState}
use Rattle.raft_voter_outline.specs.Restoring.{with_log}
use Rattle.raft_voter_outline.specs.Runs.{bare}
use Rattle.raft_voter_outline.specs.State.{State}
use Rattle.raft_voter.specs.Laws.{AreReadAs}
use Rattle.raft_voter_records.specs.Voters.{Group}
use Rattle.raft_voter_records.specs.Readings.{HasForeign, IsReadAs, read_voter}
use Rattle.raft_voter_records.specs.Readings.HasForeign.{broken_entry}
use Rattle.raft_voter_records.proofs.Public.{foreign_groups_are_foreign, read_groups_hold_voters}
use Rattle.raft_voter_durability_laws.specs.Reads.{IsCounted}
use Rattle.raft_voter_recovery.specs.declared.entry_head.EntryHead.{EntryHead}
use Rattle.raft_voter_recovery.specs.declared.heads.Head.{Head}
use Rattle.raft_voter_recovery.specs.declared.unread.Unread.{Unread}
use Rattle.raft_voter_recovery.specs.declared.unread.Unread.TheVariants as causes
use Rattle.raft_voter_recovery.specs.Entries.{StandFrom}
use Rattle.raft_voter_recovery.specs.Groups.{ReadsHead}
use Rattle.raft_voter_recovery.specs.Listing.{HasOutline}
use Rattle.raft_voter_recovery.specs.Numbers.{numbers_in, term_told}
use Rattle.raft_voter_recovery.specs.Reading.{IsUnreadFor, Tells}
use Rattle.raft_voter_recovery.specs.Terms.{AddsTerms, AddsTold, AreNotTold, AreTold, HasTerm, HasUntold, HaveTerms, KnowsTerms, ReadsTerms, alone}
use Rattle.raft_voter_recovery.proofs.Holding.{run_is}
use Rattle.raft_voter_recovery.proofs.Numbers.{entry_told, entry_untold}
use Rattle.raft_voter_recovery.proofs.Pieces.{comes, length-read}
use Rattle.raft_voter_recovery.proofs.Telling.{told_before}

-- the head of bytes
abbrev pub head_of : List ℕ → Option EntryHead
head_of source = Some (record { numbers = numbers_in source })

-- any bytes have one
pub heads_total : (bytes : List ℕ) → (head : EntryHead) × (head_of bytes ≡ Some head)
heads_total bytes = (record { numbers = numbers_in bytes }, refl)

-- What heads tell.

have_of : (m : LogMap) (g i : ℕ) (hs : List EntryHead) (ts : List ℕ) → AreEntriesOf head_of m g i hs → AreTold i hs ts → HaveTerms (m g) i ts
have_of m g i [] ts h told = subst (λ (l : List ℕ). HaveTerms (m g) i l) (sym told) tt
have_of m g i (x ∷ xs) [] h told = absurd told
have_of m g i (x ∷ xs) (t ∷ ts) h told =
    let own = h.0 in
    let head : EntryHead = record { numbers = numbers_in own.0 } in
    let is : head ≡ x = let read = own.2 in cc in
    let one = entry_told own.0 i t (ap (λ (y : EntryHead). term_told i y.numbers) is ∙ told.0) in
    (record { bytes = own.0; entry = one.0; stands = own.1; is = one.1; term = one.2 }, have_of m g (i + 1) xs ts h.1 told.1)

foreign_of : (m : LogMap) (g i : ℕ) (hs : List EntryHead) → AreEntriesOf head_of m g i hs → (k : ℕ) (head : EntryHead) → slice_get hs k ≡ Some head
    → term_told (i + k) head.numbers ≡ None → HasForeign (m g)
foreign_of m g i [] h k head at none = absurd (let no : ⊥ = cc in no)
foreign_of m g i (x ∷ xs) h zero head at none =
    let own = h.0 in
    let own_head : EntryHead = record { numbers = numbers_in own.0 } in
    let is : own_head ≡ x = let read = own.2 in cc in
    let same : x ≡ head = cc in
    let here = subst (λ (n : ℕ). term_told n head.numbers ≡ None) (add-zero i) none in
    let why = entry_untold own.0 i (ap (λ (y : EntryHead). term_told i y.numbers) (is ∙ same) ∙ here) in
    broken_entry i own.0 why.0 own.1 why.1 why.2
foreign_of m g i (x ∷ xs) h (suc k) head at none =
    let place : i + suc k ≡ i + 1 + k = omega arith in
    foreign_of m g (i + 1) xs h.1 k head at (subst (λ (n : ℕ). term_told n head.numbers ≡ None) place none)

length-told : (i : ℕ) (hs : List EntryHead) (ts : List ℕ) → AreTold i hs ts → length hs ≡ length ts
length-told i [] ts told = ap length (sym told)
length-told i (h ∷ hs) [] told = absurd told
length-told i (h ∷ hs) (t ∷ ts) told = let more = length-told (i + 1) hs ts told.1 in omega (arith, more)

module _ (s t : EngineState) (g from to count : ℕ) (max : Option ℕ) (old hs slice : List EntryHead) (empty : old ≡ []) (same : slice ≡ hs)
    (f : FetchesTo head_of g from to max s t old hs count) where
  fetched_from_none : FetchesTo head_of g from to max s t [] hs count
  fetched_from_none = subst (λ (l : List EntryHead). FetchesTo head_of g from to max s t l hs count) empty f

  heads_are : slice ≡ fetched_from_none.messages
  heads_are = same ∙ fetched_from_none.adds

  terms_read : (ts : List ℕ) → IsCounted s → from < to → AreIn (s.tables g) from to → AreTold from slice ts → ReadsTerms s g from to ts
  terms_read ts counted some inside told =
      let own = subst (λ (l : List EntryHead). AreTold from l ts) heads_are told in
      let count_is : length fetched_from_none.entries ≡ length ts =
      sym fetched_from_none.counts.1 ∙ fetched_from_none.counts.0 ∙ length-told from fetched_from_none.messages ts own in
      let fit = comes s g from to count max (length ts) counted some inside fetched_from_none.entries fetched_from_none.read count_is in
      record {
        have = λ home m h. have_of (taken m []) g from fetched_from_none.messages ts (fetched_from_none.exact home m [] h) own;
        some = fit.0;
        within = omega (arith, fit.1, some);
      }

  -- how many were fetched
  pub heads_fetched : IsCounted s → from < to → AreIn (s.tables g) from to → (0 < length slice) × (length slice ≤ to - from)
  heads_fetched counted some inside =
      let count_is : length fetched_from_none.entries ≡ length slice = sym fetched_from_none.counts.1 ∙ fetched_from_none.counts.0 ∙ ap length (sym heads_are) in
      comes s g from to count max (length slice) counted some inside fetched_from_none.entries fetched_from_none.read count_is

  pub terms_added : (end n : ℕ) (o p : State) → to ≤ end → IsCounted s → from < to → AreIn (s.tables g) from to → AddsTold from slice o p → n ≡ length slice → AddsTerms s g from end n o p
  terms_added end n o p reach counted some inside added is =
      let read : ReadsTerms s g from to added.terms = terms_read added.terms counted some inside added.told in
      let size = length-told from slice added.terms added.told in
      record {
        terms = added.terms;
        read = record { have = read.have; some = read.some; within = omega (arith, read.within, reach) };
        number = is ∙ size;
        now = added.now;
      }

  pub terms_unread : (cause : Unread) → AreNotTold g from slice cause → IsUnreadFor cause s
  terms_unread (causes.Engine error) none = absurd none
  terms_unread causes.Memory none = tt
  terms_unread (causes.Foreign other) none =
      let own = subst (λ (l : List EntryHead). HasUntold from l) heads_are none.1 in
      subst (λ (n : ℕ). IsUnreadFor (causes.Foreign n) s) (sym none.0) (λ home m held.
      foreign_groups_are_foreign (m g) (foreign_of (taken m []) g from fetched_from_none.messages (fetched_from_none.exact home m [] held) own.place own.head own.at own.untold))

-- One head more.

told_behind : (i j : ℕ) (hs : List EntryHead) (ts : List ℕ) (h : EntryHead) (t : ℕ) → AreTold i hs ts → j ≡ i + length hs → term_told j h.numbers ≡ Some t
    → AreTold i (hs ++ h ∷ []) (ts ++ t ∷ [])
told_behind i j [] [] h t told at one =
    let here : j ≡ i = omega (arith, at) in (subst (λ (n : ℕ). term_told n h.numbers ≡ Some t) here one, refl)
told_behind i j [] (u ∷ us) h t told at one = absurd (let no : ⊥ = cc in no)
told_behind i j (x ∷ xs) [] h t told at one = absurd told
told_behind i j (x ∷ xs) (u ∷ us) h t told at one = (told.0, told_behind (i + 1) j xs us h t told.1 (omega (arith, at)) one)

one_told : (first i index : ℕ) (hs : List EntryHead) (d : EntryHead) (before after : List ℕ) (t : ℕ) → i < length hs → index ≡ first + i
    → AreTold first (take i hs) before → after ≡ before ++ t ∷ [] → term_told index (get_or hs i d).numbers ≡ Some t → AreTold first (take (i + 1) hs) after
one_told first i index hs d before after t lt at told now one =
    let h : EntryHead = get_or hs i d in
    let count : length (take i hs) ≡ i = omega (arith, length-take i hs, lt) in
    let all : take (i + 1) hs ≡ take i hs ++ h ∷ [] = take_more hs i d lt in
    let next : AreTold first (take i hs ++ h ∷ []) (before ++ t ∷ []) = told_behind first index (take i hs) before h t told (omega (arith, at, count)) one in
    let P : List EntryHead → Type 0 = λ l. AreTold first l after in
    let Q : List ℕ → Type 0 = λ l. AreTold first (take i hs ++ h ∷ []) l in
    subst P (sym all) (subst Q (sym now) next)

pub none_added : (first : ℕ) (hs : List EntryHead) (o p : State) → hs ≡ [] → p ≡ o → AddsTold first hs o p
none_added first hs o p none same = record {
  terms = [];
  told = subst (λ (l : List EntryHead). AreTold first l []) (sym none) refl;
  now = same ∙ ap (λ l. record o { log = l }) (sym (append-nil o.log));
}

pub one_added : (first i index : ℕ) (hs : List EntryHead) (d : EntryHead) (o p q : State) (t : ℕ) → i < length hs → index ≡ first + i
    → AddsTold first (take i hs) o p → term_told index (get_or hs i d).numbers ≡ Some t → q ≡ record p { log = p.log ++ (t, []) ∷ [] } → AddsTold first (take (i + 1) hs) o q
one_added first i index hs d o p q t lt at known one now =
    let some : List ℕ = known.terms in
    let all : alone (some ++ t ∷ []) ≡ alone some ++ (t, []) ∷ [] = map-append (λ (x : ℕ). (x, [])) some (t ∷ []) in
    record {
      terms = some ++ t ∷ [];
      told = one_told first i index hs d some (some ++ t ∷ []) t lt at known.told refl one;
      now = now ∙ ap (λ (v : State). record v { log = v.log ++ (t, []) ∷ [] }) known.now
          ∙ ap (λ l. record o { log = l }) (append_assoc o.log (alone some) ((t, []) ∷ []))
          ∙ ap (λ l. record o { log = o.log ++ l }) (sym all);
    }

-- there is room for one term more
pub term_fits : (first i : ℕ) (hs : List EntryHead) (o p : State) → i < length hs → o.base_index + length o.log + length hs < 2 ^ 63 → AddsTold first (take i hs) o p
    → p.base_index + length p.log + 1 < 2 ^ 63
term_fits first i hs o p lt small known =
    let base = ap (λ (v : State). v.base_index) known.now in
    let log = ap (λ (v : State). length v.log) known.now ∙ length-append o.log (alone known.terms) in
    let terms = length-map {B = ℕ × List ℕ} known.terms (λ (x : ℕ). (x, [])) in
    let told = length-told first (take i hs) known.terms known.told in
    let some = length-take i hs in
    omega (arith, base, log, terms, told, some, small, lt)

-- The outline.

pub no_terms : (s : EngineState) (g : ℕ) (state : VoterState) (next : ℕ) (o : State) → o ≡ with_log state [] → next ≡ state.base_index + 1 → KnowsTerms s g state next o
no_terms s g state next o is at = record { terms = []; have = λ home m h. tt; count = omega (arith, at); is = is }

-- the last index of what is known so far
pub last_known : (s : EngineState) (g : ℕ) (state : VoterState) (next : ℕ) (o : State) → KnowsTerms s g state next o → o.base_index + length o.log + 1 ≡ next
last_known s g state next o known =
    let base = ap (λ (v : State). v.base_index) known.is in
    let log = ap (λ (v : State). length v.log) known.is ∙ length-map {B = ℕ × List ℕ} known.terms (λ (t : ℕ). (t, [])) in
    omega (arith, base, log, known.count)

have_on : (grp : Group) (i j : ℕ) (ts us : List ℕ) → HaveTerms grp i ts → i + length ts ≡ j → HaveTerms grp j us → HaveTerms grp i (ts ++ us)
have_on grp i j [] us h at k = let here : j ≡ i = omega (arith, at) in subst (λ (n : ℕ). HaveTerms grp n us) here k
have_on grp i j (t ∷ ts) us h at k = (h.0, have_on grp (i + 1) j ts us h.1 (omega (arith, at)) k)

pub more_terms : (s t : EngineState) (g : ℕ) (state : VoterState) (next end after count : ℕ) (o p : State) → StaysButBlock s t → KnowsTerms s g state next o
    → AddsTerms t g next end count o p → after ≡ next + count → KnowsTerms s g state after p
more_terms s t g state next end after count o p stays known piece at = record {
  terms = known.terms ++ piece.terms;
  have = λ home m h.
      have_on (m g) (state.base_index + 1) next known.terms piece.terms (known.have home m h) known.count
      (told_before (λ m. HaveTerms (m g) next piece.terms) s t stays piece.read.have home m h);
  count = let size = length-append known.terms piece.terms in omega (arith, size, known.count, piece.number, at);
  is = piece.now ∙ ap (λ (v : State). record v { log = v.log ++ alone piece.terms }) known.is
      ∙ ap (λ l. with_log state l) (sym (map-append (λ (t : ℕ). (t, [])) known.terms piece.terms));
}

-- entries that stand in a group, and their terms
record Stored (grp : Group) (i : ℕ) (ts : List ℕ) : Type 0 where
  pub texts : List (List ℕ)
  pub entries : List VoterEntry
  pub read : AreReadAs i texts entries
  pub stand : StandFrom grp i texts
  pub terms : bare (map (λ (e : VoterEntry). (e.term, e.bytes)) entries) ≡ alone ts
  pub size : length texts ≡ length ts

stored_of : (grp : Group) (i : ℕ) (ts : List ℕ) → HaveTerms grp i ts → Stored grp i ts
stored_of grp i [] h = record { texts = []; entries = []; read = tt; stand = tt; terms = refl; size = refl }
stored_of grp i (t ∷ ts) h =
    let one = h.0 in
    let more = stored_of grp (i + 1) ts h.1 in
    record {
      texts = one.bytes ∷ more.texts;
      entries = one.entry ∷ more.entries;
      read = (one.is, more.read);
      stand = (one.stands, more.stand);
      terms = ap (λ l. (one.entry.term, []) ∷ l) more.terms ∙ ap (λ (u : ℕ). (u, []) ∷ alone ts) one.term;
      size = let rest = more.size in omega (arith, rest);
    }

pub outline_held : (s : EngineState) (g : ℕ) (head : Head) (o : State) → ReadsHead s g head → KnowsTerms s g head.state head.end o → Tells s (λ m. HasOutline o (m g))
outline_held s g head o known knows = λ home m h.
    let base : ℕ = head.state.base_index in
    let all = stored_of (m g) (base + 1) knows.terms (knows.have home m h) in
    let size = length-read (base + 1) all.texts all.entries all.read in
    let as_read : IsReadAs (m g) head.state all.entries =
    record {
      bytes = known.state.bytes;
      head = (known.state.tells home m h).head;
      state = known.state.state;
      keys = (known.state.tells home m h).keys;
      texts = all.texts;
      entries = run_is (m g) base head.end all.texts (known.ends.outside home m h) all.stand (omega (arith, all.size, knows.count));
      read = all.read;
      small = omega (arith, size, all.size, knows.count, known.ends.small);
    } in
    (read_voter head.state all.entries, inr (read_groups_hold_voters (m g) head.state all.entries as_read), knows.is ∙ ap (λ l. with_log head.state l) (sym all.terms))
