-- Groups that are rewritten, one after another.
use Rattle.std.proofs.Common.{◌≡◌, ◌⊎◌, ℕ, zero, suc, ◌+◌, ◌-◌, ◌<◌, ◌≤◌, ◌==◌, ◌||◌, Bool, true, false, if◌then◌else◌, List, [], ◌∷◌, ◌++◌, length, take, drop, get_or, slice_get, nat_le, Some, inl, inr, refl, sym, ap, subst, ◌∙◌, arith}
use Rattle.std.specs.List.{list_any}
use Rattle.std.proofs.lemmas.Bool.{false≢true}
use Rattle.std.proofs.lemmas.List.{length-drop, take_all, take_more}
use Rattle.raft_log_model_laws.specs.Meaning.Slot.{Index}
use Rattle.raft_log_model_laws.proofs.Public.{at_bool, eq_true, from_le_false}
use Rattle.raft_log_record_base.specs.declared.errors.Error.{Error}
use Rattle.raft_log_extents.specs.declared.place.Place.{Place}
use Rattle.raft_log_extents.specs.Counts.{passing}
use Rattle.raft_log_memtable_index.specs.Shown.{Shown}
use Rattle.raft_log_memtable_index.specs.Noted.{file_at, place_file}
use Rattle.raft_log_engine_laws.specs.raft_log_memtable.specs.Files.{FrontIsLeast, IsLeastInAppend}
use Rattle.raft_log_engine_laws.specs.raft_log_memtable.proofs.Public.{place_there}
use Rattle.raft_log_engine_laws.specs.EngineState.{EngineState, has_failed}
use Rattle.raft_log_engine_laws.specs.Raising.{AppendMayBegin}
use Rattle.raft_log_record_batches.specs.Entries.{indexes_of}
use Rattle.raft_log_purge_copy.specs.Parts.{StaysInFile}
use Rattle.raft_log_purge_copy.specs.Moving.{IsPartlyRewritten, IsRewrittenTo}
use Rattle.raft_log_purge_copy.specs.Reasons.{GivesReason}
use Rattle.raft_log_purge_copy.specs.Rewriting.{CopiesEntries, CopiesIfAny, FailsToCopyEntries, OweNothing, StaysHeld, StaysOrIsLeft}
use Rattle.raft_log_purge_copy.specs.Keys.{CopiesKeys, FailsToCopyKeys}
use Rattle.raft_log_purge_copy.specs.Groups.{Rewrites, RewritesEntries, RewritesPart, StopsRewriting}
use Rattle.raft_log_purge_copy.proofs.Carried.{plain_items}
use Rattle.raft_log_purge_copy.proofs.Reading.{run_plain}
use Rattle.raft_log_purge_copy.proofs.Staying.{stays_on, stays_same}
use Rattle.raft_log_purge_copy.proofs.Moving.{partly_same, partly_then, passing_all, run_is_part, then_rewritten, values_are_part}
use Rattle.raft_log_purge_copy.proofs.Nexts.{next_few, none_passes}
use Rattle.raft_log_purge_copy.proofs.Leasts.{among_more}
use Rattle.raft_log_purge_copy.proofs.PartExits.{later_on, same_later}
use Rattle.raft_log_purge_copy.proofs.Reasons.{reason_after}

-- Parts.

pub part_same : (test : ℕ → Bool) (gate : ℕ) (s : EngineState) → RewritesPart test gate s s
part_same test gate s = record { parts = λ g. partly_same gate (s.tables g); others = λ g apart. refl; counts = refl; later = same_later s.pipes.disk }

pub part_then : (test : ℕ → Bool) (gate : ℕ) (s t u : EngineState) → RewritesPart test gate s t → RewritesPart test gate t u → RewritesPart test gate s u
part_then test gate s t u p q = record {
  parts = λ g. partly_then gate (s.tables g) (t.tables g) (u.tables g) (p.parts g) (q.parts g);
  others = λ g apart. q.others g apart ∙ p.others g apart;
  counts = q.counts ∙ p.counts;
  later = later_on s.pipes.disk t.pipes.disk u.pipes.disk p.later q.later;
}

-- of more groups
pub part_wider : (few many : ℕ → Bool) (gate : ℕ) (s t : EngineState) → ((g : ℕ) → few g ≡ true → many g ≡ true) → RewritesPart few gate s t → RewritesPart many gate s t
part_wider few many gate s t more p = record {
  parts = p.parts;
  others = λ g apart. p.others g (at_bool (few g) (λ b. few g ≡ b → b ≡ false) (λ _ is. absurd (false≢true (sym apart ∙ more g is))) (λ _ _. refl) refl);
  counts = p.counts;
  later = p.later;
}

-- what is owed stays
pub owe_then : (test : ℕ → Bool) (gate : ℕ) (s t : EngineState) → RewritesPart test gate s t → OweNothing s.tables → OweNothing t.tables
owe_then test gate s t p owes g = ((p.parts g).cleaned ∙ (owes g).0, (p.parts g).compacted ∙ (owes g).1, λ k. ap (λ (f : List ℕ → Bool). f k) (p.parts g).deleted ∙ (owes g).2 k)

pub held_then : (test : ℕ → Bool) (gate : ℕ) (s t u : EngineState) → RewritesPart test gate s t → StaysHeld s t → StaysHeld t u → StaysHeld s u
held_then test gate s t u p h k owes home m held = k (owe_then test gate s t p owes) home m (h owes home m held)

left_then : (test : ℕ → Bool) (gate : ℕ) (error : Error) (s t u : EngineState) → RewritesPart test gate s t → StaysHeld s t → StaysOrIsLeft error t u → StaysOrIsLeft error s u
left_then test gate error s t u p h k owes home m held = k (owe_then test gate s t p owes) home m (h owes home m held)

-- what a later part is refused for
pub reason_then : (test : ℕ → Bool) (gate : ℕ) (error : Error) (s t u : EngineState) → RewritesPart test gate s t → StaysHeld s t → (OweNothing t.tables → GivesReason error t u) → OweNothing s.tables → GivesReason error s u
reason_then test gate error s t u p h reason owes home m held = reason_after home m error s t u p.later (reason (owe_then test gate s t p owes) home m (h owes home m held))

-- One group's entries.

-- one group changed
one_changed : (group gate : ℕ) (v w : ℕ → Shown) → ((g : ℕ) → (group == g) ≡ false → w g ≡ v g) → IsPartlyRewritten gate (v group) (w group) → (g : ℕ) → IsPartlyRewritten gate (v g) (w g)
one_changed group gate v w others part g =
    at_bool (group == g) (λ b. (group == g) ≡ b → IsPartlyRewritten gate (v g) (w g))
    (λ _ same. let here : group ≡ g = grind (arith, same) in subst (λ (k : ℕ). IsPartlyRewritten gate (v k) (w k)) here part)
    (λ _ apart. subst (IsPartlyRewritten gate (v g)) (sym (others g apart)) (partly_same gate (v g))) refl

some_entries : {A : Type 0} (es : List A) → (es ≡ [] → ⊥) → 0 < length es
some_entries [] some = absurd (some refl)
some_entries (e ∷ es) some = omega arith

pub entries_part : (group gate : ℕ) (s t : EngineState) → CopiesEntries group gate s t → RewritesPart (λ g. group == g) gate s t
entries_part group gate s t copied =
    let a = copied.advances in
    let v = s.tables group in
    let some = some_entries copied.entries copied.some in
    let many = a.many in
    let low = next_few gate v copied.entries copied.next in
    let few : length a.places ≤ passing gate (drop v.rewritten v.places) = omega (arith, many, low) in record {
      parts = one_changed group gate s.tables t.tables a.others (subst (IsPartlyRewritten gate v) (sym a.moved) (run_is_part gate v a.places (omega (arith, some, many)) few));
      others = a.others;
      counts = copied.moved.counts;
      later = copied.moved.later;
    }

-- Append goes on in its file
entries_stay : (group gate : ℕ) (s t : EngineState) → CopiesEntries group gate s t → StaysInFile s.pipes t.pipes
entries_stay group gate s t copied = copied.moved.stays (run_plain group copied.run (indexes_of copied.entries) copied.bytes copied.is)

-- how many entries are left in Append, and whether there may be more to be copied
abbrev pub left_in : Shown → Bool → ℕ
left_in v more = (length v.places - v.rewritten) + (if more then 1 else 0)

pub fewer_left : (group gate : ℕ) (some : Bool) (s t : EngineState) → CopiesIfAny group gate some s t → left_in (t.tables group) some < left_in (s.tables group) true
fewer_left group gate true s t copied =
    let a = copied.advances in
    let v = s.tables group in
    let p = (entries_part group gate s t copied).parts group in
    let many = a.many in
    let some = some_entries copied.entries copied.some in
    let moved : (t.tables group).rewritten ≡ v.rewritten + length a.places = ap (λ (x : Shown). x.rewritten) a.moved ∙ omega arith in
    let all = p.all in
    let low = next_few gate v copied.entries copied.next in
    let most = passing_all gate (drop v.rewritten v.places) in
    let long = length-drop v.rewritten v.places in
    omega (arith, moved, all, many, some, low, most, long)
fewer_left group gate false s t (same, next) = let now : length (t.tables group).places - (t.tables group).rewritten ≡ length (s.tables group).places - (s.tables group).rewritten = ap (λ (e : EngineState). length (e.tables group).places - (e.tables group).rewritten) same in omega (arith, now)

-- the entries so far
pub record EntriesSoFar (group gate : ℕ) (more : Bool) (s t : EngineState) : Type 0 where
  pub part : RewritesPart (λ g. group == g) gate s t
  pub none : more ≡ false → passing gate (drop (t.tables group).rewritten (t.tables group).places) ≡ 0
  pub alive : has_failed s ≡ false → has_failed t ≡ false
  pub stays : StaysInFile s.pipes t.pipes
  pub holds : StaysHeld s t

pub none_so_far : (group gate : ℕ) (s : EngineState) → EntriesSoFar group gate true s s
none_so_far group gate s = record { part = part_same (λ g. group == g) gate s; none = λ is. absurd (false≢true (sym is)); alive = λ lived. lived; stays = stays_same s.pipes; holds = λ owes home m h. h }

pub one_more : (group gate : ℕ) (some : Bool) (s t u : EngineState) → EntriesSoFar group gate true s t → CopiesIfAny group gate some t u → EntriesSoFar group gate some s u
one_more group gate true s t u so_far copied =
    let part = entries_part group gate t u copied in record {
      part = part_then (λ g. group == g) gate s t u so_far.part part;
      none = λ is. absurd (false≢true (sym is));
      alive = λ lived. copied.moved.alive;
      stays = stays_on s.pipes t.pipes u.pipes so_far.stays (entries_stay group gate t u copied);
      holds = held_then (λ g. group == g) gate s t u so_far.part so_far.holds copied.holds;
    }
one_more group gate false s t u so_far (same, next) =
    subst (EntriesSoFar group gate false s) (sym same) (record { part = so_far.part; none = λ is. none_passes gate (t.tables group) next; alive = so_far.alive; stays = so_far.stays; holds = so_far.holds })

pub all_entries_copied : (group gate : ℕ) (more : Bool) (s t : EngineState) → more ≡ false → EntriesSoFar group gate more s t → RewritesEntries group gate s t
all_entries_copied group gate more s t ended so_far = record { part = so_far.part; none = so_far.none ended; alive = so_far.alive; stays = so_far.stays; holds = so_far.holds }

pub entries_stopped : (group gate : ℕ) (more : Bool) (error : Error) (s t u : EngineState) → EntriesSoFar group gate more s t → FailsToCopyEntries error t u → StopsRewriting (λ g. group == g) gate error s u
entries_stopped group gate more error s t u so_far fails = record {
  part = part_then (λ g. group == g) gate s t u so_far.part (record {
    parts = λ g. subst (IsPartlyRewritten gate (t.tables g)) (sym (ap (λ (e : EngineState). e.tables g) fails.same)) (partly_same gate (t.tables g));
    others = λ g apart. ap (λ (e : EngineState). e.tables g) fails.same;
    counts = ap (λ (e : EngineState). e.counts) fails.same;
    later = fails.later;
  });
  tells = λ lived. fails.tells (so_far.alive lived);
  remains = left_then (λ g. group == g) gate error s t u so_far.part so_far.holds fails.remains;
  cause = reason_then (λ g. group == g) gate error s t u so_far.part so_far.holds (λ owes. fails.cause);
}

-- One group.

pub keys_part : (group gate : ℕ) (s t : EngineState) → CopiesKeys group gate s t → RewritesPart (λ g. group == g) gate s t
keys_part group gate s t copied =
    let m = copied.moves in record {
      parts = one_changed group gate s.tables t.tables m.others (subst (IsPartlyRewritten gate (s.tables group)) (sym m.moved) (values_are_part gate m.file (s.tables group)));
      others = m.others;
      counts = copied.counts;
      later = copied.later;
    }

-- Append goes on in its file
keys_stay : (group gate : ℕ) (s t : EngineState) → CopiesKeys group gate s t → StaysInFile s.pipes t.pipes
keys_stay group gate s t copied = elim copied.wrote as (λ _. StaysInFile s.pipes t.pipes) [
  | inl none ↦ subst (λ (e : EngineState). StaysInFile s.pipes e.pipes) (sym none.1) (stays_same s.pipes)
  | inr some ↦ some.1.stays (plain_items copied.batch.items copied.is.plain)
]

pub group_rewritten : (group gate : ℕ) (s t u : EngineState) → RewritesEntries group gate s t → CopiesKeys group gate t u → Rewrites (λ g. group == g) gate s u
group_rewritten group gate s t u entries copied =
    let m = copied.moves in record {
      part = part_then (λ g. group == g) gate s t u entries.part (keys_part group gate t u copied);
      whole = λ g is.
          (let here : group ≡ g = grind (arith, is) in
          subst (λ (k : ℕ). IsRewrittenTo gate (u.tables k)) here (subst (IsRewrittenTo gate) (sym m.moved) (then_rewritten gate m.file (t.tables group) entries.none)));
      alive = λ lived. copied.alive (entries.alive lived);
      stays = stays_on s.pipes t.pipes u.pipes entries.stays (keys_stay group gate t u copied);
      holds = held_then (λ g. group == g) gate s t u entries.part entries.holds copied.holds;
    }

pub keys_stopped : (group gate : ℕ) (error : Error) (s t u : EngineState) → RewritesEntries group gate s t → FailsToCopyKeys error t u → StopsRewriting (λ g. group == g) gate error s u
keys_stopped group gate error s t u entries fails = record {
  part = part_then (λ g. group == g) gate s t u entries.part (record {
    parts = λ g. subst (IsPartlyRewritten gate (t.tables g)) (sym (ap (λ (e : EngineState). e.tables g) fails.same)) (partly_same gate (t.tables g));
    others = λ g apart. ap (λ (e : EngineState). e.tables g) fails.same;
    counts = ap (λ (e : EngineState). e.counts) fails.same;
    later = fails.later;
  });
  tells = λ lived. fails.tells (entries.alive lived);
  remains = left_then (λ g. group == g) gate error s t u entries.part entries.holds fails.remains;
  cause = reason_then (λ g. group == g) gate error s t u entries.part entries.holds (λ owes. fails.cause);
}

-- Many groups.

-- a group is among these
abbrev pub among : List ℕ → ℕ → Bool
among groups g = list_any (λ k. k == g) groups

any_front : (f : ℕ → Bool) (n : ℕ) (xs : List ℕ) → list_any f (take n xs) ≡ true → list_any f xs ≡ true
any_front f zero xs h = absurd (false≢true h)
any_front f (suc n) [] h = h
any_front f (suc n) (x ∷ xs) h = at_bool (f x) (λ b. (b || list_any f (take n xs)) ≡ true → (b || list_any f xs) ≡ true) (λ _ _. refl) (λ _ e. any_front f n xs e) h

any_push : (f : ℕ → Bool) (xs : List ℕ) (x : ℕ) → (list_any f xs ≡ true) ⊎ (f x ≡ true) → list_any f (xs ++ x ∷ []) ≡ true
any_push f [] x (inl h) = absurd (false≢true h)
any_push f [] x (inr h) = ap (λ (b : Bool). b || false) h
any_push f (y ∷ ys) x h = at_bool (f y) (λ b. ((b || list_any f ys) ≡ true) ⊎ (f x ≡ true) → (b || list_any f (ys ++ x ∷ [])) ≡ true) (λ _ _. refl) (λ _ e. any_push f ys x e) h

among_next : (g : ℕ) (groups : List ℕ) (i d x : ℕ) → i < length groups → x ≡ get_or groups i d → (among (take i groups) g ≡ true) ⊎ ((x == g) ≡ true) → among (take (i + 1) groups) g ≡ true
among_next g groups i d x lt is h =
    ap (λ (l : List ℕ). among l g) (take_more groups i d lt ∙ ap (λ (y : ℕ). take i groups ++ y ∷ []) (sym is)) ∙ any_push (λ k. k == g) (take i groups) x h

among_all : (g : ℕ) (groups : List ℕ) (i d x : ℕ) → i < length groups → x ≡ get_or groups i d → (x == g) ≡ true → among groups g ≡ true
among_all g groups i d x lt is h = any_front (λ k. k == g) (i + 1) groups (among_next g groups i d x lt is (inr h))

pub none_rewritten : (gate : ℕ) (s : EngineState) → Rewrites (among []) gate s s
none_rewritten gate s = record { part = part_same (among []) gate s; whole = λ g is. absurd (false≢true is); alive = λ lived. lived; stays = stays_same s.pipes; holds = λ owes home m h. h }

pub group_more : (groups : List ℕ) (i d x gate : ℕ) (s t u : EngineState) → i < length groups → x ≡ get_or groups i d → Rewrites (among (take i groups)) gate s t → Rewrites (λ g. x == g) gate t u → Rewrites (among (take (i + 1) groups)) gate s u
group_more groups i d x gate s t u lt is so_far one =
    let front = part_wider (among (take i groups)) (among (take (i + 1) groups)) gate s t (λ g h. among_next g groups i d x lt is (inl h)) so_far.part in record {
      part = part_then (among (take (i + 1) groups)) gate s t u front (part_wider (λ g. x == g) (among (take (i + 1) groups)) gate t u (λ g h. among_next g groups i d x lt is (inr h)) one.part);
      whole = λ g h.
          at_bool (x == g) (λ b. (x == g) ≡ b → IsRewrittenTo gate (u.tables g)) (λ _ same. one.whole g same)
          (λ _ apart.
          subst (IsRewrittenTo gate) (sym (one.part.others g apart))
          (elim (among_more g groups i d x lt is h) [
            | inl before ↦ so_far.whole g before
            | inr same ↦ absurd (false≢true (sym apart ∙ eq_true x g same))
          ])) refl;
      alive = λ lived. one.alive (so_far.alive lived);
      stays = stays_on s.pipes t.pipes u.pipes so_far.stays one.stays;
      holds = held_then (among (take i groups)) gate s t u so_far.part so_far.holds one.holds;
    }

pub group_stopped : (groups : List ℕ) (i d x gate : ℕ) (error : Error) (s t u : EngineState) → i < length groups → x ≡ get_or groups i d → Rewrites (among (take i groups)) gate s t → StopsRewriting (λ g. x == g) gate error t u
    → StopsRewriting (among groups) gate error s u
group_stopped groups i d x gate error s t u lt is so_far stops = record {
  part = part_then (among groups) gate s t u (part_wider (among (take i groups)) (among groups) gate s t (λ g h. any_front (λ k. k == g) i groups h) so_far.part)
      (part_wider (λ g. x == g) (among groups) gate t u (λ g h. among_all g groups i d x lt is h) stops.part);
  tells = λ lived. stops.tells (so_far.alive lived);
  remains = left_then (among (take i groups)) gate error s t u so_far.part so_far.holds stops.remains;
  cause = reason_then (among (take i groups)) gate error s t u so_far.part so_far.holds stops.cause;
}

pub groups_rewritten : (groups : List ℕ) (i gate : ℕ) (s t : EngineState) → length groups ≤ i → Rewrites (among (take i groups)) gate s t → Rewrites (among groups) gate s t
groups_rewritten groups i gate s t all h = subst (λ (l : List ℕ). Rewrites (among l) gate s t) (take_all i groups all) h

-- Nothing in use lies up to the gate.

past_first : (gate : ℕ) (ps : List Place) (p : Place) → passing gate ps ≡ 0 → slice_get ps 0 ≡ Some p → gate < p.file
past_first gate [] p none is = absurd (let never : ⊥ = cc in never)
past_first gate (q ∷ ps) p none is =
    let same : q ≡ p = cc in
    subst (λ (x : Place). gate < x.file) same
    (at_bool (nat_le q.file gate) (λ b. nat_le q.file gate ≡ b → (if b then suc (passing gate ps) else 0) ≡ 0 → gate < q.file) (λ _ _ e. absurd (omega (arith, e))) (λ _ high _. from_le_false q.file gate high) refl none)

first_dropped : {A : Type 0} (n : ℕ) (xs : List A) (x : A) → slice_get xs n ≡ Some x → slice_get (drop n xs) 0 ≡ Some x
first_dropped zero xs x is = is
first_dropped (suc n) [] x is = absurd (let never : ⊥ = cc in never)
first_dropped (suc n) (y ∷ ys) x is = first_dropped n ys x is

pub rewritten_is_past : (gate : ℕ) (v : Shown) → IsRewrittenTo gate v → FrontIsLeast v → IsLeastInAppend v (gate + 1)
rewritten_is_past gate v is front = (
  λ i from to.
      (let there = place_there v.places v.rewritten (omega (arith, from, to)) in
      let high = past_first gate (drop v.rewritten v.places) there.0 is.entries (first_dropped v.rewritten v.places there.0 there.1) in
      let low : there.0.file ≤ file_at v (Index i) = subst (λ o. place_file o ≤ file_at v (Index i)) there.1 (front.1 i from to) in omega (arith, high, low)),
  λ k h held appended. (let high = is.values k h held appended in omega (arith, high)),
)

pub all_are_past : (gate : ℕ) (v : ℕ → Shown) → ((g : ℕ) → IsRewrittenTo gate (v g)) → ((g : ℕ) → FrontIsLeast (v g)) → OweNothing v → AppendMayBegin (gate + 1) v × ((g : ℕ) → IsLeastInAppend (v g) (gate + 1))
all_are_past gate v is front owes = (λ g. (owes g, rewritten_is_past gate (v g) (is g) (front g)), λ g. rewritten_is_past gate (v g) (is g) (front g))
