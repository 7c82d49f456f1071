-- The answers of the model, by views of its logs.
use Rattle.std.proofs.Common.{◌≡◌, ◌⊎◌, ◌≤◌, ◌<◌, ℕ, zero, suc, Bool, true, false, List, [], ◌∷◌, ◌++◌, length, take, drop, None, Some, unwrap_or, inl, inr, append_assoc, append-nil, ap, refl, sym, subst, ◌∙◌, arith, if◌then◌else◌, ◌==◌, nat_lt}
use Rattle.std.proofs.Math.Path.{fun_ext}
use Rattle.raft_log_model_laws.specs.Item.{Tagged, items_of}
use Rattle.raft_log_model_laws.specs.Item.Item.{Compact as CompactItem}
use Rattle.raft_log_model_laws.specs.Item.Record.{Plain, Part}
use Rattle.raft_log_model_laws.specs.Groups.{of_group, taken}
use Rattle.raft_log_model_laws.specs.Meaning.{Slot, after, write}
use Rattle.raft_log_model_laws.specs.Meaning.Slot.{Index, Key}
use Rattle.raft_log_model_laws.proofs.Public.{taken_append}
use Rattle.raft_log_world.specs.declared.event.Answer.{Answer}
use Rattle.raft_log_world.specs.declared.event.Answer.TheVariants.{Done, Found, At, Entries, Keys, Refused, Failed, Idle}
use Rattle.raft_log_world.specs.declared.event.Call.{Call}
use Rattle.raft_log_world.specs.declared.event.Call.TheVariants.{Write, Sync, Get, GetEntry, FirstIndex, LastIndex, Fetch, Scan, Compact, Purge}
use Rattle.raft_log_world.specs.declared.event.Event.{Event}
use Rattle.raft_log_world.specs.declared.event.Event.TheVariants.{Open, Serve, Close, Fork, Crash, Arm}
use Rattle.raft_log_world.specs.Explained.{Explains}
use Rattle.raft_log_world.specs.Model.{Adds as AddsBatch, Answers, BatchRecord, FailsAt, LosesSome, ModelLog, RunsOn, Serves, compacts}
use Rattle.raft_log_world.specs.Model.ModelLog.{resting, left, running, failed}
use Rattle.raft_log_world.specs.Reads.{Contents, HasNone}
use Rattle.raft_log_judge.specs.declared.outcome.Outcome.{Outcome}
use Rattle.raft_log_judge.specs.declared.outcome.Outcome.TheVariants.{Adds, Opens, Reads, Turns}
use Rattle.raft_log_judge.specs.declared.outcome.Standing.{Standing}
use Rattle.raft_log_judge.specs.declared.outcome.Standing.TheVariants.{Broken, Closed, Running}
use Rattle.raft_log_judge.specs.Views.{Fits, Goes, Moves, Reaches, Sees, Turned, View, outcome, seen, batch_of, IsRead}

-- Contents after batches.

pub taken_twice : (m : Contents) (xs ys : List BatchRecord) → taken (taken m xs) ys ≡ taken m (xs ++ ys)
taken_twice m xs ys = fun_ext (λ g. fun_ext (λ s. sym (taken_append m g s xs ys)))

-- one batch more
pub one_more : (m : Contents) (pending : List BatchRecord) (batch : BatchRecord) → taken (taken m pending) (batch ∷ []) ≡ taken m (pending ++ batch ∷ [])
one_more m pending batch = taken_twice m pending (batch ∷ [])

-- no item changes nothing
nothing_taken : (m : Contents) (batch : BatchRecord) → items_of batch ≡ [] → taken m (batch ∷ []) ≡ m
nothing_taken m (Plain xs) none = fun_ext (λ g. fun_ext (λ s. ap (λ (items : List (Tagged (List ℕ) (List ℕ))). after (m g) (of_group g (items ++ [])) s) none))
nothing_taken m (Part mark xs) none = fun_ext (λ g. fun_ext (λ s. ap (λ (items : List (Tagged (List ℕ) (List ℕ))). after (m g) (of_group g (items ++ [])) s) none))

-- a compaction of a group that has no entries there changes nothing
nothing_compacted : (m : Contents) (group index : ℕ) → HasNone m group 0 index → taken m (compacts group index ∷ []) ≡ m
nothing_compacted m group index none = fun_ext (λ g. fun_ext (λ s. by g s (group == g) refl))
  where
    at : (g : ℕ) → group ≡ g → (s : Slot) → unwrap_or (write s (CompactItem index)) (m g s) ≡ m g s
    at g same (Key k) = refl
    at g same (Index i) = low (nat_lt i index) refl
      where
        low : (b : Bool) → nat_lt i index ≡ b → unwrap_or (if b then Some None else None) (m g (Index i)) ≡ m g (Index i)
        low true c = let less : i < index = grind (arith, c) in sym (subst (λ (k : ℕ). m k (Index i) ≡ None) same (none i (omega arith) less))
        low false c = refl

    by : (g : ℕ) (s : Slot) (b : Bool) → (group == g) ≡ b → after (m g) (if b then CompactItem index ∷ [] else []) s ≡ m g s
    by g s true c = at g (grind (arith, c)) s
    by g s false c = refl

-- The first few of the pending batches.

reached : (m : Contents) (front rest pending : List BatchRecord) (kept : Contents) → front ++ rest ≡ pending → kept ≡ taken m front → Reaches m pending kept
reached m front rest pending kept splits is = record { front = front; rest = rest; splits = splits; is = is }

-- all of them
pub all_reached : (m : Contents) (pending : List BatchRecord) → Reaches m pending (taken m pending)
all_reached m pending = reached m pending [] pending (taken m pending) (append-nil pending) refl

-- with no pending batch, the durable contents
pub only_reached : (m kept : Contents) → Reaches m [] kept → kept ≡ m
only_reached m kept r = r.is ∙ ap (taken m) (front_empty r.front r.rest r.splits)
  where
    front_empty : (xs ys : List BatchRecord) → xs ++ ys ≡ [] → xs ≡ []
    front_empty [] ys is = refl
    front_empty (x ∷ xs) ys is = absurd (let never : ⊥ = cc in never)

-- with one batch more
still_reached : (m : Contents) (pending : List BatchRecord) (batch : BatchRecord) (kept : Contents) → Reaches m pending kept → Reaches m (pending ++ batch ∷ []) kept
still_reached m pending batch kept r =
    reached m r.front (r.rest ++ batch ∷ []) (pending ++ batch ∷ []) kept (sym (append_assoc r.front r.rest (batch ∷ [])) ∙ ap (λ (xs : List BatchRecord). xs ++ batch ∷ []) r.splits) r.is

-- of batches with one more, it is kept or not
parted : (front rest pending : List BatchRecord) (batch : BatchRecord) → front ++ rest ≡ pending ++ batch ∷ [] → (front ≡ pending ++ batch ∷ []) ⊎ ((more : List BatchRecord) × (front ++ more ≡ pending))
parted [] rest pending batch is = inr (pending, refl)
parted (x ∷ front) rest [] batch is = inl (let rest_empty : front ++ rest ≡ [] = cc in let same : x ≡ batch = cc in ap (λ (xs : List BatchRecord). x ∷ xs) (none front rest rest_empty) ∙ ap (λ (y : BatchRecord). y ∷ []) same)
  where
    none : (xs ys : List BatchRecord) → xs ++ ys ≡ [] → xs ≡ []
    none [] ys is = refl
    none (y ∷ xs) ys is = absurd (let never : ⊥ = cc in never)
parted (x ∷ front) rest (y ∷ pending) batch is =
    let same : x ≡ y = cc in
    let later : front ++ rest ≡ pending ++ batch ∷ [] = cc in
    elim (parted front rest pending batch later) [
      | inl all ↦ inl (ap (λ (xs : List BatchRecord). x ∷ xs) all ∙ ap (λ (z : BatchRecord). z ∷ (pending ++ batch ∷ [])) same)
      | inr some ↦ inr (some.0, ap (λ (xs : List BatchRecord). x ∷ xs) some.1 ∙ ap (λ (z : BatchRecord). z ∷ pending) same)
    ]

-- what is reached with one batch more
more_reached : (m : Contents) (pending : List BatchRecord) (batch : BatchRecord) (kept : Contents) → Reaches m (pending ++ batch ∷ []) kept → Reaches m pending kept ⊎ (kept ≡ taken m (pending ++ batch ∷ []))
more_reached m pending batch kept r = elim (parted r.front r.rest pending batch r.splits) [
  | inl all ↦ inr (r.is ∙ ap (taken m) all)
  | inr some ↦ inl (reached m r.front some.0 pending kept some.1 r.is)
]

-- what is reached after the first few became durable
deeper : (m : Contents) (done rest pending : List BatchRecord) (kept : Contents) → done ++ rest ≡ pending → Reaches (taken m done) rest kept → Reaches m pending kept
deeper m done rest pending kept splits r =
    reached m (done ++ r.front) r.rest pending kept (append_assoc done r.front r.rest ∙ ap (λ (xs : List BatchRecord). done ++ xs) r.splits ∙ splits) (r.is ∙ taken_twice m done r.front)

-- by a count
of_count : (m : Contents) (pending : List BatchRecord) (kept : Contents) → LosesSome m pending kept → Reaches m pending kept
of_count m pending kept (count, few, is) = reached m (take count pending) (drop count pending) pending kept (halves count pending) is
  where
    halves : (n : ℕ) (xs : List BatchRecord) → take n xs ++ drop n xs ≡ xs
    halves zero xs = refl
    halves (suc n) [] = refl
    halves (suc n) (x ∷ xs) = ap (λ (ys : List BatchRecord). x ∷ ys) (halves n xs)

to_count : (m : Contents) (pending : List BatchRecord) (kept : Contents) → Reaches m pending kept → LosesSome m pending kept
to_count m pending kept r = (
  length r.front,
  subst (λ (xs : List BatchRecord). length r.front ≤ length xs) r.splits (short r.front r.rest),
  r.is ∙ ap (taken m) (sym (first r.front r.rest) ∙ ap (take (length r.front)) r.splits),
)
  where
    short : (xs ys : List BatchRecord) → length xs ≤ length (xs ++ ys)
    short [] ys = omega arith
    short (x ∷ xs) ys = let less = short xs ys in let more : suc (length xs) ≤ suc (length (xs ++ ys)) = omega (arith, less) in more

    first : (xs ys : List BatchRecord) → take (length xs) (xs ++ ys) ≡ xs
    first [] ys = refl
    first (x ∷ xs) ys = ap (λ (zs : List BatchRecord). x ∷ zs) (first xs ys)

-- Views.

pub sees : (standing : Standing) (m : Contents) (pending : List BatchRecord) (kept : Contents) → Reaches m pending kept → Sees standing m pending (seen standing (taken m pending) kept)
sees standing m pending kept r = record { kept = kept; reaches = r; is = refl }

-- a view of the log is one by another list with the same contents after it
by_contents : (standing : Standing) (m n : Contents) (pending rest : List BatchRecord) (view : View) → taken n rest ≡ taken m pending → ((kept : Contents) → Reaches n rest kept → Reaches m pending kept) → Sees standing n rest view → Sees standing m pending view
by_contents standing m n pending rest view same reach s = record { kept = s.kept; reaches = reach s.kept s.reaches; is = s.is ∙ ap (λ (now : Contents). seen standing now s.kept) same }

-- What is known of views.

false_true : false ≡ true → ⊥
false_true is = cc

-- where the standing of a view is known, it changes by what the event comes to
pub standing_of_seen : (standing : Standing) (now kept : Contents) → (seen standing now kept).standing ≡ standing
standing_of_seen Running now kept = refl
standing_of_seen Closed now kept = refl
standing_of_seen Broken now kept = refl

standing_is : (standing : Standing) (m : Contents) (pending : List BatchRecord) (view : View) → Sees standing m pending view → view.standing ≡ standing
standing_is standing m pending view s = ap (λ (v : View). v.standing) s.is ∙ standing_of_seen standing (taken m pending) s.kept

abbrev standing_in : ModelLog → Standing
standing_in (resting m) = Closed
standing_in (left m pending) = Closed
standing_in (running m pending) = Running
standing_in (failed m pending) = Broken

abbrev contents_in : ModelLog → Contents
contents_in (resting m) = m
contents_in (left m pending) = m
contents_in (running m pending) = m
contents_in (failed m pending) = m

abbrev pending_of : ModelLog → List BatchRecord
pending_of (resting m) = []
pending_of (left m pending) = pending
pending_of (running m pending) = pending
pending_of (failed m pending) = pending

fits_of : (log : ModelLog) (view : View) → Sees (standing_in log) (contents_in log) (pending_of log) view → Fits log view
fits_of (resting m) view s = s
fits_of (left m pending) view s = s
fits_of (running m pending) view s = s
fits_of (failed m pending) view s = s

of_fits : (log : ModelLog) (view : View) → Fits log view → Sees (standing_in log) (contents_in log) (pending_of log) view
of_fits (resting m) view s = s
of_fits (left m pending) view s = s
of_fits (running m pending) view s = s
of_fits (failed m pending) view s = s

module _ (m : Contents) (pending : List BatchRecord) where
  abbrev now : Contents
  now = taken m pending

  -- all batches are durable
  pub settled : (standing : Standing) (next : View) → Sees standing now [] next → next ≡ seen standing now now
  settled standing next s = s.is ∙ ap (λ (kept : Contents). seen standing now kept) (only_reached now s.kept s.reaches)

  pub whole : Sees Running m pending (seen Running now now)
  whole = sees Running m pending now (all_reached m pending)

  part : (kept : Contents) → Reaches m pending kept → Sees Running m pending (seen Running now kept)
  part kept r = sees Running m pending kept r

  module _ (batch : BatchRecord) where
    abbrev more : Contents
    more = taken now (batch ∷ [])

    -- what a view is that comes after a batch was added
    abbrev Grown : Standing → View → Type 0
    Grown standing next = (view : View) × Sees Running m pending view
        × ((next ≡ seen standing (taken view.now (batch ∷ [])) view.kept) ⊎ (next ≡ seen standing (taken view.now (batch ∷ [])) (taken view.now (batch ∷ []))))

    pub grown : (standing : Standing) (next : View) → Sees standing m (pending ++ batch ∷ []) next → Grown standing next
    grown standing next s =
        let as_more : next ≡ seen standing more s.kept = s.is ∙ ap (λ (n : Contents). seen standing n s.kept) (sym (one_more m pending batch)) in
        elim (more_reached m pending batch s.kept s.reaches) [
          | inl before ↦ (seen Running now s.kept, part s.kept before, inl as_more)
          | inr all ↦ (seen Running now now, whole, inr (as_more ∙ ap (λ (kept : Contents). seen standing more kept) (all ∙ sym (one_more m pending batch))))
        ]

    -- one that changes nothing
    grown_none : (next : View) → more ≡ now → Sees Running m pending next → Grown Running next
    grown_none next none s = (seen Running now s.kept, part s.kept s.reaches, inl (s.is ∙ ap (λ (n : Contents). seen Running n s.kept) (sym none)))

    ran_on : (batches : List BatchRecord) (fin : ModelLog) (next : View) → RunsOn m batches fin → Fits fin next → Sees Running m batches next
    ran_on batches fin next r f =
        let s = subst (λ (x : ModelLog). Fits x next) r.is f in
        by_contents Running m (taken m r.done) batches r.rest next (taken_twice m r.done r.rest ∙ ap (taken m) r.splits) (λ kept reaches. deeper m r.done r.rest batches kept r.splits reaches) s

    fell_at : (fin : ModelLog) (next : View) → FailsAt m pending batch fin → Fits fin next → Grown Broken next
    fell_at fin next (inl is) f =
        let s = subst (λ (x : ModelLog). Fits x next) is f in
        (seen Running now s.kept, part s.kept s.reaches, inl s.is)
    fell_at fin next (inr is) f = grown Broken next (subst (λ (x : ModelLog). Fits x next) is f)

    added : (sync : Bool) (fin : ModelLog) (next : View) (read : View → Type 0) → AddsBatch sync m pending batch fin → Fits fin next
        → (view : View) × Sees Running m pending view × Turned (Adds Running sync) batch (read view) view next
    added true fin next read (inl is) f =
        let s = subst (λ (x : ModelLog). Fits x next) is f in
        let all = one_more m pending batch in
        let same : next ≡ seen Running (taken m (pending ++ batch ∷ [])) (taken m (pending ++ batch ∷ [])) = s.is ∙ ap (λ (kept : Contents). seen Running (taken m (pending ++ batch ∷ [])) kept) (only_reached (taken m (pending ++ batch ∷ [])) s.kept s.reaches) in
        (seen Running now now, whole, same ∙ ap (λ (n : Contents). seen Running n n) (sym all))
    added false fin next read (inl on) f = grown Running next (ran_on (pending ++ batch ∷ []) fin next on f)
    added true fin next read (inr (none, is)) f =
        let s = subst (λ (x : ModelLog). Fits x next) is f in
        (seen Running now now, whole, settled Running next s ∙ ap (λ (n : Contents). seen Running n n) (sym (nothing_taken now batch none)))
    added false fin next read (inr (none, on)) f = grown_none next (nothing_taken now batch none) (ran_on pending fin next on f)

  refused_so : (fin : ModelLog) (next : View) → RunsOn m pending fin → Fits fin next → (view : View) × Sees Running m pending view × (next ≡ seen Running view.now view.kept)
  refused_so fin next on f =
      let s = ran_on (Plain []) pending fin next on f in
      (seen Running now s.kept, part s.kept s.reaches, s.is)

  same_so : (fin : ModelLog) (next : View) → fin ≡ running m pending → Fits fin next → (view : View) × Sees Running m pending view × (next ≡ seen Running view.now view.kept)
  same_so fin next is f =
      let s = subst (λ (x : ModelLog). Fits x next) is f in
      (seen Running now s.kept, part s.kept s.reaches, s.is)

  synced_so : (fin : ModelLog) (next : View) → fin ≡ running now [] → Fits fin next → (view : View) × Sees Running m pending view × (next ≡ seen Running view.now view.now)
  synced_so fin next is f = (seen Running now now, whole, settled Running next (subst (λ (x : ModelLog). Fits x next) is f))

  broken_so : (fin : ModelLog) (next : View) → fin ≡ failed m pending → Fits fin next → (view : View) × Sees Running m pending view × (next ≡ seen Broken view.now view.kept)
  broken_so fin next is f =
      let s = subst (λ (x : ModelLog). Fits x next) is f in
      (seen Running now s.kept, part s.kept s.reaches, s.is)

  -- a read that returned something
  read_so : (P : Contents → Type 0) (fin : ModelLog) (next : View) → P now × (fin ≡ running m pending) → Fits fin next → (view : View) × Sees Running m pending view × (P view.now × (next ≡ view))
  read_so P fin next (is, same) f =
      let s = subst (λ (x : ModelLog). Fits x next) same f in
      (seen Running now s.kept, part s.kept s.reaches, (is, s.is))

module _ (m : Contents) (pending : List BatchRecord) where
  -- a view of a log, all of which is durable
  pub durable_view : (standing : Standing) (n : Contents) (next : View) → next ≡ seen standing n n → Sees standing n [] next
  durable_view standing n next is = record { kept = n; reaches = all_reached n []; is = is }

  shown_view : (standing : Standing) (kept : Contents) (next : View) → Reaches m pending kept → next ≡ seen standing (taken m pending) kept → Sees standing m pending next
  shown_view standing kept next r is = record { kept = kept; reaches = r; is = is }

  runs_same : RunsOn m pending (running m pending)
  runs_same = record { done = []; rest = pending; splits = refl; is = refl }

  module _ (batch : BatchRecord) (kept : Contents) (r : Reaches m pending kept) where
    pub grown_view : (standing : Standing) (next : View)
        → (next ≡ seen standing (taken (taken m pending) (batch ∷ [])) kept) ⊎ (next ≡ seen standing (taken (taken m pending) (batch ∷ [])) (taken (taken m pending) (batch ∷ [])))
        → Sees standing m (pending ++ batch ∷ []) next
    grown_view standing next (inl is) = record {
      kept = kept;
      reaches = still_reached m pending batch kept r;
      is = is ∙ ap (λ (n : Contents). seen standing n kept) (one_more m pending batch);
    }
    grown_view standing next (inr is) = record {
      kept = taken m (pending ++ batch ∷ []);
      reaches = all_reached m (pending ++ batch ∷ []);
      is = is ∙ ap (λ (n : Contents). seen standing n n) (one_more m pending batch);
    }

    adds_view : (sync : Bool) (next : View) (read : Type 0) → Turned (Adds Running sync) batch read (seen Running (taken m pending) kept) next → (fin : ModelLog) × AddsBatch sync m pending batch fin × Fits fin next
    adds_view true next read is = (
      running (taken m (pending ++ batch ∷ [])) [],
      inl refl,
      durable_view Running (taken m (pending ++ batch ∷ [])) next (is ∙ ap (λ (n : Contents). seen Running n n) (one_more m pending batch)),
    )
    adds_view false next read t = (running m (pending ++ batch ∷ []), inl (record { done = []; rest = pending ++ batch ∷ []; splits = refl; is = refl }), grown_view Running next t)

-- From the model to views, and back.

module _ {B C : Type 0} (says : B → BatchRecord) where
  abbrev pub Turning : Standing → Contents → List BatchRecord → Event B C → Answer → Outcome → View → Type 0
  Turning standing m pending event answer come next = (view : View) × Sees standing m pending view × Turned come (batch_of says event) (IsRead view.now event answer) view next

  abbrev pub Moving : Standing → Contents → List BatchRecord → Event B C → Answer → View → Type 0
  Moving standing m pending event answer next = (view : View) × Sees standing m pending view × Moves says view event answer next

  pub moving : (standing : Standing) (m : Contents) (pending : List BatchRecord) (event : Event B C) (answer : Answer) (come : Outcome) (next : View) → outcome standing event answer ≡ come → Turning standing m pending event answer come next → Moving standing m pending event answer next
  moving standing m pending event answer come next is (view, s, t) =
      (view, s, subst (λ (o : Outcome). Turned o (batch_of says event) (IsRead view.now event answer) view next) (sym (ap (λ (st : Standing). outcome st event answer) (standing_is standing m pending view s) ∙ is)) t)

  pub turning : (standing : Standing) (m : Contents) (pending : List BatchRecord) (event : Event B C) (answer : Answer) (come : Outcome) (next : View) → outcome standing event answer ≡ come → Moving standing m pending event answer next → Turning standing m pending event answer come next
  turning standing m pending event answer come next is (view, s, t) =
      (view, s, subst (λ (o : Outcome). Turned o (batch_of says event) (IsRead view.now event answer) view next) (ap (λ (st : Standing). outcome st event answer) (standing_is standing m pending view s) ∙ is) t)

module _ {B : Type 0} (C : Type 0) (says : B → BatchRecord) where
  -- a call as an event
  abbrev called : Call B → Event B C
  called call = Serve call

  served : (m : Contents) (pending : List BatchRecord) (call : Call B) (answer : Answer) (fin : ModelLog) (next : View) → Serves says m pending call answer fin → Fits fin next → Moving says Running m pending (called call) answer next
  served m pending (Write batch sync) Done fin next is f = moving {C = C} says Running m pending (Serve (Write batch sync)) Done (Adds Running sync) next refl (added m pending (says batch) sync fin next (λ view. ⊥) is f)
  served m pending (Write batch sync) Refused fin next is f = moving {C = C} says Running m pending (Serve (Write batch sync)) Refused (Turns Running false) next refl (refused_so m pending fin next is f)
  served m pending (Write batch sync) Failed fin next is f = moving {C = C} says Running m pending (Serve (Write batch sync)) Failed (Adds Broken false) next refl (fell_at m pending (says batch) fin next is f)
  served m pending Sync Done fin next is f = moving {C = C} says Running m pending (Serve Sync) Done (Turns Running true) next refl (synced_so m pending fin next is f)
  served m pending Sync Failed fin next is f = moving {C = C} says Running m pending (Serve Sync) Failed (Turns Broken false) next refl (broken_so m pending fin next is f)
  served m pending (Get group key) (Found value) fin next is f = moving {C = C} says Running m pending (Serve (Get group key)) (Found value) Reads next refl (read_so m pending (λ (n : Contents). IsRead {B = B} {C = C} n (Serve (Get group key)) (Found value)) fin next is f)
  served m pending (Get group key) Refused fin next is f = moving {C = C} says Running m pending (Serve (Get group key)) Refused (Turns Running false) next refl (same_so m pending fin next is f)
  served m pending (GetEntry group index) (Found value) fin next is f = moving {C = C} says Running m pending (Serve (GetEntry group index)) (Found value) Reads next refl (read_so m pending (λ (n : Contents). IsRead {B = B} {C = C} n (Serve (GetEntry group index)) (Found value)) fin next is f)
  served m pending (GetEntry group index) Refused fin next is f = moving {C = C} says Running m pending (Serve (GetEntry group index)) Refused (Turns Running false) next refl (same_so m pending fin next is f)
  served m pending (FirstIndex group) (At index) fin next is f = moving {C = C} says Running m pending (Serve (FirstIndex group)) (At index) Reads next refl (read_so m pending (λ (n : Contents). IsRead {B = B} {C = C} n (Serve (FirstIndex group)) (At index)) fin next is f)
  served m pending (LastIndex group) (At index) fin next is f = moving {C = C} says Running m pending (Serve (LastIndex group)) (At index) Reads next refl (read_so m pending (λ (n : Contents). IsRead {B = B} {C = C} n (Serve (LastIndex group)) (At index)) fin next is f)
  served m pending (Fetch group begin end max) (Entries entries) fin next is f = moving {C = C} says Running m pending (Serve (Fetch group begin end max)) (Entries entries) Reads next refl (read_so m pending (λ (n : Contents). IsRead {B = B} {C = C} n (Serve (Fetch group begin end max)) (Entries entries)) fin next is f)
  served m pending (Fetch group begin end max) Refused fin next is f = moving {C = C} says Running m pending (Serve (Fetch group begin end max)) Refused (Turns Running false) next refl (same_so m pending fin next is f)
  served m pending (Scan group start end) (Keys pairs) fin next is f = moving {C = C} says Running m pending (Serve (Scan group start end)) (Keys pairs) Reads next refl (read_so m pending (λ (n : Contents). IsRead {B = B} {C = C} n (Serve (Scan group start end)) (Keys pairs)) fin next is f)
  served m pending (Scan group start end) Refused fin next is f = moving {C = C} says Running m pending (Serve (Scan group start end)) Refused (Turns Running false) next refl (same_so m pending fin next is f)
  served m pending (Compact group index) Done fin next (inl on) f = moving {C = C} says Running m pending (Serve (Compact group index)) Done (Adds Running false) next refl (grown m pending (compacts group index) Running next (ran_on m pending (compacts group index) (pending ++ compacts group index ∷ []) fin next on f))
  served m pending (Compact group index) Done fin next (inr (none, is)) f =
      moving {C = C} says Running m pending (Serve (Compact group index)) Done (Adds Running false) next refl (grown_none m pending (compacts group index) next (nothing_compacted (taken m pending) group index none) (subst (λ (x : ModelLog). Fits x next) is f))
  served m pending (Compact group index) Refused fin next is f = moving {C = C} says Running m pending (Serve (Compact group index)) Refused (Turns Running false) next refl (refused_so m pending fin next is f)
  served m pending (Compact group index) Failed fin next is f = moving {C = C} says Running m pending (Serve (Compact group index)) Failed (Adds Broken false) next refl (fell_at m pending (compacts group index) fin next is f)
  served m pending (Purge kind) Done fin next is f = moving {C = C} says Running m pending (Serve (Purge kind)) Done (Turns Running true) next refl (synced_so m pending fin next is f)
  served m pending (Purge kind) Refused fin next is f = moving {C = C} says Running m pending (Serve (Purge kind)) Refused (Turns Running true) next refl (synced_so m pending fin next is f)
  served m pending (Purge kind) Failed fin next (inl is) f = moving {C = C} says Running m pending (Serve (Purge kind)) Failed (Turns Broken false) next refl (broken_so m pending fin next is f)
  served m pending (Purge kind) Failed fin next (inr is) f =
      let s = subst (λ (x : ModelLog). Fits x next) is f in
      moving {C = C} says Running m pending (Serve (Purge kind)) Failed (Turns Broken false) next refl (seen Running (taken m pending) (taken m pending), whole m pending, settled m pending Broken next s)
  served m pending call answer fin next is f = absurd is

  real_call : (m : Contents) (pending : List BatchRecord) (call : Call B) (answer : Answer) (kept : Contents) → Reaches m pending kept → (next : View)
      → Turned (outcome Running (called call) answer) (batch_of says (called call)) (IsRead (taken m pending) (called call) answer) (seen Running (taken m pending) kept) next
      → (fin : ModelLog) × Serves says m pending call answer fin × Fits fin next
  real_call m pending (Write batch sync) Done kept r next t = adds_view m pending (says batch) kept r sync next ⊥ t
  real_call m pending (Write batch sync) Refused kept r next t = (running m pending, runs_same m pending, shown_view m pending Running kept next r t)
  real_call m pending (Write batch sync) Failed kept r next t = (failed m (pending ++ says batch ∷ []), inr refl, grown_view m pending (says batch) kept r Broken next t)
  real_call m pending Sync Done kept r next t = (running (taken m pending) [], refl, durable_view m pending Running (taken m pending) next t)
  real_call m pending Sync Failed kept r next t = (failed m pending, refl, shown_view m pending Broken kept next r t)
  real_call m pending (Get group key) (Found value) kept r next t = (running m pending, (t.0, refl), shown_view m pending Running kept next r t.1)
  real_call m pending (Get group key) Refused kept r next t = (running m pending, refl, shown_view m pending Running kept next r t)
  real_call m pending (GetEntry group index) (Found value) kept r next t = (running m pending, (t.0, refl), shown_view m pending Running kept next r t.1)
  real_call m pending (GetEntry group index) Refused kept r next t = (running m pending, refl, shown_view m pending Running kept next r t)
  real_call m pending (FirstIndex group) (At index) kept r next t = (running m pending, (t.0, refl), shown_view m pending Running kept next r t.1)
  real_call m pending (LastIndex group) (At index) kept r next t = (running m pending, (t.0, refl), shown_view m pending Running kept next r t.1)
  real_call m pending (Fetch group begin end max) (Entries entries) kept r next t = (running m pending, (t.0, refl), shown_view m pending Running kept next r t.1)
  real_call m pending (Fetch group begin end max) Refused kept r next t = (running m pending, refl, shown_view m pending Running kept next r t)
  real_call m pending (Scan group start end) (Keys pairs) kept r next t = (running m pending, (t.0, refl), shown_view m pending Running kept next r t.1)
  real_call m pending (Scan group start end) Refused kept r next t = (running m pending, refl, shown_view m pending Running kept next r t)
  real_call m pending (Compact group index) Done kept r next t =
      (running m (pending ++ compacts group index ∷ []), inl (record { done = []; rest = pending ++ compacts group index ∷ []; splits = refl; is = refl }), grown_view m pending (compacts group index) kept r Running next t)
  real_call m pending (Compact group index) Refused kept r next t = (running m pending, runs_same m pending, shown_view m pending Running kept next r t)
  real_call m pending (Compact group index) Failed kept r next t = (failed m (pending ++ compacts group index ∷ []), inr refl, grown_view m pending (compacts group index) kept r Broken next t)
  real_call m pending (Purge kind) Done kept r next t = (running (taken m pending) [], refl, durable_view m pending Running (taken m pending) next t)
  real_call m pending (Purge kind) Refused kept r next t = (running (taken m pending) [], refl, durable_view m pending Running (taken m pending) next t)
  real_call m pending (Purge kind) Failed kept r next t = (failed m pending, inl refl, shown_view m pending Broken kept next r t)
  real_call m pending call answer kept r next t = absurd t

module _ {B C : Type 0} (says : B → BatchRecord) where
  -- a log that is the same has the same views
  alike : (standing : Standing) (m : Contents) (pending : List BatchRecord) (log fin : ModelLog) (event : Event B C) (answer : Answer) (next : View) → ((view : View) → Fits log view → Sees standing m pending view)
      → (outcome standing event answer ≡ Turns standing false) → ((now kept : Contents) → seen standing (seen standing now kept).now (seen standing now kept).kept ≡ seen standing now kept) → fin ≡ log → Fits fin next → Moving says standing m pending event answer next
  alike standing m pending log fin event answer next sees_it come back is f =
      let s = sees_it next (subst (λ (x : ModelLog). Fits x next) is f) in
      moving {C = C} says standing m pending event answer (Turns standing false) next come (
        seen standing (taken m pending) s.kept,
        sees standing m pending s.kept s.reaches,
        s.is ∙ sym (back (taken m pending) s.kept),
      )

  -- where the log is closed
  module _ (m : Contents) (pending : List BatchRecord) (event : Event B C) (answer : Answer) (next : View) where
    -- from a standing in which readers see nothing, to a closed log
    shut_from : (standing : Standing) → outcome standing event answer ≡ Turns Closed false → (kept : Contents) → Reaches m pending kept → ((seen standing (taken m pending) kept).kept ≡ kept) → next ≡ seen Closed kept kept → Moving says standing m pending event answer next
    shut_from standing come kept r same is = moving {C = C} says standing m pending event answer (Turns Closed false) next come (
      seen standing (taken m pending) kept,
      sees standing m pending kept r,
      is ∙ ap (λ (k : Contents). seen Closed k k) (sym same),
    )

    -- a closed log that is one of those after the first few batches
    one_of : (now : Contents) → LosesSome m pending now → Sees Closed now [] next → (kept : Contents) × Reaches m pending kept × (next ≡ seen Closed kept kept)
    one_of now loses s = (now, of_count m pending now loses, s.is ∙ ap (λ (k : Contents). seen Closed k k) (only_reached now s.kept s.reaches))

  -- The model's answers are moves of views.
  answered : (log : ModelLog) (event : Event B C) (answer : Answer) (fin : ModelLog) (next : View) → Answers says log event answer fin → Fits fin next → Moving says (standing_in log) (contents_in log) (pending_of log) event answer next
  answered (resting m) (Open workers) Done fin next is f =
      let s = subst (λ (x : ModelLog). Fits x next) is f in
      moving {C = C} says Closed m [] (Open workers) Done Opens next refl (seen Closed m m, sees Closed m [] m (all_reached m []), s.is ∙ ap (λ (k : Contents). seen Running m k) (only_reached m s.kept s.reaches))
  answered (resting m) (Open workers) Refused fin next (inl is) f = alike Closed m [] (resting m) fin (Open workers) Refused next (λ view s. s) refl (λ n k. refl) is f
  answered (resting m) (Open workers) Refused fin next (inr is) f = alike Closed m [] (left m []) fin (Open workers) Refused next (λ view s. s) refl (λ n k. refl) is f
  answered (left m pending) (Open workers) Done fin next (now, loses, is) f =
      let s = subst (λ (x : ModelLog). Fits x next) is f in
      moving {C = C} says Closed m pending (Open workers) Done Opens next refl (seen Closed now now, sees Closed m pending now (of_count m pending now loses), s.is ∙ ap (λ (k : Contents). seen Running now k) (only_reached now s.kept s.reaches))
  answered (left m pending) (Open workers) Refused fin next (inl is) f = alike Closed m pending (left m pending) fin (Open workers) Refused next (λ view s. s) refl (λ n k. refl) is f
  answered (left m pending) (Open workers) Refused fin next (inr (now, loses, is)) f =
      let (kept, r, same) = one_of m pending (Open workers) Refused next now loses (subst (λ (x : ModelLog). Fits x next) is f) in
      shut_from m pending (Open workers) Refused next Closed refl kept r refl same
  answered (running m pending) (Serve call) answer fin next is f = served C says m pending call answer fin next is f
  answered (failed m pending) (Serve call) Failed fin next is f = alike Broken m pending (failed m pending) fin (Serve call) Failed next (λ view s. s) refl (λ n k. refl) is f
  answered (running m pending) Close Done fin next is f =
      moving {C = C} says Running m pending Close Done (Turns Closed true) next refl (seen Running (taken m pending) (taken m pending), whole m pending, settled m pending Closed next (subst (λ (x : ModelLog). Fits x next) is f))
  answered (running m pending) Close Refused fin next is f =
      let s = subst (λ (x : ModelLog). Fits x next) is f in
      shut_from m pending Close Refused next Running refl s.kept s.reaches refl s.is
  answered (failed m pending) Close Failed fin next is f =
      let s = subst (λ (x : ModelLog). Fits x next) is f in
      shut_from m pending Close Failed next Broken refl s.kept s.reaches refl s.is
  answered (resting m) (Fork target) Done fin next is f = alike Closed m [] (resting m) fin (Fork target) Done next (λ view s. s) refl (λ n k. refl) is f
  answered (resting m) (Fork target) Refused fin next is f = alike Closed m [] (resting m) fin (Fork target) Refused next (λ view s. s) refl (λ n k. refl) is f
  answered (left m pending) (Fork target) Done fin next (now, loses, is) f =
      let (kept, r, same) = one_of m pending (Fork target) Done next now loses (subst (λ (x : ModelLog). Fits x next) is f) in
      shut_from m pending (Fork target) Done next Closed refl kept r refl same
  answered (left m pending) (Fork target) Refused fin next is f = alike Closed m pending (left m pending) fin (Fork target) Refused next (λ view s. s) refl (λ n k. refl) is f
  answered (resting m) (Crash what) Done fin next is f = alike Closed m [] (resting m) fin (Crash what) Done next (λ view s. s) refl (λ n k. refl) is f
  answered (left m pending) (Crash what) Done fin next (now, loses, is) f =
      let (kept, r, same) = one_of m pending (Crash what) Done next now loses (subst (λ (x : ModelLog). Fits x next) is f) in
      shut_from m pending (Crash what) Done next Closed refl kept r refl same
  answered (running m pending) (Crash what) Done fin next (now, loses, is) f =
      let (kept, r, same) = one_of m pending (Crash what) Done next now loses (subst (λ (x : ModelLog). Fits x next) is f) in
      shut_from m pending (Crash what) Done next Running refl kept r refl same
  answered (failed m pending) (Crash what) Done fin next (now, loses, is) f =
      let (kept, r, same) = one_of m pending (Crash what) Done next now loses (subst (λ (x : ModelLog). Fits x next) is f) in
      shut_from m pending (Crash what) Done next Broken refl kept r refl same
  answered (resting m) (Arm fault) Done fin next is f = alike Closed m [] (resting m) fin (Arm fault) Done next (λ view s. s) refl (λ n k. refl) is f
  answered (resting m) (Arm fault) Refused fin next is f = alike Closed m [] (resting m) fin (Arm fault) Refused next (λ view s. s) refl (λ n k. refl) is f
  answered (left m pending) (Arm fault) Done fin next is f = alike Closed m pending (left m pending) fin (Arm fault) Done next (λ view s. s) refl (λ n k. refl) is f
  answered (left m pending) (Arm fault) Refused fin next is f = alike Closed m pending (left m pending) fin (Arm fault) Refused next (λ view s. s) refl (λ n k. refl) is f
  answered (running m pending) (Arm fault) Done fin next is f = alike Running m pending (running m pending) fin (Arm fault) Done next (λ view s. s) refl (λ n k. refl) is f
  answered (running m pending) (Arm fault) Refused fin next is f = alike Running m pending (running m pending) fin (Arm fault) Refused next (λ view s. s) refl (λ n k. refl) is f
  answered (failed m pending) (Arm fault) Done fin next is f = alike Broken m pending (failed m pending) fin (Arm fault) Done next (λ view s. s) refl (λ n k. refl) is f
  answered (failed m pending) (Arm fault) Refused fin next is f = alike Broken m pending (failed m pending) fin (Arm fault) Refused next (λ view s. s) refl (λ n k. refl) is f
  answered (resting m) (Serve call) Idle fin next is f = alike Closed m [] (resting m) fin (Serve call) Idle next (λ view s. s) refl (λ n k. refl) is.1 f
  answered (resting m) Close Idle fin next is f = alike Closed m [] (resting m) fin Close Idle next (λ view s. s) refl (λ n k. refl) is.1 f
  answered (left m pending) (Serve call) Idle fin next is f = alike Closed m pending (left m pending) fin (Serve call) Idle next (λ view s. s) refl (λ n k. refl) is.1 f
  answered (left m pending) Close Idle fin next is f = alike Closed m pending (left m pending) fin Close Idle next (λ view s. s) refl (λ n k. refl) is.1 f
  answered (running m pending) (Open workers) Idle fin next is f = alike Running m pending (running m pending) fin (Open workers) Idle next (λ view s. s) refl (λ n k. refl) is.1 f
  answered (failed m pending) (Open workers) Idle fin next is f = alike Broken m pending (failed m pending) fin (Open workers) Idle next (λ view s. s) refl (λ n k. refl) is.1 f
  answered (running m pending) (Fork target) Idle fin next is f = alike Running m pending (running m pending) fin (Fork target) Idle next (λ view s. s) refl (λ n k. refl) is.1 f
  answered (failed m pending) (Fork target) Idle fin next is f = alike Broken m pending (failed m pending) fin (Fork target) Idle next (λ view s. s) refl (λ n k. refl) is.1 f
  answered (resting m) (Open workers) Idle fin next is f = absurd (false_true is.0)
  answered (left m pending) (Open workers) Idle fin next is f = absurd (false_true is.0)
  answered (resting m) (Fork target) Idle fin next is f = absurd (false_true is.0)
  answered (left m pending) (Fork target) Idle fin next is f = absurd (false_true is.0)
  answered (running m pending) Close Idle fin next is f = absurd (false_true (sym is.0))
  answered (failed m pending) Close Idle fin next is f = absurd (false_true (sym is.0))
  answered (failed m pending) (Serve call) Idle fin next is f = absurd (false_true (sym is.0))
  answered log (Crash what) Idle fin next is f = absurd is.0
  answered log (Arm fault) Idle fin next is f = absurd is.0
  answered log event answer fin next is f = absurd is

  -- Moves of views are the model's answers.

  -- a move from what is known of a view
  abbrev TurnedFrom : Standing → Contents → List BatchRecord → Event B C → Answer → Contents → View → Type 0
  TurnedFrom standing m pending event answer kept next =
      Turned (outcome standing event answer) (batch_of says event) (IsRead (seen standing (taken m pending) kept).now event answer) (seen standing (taken m pending) kept) next

  from_seen : (standing : Standing) (m : Contents) (pending : List BatchRecord) (event : Event B C) (answer : Answer) (next : View) → Moving says standing m pending event answer next
      → (kept : Contents) × Reaches m pending kept × TurnedFrom standing m pending event answer kept next
  from_seen standing m pending event answer next (view, s, t) =
      let moved : Moves says (seen standing (taken m pending) s.kept) event answer next = subst (λ (v : View). Moves says v event answer next) s.is t in
      let v = seen standing (taken m pending) s.kept in (
        s.kept,
        s.reaches,
        subst (λ (st : Standing). Turned (outcome st event answer) (batch_of says event) (IsRead v.now event answer) v next) (standing_of_seen standing (taken m pending) s.kept) moved,
      )

  real : (log : ModelLog) (event : Event B C) (answer : Answer) (kept : Contents) → Reaches (contents_in log) (pending_of log) kept → (next : View) → TurnedFrom (standing_in log) (contents_in log) (pending_of log) event answer kept next
      → (fin : ModelLog) × Answers says log event answer fin × Fits fin next
  real (resting m) (Open workers) Done kept r next t = (running m [], refl, durable_view m [] Running m next (t ∙ ap (λ (k : Contents). seen Running k k) (only_reached m kept r)))
  real (resting m) (Open workers) Refused kept r next t = (resting m, inl refl, shown_view m [] Closed kept next r t)
  real (left m pending) (Open workers) Done kept r next t = (running kept [], (kept, to_count m pending kept r, refl), durable_view m pending Running kept next t)
  real (left m pending) (Open workers) Refused kept r next t = (left m pending, inl refl, shown_view m pending Closed kept next r t)
  real (running m pending) (Serve call) answer kept r next t = real_call C says m pending call answer kept r next t
  real (failed m pending) (Serve call) Failed kept r next t = (failed m pending, refl, shown_view m pending Broken kept next r t)
  real (running m pending) Close Done kept r next t = (left (taken m pending) [], refl, durable_view m pending Closed (taken m pending) next t)
  real (running m pending) Close Refused kept r next t = (left m pending, refl, shown_view m pending Closed kept next r t)
  real (failed m pending) Close Failed kept r next t = (left m pending, refl, shown_view m pending Closed kept next r t)
  real (resting m) (Fork target) Done kept r next t = (resting m, refl, shown_view m [] Closed kept next r t)
  real (resting m) (Fork target) Refused kept r next t = (resting m, refl, shown_view m [] Closed kept next r t)
  real (left m pending) (Fork target) Done kept r next t = (resting kept, (kept, to_count m pending kept r, refl), durable_view m pending Closed kept next t)
  real (left m pending) (Fork target) Refused kept r next t = (left m pending, refl, shown_view m pending Closed kept next r t)
  real (resting m) (Crash what) Done kept r next t = (resting m, refl, shown_view m [] Closed kept next r t)
  real (left m pending) (Crash what) Done kept r next t = (resting kept, (kept, to_count m pending kept r, refl), durable_view m pending Closed kept next t)
  real (running m pending) (Crash what) Done kept r next t = (resting kept, (kept, to_count m pending kept r, refl), durable_view m pending Closed kept next t)
  real (failed m pending) (Crash what) Done kept r next t = (resting kept, (kept, to_count m pending kept r, refl), durable_view m pending Closed kept next t)
  real (resting m) (Arm fault) Done kept r next t = (resting m, refl, shown_view m [] Closed kept next r t)
  real (resting m) (Arm fault) Refused kept r next t = (resting m, refl, shown_view m [] Closed kept next r t)
  real (left m pending) (Arm fault) Done kept r next t = (left m pending, refl, shown_view m pending Closed kept next r t)
  real (left m pending) (Arm fault) Refused kept r next t = (left m pending, refl, shown_view m pending Closed kept next r t)
  real (running m pending) (Arm fault) Done kept r next t = (running m pending, refl, shown_view m pending Running kept next r t)
  real (running m pending) (Arm fault) Refused kept r next t = (running m pending, refl, shown_view m pending Running kept next r t)
  real (failed m pending) (Arm fault) Done kept r next t = (failed m pending, refl, shown_view m pending Broken kept next r t)
  real (failed m pending) (Arm fault) Refused kept r next t = (failed m pending, refl, shown_view m pending Broken kept next r t)
  real (resting m) (Serve call) Idle kept r next t = (resting m, (refl, refl), shown_view m [] Closed kept next r t)
  real (resting m) Close Idle kept r next t = (resting m, (refl, refl), shown_view m [] Closed kept next r t)
  real (left m pending) (Serve call) Idle kept r next t = (left m pending, (refl, refl), shown_view m pending Closed kept next r t)
  real (left m pending) Close Idle kept r next t = (left m pending, (refl, refl), shown_view m pending Closed kept next r t)
  real (running m pending) (Open workers) Idle kept r next t = (running m pending, (refl, refl), shown_view m pending Running kept next r t)
  real (failed m pending) (Open workers) Idle kept r next t = (failed m pending, (refl, refl), shown_view m pending Broken kept next r t)
  real (running m pending) (Fork target) Idle kept r next t = (running m pending, (refl, refl), shown_view m pending Running kept next r t)
  real (failed m pending) (Fork target) Idle kept r next t = (failed m pending, (refl, refl), shown_view m pending Broken kept next r t)
  real log event answer kept r next t = absurd t

  -- Runs of events.

  pub explained_goes : (log : ModelLog) (events : List (Event B C)) (answers : List Answer) (last : ModelLog) → Explains says log events answers last → (view : View) × Fits log view × Goes says view events answers
  explained_goes log [] [] last is =
      let m = contents_in log in
      let p = pending_of log in
      (seen (standing_in log) (taken m p) (taken m p), fits_of log _ (sees (standing_in log) m p (taken m p) (all_reached m p)), tt)
  explained_goes log (event ∷ events) (answer ∷ answers) last (fin, is, rest) =
      let (next, fits, goes) = explained_goes fin events answers last rest in
      let (view, s, moves) = answered log event answer fin next is fits in
      (view, fits_of log view s, (next, moves, goes))
  explained_goes log [] (answer ∷ answers) last is = absurd is
  explained_goes log (event ∷ events) [] last is = absurd is

  pub goes_explained : (log : ModelLog) (view : View) (events : List (Event B C)) (answers : List Answer) → Fits log view → Goes says view events answers → (last : ModelLog) × Explains says log events answers last
  goes_explained log view [] [] fits goes = (log, refl)
  goes_explained log view (event ∷ events) (answer ∷ answers) fits (next, moves, goes) =
      let (kept, r, t) = from_seen (standing_in log) (contents_in log) (pending_of log) event answer next (view, of_fits log view fits, moves) in
      let (fin, is, fits_then) = real log event answer kept r next t in
      let (last, rest) = goes_explained fin next events answers fits_then goes in
      (last, (fin, is, rest))
  goes_explained log view [] (answer ∷ answers) fits goes = absurd goes
  goes_explained log view (event ∷ events) [] fits goes = absurd goes
