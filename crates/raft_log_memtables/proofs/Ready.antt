-- The tables of all groups get ready for a batch item by item, and do it item by item.
use Rattle.std.proofs.Common.{◌≡◌, ℕ, ◌==◌, ◌||◌, Bool, true, false, if◌then◌else◌, List, [], ◌∷◌, ◌++◌, refl, sym, ap, subst, ◌∙◌, arith, Result, Ok, Err, OnErr, inl, inr, append-nil}
use Rattle.raft_log_model_laws.specs.Item.{Item, Tagged}
use Rattle.raft_log_model_laws.specs.Groups.{of_group}
use Rattle.raft_log_model_laws.proofs.Public.{of_group_append}
use Rattle.raft_log_memtable_index.specs.Shown.{span, next_span, MayFollow, MayAllFollow}
use Rattle.raft_log_model_laws.specs.Holes.{Window}
use Rattle.raft_log_record_base.specs.declared.errors.Error.{Error}
use Rattle.raft_log_record_items.specs.declared.item.LogItem.{LogItem}
use Rattle.raft_log_record_items.specs.declared.entry.EntryIndex.{EntryIndex}
use Rattle.raft_log_record_frames.specs.Meaning.{tagged_items}
use Rattle.raft_log_memtables.proofs.Items.{none_said}
use Rattle.raft_log_memtable.specs.Room.{Promise, promised, span_after, IsReady}
use Rattle.raft_log_memtable.proofs.Public.{ready_more}
use Rattle.raft_log_memtables.specs.declared.mem_tables.MemTables.{MemTables}
use Rattle.raft_log_memtables.specs.Tables.{shown_of, promise_of, has_table, IsAtRest, ShowsSame}
use Rattle.raft_log_memtables.specs.Batch.{mentions, MayFollowAll, ItemRefused, BatchRefused, GroupsPass, IsPrepared, IsReadyFor}

pub on_err_all : {T E : Type 0} {A : Type 0} (r : Result T E) → A → OnErr r A
on_err_all (Ok x) a = tt
on_err_all (Err e) a = a

-- a test on whether two numbers are the same, with what it says
pub data Same (a b : ℕ) : Type 0 where
  IsSame : (a == b) ≡ true → a ≡ b → Same a b
  Apart : (a == b) ≡ false → Same a b

pub same_or_apart : (a b : ℕ) → Same a b
same_or_apart a b = elim (a == b) as (λ t. (a == b) ≡ t → Same a b) [
  | true ↦ λ h. IsSame h (grind (arith, h))
  | false ↦ λ h. Apart h
] refl

either_true : (a b : Bool) → b ≡ true → (a || b) ≡ true
either_true true b h = refl
either_true false b h = h

pub by_group : {P : Type 0} (a b : ℕ) → Same a b → ((a == b) ≡ true → a ≡ b → P) → ((a == b) ≡ false → P) → P
by_group a b (IsSame t e) f h = f t e
by_group a b (Apart t) f h = h t

module _ {E V : Type 0} where
  groups_pass : (p q : ℕ → Bool) (xs : List (Tagged E V)) → ((g : ℕ) → p g ≡ true → q g ≡ true) → GroupsPass p xs → GroupsPass q xs
  groups_pass p q [] f h = tt
  groups_pass p q (x ∷ xs) f h = (f x.group h.0, groups_pass p q xs f h.1)

  pass_append : (p : ℕ → Bool) (xs ys : List (Tagged E V)) → GroupsPass p xs → GroupsPass p ys → GroupsPass p (xs ++ ys)
  pass_append p [] ys h k = k
  pass_append p (x ∷ xs) ys h k = (h.0, pass_append p xs ys h.1 k)

  one_of : (g : ℕ) (x : Tagged E V) (b : Bool) → (x.group == g) ≡ b → of_group g (x ∷ []) ≡ (if b then x.item ∷ [] else [])
  one_of g x b h = ap (λ (t : Bool). if t then x.item ∷ [] else []) h

  -- the items of a group among some and one more
  pub of_more_here : (g : ℕ) (xs : List (Tagged E V)) (x : Tagged E V) → (x.group == g) ≡ true → of_group g (xs ++ x ∷ []) ≡ of_group g xs ++ x.item ∷ []
  of_more_here g xs x t = of_group_append g xs (x ∷ []) ∙ ap (λ l. of_group g xs ++ l) (one_of g x true t)

  pub of_more_there : (g : ℕ) (xs : List (Tagged E V)) (x : Tagged E V) → (x.group == g) ≡ false → of_group g (xs ++ x ∷ []) ≡ of_group g xs
  of_more_there g xs x t = of_group_append g xs (x ∷ []) ∙ ap (λ l. of_group g xs ++ l) (one_of g x false t) ∙ append-nil (of_group g xs)

  ready_here : (m n : MemTables) (xs : List (Tagged E V)) (x : Tagged E V) (g : ℕ) → x.group ≡ g → (x.group == g) ≡ true → IsReadyFor m xs → ShowsSame m n → IsPrepared m n x
      → IsReady (shown_of n g) (promise_of n g) (of_group g (xs ++ x ∷ []))
  ready_here m n xs x g is test r same p =
      let now : promise_of n g ≡ promised (promise_of m g) x.item = subst (λ k. promise_of n k ≡ promised (promise_of m k) x.item) is p.promised in
      let follows : MayFollow (promise_of m g).ends x.item = subst (λ k. MayFollow (promise_of m k).ends x.item) is p.follows in
      subst (λ l. IsReady (shown_of n g) (promise_of n g) l) (sym (of_more_here g xs x test))
      (subst (λ q. IsReady (shown_of n g) q (of_group g xs ++ x.item ∷ [])) (sym now)
      (subst (λ v. IsReady v (promised (promise_of m g) x.item) (of_group g xs ++ x.item ∷ [])) (sym (same.shown g))
      (ready_more (shown_of m g) (promise_of m g) (of_group g xs) x.item (r.groups g) follows)))

  ready_elsewhere : (m n : MemTables) (xs : List (Tagged E V)) (x : Tagged E V) (g : ℕ) → (x.group == g) ≡ false → IsReadyFor m xs → ShowsSame m n → IsPrepared m n x
      → IsReady (shown_of n g) (promise_of n g) (of_group g (xs ++ x ∷ []))
  ready_elsewhere m n xs x g test r same p =
      subst (λ l. IsReady (shown_of n g) (promise_of n g) l) (sym (of_more_there g xs x test))
      (subst (λ q. IsReady (shown_of n g) q (of_group g xs)) (sym (p.others g test))
      (subst (λ v. IsReady v (promise_of m g) (of_group g xs)) (sym (same.shown g)) (r.groups g)))

  -- tables that are ready for some items, and prepared for one more, are ready for them all
  pub one_more_ready : (m n : MemTables) (xs : List (Tagged E V)) (x : Tagged E V) → IsReadyFor m xs → ShowsSame m n → IsPrepared m n x → IsReadyFor n (xs ++ x ∷ [])
  one_more_ready m n xs x r same p = record {
    tables = pass_append (has_table n) xs (x ∷ [])
        (groups_pass (has_table m) (has_table n) xs (λ g h. p.tables g ∙ either_true (x.group == g) (has_table m g) h) r.tables)
        (p.tables x.group ∙ itself x.group (has_table m x.group), tt);
    groups = λ g. by_group x.group g (same_or_apart x.group g) (λ t e. ready_here m n xs x g e t r same p) (λ t. ready_elsewhere m n xs x g t r same p);
  }
    where
      itself : (k : ℕ) (b : Bool) → ((k == k) || b) ≡ true
      itself k b = grind (arith)

-- of one more group nothing is prepared any more
pub rest_more : (m n : MemTables) (k g : ℕ) (b : Bool) → ShowsSame m n → (promise_of n k).ends ≡ span (shown_of n k) → ((j : ℕ) → (k == j) ≡ false → promise_of n j ≡ promise_of m j)
    → (b ≡ true → (promise_of m g).ends ≡ span (shown_of m g)) → (b || (k == g)) ≡ true → (promise_of n g).ends ≡ span (shown_of n g)
rest_more m n k g b same rest others so_far h =
    by_group k g (same_or_apart k g) (λ t is. subst (λ (j : ℕ). (promise_of n j).ends ≡ span (shown_of n j)) is rest)
    (λ t. ap (λ (q : Promise). q.ends) (others g t) ∙ so_far (first b (k == g) h t) ∙ ap span (sym (same.shown g)))
  where
    first : (a c : Bool) → (a || c) ≡ true → c ≡ false → a ≡ true
    first true c h t = refl
    first false c h t = absurd (let clash : true ≡ false = sym h ∙ t in let never : ⊥ = cc in never)

-- of one more group what was promised of a kind is forgotten
pub none_more : (part : Promise → ℕ) (m n : MemTables) (k g : ℕ) (b : Bool) → part (promise_of n k) ≡ 0 → ((j : ℕ) → (k == j) ≡ false → promise_of n j ≡ promise_of m j)
    → (b ≡ true → part (promise_of m g) ≡ 0) → (b || (k == g)) ≡ true → part (promise_of n g) ≡ 0
none_more part m n k g b none others so_far h =
    by_group k g (same_or_apart k g) (λ t is. subst (λ (j : ℕ). part (promise_of n j) ≡ 0) is none)
    (λ t. ap part (others g t) ∙ so_far (first b (k == g) h t))
  where
    first : (a c : Bool) → (a || c) ≡ true → c ≡ false → a ≡ true
    first true c h t = refl
    first false c h t = absurd (let clash : true ≡ false = sym h ∙ t in let never : ⊥ = cc in never)

-- of the others the same is promised
pub others_more : (l m n : MemTables) (k g : ℕ) (b : Bool) → ((j : ℕ) → (k == j) ≡ false → promise_of n j ≡ promise_of m j) → (b ≡ false → promise_of m g ≡ promise_of l g)
    → (b || (k == g)) ≡ false → promise_of n g ≡ promise_of l g
others_more l m n k g true others so_far h = absurd (let clash : true ≡ false = h in let never : ⊥ = cc in never)
others_more l m n k g false others so_far h = others g h ∙ so_far refl

follow_append : {E V : Type 0} (w : Window) (xs : List (Item E V)) (x : Item E V) (ys : List (Item E V)) → MayAllFollow w (xs ++ (x ∷ ys)) → MayFollow (span_after w xs) x
follow_append w [] x ys h = h.0
follow_append w (z ∷ xs) x ys h = follow_append (next_span w z) xs x ys h.1

-- where an item may not follow, neither may all of the batch
pub item_stops : {E V : Type 0} (l m : MemTables) (front back all : List (Tagged E V)) (x : Tagged E V) → ShowsSame l m → IsReadyFor m front → all ≡ front ++ (x ∷ back)
    → (MayFollow (promise_of m x.group).ends x.item → ⊥) → MayFollowAll (shown_of l) all → ⊥
item_stops l m front back all x same ready is stops follows =
    let g = x.group in
    let items : of_group g all ≡ of_group g front ++ (x.item ∷ of_group g back) =
    ap (of_group g) is ∙ of_group_append g front (x ∷ back) ∙ ap (λ (t : Bool). of_group g front ++ (if t then x.item ∷ of_group g back else of_group g back)) (here g) in
    let there : MayFollow (span_after (span (shown_of l g)) (of_group g front)) x.item =
    follow_append (span (shown_of l g)) (of_group g front) x.item (of_group g back) (subst (λ ys. MayAllFollow (span (shown_of l g)) ys) items (follows g)) in
    stops (subst (λ w. MayFollow w x.item) (ap (λ v. span_after (span v) (of_group g front)) (sym (same.shown g)) ∙ sym (ready.groups g).ends) there)
  where
    here : (k : ℕ) → (k == k) ≡ true
    here k = grind (arith)

-- the same as a refusal
pub batch_refused : {E V : Type 0} (l m : MemTables) (front back all : List (Tagged E V)) (x : Tagged E V) (e : Error) → ShowsSame l m → IsReadyFor m front → all ≡ front ++ (x ∷ back)
    → ItemRefused (promise_of m x.group).ends x.item e → BatchRefused (shown_of l) all e
batch_refused l m front back all x e same ready is refused = elim refused [
  | inl h ↦ inl (h.0, item_stops l m front back all x same ready is h.1)
  | inr h ↦ inr h
]

pub first_of : (a b : Bool) → (a || b) ≡ false → a ≡ false
first_of true b h = h
first_of false b h = refl

pub still_ready : {E V : Type 0} (m : MemTables) (xs : List (Tagged E V)) → IsReadyFor m xs → IsReadyFor m (xs ++ [])
still_ready {E = E} {V = V} m xs r = subst (λ (l : List (Tagged E V)). IsReadyFor m l) (sym (nothing_more xs)) r
  where
    nothing_more : (l : List (Tagged E V)) → l ++ [] ≡ l
    nothing_more [] = refl
    nothing_more (y ∷ l) = ap (λ k. y ∷ k) (nothing_more l)

-- tables that were ready for items that aren't written have nothing prepared once that is taken back
pub unwritten_rests : (m n : MemTables) (xs : List LogItem) → ShowsSame m n → ((g : ℕ) → mentions g xs ≡ true → (promise_of n g).ends ≡ span (shown_of n g))
    → ((g : ℕ) → mentions g xs ≡ false → promise_of n g ≡ promise_of m g) → IsReadyFor m (tagged_items (λ e. e) xs) → IsAtRest n
unwritten_rests m n xs same back others ready g = either (mentions g xs) refl
  where
    either : (b : Bool) → mentions g xs ≡ b → (promise_of n g).ends ≡ span (shown_of n g)
    either true h = back g h
    either false h =
        ap (λ (q : Promise). q.ends) (others g h) ∙ (ready.groups g).ends
        ∙ ap (λ (l : List (Item EntryIndex (List ℕ))). span_after (span (shown_of m g)) l) (none_said (λ e. e) g xs h) ∙ ap span (sym (same.shown g))
