-- Room for the entries of a batch to move into Rewrite, and their move, item by item.
use Rattle.std.proofs.Common.{◌≡◌, ℕ, ◌+◌, ◌-◌, ◌≤◌, ◌==◌, Bool, true, false, if◌then◌else◌, List, [], ◌∷◌, ◌++◌, map, Option, refl, sym, ap, ap₂, subst, ◌∙◌, arith, append-nil}
use Rattle.raft_log_record_base.specs.declared.pipe_log.FileBlockHandle.{FileBlockHandle}
use Rattle.raft_log_record_items.specs.declared.entry.EntryIndex.{EntryIndex}
use Rattle.raft_log_record_items.specs.declared.item.LogItem.{LogItem}
use Rattle.raft_log_record_items.specs.declared.item.LogItemContent.TheVariants as contents
use Rattle.raft_log_record_items.specs.Placed.{written, written_entry}
use Rattle.raft_log_model_laws.specs.Item.{Tagged}
use Rattle.raft_log_model_laws.specs.Groups.{of_group}
use Rattle.raft_log_model_laws.specs.Renamed.{renamed_tagged}
use Rattle.raft_log_model_laws.proofs.Public.{of_group_append, of_group_renamed}
use Rattle.raft_log_record_frames.specs.Meaning.{tagged_items}
use Rattle.raft_log_extents.specs.declared.place.Place.{Place}
use Rattle.raft_log_memtable_index.specs.Shown.{span}
use Rattle.raft_log_memtable.specs.Room.{Promise, count_of, needs, with_moves, without_moves}
use Rattle.raft_log_memtable.proofs.Public.{needs-append, needs_renamed}
use Rattle.raft_log_memtables.specs.declared.mem_tables.MemTables.{MemTables}
use Rattle.raft_log_memtables.specs.Tables.{has_table, promise_of, IsAtRest, PromisesSame, ShowsSame}
use Rattle.raft_log_memtables.specs.Rewriting.{entries_of, moving, GroupsStay, MayMove, PromisesMove, PromisesMoves, TakesRewritten, RewritesOne}
use Rattle.raft_log_memtables.proofs.Applied.{items_renamed, written_items}
use Rattle.raft_log_memtables.proofs.Ready.{by_group, same_or_apart}
use Rattle.raft_log_memtables.proofs.Rewritten.{rewrites_more}

pub none_added : (q : Promise) → q ≡ with_moves q 0
none_added q = ap (λ n. record q { moves = n }) (omega arith)

moving_more : (b : Bool) (q : Promise) (m n : ℕ) → moving b (moving b q m) n ≡ moving b q (m + n)
moving_more true q m n = ap (λ k. record q { moves = k }) (omega arith)
moving_more false q m n = refl

moving_none : (b : Bool) (q : Promise) → q ≡ moving b q 0
moving_none true q = none_added q
moving_none false q = refl

ends_moving : (b : Bool) (q : Promise) (n : ℕ) → (moving b q n).ends ≡ q.ends
ends_moving true q n = refl
ends_moving false q n = refl

without_more : (q : Promise) (m n : ℕ) → without_moves (without_moves q m) n ≡ without_moves q (m + n)
without_more q m n = ap (λ k. record q { moves = k }) (omega arith)

stay_more : (l m n : MemTables) → GroupsStay l m → GroupsStay m n → GroupsStay l n
stay_more l m n a b = record { tables = λ g. b.tables g ∙ a.tables g; counts = λ g. b.counts g ∙ a.counts g }

module _ {E V : Type 0} where
  entries_append : (g : ℕ) (xs ys : List (Tagged E V)) → entries_of g (xs ++ ys) ≡ entries_of g xs + entries_of g ys
  entries_append g xs ys = ap needs (of_group_append g xs ys) ∙ needs-append (of_group g xs) (of_group g ys)

  entries_here : (g : ℕ) (xs : List (Tagged E V)) (x : Tagged E V) → (x.group == g) ≡ true → entries_of g (xs ++ x ∷ []) ≡ entries_of g xs + count_of x.item
  entries_here g xs x t = entries_append g xs (x ∷ []) ∙ ap (λ (b : Bool). entries_of g xs + needs (if b then x.item ∷ [] else [])) t ∙ omega arith

  entries_there : (g : ℕ) (xs : List (Tagged E V)) (x : Tagged E V) → (x.group == g) ≡ false → entries_of g (xs ++ x ∷ []) ≡ entries_of g xs
  entries_there g xs x t = entries_append g xs (x ∷ []) ∙ ap (λ (b : Bool). entries_of g xs + needs (if b then x.item ∷ [] else [])) t ∙ omega arith

  -- what is promised to some items, and to one more
  pub none_promised : (m : MemTables) → PromisesMoves {E = E} {V = V} m m []
  none_promised m = record { stay = record { tables = λ g. refl; counts = λ g. refl }; moves = λ g. moving_none (has_table m g) (promise_of m g) }

  pub promises_more : (l m n : MemTables) (xs : List (Tagged E V)) (x : Tagged E V) → PromisesMoves l m xs → PromisesMove m n x → PromisesMoves l n (xs ++ x ∷ [])
  promises_more l m n xs x all one = record {
    stay = stay_more l m n all.stay one.stay;
    moves = λ g. by_group x.group g (same_or_apart x.group g)
        (λ t is.
        subst (λ (j : ℕ). promise_of n j ≡ moving (has_table m j) (promise_of m j) (count_of x.item)) is one.move
        ∙ ap₂ (λ b q. moving b q (count_of x.item)) (all.stay.tables g) (all.moves g)
        ∙ moving_more (has_table l g) (promise_of l g) (entries_of g xs) (count_of x.item)
        ∙ sym (ap (moving (has_table l g) (promise_of l g)) (entries_here g xs x t)))
        (λ t. one.others g t ∙ all.moves g ∙ sym (ap (moving (has_table l g) (promise_of l g)) (entries_there g xs x t)));
  }

  pub still_promised : (l m : MemTables) (xs : List (Tagged E V)) → PromisesMoves l m xs → PromisesMoves l m (xs ++ [])
  still_promised l m xs h = subst (PromisesMoves l m) (sym (append-nil xs)) h

  pub rests_moving : (l m : MemTables) (xs : List (Tagged E V)) → ShowsSame l m → PromisesMoves l m xs → IsAtRest l → IsAtRest m
  rests_moving l m xs same h rest = λ g.
      ap (λ q. q.ends) (h.moves g) ∙ ends_moving (has_table l g) (promise_of l g) (entries_of g xs) ∙ rest g ∙ ap span (sym (same.shown g))

  -- room for items before, and for these
  pub more_may_move : (m n : MemTables) (xs ys : List (Tagged E V)) → MayMove m xs → PromisesMoves m n ys → MayMove n (xs ++ ys)
  more_may_move m n xs ys may all g h =
      let there : has_table m g ≡ true = sym (all.stay.tables g) ∙ h in
      let now : (promise_of n g).moves ≡ (promise_of m g).moves + entries_of g ys =
      ap (λ q. q.moves) (all.moves g ∙ ap (λ b. moving b (promise_of m g) (entries_of g ys)) there) in
      let before = may g there in
      omega (arith, entries_append g xs ys, now, before)

pub rest_same : (m n : MemTables) → ShowsSame m n → PromisesSame m n → IsAtRest m → IsAtRest n
rest_same m n same promises rest = λ g. ap (λ q. q.ends) (promises g) ∙ rest g ∙ ap span (sym (same.shown g))

-- It doesn't matter what stands for an entry.
may_renamed : {E F V : Type 0} (f : E → F) (m : MemTables) (xs : List (Tagged E V)) → MayMove m xs → MayMove m (map (renamed_tagged f) xs)
may_renamed f m xs may g h =
    subst (λ n. n ≤ (promise_of m g).moves) (sym (ap needs (of_group_renamed f g xs) ∙ needs_renamed f (of_group g xs))) (may g h)

pub may_for : {F : Type 0} (f : EntryIndex → F) (m : MemTables) (xs : List LogItem) → MayMove m (tagged_items (λ e. e) xs) → MayMove m (tagged_items f xs)
may_for {F = F} f m xs may = subst (λ (l : List (Tagged F (List ℕ))). MayMove m l) (items_renamed f xs) (may_renamed f m (tagged_items (λ e. e) xs) may)

pub written_may_move : (m : MemTables) (handle : FileBlockHandle) (xs : List LogItem) → MayMove m (tagged_items (λ e. e) xs)
    → MayMove m (tagged_items (λ e. e) (written handle xs))
written_may_move m handle xs may =
    subst (λ (l : List (Tagged EntryIndex (List ℕ))). MayMove m l) (sym (written_items handle xs)) (may_for (written_entry handle) m xs may)

module _ (gate : Option ℕ) (n : ℕ) where
  pub moved_more : (l m k : MemTables) (xs : List (Tagged Place (List ℕ))) (x : Tagged Place (List ℕ)) → TakesRewritten gate n l m xs → RewritesOne gate n m k x
      → TakesRewritten gate n l k (xs ++ x ∷ [])
  moved_more l m k xs x all one = record {
    stay = stay_more l m k all.stay one.stay;
    shows = rewrites_more gate n l m k xs x all.shows one;
    ends = λ g. one.ends g ∙ all.ends g;
    promise = λ g. by_group x.group g (same_or_apart x.group g)
        (λ t is.
        subst (λ (j : ℕ). promise_of k j ≡ without_moves (promise_of m j) (count_of x.item)) is one.promise
        ∙ ap (λ q. without_moves q (count_of x.item)) (all.promise g)
        ∙ without_more (promise_of l g) (entries_of g xs) (count_of x.item)
        ∙ sym (ap (without_moves (promise_of l g)) (entries_here g xs x t)))
        (λ t. (one.others g t).1 ∙ all.promise g ∙ sym (ap (without_moves (promise_of l g)) (entries_there g xs x t)));
  }

  pub still_moved : (l m : MemTables) (xs : List (Tagged Place (List ℕ))) → TakesRewritten gate n l m xs → TakesRewritten gate n l m (xs ++ [])
  still_moved l m xs h = subst (TakesRewritten gate n l m) (sym (append-nil xs)) h

  -- there is room for the next one
  pub next_may_move : (l m : MemTables) (front back all : List (Tagged Place (List ℕ))) (x : Tagged Place (List ℕ)) → TakesRewritten gate n l m front
      → all ≡ front ++ (x ∷ back) → MayMove l all → has_table m x.group ≡ true → count_of x.item ≤ (promise_of m x.group).moves
  next_may_move l m front back all x done is may h =
      let g = x.group in
      let parts : entries_of g all ≡ entries_of g front + entries_of g (x ∷ back) = ap (entries_of g) is ∙ entries_append g front (x ∷ back) in
      let first : entries_of g (x ∷ back) ≡ count_of x.item + entries_of g back =
      entries_append g (x ∷ []) back ∙ ap (λ k. k + entries_of g back) (entries_here g [] x (itself g) ∙ omega arith) in
      let room = may g (sym (done.stay.tables g) ∙ h) in
      let now : (promise_of m g).moves ≡ (promise_of l g).moves - entries_of g front = ap (λ q. q.moves) (done.promise g) in
      omega (arith, parts, first, room, now)
    where
      itself : (k : ℕ) → (k == k) ≡ true
      itself k = grind (arith)

  -- and for those behind
  pub rest_may_move : (m k : MemTables) (xs ys : List (Tagged Place (List ℕ))) → MayMove m (xs ++ ys) → TakesRewritten gate n m k xs → MayMove k ys
  rest_may_move m k xs ys may done g h =
      let room = may g (sym (done.stay.tables g) ∙ h) in
      let now : (promise_of k g).moves ≡ (promise_of m g).moves - entries_of g xs = ap (λ q. q.moves) (done.promise g) in
      omega (arith, entries_append g xs ys, room, now)
