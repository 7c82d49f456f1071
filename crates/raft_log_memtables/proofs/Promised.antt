-- What is promised to a batch item by item, and what is left of that as its items are done.
use Rattle.std.proofs.Common.{◌≡◌, ℕ, ◌==◌, ◌||◌, Bool, true, false, if◌then◌else◌, List, [], ◌∷◌, ◌++◌, refl, sym, ap, subst, ◌∙◌, append-nil}
use Rattle.raft_log_model_laws.specs.Item.{Item, Tagged}
use Rattle.raft_log_model_laws.specs.Groups.{of_group}
use Rattle.raft_log_record_items.specs.declared.entry.EntryIndex.{EntryIndex}
use Rattle.raft_log_record_items.specs.declared.item.LogItem.{LogItem}
use Rattle.raft_log_record_frames.specs.Marking.{has_mark_key}
use Rattle.raft_log_record_frames.specs.Meaning.{tagged, tagged_items, unless_mark}
use Rattle.raft_log_extents.specs.declared.place.Place.{Place}
use Rattle.raft_log_extents.specs.Entries.{place_of}
use Rattle.raft_log_memtable.specs.Room.{Promise, kept, promised}
use Rattle.raft_log_memtables.specs.declared.mem_tables.MemTables.{MemTables}
use Rattle.raft_log_memtables.specs.Tables.{has_table, promise_of}
use Rattle.raft_log_memtables.specs.Batch.{all_kept, all_promised, mentions, speaks_of, IsApplied, IsPrepared, PromisesAll}
use Rattle.raft_log_memtables.proofs.Items.{neither, none_said}
use Rattle.raft_log_memtables.proofs.Ready.{by_group, of_more_here, of_more_there, same_or_apart}

module _ {E V : Type 0} where
  promised_push : (q : Promise) (xs : List (Item E V)) (x : Item E V) → all_promised q (xs ++ x ∷ []) ≡ promised (all_promised q xs) x
  promised_push q [] x = refl
  promised_push q (y ∷ ys) x = promised_push (promised q y) ys x

  speaks_push : (g : ℕ) (xs : List (Tagged E V)) (x : Tagged E V) (b : Bool) → (speaks_of g (xs ++ x ∷ []) || b) ≡ ((x.group == g) || (speaks_of g xs || b))
  speaks_push g [] x b = or_none (x.group == g)
    where
      or_none : (a : Bool) → ((a || false) || b) ≡ (a || (false || b))
      or_none true = refl
      or_none false = refl
  speaks_push g (y ∷ ys) x b = either (y.group == g) (speaks_push g ys x b)
    where
      last : (a : Bool) → true ≡ (a || true)
      last true = refl
      last false = refl

      either : (a : Bool) → (speaks_of g (ys ++ x ∷ []) || b) ≡ ((x.group == g) || (speaks_of g ys || b))
          → ((a || speaks_of g (ys ++ x ∷ [])) || b) ≡ ((x.group == g) || ((a || speaks_of g ys) || b))
      either true rest = last (x.group == g)
      either false rest = rest

  pub promised_more : (l m n : MemTables) (xs : List (Tagged E V)) (x : Tagged E V) → PromisesAll l m xs → IsPrepared m n x → PromisesAll l n (xs ++ x ∷ [])
  promised_more l m n xs x all one = record {
    tables = λ g. one.tables g ∙ ap (λ (b : Bool). (x.group == g) || b) (all.tables g) ∙ sym (speaks_push g xs x (has_table l g));
    promises = λ g. by_group x.group g (same_or_apart x.group g)
        (λ t is.
        subst (λ (j : ℕ). promise_of n j ≡ promised (promise_of m j) x.item) is one.promised
        ∙ ap (λ (q : Promise). promised q x.item) (all.promises g)
        ∙ sym (promised_push (promise_of l g) (of_group g xs) x.item)
        ∙ ap (all_promised (promise_of l g)) (sym (of_more_here g xs x t)))
        (λ t. one.others g t ∙ all.promises g ∙ ap (all_promised (promise_of l g)) (sym (of_more_there g xs x t)));
  }

  pub still_promised_all : (l m : MemTables) (xs : List (Tagged E V)) → PromisesAll l m xs → PromisesAll l m (xs ++ [])
  still_promised_all l m xs h = subst (λ (l' : List (Tagged E V)). PromisesAll l m l') (sym (append-nil xs)) h

-- Of a group that isn't among the items nothing is said.
none_spoken : {E : Type 0} (entry : EntryIndex → E) (g : ℕ) (xs : List LogItem) → mentions g xs ≡ false → speaks_of g (tagged_items entry xs) ≡ false
none_spoken entry g [] h = refl
none_spoken {E = E} entry g (x ∷ xs) h =
    let parts = neither (x.raft_group_id == g) (mentions g xs) h in
    passed (has_mark_key x) (none_spoken entry g xs parts.1) parts.0
  where
    passed : (b : Bool) → speaks_of g (tagged_items entry xs) ≡ false → (x.raft_group_id == g) ≡ false → speaks_of g (unless_mark b (tagged entry x) (tagged_items entry xs)) ≡ false
    passed true k e = k
    passed false k e = ap (λ (t : Bool). t || speaks_of g (tagged_items entry xs)) e ∙ k

module _ {E : Type 0} (entry : EntryIndex → E) (l m : MemTables) (xs : List LogItem) (all : PromisesAll l m (tagged_items entry xs)) (g : ℕ) (apart : mentions g xs ≡ false) where
  -- it promises what it promised, and has a table where it had one
  pub promised_elsewhere : promise_of m g ≡ promise_of l g
  promised_elsewhere = all.promises g ∙ ap (all_promised (promise_of l g)) (none_said entry g xs apart)

  pub table_elsewhere : has_table m g ≡ has_table l g
  table_elsewhere = all.tables g ∙ ap (λ (b : Bool). b || has_table l g) (none_spoken entry g xs apart)

-- What is left of it once an item was done that may be a mark, which says nothing.
module _ (n : ℕ) (m k : MemTables) (x : LogItem) (xs : List LogItem) (mark : has_mark_key x ≡ true → k ≡ m) (applied : has_mark_key x ≡ false → IsApplied n m k (tagged place_of x)) where
  kept_next : (ys : List (Tagged Place (List ℕ))) → IsApplied n m k (tagged place_of x) → (g : ℕ) → all_kept (promise_of k g) (of_group g ys) ≡ all_kept (promise_of m g) (of_group g (tagged place_of x ∷ ys))
  kept_next ys a g =
      let t = tagged place_of x in
      by_group t.group g (same_or_apart t.group g)
      (λ here is.
      ap (λ (q : Promise). all_kept q (of_group g ys)) (subst (λ (j : ℕ). promise_of k j ≡ kept (promise_of m j) t.item) is a.promise)
      ∙ sym (ap (λ (b : Bool). all_kept (promise_of m g) (if b then t.item ∷ of_group g ys else of_group g ys)) here))
      (λ there.
      ap (λ (q : Promise). all_kept q (of_group g ys)) (a.others g there).1
      ∙ sym (ap (λ (b : Bool). all_kept (promise_of m g) (if b then t.item ∷ of_group g ys else of_group g ys)) there))

  pub promises_on : (g : ℕ) → all_kept (promise_of k g) (of_group g (tagged_items place_of xs)) ≡ all_kept (promise_of m g) (of_group g (tagged_items place_of (x ∷ xs)))
  promises_on g = either (has_mark_key x) refl
    where
      either : (b : Bool) → has_mark_key x ≡ b
          → all_kept (promise_of k g) (of_group g (tagged_items place_of xs)) ≡ all_kept (promise_of m g) (of_group g (unless_mark b (tagged place_of x) (tagged_items place_of xs)))
      either true h = ap (λ (t : MemTables). all_kept (promise_of t g) (of_group g (tagged_items place_of xs))) (mark h)
      either false h = kept_next (tagged_items place_of xs) (applied h) g

  pub tables_on : (g : ℕ) → has_table k g ≡ has_table m g
  tables_on g = either (has_mark_key x) refl
    where
      either : (b : Bool) → has_mark_key x ≡ b → has_table k g ≡ has_table m g
      either true h = ap (λ (t : MemTables). has_table t g) (mark h)
      either false h = (applied h).tables g
