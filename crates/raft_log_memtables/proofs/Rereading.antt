-- Items that are read again: what they say, and what they make of the tables one after another.
use Rattle.std.proofs.Common.{◌≡◌, ℕ, ◌==◌, Bool, true, false, if◌then◌else◌, List, [], ◌∷◌, ◌++◌, length, Option, Some, None, refl, sym, ap, subst, ◌∙◌, arith}
use Rattle.std.specs.BTreeMap.{get}
use Rattle.std.specs.Ordering.{nat_cmp}
use Rattle.raft_log_model_laws.specs.Item.{Item, Tagged}
use Rattle.raft_log_model_laws.specs.Groups.{of_group}
use Rattle.raft_log_model_laws.proofs.Public.{of_group_append}
use Rattle.raft_log_record_items.specs.declared.entry.EntryIndex.{EntryIndex}
use Rattle.raft_log_record_items.specs.declared.item.LogItem.{LogItem}
use Rattle.raft_log_record_items.specs.declared.item.LogItemContent.TheVariants as contents
use Rattle.raft_log_record_frames.specs.Marking.{has_mark_key}
use Rattle.raft_log_record_frames.specs.Meaning.{meaning, tagged, tagged_items, unless_mark}
use Rattle.raft_log_extents.specs.declared.place.Place.{Place}
use Rattle.raft_log_extents.specs.Entries.{place_of, run_of}
use Rattle.raft_log_memtable_index.specs.Shown.{next_span, span, MayAllFollow, MayFollow}
use Rattle.raft_log_memtable_index.specs.Replayed.{Replayed, replayed}
use Rattle.raft_log_memtable_index.proofs.Public.{span_stepped}
use Rattle.raft_log_memtable.proofs.Public.{append_step}
use Rattle.raft_log_record_base.specs.declared.errors.Error.{Error}
use Rattle.raft_log_memtables.specs.declared.group_table.GroupTable.{GroupTable}
use Rattle.raft_log_memtables.specs.declared.mem_tables.MemTables.{MemTables}
use Rattle.raft_log_memtables.specs.Tables.{counts, replayed_in, replayed_of, shown_in, shown_of}
use Rattle.raft_log_memtables.specs.Batch.{counts_after, counts_at_end}
use Rattle.raft_log_memtables.specs.Replaying.{all_replayed, ReadRefused, ReadsAll, ReadsOne, ReadsUpTo}
use Rattle.raft_log_memtables.proofs.Ready.{by_group, same_or_apart}

-- the entries of an item are its run
pub run_is : (es : List EntryIndex) → run_of es ≡ meaning place_of (contents.EntryIndexes es)
run_is [] = refl
run_is (e ∷ es) = refl

-- the table of what was read is what shows
pub table_is : (m : MemTables) (g : ℕ) → (replayed_of m g).table ≡ shown_of m g
table_is m g = of_table (get nat_cmp m.groups g)
  where
    of_table : (o : Option GroupTable) → (replayed_in o).table ≡ shown_in o
    of_table None = refl
    of_table (Some t) = refl

replayed_more : (q : Bool) (n : ℕ) (z : Replayed) (xs : List (Item Place (List ℕ))) (x : Item Place (List ℕ))
    → all_replayed q n z (xs ++ x ∷ []) ≡ replayed q n (all_replayed q n z xs) x
replayed_more q n z [] x = refl
replayed_more q n z (y ∷ ys) x = replayed_more q n (replayed q n z y) ys x

counts_more : (b : Bool) (xs : List (Item Place (List ℕ))) (x : Item Place (List ℕ)) → counts_at_end b (xs ++ x ∷ []) ≡ counts_after (counts_at_end b xs) x
counts_more b [] x = refl
counts_more b (y ∷ ys) x = counts_more (counts_after b y) ys x

follow_more : (n : ℕ) (z : Replayed) (xs : List (Item Place (List ℕ))) (x : Item Place (List ℕ)) → MayAllFollow (span z.table) xs → MayFollow (span (all_replayed true n z xs).table) x
    → MayAllFollow (span z.table) (xs ++ x ∷ [])
follow_more n z [] x h k = (k, tt)
follow_more n z (y ∷ ys) x h k =
    let step : span (replayed true n z y).table ≡ next_span (span z.table) y = ap span (sym (append_step n z.table y)) ∙ span_stepped n z.table y h.0.0 in
    (h.0, subst (λ w. MayAllFollow w (ys ++ x ∷ [])) step (follow_more n (replayed true n z y) ys x (subst (λ w. MayAllFollow w ys) (sym step) h.1) k))

nothing_more : (l : List (Item Place (List ℕ))) → l ++ [] ≡ l
nothing_more [] = refl
nothing_more (y ∷ l) = ap (λ k. y ∷ k) (nothing_more l)

-- the items of a group, with one more of it, or of another
pub of_group_here : (xs : List (Tagged Place (List ℕ))) (x : Tagged Place (List ℕ)) (g : ℕ) → (x.group == g) ≡ true → of_group g (xs ++ x ∷ []) ≡ of_group g xs ++ x.item ∷ []
of_group_here xs x g t = of_group_append g xs (x ∷ []) ∙ ap (λ (b : Bool). of_group g xs ++ (if b then x.item ∷ [] else [])) t

pub of_group_there : (xs : List (Tagged Place (List ℕ))) (x : Tagged Place (List ℕ)) (g : ℕ) → (x.group == g) ≡ false → of_group g (xs ++ x ∷ []) ≡ of_group g xs
of_group_there xs x g t = of_group_append g xs (x ∷ []) ∙ ap (λ (b : Bool). of_group g xs ++ (if b then x.item ∷ [] else [])) t ∙ nothing_more (of_group g xs)

module _ (q : Bool) (n : ℕ) (old m k : MemTables) (xs : List (Tagged Place (List ℕ))) (x : Tagged Place (List ℕ)) where
  -- some first items and one more
  pub reads_more : ReadsAll q n old m xs → ReadsOne q n m k x → ReadsAll q n old k (xs ++ x ∷ [])
  reads_more all one = record {
    fits = λ append g. by_group x.group g (same_or_apart x.group g) (λ t is. fits_here append g t is) (λ t. subst (λ l. MayAllFollow (span (shown_of old g)) l) (sym (of_group_there xs x g t)) (all.fits append g));
    read = λ g. by_group x.group g (same_or_apart x.group g)
        (λ t is. subst (λ (j : ℕ). replayed_of k j ≡ replayed q n (replayed_of m j) x.item) is one.read ∙ ap (λ z. replayed q n z x.item) (all.read g)
        ∙ sym (replayed_more q n (replayed_of old g) (of_group g xs) x.item) ∙ sym (ap (all_replayed q n (replayed_of old g)) (of_group_here xs x g t)))
        (λ t. (one.others g t).0 ∙ all.read g ∙ sym (ap (all_replayed q n (replayed_of old g)) (of_group_there xs x g t)));
    counting = λ g. by_group x.group g (same_or_apart x.group g)
        (λ t is. subst (λ (j : ℕ). counts k j ≡ counts_after (counts m j) x.item) is one.counting ∙ ap (λ b. counts_after b x.item) (all.counting g)
        ∙ sym (counts_more (counts old g) (of_group g xs) x.item) ∙ sym (ap (counts_at_end (counts old g)) (of_group_here xs x g t)))
        (λ t. (one.others g t).1 ∙ all.counting g ∙ sym (ap (counts_at_end (counts old g)) (of_group_there xs x g t)));
  }
    where
      fits_here : q ≡ true → (g : ℕ) → (x.group == g) ≡ true → x.group ≡ g → MayAllFollow (span (shown_of old g)) (of_group g (xs ++ x ∷ []))
      fits_here append g t is =
          let may : MayFollow (span (shown_of m g)) x.item = subst (λ (j : ℕ). MayFollow (span (shown_of m j)) x.item) is (one.fits append) in
          let after : shown_of m g ≡ (all_replayed true n (replayed_of old g) (of_group g xs)).table =
          sym (table_is m g) ∙ ap (λ z. z.table) (all.read g) ∙ ap (λ (b : Bool). (all_replayed b n (replayed_of old g) (of_group g xs)).table) append in
          subst (λ l. MayAllFollow (span (shown_of old g)) l) (sym (of_group_here xs x g t))
          (subst (λ v. MayAllFollow (span v) (of_group g xs ++ x.item ∷ [])) (table_is old g)
          (follow_more n (replayed_of old g) (of_group g xs) x.item
          (subst (λ v. MayAllFollow (span v) (of_group g xs)) (sym (table_is old g)) (all.fits append g)) (subst (λ v. MayFollow (span v) x.item) after may)))

-- no items were read
pub reads_none : (q : Bool) (n : ℕ) (m : MemTables) → ReadsAll q n m m []
reads_none q n m = record { fits = λ append g. tt; read = λ g. refl; counting = λ g. refl }

-- some first items were read, and these are left
pub record ReadsSome (q : Bool) (n : ℕ) (old new : MemTables) (all : List (Tagged Place (List ℕ))) (rest : List LogItem) : Type 0 where
  pub front : List (Tagged Place (List ℕ))
  pub items : all ≡ front ++ tagged_items place_of rest
  pub read : ReadsAll q n old new front

module _ (q : Bool) (n : ℕ) (old m : MemTables) (all : List (Tagged Place (List ℕ))) (x : LogItem) (xs : List LogItem) where
  pub pass_mark : ReadsSome q n old m all (x ∷ xs) → true ≡ has_mark_key x → ReadsSome q n old m all xs
  pass_mark r mark = record {
    front = r.front;
    items = r.items ∙ ap (λ (b : Bool). r.front ++ unless_mark b (tagged place_of x) (tagged_items place_of xs)) (sym mark);
    read = r.read;
  }

  first_item : (front : List (Tagged Place (List ℕ))) → false ≡ has_mark_key x → all ≡ front ++ tagged_items place_of (x ∷ xs) → all ≡ front ++ (tagged place_of x ∷ tagged_items place_of xs)
  first_item front plain is = is ∙ ap (λ (b : Bool). front ++ unless_mark b (tagged place_of x) (tagged_items place_of xs)) (sym plain)

  pub read_item : (k : MemTables) → ReadsSome q n old m all (x ∷ xs) → false ≡ has_mark_key x → ReadsOne q n m k (tagged place_of x) → ReadsSome q n old k all xs
  read_item k r plain one = record {
    front = r.front ++ tagged place_of x ∷ [];
    items = first_item r.front plain r.items ∙ sym (together r.front (tagged place_of x) (tagged_items place_of xs));
    read = reads_more q n old m k r.front (tagged place_of x) r.read one;
  }
    where
      together : (ys : List (Tagged Place (List ℕ))) (y : Tagged Place (List ℕ)) (zs : List (Tagged Place (List ℕ))) → (ys ++ y ∷ []) ++ zs ≡ ys ++ (y ∷ zs)
      together [] y zs = refl
      together (w ∷ ys) y zs = ap (λ l. w ∷ l) (together ys y zs)

  pub stop_at : (k : MemTables) (error : Error) → ReadsSome q n old m all (x ∷ xs) → false ≡ has_mark_key x
      → ((g : ℕ) → (replayed_of k g ≡ replayed_of m g) × (counts k g ≡ counts m g)) → ReadRefused q (span (shown_of m x.raft_group_id)) (meaning place_of x.content) error
      → ReadsUpTo q n old k all error
  stop_at k error r plain stays refused = record {
    front = r.front;
    stop = tagged place_of x;
    back = tagged_items place_of xs;
    items = first_item r.front plain r.items;
    read = record {
      fits = r.read.fits;
      read = λ g. (stays g).0 ∙ r.read.read g;
      counting = λ g. (stays g).1 ∙ r.read.counting g;
    };
    refused = subst (λ v. ReadRefused q (span v) (meaning place_of x.content) error)
        (sym (table_is m x.raft_group_id) ∙ ap (λ z. z.table) (sym (stays x.raft_group_id).0) ∙ table_is k x.raft_group_id) refused;
  }

pub none_left : (xs : List LogItem) → length xs ≡ 0 → xs ≡ []
none_left [] h = refl
none_left (x ∷ xs) h = absurd (omega (arith, h))

-- all are read once none is left
pub read_all : (q : Bool) (n : ℕ) (old m : MemTables) (all : List (Tagged Place (List ℕ))) → ReadsSome q n old m all [] → ReadsAll q n old m all
read_all q n old m all r = subst (ReadsAll q n old m) (sym (r.items ∙ none r.front)) r.read
  where
    none : (l : List (Tagged Place (List ℕ))) → l ++ [] ≡ l
    none [] = refl
    none (y ∷ l) = ap (λ k. y ∷ k) (none l)
