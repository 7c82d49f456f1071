-- Batches that say again what stands of a group in Rewrite.
use Rattle.std.proofs.Common.{◌≡◌, ℕ, ◌+◌, ◌<◌, ◌≤◌, false, List, [], ◌∷◌, ◌++◌, length, map, take, get_or, Option, Some, None, option_map, refl, sym, ap, subst, ◌∙◌, append-nil, append_assoc}
use Rattle.std.specs.BTreeMap.{get}
use Rattle.std.specs.Ordering.{nat_cmp}
use Rattle.std.specs.List.Sorted.{IsStrictlySortedBy}
use Rattle.std.proofs.lemmas.List.{take_all, take_more}
use Rattle.raft_log_record_items.specs.declared.item.LogItem.{LogItem}
use Rattle.raft_log_record_items.specs.Items.{put_item}
use Rattle.raft_log_record_frames.specs.Marking.{has_mark_key}
use Rattle.raft_log_record_batches.specs.declared.log_batch.BatchState.TheVariants.{Filling}
use Rattle.raft_log_record_batches.specs.Batch.{Batch, Puts}
use Rattle.raft_log_memtable_index.specs.Listing.{AddsAll, ListsAll, rewritten_values}
use Rattle.raft_log_memtable_index.specs.Shown.{Shown}
use Rattle.raft_log_engine_laws.specs.raft_log_memtable.specs.Table.{Raw, shown}
use Rattle.raft_log_memtables.specs.declared.group_table.GroupTable.{GroupTable}
use Rattle.raft_log_memtables.specs.declared.mem_tables.MemTables.{MemTables}
use Rattle.raft_log_memtables.specs.Tables.{raw_of, shown_in, shown_of}
use Rattle.raft_log_purge_copy.specs.Owed.{AreNoMarks}
use Rattle.raft_log_purge_copy.proofs.Nexts.{raw_shown}
use Rattle.raft_log_purge_copy.specs.Pieces.{AddsKeys}

-- Keys.

abbrev put_of : ℕ → List ℕ × List ℕ → LogItem
put_of g e = put_item g e.0 e.1

pub no_keys : (g : ℕ) (b : Batch) → b.state ≡ Filling → AddsKeys g [] b b
no_keys g b state = record { state = state; items = sym (append-nil b.items); entries = refl; plain = tt }

plain_push : (xs : List LogItem) (x : LogItem) → AreNoMarks xs → has_mark_key x ≡ false → AreNoMarks (xs ++ x ∷ [])
plain_push [] x all none = (none, tt)
plain_push (y ∷ ys) x all none = (all.0, plain_push ys x all.1 none)

map_push : {A B : Type 0} (f : A → B) (xs : List A) (x : A) → map f (xs ++ x ∷ []) ≡ map f xs ++ f x ∷ []
map_push f [] x = refl
map_push f (y ∷ ys) x = ap (λ l. f y ∷ l) (map_push f ys x)

-- one key more
pub key_more : (g : ℕ) (pairs : List (List ℕ × List ℕ)) (i : ℕ) (d x : List ℕ × List ℕ) (first old new : Batch) → i < length pairs → x ≡ get_or pairs i d → AddsKeys g (take i pairs) first old
    → has_mark_key (put_of g x) ≡ false → Puts old new g x.0 x.1 → AddsKeys g (take (i + 1) pairs) first new
key_more g pairs i d x first old new lt is so_far none adds =
    let more : map (put_of g) (take (i + 1) pairs) ≡ map (put_of g) (take i pairs) ++ put_of g x ∷ [] =
    ap (map (put_of g)) (take_more pairs i d lt ∙ ap (λ (y : List ℕ × List ℕ). take i pairs ++ y ∷ []) (sym is)) ∙ map_push (put_of g) (take i pairs) x in record {
      state = ap (λ (b : Batch). b.state) adds.0 ∙ so_far.state;
      items =
          ap (λ (b : Batch). b.items) adds.0
          ∙ ap (λ (l : List LogItem). l ++ put_of g x ∷ []) so_far.items
          ∙ append_assoc first.items (map (put_of g) (take i pairs)) (put_of g x ∷ [])
          ∙ ap (λ (l : List LogItem). first.items ++ l) (sym more);
      entries = ap (λ (b : Batch). b.entries) adds.0 ∙ so_far.entries;
      plain = subst AreNoMarks (sym more) (plain_push (map (put_of g) (take i pairs)) (put_of g x) so_far.plain none);
    }

pub all_keys : (g : ℕ) (pairs : List (List ℕ × List ℕ)) (i : ℕ) (old new : Batch) → length pairs ≤ i → AddsKeys g (take i pairs) old new → AddsKeys g pairs old new
all_keys g pairs i old new all adds = subst (λ (l : List (List ℕ × List ℕ)). AddsKeys g l old new) (take_all i pairs all) adds

-- Which keys stand in Rewrite.

pub keys_found : (m : MemTables) (g : ℕ) (t : Raw) (old new : List (List ℕ × List ℕ)) → Some t ≡ raw_of m g → old ≡ [] → AddsAll (rewritten_values (shown t)) old new → ListsAll (rewritten_values (shown_of m g)) new
keys_found m g t old new is none (es, lists, adds) =
    let same : new ≡ es = adds ∙ ap (λ (l : List (List ℕ × List ℕ)). l ++ es) none in
    subst (λ (v : Shown). ListsAll (rewritten_values v) new) (sym (raw_shown m g t is)) (subst (ListsAll (rewritten_values (shown t))) (sym same) lists)

-- a group without a table has none
nothing_listed : ListsAll (rewritten_values (shown_in None)) []
unfolding IsStrictlySortedBy
nothing_listed = record { rising = tt; exact = λ k. refl }

pub keys_none : (m : MemTables) (g : ℕ) (es : List (List ℕ × List ℕ)) → None ≡ raw_of m g → es ≡ [] → ListsAll (rewritten_values (shown_of m g)) es
keys_none m g es none is = by (get nat_cmp m.groups g) none
  where
    by : (o : Option GroupTable) → None ≡ option_map (λ x. x.table) o → ListsAll (rewritten_values (shown_in o)) es
    by None same = subst (ListsAll (rewritten_values (shown_in None))) (sym is) nothing_listed
    by (Some t) same = absurd (let never : ⊥ = cc in never)
