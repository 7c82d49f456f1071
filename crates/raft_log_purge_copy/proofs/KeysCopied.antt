-- A group's values, copied or not.
use Rattle.std.proofs.Common.{◌≡◌, ◌⊎◌, ℕ, zero, suc, ◌+◌, ◌<◌, ◌==◌, Bool, true, false, if◌then◌else◌, List, [], ◌∷◌, ◌++◌, length, map, take, get_or, Option, Some, None, option_map, inl, inr, refl, sym, ap, subst, ◌∙◌, arith, append-nil}
use Rattle.std.specs.BTreeMap.{get}
use Rattle.std.specs.Ordering.{nat_cmp}
use Rattle.std.specs.List.Sorted.{IsStrictlySortedBy}
use Rattle.std.proofs.lemmas.List.{take_more}
use Rattle.raft_log_model_laws.specs.Item.{Item}
use Rattle.raft_log_model_laws.specs.Groups.{of_group}
use Rattle.raft_log_model_laws.proofs.Public.{at_bool, eq_true}
use Rattle.raft_log_fs.specs.Causes.{IsLater}
use Rattle.raft_log_record_base.specs.declared.errors.Error.{Error}
use Rattle.raft_log_record_base.specs.declared.errors.Error.TheVariants as errors
use Rattle.raft_log_record_base.specs.declared.pipe_log.FileBlockHandle.{FileBlockHandle}
use Rattle.raft_log_record_items.specs.declared.item.LogItem.{LogItem}
use Rattle.raft_log_record_items.specs.Items.{put_item}
use Rattle.raft_log_record_items.specs.Placed.{written}
use Rattle.raft_log_record_frames.specs.Marking.{has_mark_key, mark_key}
use Rattle.raft_log_record_frames.specs.Meaning.{tagged_items}
use Rattle.raft_log_record_batches.specs.Batch.{Batch, Puts, block_place}
use Rattle.raft_log_record_batches.specs.Key.{IsMarkRefusal}
use Rattle.raft_log_extents.specs.declared.place.Place.{Place}
use Rattle.raft_log_extents.specs.Entries.{place_of}
use Rattle.raft_log_memtable_index.specs.Shown.{Shown}
use Rattle.raft_log_memtable_index.specs.Listing.{AddsAll, ListsAll, appended_values}
use Rattle.raft_log_engine_laws.specs.raft_log_memtable.specs.Table.{Raw, shown}
use Rattle.raft_log_memtables.specs.declared.group_table.GroupTable.{GroupTable}
use Rattle.raft_log_memtables.specs.declared.mem_tables.MemTables.{MemTables}
use Rattle.raft_log_memtables.specs.Rewriting.{AreCopies, all_rewritten}
use Rattle.raft_log_memtables.specs.Tables.{raw_of, shown_in, shown_of}
use Rattle.raft_log_engine_laws.specs.EngineState.{LogDirectories, LogMap, EngineState, has_failed}
use Rattle.raft_log_engine_laws.specs.Holding.{Represents}
use Rattle.raft_log_engine_laws.specs.Writing.{items_at}
use Rattle.raft_log_engine_laws.specs.Rewriting.{HasCopies}
use Rattle.raft_log_purge_copy.specs.Lengths.{AreOfGroup}
use Rattle.raft_log_purge_copy.specs.Reasons.{HasReason}
use Rattle.raft_log_purge_copy.specs.Refusals.{AreUnput, HasMark, IsOverlong}
use Rattle.raft_log_purge_copy.specs.Owed.{AreNoMarks}
use Rattle.raft_log_purge_copy.specs.Copies.{FailsToCopy, MovesCopies, WritesCopies}
use Rattle.raft_log_purge_copy.specs.Moving.{MovesKeys}
use Rattle.raft_log_purge_copy.specs.Rewriting.{OweNothing}
use Rattle.raft_log_purge_copy.specs.Keys.{CopiesKeys, FailsToCopyKeys, IsKeysBatch}
use Rattle.raft_log_purge_copy.proofs.Carried.{plain_items}
use Rattle.raft_log_purge_copy.proofs.KeyCopies.{AllCount, no_values, pairs_of_group, pairs_there, put_of_pair, tagged_pair, values_are_copies, values_moved}
use Rattle.raft_log_purge_copy.proofs.Nexts.{raw_shown}
use Rattle.raft_log_purge_copy.proofs.PartExits.{same_later, unmade_is_none}
use Rattle.raft_log_purge_copy.proofs.Reading.{remains_or}
use Rattle.raft_log_purge_copy.proofs.Reasons.{keys_reason, keys_unmade, long_reason, memory_is_none, memory_reason, tells_nothing, values_in}

-- Which keys come next.

pub keys_found : (m : MemTables) (g gate : ℕ) (t : Raw) (old new : List (List ℕ × List ℕ)) → Some t ≡ raw_of m g → old ≡ [] → AddsAll (appended_values gate (shown t)) old new → ListsAll (appended_values gate (shown_of m g)) new
keys_found m g gate t old new is none (es, lists, adds) =
    let same : new ≡ es = adds ∙ ap (λ (l : List (List ℕ × List ℕ)). l ++ es) none in
    subst (λ (v : Shown). ListsAll (appended_values gate v) new) (sym (raw_shown m g t is)) (subst (ListsAll (appended_values gate (shown t))) (sym same) lists)

-- a group without a table has none
nothing_listed : (gate : ℕ) → ListsAll (appended_values gate (shown_in None)) []
unfolding IsStrictlySortedBy
nothing_listed gate = record { rising = tt; exact = λ k. refl }

pub keys_none : (m : MemTables) (g gate : ℕ) (es : List (List ℕ × List ℕ)) → None ≡ raw_of m g → es ≡ [] → ListsAll (appended_values gate (shown_of m g)) es
keys_none m g gate es none is = by (get nat_cmp m.groups g) none
  where
    by : (o : Option GroupTable) → None ≡ option_map (λ x. x.table) o → ListsAll (appended_values gate (shown_in o)) es
    by None same = subst (ListsAll (appended_values gate (shown_in None))) (sym is) (nothing_listed gate)
    by (Some t) same = absurd (let never : ⊥ = cc in never)

-- A batch of them.

plain_push : (xs : List LogItem) (x : LogItem) → AreNoMarks xs → has_mark_key x ≡ false → AreNoMarks (xs ++ x ∷ [])
plain_push [] x all none = (none, tt)
plain_push (y ∷ ys) x all none = (all.0, plain_push ys x all.1 none)

map_push : {A B : Type 0} (f : A → B) (xs : List A) (x : A) → map f (xs ++ x ∷ []) ≡ map f xs ++ f x ∷ []
map_push f [] x = refl
map_push f (y ∷ ys) x = ap (λ l. f y ∷ l) (map_push f ys x)

-- one key more
pub key_more : (g : ℕ) (pairs : List (List ℕ × List ℕ)) (i : ℕ) (d x : List ℕ × List ℕ) (old new : Batch) → i < length pairs → x ≡ get_or pairs i d → IsKeysBatch g (take i pairs) old
    → has_mark_key (put_item g x.0 x.1) ≡ false → Puts old new g x.0 x.1 → IsKeysBatch g (take (i + 1) pairs) new
key_more g pairs i d x old new lt is so_far none adds =
    let items : new.items ≡ old.items ++ put_item g x.0 x.1 ∷ [] = ap (λ (b : Batch). b.items) adds.0 in record {
      state = ap (λ (b : Batch). b.state) adds.0 ∙ so_far.state;
      none = ap (λ (b : Batch). b.entries) adds.0 ∙ so_far.none;
      items =
          items
          ∙ ap (λ (l : List LogItem). l ++ put_item g x.0 x.1 ∷ []) so_far.items
          ∙ sym (map_push (λ (e : List ℕ × List ℕ). put_item g e.0 e.1) (take i pairs) x)
          ∙ ap (map (λ (e : List ℕ × List ℕ). put_item g e.0 e.1)) (sym (take_more pairs i d lt ∙ ap (λ (y : List ℕ × List ℕ). take i pairs ++ y ∷ []) (sym is)));
      plain = subst AreNoMarks (sym items) (plain_push old.items (put_item g x.0 x.1) so_far.plain none);
    }

-- What was copied.

all_count : (xs : List LogItem) → AreNoMarks xs → AllCount xs
all_count [] all = tt
all_count (x ∷ xs) all = (all.0, all_count xs all.1)

module _ (g gate : ℕ) (pairs : List (List ℕ × List ℕ)) (b : Batch) (is : IsKeysBatch g pairs b) where
  items_there : (block : FileBlockHandle) → items_at block b ≡ map (tagged_pair g) pairs
  items_there block =
      ap (λ (l : List LogItem). tagged_items place_of (written (block_place block b.entries) l)) is.items
      ∙ pairs_there g (block_place block b.entries) pairs (all_count (map (λ e. put_item g e.0 e.1) pairs) (subst AreNoMarks is.items is.plain))

  there_of : (block : FileBlockHandle) (h : ℕ) (t : Bool) → (g == h) ≡ t → of_group h (items_at block b) ≡ (if t then map put_of_pair pairs else [])
  there_of block h t same = ap (of_group h) (items_there block) ∙ pairs_of_group g h pairs t same

  has_copies : (v : ℕ → Shown) (m : LogMap) → ListsAll (appended_values gate (v g)) pairs → OweNothing v → HasCopies (Some gate) b v m
  has_copies v m lists owes block at meant says h =
      at_bool (g == h) (λ t. (g == h) ≡ t → AreCopies at (Some gate) block.id.seq (v h) (of_group h (items_at block b)))
      (λ _ same.
      let here : g ≡ h = grind (arith, same) in
      subst (AreCopies at (Some gate) block.id.seq (v h)) (sym (there_of block h true same))
      (subst (λ (k : ℕ). AreCopies at (Some gate) block.id.seq (v k) (map put_of_pair pairs)) here
      (values_are_copies at gate block.id.seq (v g) pairs (owes g).0 (owes g).2 lists)))
      (λ _ apart. subst (AreCopies at (Some gate) block.id.seq (v h)) (sym (there_of block h false apart)) tt) refl

  module _ (s t : EngineState) (lists : ListsAll (appended_values gate (s.tables g)) pairs) where
    moves_keys : MovesCopies (Some gate) b s t → MovesKeys g gate s.tables t.tables
    moves_keys moved = record {
      others = λ h apart. shows_then moved h [] (there_of moved.block h false apart);
      file = moved.block.id.seq;
      moved = shows_then moved g (map put_of_pair pairs) (there_of moved.block g true (eq_true g g refl)) ∙ values_moved gate moved.block.id.seq (s.tables g) pairs lists;
    }
      where
        shows_then : (moved : MovesCopies (Some gate) b s t) (h : ℕ) (xs : List (Item Place (List ℕ))) → of_group h (items_at moved.block b) ≡ xs
            → t.tables h ≡ all_rewritten (Some gate) moved.block.id.seq (s.tables h) xs
        shows_then moved h xs here = ap (λ (f : ℕ → Shown). f h) moved.tables ∙ ap (all_rewritten (Some gate) moved.block.id.seq (s.tables h)) here

    no_pairs : b.items ≡ [] → pairs ≡ []
    no_pairs none = by pairs (sym is.items ∙ none)
      where
        by : (es : List (List ℕ × List ℕ)) → map (λ e. put_item g e.0 e.1) es ≡ [] → es ≡ []
        by [] h = refl
        by (e ∷ es) h = absurd (let never : ⊥ = cc h in never)

    none_moves : b.items ≡ [] → t ≡ s → MovesKeys g gate s.tables t.tables
    none_moves none same = subst (λ (e : EngineState). MovesKeys g gate s.tables e.tables) (sym same) (record {
      others = λ h apart. refl;
      file = 0;
      moved = sym (no_values gate 0 (s.tables g) (subst (ListsAll (appended_values gate (s.tables g))) (no_pairs none) lists));
    })

    pub keys_copied : WritesCopies (Some gate) b s t → CopiesKeys g gate s t
    keys_copied (inl (none, same)) = record {
      pairs = pairs;
      all = lists;
      batch = b;
      is = is;
      wrote = inl (none, same);
      moves = none_moves none same;
      counts = ap (λ (e : EngineState). e.counts) same;
      alive = λ lived. ap (λ (e : EngineState). has_failed e) same ∙ lived;
      later = subst (λ (e : EngineState). IsLater s.pipes.disk e.pipes.disk) (sym same) (same_later s.pipes.disk);
      holds = λ owes home m h. subst (λ (e : EngineState). Represents home e m []) (sym same) h;
    }
    keys_copied (inr (some, moved)) = record {
      pairs = pairs;
      all = lists;
      batch = b;
      is = is;
      wrote = inr (some, moved);
      moves = moves_keys moved;
      counts = moved.counts;
      alive = λ lived. moved.alive;
      later = moved.later;
      holds = λ owes home m h. moved.holds (plain_items b.items is.plain) home m h (has_copies s.tables m lists owes);
    }

    -- what the record says
    keys_made : AreOfGroup g 0 [] pairs [] b.items b.entries
    keys_made = record { indexes = []; rise = tt; are = is.items ∙ sym (append-nil (map (λ (e : List ℕ × List ℕ). put_item g e.0 e.1) pairs)); joins = is.none }

    keys_cause : (error : Error) (home : LogDirectories) (m : LogMap) → Represents home s m [] → IsOverlong b error ⊎ HasReason home m error s t → HasReason home m error s t
    keys_cause error home m h (inl long) = long_reason home m error s t g 0 [] pairs [] b (inl refl) keys_made (inl (omega arith)) tt (values_in home m s h g (Some gate) pairs lists) lists.rising long
    keys_cause error home m h (inr reason) = reason

    pub keys_not_copied : (error : Error) → FailsToCopy (Some gate) b error s t → FailsToCopyKeys error s t
    keys_not_copied error fails = record {
      same = fails.same;
      tells = fails.tells;
      later = fails.later;
      remains = λ owes home m h. remains_or home m t error (fails.remains (plain_items b.items is.plain) home m h (has_copies s.tables m lists owes));
      cause = λ home m h. keys_cause error home m h (fails.cause (plain_items b.items is.plain) home m h);
    }

-- nothing was written

pub no_memory_for_keys : (error : Error) (s : EngineState) → error ≡ errors.Memory → FailsToCopyKeys error s s
no_memory_for_keys error s memory = record {
  same = refl;
  tells = λ lived. tells_nothing error s.pipes lived (memory_is_none error memory);
  later = same_later s.pipes.disk;
  remains = λ owes home m h. inl h;
  cause = λ home m h. memory_reason home m error s s memory;
}

pub keys_not_written : (g gate : ℕ) (pairs : List (List ℕ × List ℕ)) (error : Error) (s : EngineState) → ListsAll (appended_values gate (s.tables g)) pairs → AreUnput g pairs error → FailsToCopyKeys error s s
keys_not_written g gate pairs error s lists why = record {
  same = refl;
  tells = λ lived. tells_nothing error s.pipes lived (unmade_is_none error (keys_unmade error g pairs why));
  later = same_later s.pipes.disk;
  remains = λ owes home m h. inl h;
  cause = λ home m h. keys_reason home m error s s g pairs (values_in home m s h g (Some gate) pairs lists) why;
}

-- Keys one after another.

mark_at : (g : ℕ) (pairs : List (List ℕ × List ℕ)) (i : ℕ) (d : List ℕ × List ℕ) → i < length pairs → g ≡ 0 → (get_or pairs i d).0 ≡ mark_key → HasMark g pairs
mark_at g [] i d lt here key = absurd (omega (arith, lt))
mark_at g (e ∷ es) zero d lt here key = inl (here, key)
mark_at g (e ∷ es) (suc i) d lt here key = inr (mark_at g es i d (omega (arith, lt)) here key)

-- one of them isn't put
pub key_unput : (g : ℕ) (pairs : List (List ℕ × List ℕ)) (i : ℕ) (d x : List ℕ × List ℕ) (key : List ℕ) (error : Error) → i < length pairs → x ≡ get_or pairs i d → key ≡ x.0 → IsMarkRefusal error g key → AreUnput g pairs error
key_unput g pairs i d x key errors.Memory lt is same why = tt
key_unput g pairs i d x key (errors.InvalidArgument text) lt is same why =
    mark_at g pairs i d lt why.0 (sym (ap (λ (e : List ℕ × List ℕ). e.0) is) ∙ sym same ∙ why.1)
key_unput g pairs i d x key _ lt is same why = absurd why
