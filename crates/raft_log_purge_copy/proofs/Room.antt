-- Room for what parts have to move, and their move into the tables.
use Rattle.std.proofs.Common.{◌≡◌, ℕ, ◌+◌, ◌-◌, ◌<◌, ◌≤◌, zero, suc, List, [], ◌∷◌, ◌++◌, None, length, take, drop, get_or, refl, sym, ap, subst, ◌∙◌, arith, append-nil, append_assoc}
use Rattle.std.specs.Prelude.{Result, Ok, Err, OnOk}
use Rattle.std.proofs.lemmas.List.{take_all, take_more}
use Rattle.raft_log_model_laws.specs.Item.{Tagged}
use Rattle.raft_log_model_laws.specs.Groups.{of_group}
use Rattle.raft_log_model_laws.proofs.Public.{of_group_append, of_group_renamed}
use Rattle.raft_log_record_base.specs.declared.pipe_log.FileBlockHandle.{FileBlockHandle}
use Rattle.raft_log_record_items.specs.declared.entry.EntryIndex.{EntryIndex}
use Rattle.raft_log_record_items.specs.declared.item.LogItem.{LogItem}
use Rattle.raft_log_record_items.specs.Placed.{written, written_entry}
use Rattle.raft_log_record_frames.specs.Meaning.{tagged_items}
use Rattle.raft_log_record_batches.specs.Batch.{Batch, block_place}
use Rattle.raft_log_extents.specs.Entries.{place_of}
use Rattle.raft_log_engine_laws.specs.raft_log_memtable.specs.Room.{needs}
use Rattle.raft_log_engine_laws.specs.raft_log_memtable.proofs.Public.{needs-append, needs_renamed}
use Rattle.raft_log_memtables.specs.declared.mem_tables.MemTables.{MemTables}
use Rattle.raft_log_memtables.specs.Rewriting.{GroupsStay, MayMove, PromisesMoves, TakesRewritten, entries_of}
use Rattle.raft_log_memtables.specs.Tables.{ShowsSame, promise_of}
use Rattle.raft_log_memtables.proofs.Public.{items_renamed, more_may_move, written_items}
use Rattle.raft_log_dual_pipes.specs.Pipes.{LogPipes}
use Rattle.raft_log_engine_laws.specs.Parts.{WrittenPart}
use Rattle.raft_log_engine_laws.specs.Taking.{MovedParts}
use Rattle.raft_log_engine_laws.specs.Whole.{parts_moved}
use Rattle.raft_log_engine_laws.proofs.Public.{one_part_moves}
use Rattle.raft_log_purge_copy.specs.declared.parts.RestatedPart.{RestatedPart}
use Rattle.raft_log_purge_copy.specs.GroupParts.{ArePartsKept, items_of_all}
use Rattle.raft_log_purge_copy.specs.Records.{WritesToRewrite}
use Rattle.raft_log_purge_copy.specs.Taking.{HaveRoom, TakesPartsAndItems, WritesLast}
use Rattle.raft_log_purge_copy.proofs.Saying.{tagged_append}

-- The items of parts.

-- the items as a batch says them
abbrev pub said : List LogItem → List (Tagged EntryIndex (List ℕ))
said xs = tagged_items (λ e. e) xs

pub all_more : (xs : List RestatedPart) (x : RestatedPart) → items_of_all (xs ++ x ∷ []) ≡ items_of_all xs ++ x.items.items
all_more [] x = append-nil x.items.items
all_more (y ∷ ys) x = ap (λ l. y.items.items ++ l) (all_more ys x) ∙ sym (append_assoc y.items.items (items_of_all ys) x.items.items)

-- the first parts and one more
pub parts_more : (parts : List RestatedPart) (i : ℕ) (d x : RestatedPart) → i < length parts → x ≡ get_or parts i d → take (i + 1) parts ≡ take i parts ++ x ∷ []
parts_more parts i d x lt is = take_more parts i d lt ∙ ap (λ (y : RestatedPart). take i parts ++ y ∷ []) (sym is)

-- the part behind those, and the others
pub parts_left : (parts : List RestatedPart) (i : ℕ) (d x : RestatedPart) → i < length parts → x ≡ get_or parts i d → drop i parts ≡ x ∷ drop (i + 1) parts
parts_left [] i d x lt is = absurd (omega (arith, lt))
parts_left (y ∷ ys) zero d x lt is = ap (λ (p : RestatedPart). p ∷ ys) (sym is)
parts_left (y ∷ ys) (suc i) d x lt is =
    parts_left ys i d x (omega (arith, lt)) is ∙ ap (λ (n : ℕ). x ∷ drop n (y ∷ ys)) (let same : suc (i + 1) ≡ suc i + 1 = omega arith in same)

-- Room.

pub same_twice : (l m n : MemTables) → ShowsSame l m → ShowsSame m n → ShowsSame l n
same_twice l m n a b = record { shown = λ g. b.shown g ∙ a.shown g; counts = λ g. b.counts g ∙ a.counts g }

pub no_room_yet : (m : MemTables) → MayMove m (said [])
no_room_yet m g h = omega arith

pub room_more : (m n : MemTables) (parts : List RestatedPart) (i : ℕ) (d x : RestatedPart) (items : List LogItem) → i < length parts → x ≡ get_or parts i d → items ≡ x.items.items
    → MayMove m (said (items_of_all (take i parts))) → PromisesMoves m n (said items) → MayMove n (said (items_of_all (take (i + 1) parts)))
room_more m n parts i d x items lt is are may promises =
    subst (λ (l : List LogItem). MayMove n (said l)) (sym (ap items_of_all (parts_more parts i d x lt is) ∙ all_more (take i parts) x))
    (subst (λ (l : List (Tagged EntryIndex (List ℕ))). MayMove n l) (sym (tagged_append (λ e. e) (items_of_all (take i parts)) x.items.items))
    (more_may_move m n (said (items_of_all (take i parts))) (said x.items.items) may (subst (λ (l : List LogItem). PromisesMoves m n (said l)) are promises)))

room_for_all : (m n : MemTables) (parts : List RestatedPart) (i : ℕ) (items : List LogItem) → length parts ≤ i → MayMove m (said (items_of_all (take i parts))) → PromisesMoves m n (said items)
    → HaveRoom n parts items
room_for_all m n parts i items all may promises =
    subst (λ (l : List RestatedPart). HaveRoom n l items) (take_all i parts all)
    (subst (λ (l : List (Tagged EntryIndex (List ℕ))). MayMove n l) (sym (tagged_append (λ e. e) (items_of_all (take i parts)) items))
    (more_may_move m n (said (items_of_all (take i parts))) (said items) may promises))

pub room_then : {A F : Type 0} (m n : MemTables) (parts : List RestatedPart) (i : ℕ) (items : List LogItem) (r : Result A F) → length parts ≤ i → MayMove m (said (items_of_all (take i parts)))
    → OnOk r (PromisesMoves m n (said items)) → OnOk r (HaveRoom n parts items)
room_then m n parts i items (Ok x) all may promises = room_for_all m n parts i items all may promises
room_then m n parts i items (Err x) all may promises = tt

-- how many entries of a group there are doesn't depend on what stands for one
pub counted : {F : Type 0} (entry : EntryIndex → F) (g : ℕ) (xs : List LogItem) → entries_of g (tagged_items entry xs) ≡ entries_of g (said xs)
counted entry g xs = ap (entries_of g) (sym (items_renamed entry xs)) ∙ ap needs (of_group_renamed entry g (said xs)) ∙ needs_renamed entry (of_group g (said xs))

pub both_counted : (g : ℕ) (xs ys : List LogItem) → entries_of g (said (xs ++ ys)) ≡ entries_of g (said xs) + entries_of g (said ys)
both_counted g xs ys = ap (entries_of g) (tagged_append (λ e. e) xs ys) ∙ ap needs (of_group_append g (said xs) (said ys)) ∙ needs-append (of_group g (said xs)) (of_group g (said ys))

module _ (m : MemTables) (parts : List RestatedPart) (items : List LogItem) (room : HaveRoom m parts items) where
  -- nor on where the items are written
  pub room_written : (handle : FileBlockHandle) → HaveRoom m parts (written handle items)
  room_written handle g h =
      let all = room g h in
      let before = both_counted g (items_of_all parts) items in
      let behind = both_counted g (items_of_all parts) (written handle items) in
      let same = ap (entries_of g) (written_items handle items) ∙ counted (written_entry handle) g items in omega (arith, all, before, behind, same)

  module _ (x : RestatedPart) (rest : List RestatedPart) (is : parts ≡ x ∷ rest) where
    here : HaveRoom m (x ∷ rest) items
    here = subst (λ (l : List RestatedPart). HaveRoom m l items) is room

    pub room_first : MayMove m (said x.items.items)
    room_first g h =
        let all = here g h in
        let outer = both_counted g (x.items.items ++ items_of_all rest) items in
        let inner = both_counted g x.items.items (items_of_all rest) in omega (arith, all, outer, inner)

    pub room_rest : (k : MemTables) (n : ℕ) → TakesRewritten None n m k (tagged_items place_of x.items.items) → HaveRoom k rest items
    room_rest k n done g h =
        let all = here g (sym (done.stay.tables g) ∙ h) in
        let outer = both_counted g (x.items.items ++ items_of_all rest) items in
        let inner = both_counted g x.items.items (items_of_all rest) in
        let left = both_counted g (items_of_all rest) items in
        let same = counted place_of g x.items.items in
        let now : (promise_of k g).moves ≡ (promise_of m g).moves - entries_of g (tagged_items place_of x.items.items) = ap (λ q. q.moves) (done.promise g) in
        omega (arith, all, outer, inner, left, same, now)

-- Moves.

pub stay_same : (m : MemTables) → GroupsStay m m
stay_same m = record { tables = λ g. refl; counts = λ g. refl }

pub stay_twice : (l m n : MemTables) → GroupsStay l m → GroupsStay m n → GroupsStay l n
stay_twice l m n a b = record { tables = λ g. b.tables g ∙ a.tables g; counts = λ g. b.counts g ∙ a.counts g }

pub stay_then : {A F : Type 0} (l m n : MemTables) (items : List LogItem) (r : Result A F) → GroupsStay l m → OnOk r (PromisesMoves m n (said items)) → OnOk r (GroupsStay l n)
stay_then l m n items (Ok x) stay promises = stay_twice l m n stay promises.stay
stay_then l m n items (Err x) stay promises = tt

-- the tables took the parts
abbrev pub TakesParts : List RestatedPart → MemTables → MemTables → Type 0
TakesParts parts old new = (ps : List WrittenPart) → ArePartsKept parts ps → MovedParts None ps old new

-- the last of kept parts
record LastKept (xs : List RestatedPart) (x : RestatedPart) (ps : List WrittenPart) : Type 0 where
  front : List WrittenPart
  last : WrittenPart
  is : ps ≡ front ++ last ∷ []
  kept : ArePartsKept xs front
  block : x.block ≡ last.block
  items : x.items.items ≡ written (block_place last.block last.batch.entries) last.batch.items

last_kept : (xs : List RestatedPart) (x : RestatedPart) (ps : List WrittenPart) → ArePartsKept (xs ++ x ∷ []) ps → LastKept xs x ps
last_kept [] x [] kept = absurd kept
last_kept [] x (p ∷ []) (block, items, none) = record { front = []; last = p; is = refl; kept = tt; block = block; items = items }
last_kept [] x (p ∷ q ∷ ps) (block, items, more) = absurd more
last_kept (y ∷ ys) x [] kept = absurd kept
last_kept (y ∷ ys) x (p ∷ ps) (block, items, rest) =
    let k = last_kept ys x ps rest in
    record { front = p ∷ k.front; last = k.last; is = ap (λ (l : List WrittenPart). p ∷ l) k.is; kept = (block, items, k.kept); block = k.block; items = k.items }

module _ (old m k : MemTables) where
  one_taken : (xs : List RestatedPart) (x : RestatedPart) → TakesParts xs old m → TakesRewritten None x.block.id.seq m k (tagged_items place_of x.items.items) → TakesParts (xs ++ x ∷ []) old k
  one_taken xs x took done ps kept =
      let s = last_kept xs x ps kept in
      subst (λ (l : List WrittenPart). MovedParts None l old k) (sym s.is)
      (one_part_moves None s.front s.last.block s.last.batch old m k (took s.front s.kept)
      (subst (λ (l : List LogItem). TakesRewritten None s.last.block.id.seq m k (tagged_items place_of l)) s.items
      (subst (λ (b : FileBlockHandle). TakesRewritten None b.id.seq m k (tagged_items place_of x.items.items)) s.block done)))

  pub part_taken : (parts : List RestatedPart) (i : ℕ) (d x : RestatedPart) → i < length parts → x ≡ get_or parts i d → TakesParts (take i parts) old m
      → TakesRewritten None x.block.id.seq m k (tagged_items place_of x.items.items) → TakesParts (take (i + 1) parts) old k
  part_taken parts i d x lt is took done = subst (λ (l : List RestatedPart). TakesParts l old k) (sym (parts_more parts i d x lt is)) (one_taken (take i parts) x took done)

  pub items_taken : (parts : List RestatedPart) (i : ℕ) (items : List LogItem) (block : FileBlockHandle) → length parts ≤ i → TakesParts (take i parts) old m → GroupsStay old m
      → TakesRewritten None block.id.seq m k (tagged_items place_of items) → TakesPartsAndItems parts items block old k
  items_taken parts i items block all took stay done = record {
    took = λ ps b kept there.
        one_part_moves None ps block b old m k (took ps (subst (λ (l : List RestatedPart). ArePartsKept l ps) (sym (take_all i parts all)) kept))
        (subst (λ (l : List LogItem). TakesRewritten None block.id.seq m k (tagged_items place_of l)) there done);
    stay = stay_twice old m k stay done.stay;
  }

-- behind the room that was made
pub last_written : (parts : List RestatedPart) (b : Batch) (block : FileBlockHandle) (items : List LogItem) (v w : LogPipes) (old mid new : MemTables) → WritesToRewrite b block (written (block_place block b.entries) b.items) v w
    → ShowsSame old mid → GroupsStay old mid → items ≡ written (block_place block b.entries) b.items → TakesPartsAndItems parts items block mid new → WritesLast parts b block v old w new
last_written parts b block items v w old mid new wrote same stay there took = record {
  wrote = wrote;
  took = λ ps kept g. took.took ps b kept there g ∙ ap (parts_moved None g (ps ++ record { block = block; batch = b } ∷ [])) (same.shown g);
  stay = stay_twice old mid new stay took.stay;
}
