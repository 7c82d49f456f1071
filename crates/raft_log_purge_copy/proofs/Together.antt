-- Room that was promised for the parts of a group, and for what is behind them, is used or taken back.
use Rattle.std.proofs.Common.{◌≡◌, ◌+◌, ◌-◌, ◌<◌, ◌≤◌, ◌==◌, ℕ, zero, suc, [], ◌∷◌, ◌++◌, length, take, get_or, Bool, true, false, List, Option, inl, inr, refl, sym, ap, ap₂, subst, ◌∙◌, arith}
use Rattle.std.specs.Prelude.{Err, Ok, OnErr, OnOk, Result}
use Rattle.std.proofs.lemmas.Bool.{false≢true}
use Rattle.std.proofs.lemmas.List.{take_all}
use Rattle.raft_log_model_laws.proofs.Public.{at_bool, from_eq_true}
use Rattle.raft_log_record_base.specs.declared.pipe_log.FileBlockHandle.{FileBlockHandle}
use Rattle.raft_log_record_items.specs.declared.item.LogItem.{LogItem}
use Rattle.raft_log_record_items.specs.Placed.{written, written_entry}
use Rattle.raft_log_record_frames.specs.Meaning.{tagged_items}
use Rattle.raft_log_record_batches.specs.Batch.{Batch, block_place}
use Rattle.raft_log_record_batches.specs.Places.{entry_bytes}
use Rattle.raft_log_extents.specs.Entries.{place_of}
use Rattle.raft_log_engine_laws.specs.Parts.{WrittenPart}
use Rattle.raft_log_engine_laws.specs.raft_log_memtable.specs.Room.{Promise, needs}
use Rattle.raft_log_memtables.specs.declared.mem_tables.MemTables.{MemTables}
use Rattle.raft_log_memtables.specs.Batch.{IsTakenBack, mentions}
use Rattle.raft_log_memtables.specs.Rewriting.{PromisesMoves, TakesRewritten, entries_of, moving}
use Rattle.raft_log_memtables.specs.Tables.{has_table, promise_of}
use Rattle.raft_log_memtables.proofs.Public.{none_said, written_items}
use Rattle.raft_log_purge_copy.specs.declared.parts.RestatedPart.{RestatedPart}
use Rattle.raft_log_purge_copy.specs.GroupParts.{ArePartsKept, SayPieces, items_of_all}
use Rattle.raft_log_purge_copy.specs.Pieces.{IsPiece, put_items, run_items}
use Rattle.raft_log_purge_copy.specs.Promised.{AllMention, AreOfOne, IsInAllOrNone, PromisesNoMoves}
use Rattle.raft_log_purge_copy.proofs.Promised.{entries_for, moves_of_none, moves_promised}
use Rattle.raft_log_purge_copy.proofs.Room.{all_more, both_counted, counted, parts_more, said, stay_twice}
use Rattle.raft_log_purge_copy.proofs.Saying.{all_of_group, none_of_group}

-- What is promised.

moving_twice : (b : Bool) (q : Promise) (i j : ℕ) → moving b (moving b q i) j ≡ moving b q (i + j)
moving_twice true q i j = ap (λ (n : ℕ). record q { moves = n }) (let same : (q.moves + i) + j ≡ q.moves + (i + j) = omega arith in same)
moving_twice false q i j = refl

promises_both : (l m n : MemTables) (xs ys : List LogItem) → PromisesMoves l m (said xs) → PromisesMoves m n (said ys) → PromisesMoves l n (said (xs ++ ys))
promises_both l m n xs ys a b = record {
  stay = stay_twice l m n a.stay b.stay;
  moves = λ g.
      b.moves g ∙ ap₂ (λ t q. moving t q (entries_of g (said ys))) (a.stay.tables g) (a.moves g) ∙ moving_twice (has_table l g) (promise_of l g) (entries_of g (said xs)) (entries_of g (said ys))
      ∙ sym (ap (moving (has_table l g) (promise_of l g)) (both_counted g xs ys));
}

pub asked_more : (l m n : MemTables) (parts : List RestatedPart) (i : ℕ) (d x : RestatedPart) (items : List LogItem) → i < length parts → x ≡ get_or parts i d → items ≡ x.items.items
    → PromisesMoves l m (said (items_of_all (take i parts))) → PromisesMoves m n (said items) → PromisesMoves l n (said (items_of_all (take (i + 1) parts)))
asked_more l m n parts i d x items lt is are asked promises =
    subst (λ (k : List LogItem). PromisesMoves l n (said k)) (sym (ap items_of_all (parts_more parts i d x lt is) ∙ all_more (take i parts) x))
    (promises_both l m n (items_of_all (take i parts)) x.items.items asked (subst (λ (k : List LogItem). PromisesMoves m n (said k)) are promises))

pub asked_then : {A E : Type 0} (l m n : MemTables) (parts : List RestatedPart) (i : ℕ) (items : List LogItem) (r : Result A E) → length parts ≤ i → PromisesMoves l m (said (items_of_all (take i parts)))
    → OnOk r (PromisesMoves m n (said items)) → OnOk r (PromisesMoves l n (said (items_of_all parts ++ items)))
asked_then l m n parts i items (Ok x) all asked promises =
    promises_both l m n (items_of_all parts) items (subst (λ (k : List RestatedPart). PromisesMoves l m (said (items_of_all k))) (take_all i parts all) asked) promises
asked_then l m n parts i items (Err e) all asked promises = tt

-- It is taken back.

let_go : (l m n : MemTables) (xs its : List LogItem) → PromisesMoves l m (said xs) → ((g : ℕ) → mentions g its ≡ true → (promise_of n g).moves ≡ 0) → ((g : ℕ) → mentions g its ≡ false → promise_of n g ≡ promise_of m g)
    → ((g : ℕ) → mentions g its ≡ false → entries_of g (said xs) ≡ 0) → PromisesNoMoves l → PromisesNoMoves n
let_go l m n xs its asked gone others unsaid none g =
    at_bool (mentions g its) (λ b. mentions g its ≡ b → (promise_of n g).moves ≡ 0) (λ _ is. gone g is)
    (λ _ is. ap (λ (q : Promise). q.moves) (others g is ∙ asked.moves g) ∙ moves_of_none (has_table l g) (promise_of l g) (entries_of g (said xs)) (none g) (unsaid g is)) refl

first_counted : (g : ℕ) (parts : List RestatedPart) (i : ℕ) → entries_of g (said (items_of_all (take i parts))) ≤ entries_of g (said (items_of_all parts))
first_counted g [] zero = omega arith
first_counted g [] (suc i) = omega arith
first_counted g (x ∷ xs) zero = omega arith
first_counted g (x ∷ xs) (suc i) =
    let some = both_counted g x.items.items (items_of_all (take i xs)) in
    let all = both_counted g x.items.items (items_of_all xs) in
    let rest = first_counted g xs i in omega (arith, some, all, rest)

part_mentions : (g : ℕ) (parts : List RestatedPart) (i : ℕ) (d : RestatedPart) → AllMention g parts → i < length parts → mentions g (get_or parts i d).items.items ≡ true
part_mentions g [] i d all less = absurd (let none : ⊥ = omega (arith, less) in none)
part_mentions g (x ∷ xs) zero d all less = all.0
part_mentions g (x ∷ xs) (suc i) d all less = part_mentions g xs i d all.1 (omega (arith, less))

-- room for a part was refused
pub part_let_go : (l m n : MemTables) (parts : List RestatedPart) (i : ℕ) (d x : RestatedPart) (items its : List LogItem) → i < length parts → x ≡ get_or parts i d → its ≡ x.items.items
    → PromisesMoves l m (said (items_of_all (take i parts))) → IsTakenBack m n its → AreOfOne parts items → PromisesNoMoves l → PromisesNoMoves n
part_let_go l m n parts i d x items its lt is are asked back one none =
    let_go l m n (items_of_all (take i parts)) its asked (λ g here. (back.forgotten g here).1) back.others
    (λ g unsaid. elim (one g) [
      | inl all ↦ absurd (false≢true (sym unsaid ∙ ap (mentions g) are ∙ ap (λ (y : RestatedPart). mentions g y.items.items) is ∙ part_mentions g parts i d all.0 lt))
      | inr unheard ↦ (let first = first_counted g parts i in let both = both_counted g (items_of_all parts) items in omega (arith, first, both, unheard))
    ]) none

-- room for what is behind the parts was
pub last_let_go : {A E : Type 0} (l m n : MemTables) (parts : List RestatedPart) (i : ℕ) (items : List LogItem) (r : Result A E) → PromisesMoves l m (said (items_of_all (take i parts))) → OnErr r (IsTakenBack m n items)
    → OnErr r (AreOfOne parts items → PromisesNoMoves l → PromisesNoMoves n)
last_let_go l m n parts i items (Ok x) asked back = tt
last_let_go l m n parts i items (Err e) asked back = λ one none.
    let_go l m n (items_of_all (take i parts)) items asked (λ g here. (back.forgotten g here).1) back.others
    (λ g unsaid. elim (one g) [
      | inl all ↦ absurd (false≢true (sym unsaid ∙ all.1))
      | inr unheard ↦ (let first = first_counted g parts i in let both = both_counted g (items_of_all parts) items in omega (arith, first, both, unheard))
    ]) none

-- what was made room for wasn't written
pub all_let_go : (l m n : MemTables) (parts : List RestatedPart) (items its : List LogItem) → its ≡ items → PromisesMoves l m (said (items_of_all parts ++ items)) → ((g : ℕ) → mentions g its ≡ true → (promise_of n g).moves ≡ 0)
    → ((g : ℕ) → mentions g its ≡ false → promise_of n g ≡ promise_of m g) → AreOfOne parts items → PromisesNoMoves l → PromisesNoMoves n
all_let_go l m n parts items its are asked gone others one none =
    let_go l m n (items_of_all parts ++ items) its asked gone others (λ g unsaid. elim (one g) [ inl all ↦ absurd (false≢true (sym unsaid ∙ ap (mentions g) are ∙ all.1)) | inr unheard ↦ unheard ]) none

-- It is used.

-- so many entries of each group moved
abbrev pub Spends : MemTables → MemTables → List LogItem → Type 0
Spends old new xs = (g : ℕ) → (promise_of new g).moves ≡ (promise_of old g).moves - entries_of g (said xs)

spent_here : (gate : Option ℕ) (n : ℕ) (m k : MemTables) (items : List LogItem) → TakesRewritten gate n m k (tagged_items place_of items) → Spends m k items
spent_here gate n m k items done g = ap (λ (q : Promise). q.moves) (done.promise g) ∙ ap (λ (c : ℕ). (promise_of m g).moves - c) (counted place_of g items)

pub spent_more : (gate : Option ℕ) (n : ℕ) (old m k : MemTables) (parts : List RestatedPart) (i : ℕ) (d x : RestatedPart) → i < length parts → x ≡ get_or parts i d → Spends old m (items_of_all (take i parts))
    → TakesRewritten gate n m k (tagged_items place_of x.items.items) → Spends old k (items_of_all (take (i + 1) parts))
spent_more gate n old m k parts i d x lt is before done g =
    let first = before g in
    let now = spent_here gate n m k x.items.items done g in
    let both = both_counted g (items_of_all (take i parts)) x.items.items in
    let more = ap (λ (l : List LogItem). entries_of g (said l)) (ap items_of_all (parts_more parts i d x lt is) ∙ all_more (take i parts) x) in omega (arith, first, now, both, more)

pub spent_all : (gate : Option ℕ) (n : ℕ) (old m k : MemTables) (parts : List RestatedPart) (i : ℕ) (items : List LogItem) → length parts ≤ i → Spends old m (items_of_all (take i parts)) → TakesRewritten gate n m k (tagged_items place_of items)
    → Spends old k (items_of_all parts ++ items)
spent_all gate n old m k parts i items all before done g =
    let first = before g in
    let now = spent_here gate n m k items done g in
    let both = both_counted g (items_of_all parts) items in
    let whole = ap (λ (l : List RestatedPart). entries_of g (said (items_of_all l))) (take_all i parts all) in omega (arith, first, now, both, whole)

-- where an item is written doesn't matter
written_counted : (g : ℕ) (handle : FileBlockHandle) (items : List LogItem) → entries_of g (said (written handle items)) ≡ entries_of g (said items)
written_counted g handle items = ap (entries_of g) (written_items handle items) ∙ counted (written_entry handle) g items

pub room_spent : (l m n : MemTables) (parts : List RestatedPart) (items its : List LogItem) (handle : FileBlockHandle) → its ≡ written handle items → PromisesMoves l m (said (items_of_all parts ++ items)) → Spends m n (items_of_all parts ++ its)
    → PromisesNoMoves l → PromisesNoMoves n
room_spent l m n parts items its handle is asked spent none g =
    let here = ap (λ (k : List LogItem). entries_of g (said (items_of_all parts ++ k))) is in
    let there = both_counted g (items_of_all parts) (written handle items) in
    let same = written_counted g handle items in
    let both = both_counted g (items_of_all parts) items in
    let whole : entries_of g (said (items_of_all parts ++ its)) ≡ entries_of g (said (items_of_all parts ++ items)) = omega (arith, here, there, same, both) in
    spent g ∙ ap₂ (λ (x y : ℕ). x - y) (ap (λ (q : Promise). q.moves) (asked.moves g)) whole ∙ moves_promised (has_table l g) (promise_of l g) (entries_of g (said (items_of_all parts ++ items))) (none g)

-- Parts of one group.

mentioned : (g : ℕ) (xs : List LogItem) → 0 < entries_of g (said xs) → mentions g xs ≡ true
mentioned g xs some =
    at_bool (mentions g xs) (λ b. mentions g xs ≡ b → b ≡ true) (λ _ _. refl)
    (λ _ is. absurd (let none : entries_of g (said xs) ≡ 0 = ap needs (none_said (λ e. e) g xs is) in let never : ⊥ = omega (arith, some, none) in never)) refl

-- one record alone is
pub one_of_one : (items : List LogItem) → AreOfOne [] items
one_of_one items g =
    at_bool (mentions g items) (λ b. mentions g items ≡ b → IsInAllOrNone g [] items) (λ _ is. inl (tt, is)) (λ _ is. inr (ap needs (none_said (λ e. e) g items is))) refl

module _ (g f : ℕ) (pairs : List (List ℕ × List ℕ)) (b : Batch) where
  piece_alone : (k : ℕ) (bytes : List (List ℕ)) → IsPiece g f bytes pairs b → (g == k) ≡ false → entries_of k (said b.items) ≡ 0
  piece_alone k bytes is apart = sym (entries_for (entry_bytes b.entries) k b.items) ∙ ap (entries_of k) is.said ∙ ap needs (none_of_group g k (run_items f bytes ++ put_items pairs) apart)

  piece_has : (bytes : List (List ℕ)) → IsPiece g f bytes pairs b → 0 < length bytes → 0 < entries_of g (said b.items)
  piece_has [] is some = absurd (let never : ⊥ = omega (arith, some) in never)
  piece_has (e ∷ es) is some =
      let all : entries_of g (said b.items) ≡ suc (length es) + needs (put_items {E = List ℕ} pairs) =
      sym (entries_for (entry_bytes b.entries) g b.items) ∙ ap (entries_of g) is.said ∙ ap needs (all_of_group g (run_items f (e ∷ es) ++ put_items pairs)) in omega (arith, all)

kept_mention : (g f : ℕ) (pieces : List (List (List ℕ))) (parts : List RestatedPart) (ps : List WrittenPart) → ArePartsKept parts ps → SayPieces g f pieces ps → AllMention g parts
kept_mention g f pieces [] ps kept are = tt
kept_mention g f pieces (x ∷ xs) [] kept are = absurd kept
kept_mention g f [] (x ∷ xs) (p ∷ ps) kept are = absurd are
kept_mention g f (es ∷ more) (x ∷ xs) (p ∷ ps) (block, items, rest) (some, piece, others) = (
  mentioned g x.items.items
      (let has = piece_has g f [] p.batch es piece some in
      let same = ap (λ (l : List LogItem). entries_of g (said l)) items ∙ written_counted g (block_place p.block p.batch.entries) p.batch.items in omega (arith, has, same)),
  kept_mention g (f + length es) more xs ps rest others,
)

kept_alone : (k g f : ℕ) (pieces : List (List (List ℕ))) (parts : List RestatedPart) (ps : List WrittenPart) → ArePartsKept parts ps → SayPieces g f pieces ps → (g == k) ≡ false → entries_of k (said (items_of_all parts)) ≡ 0
kept_alone k g f pieces [] ps kept are apart = refl
kept_alone k g f pieces (x ∷ xs) [] kept are apart = absurd kept
kept_alone k g f [] (x ∷ xs) (p ∷ ps) kept are apart = absurd are
kept_alone k g f (es ∷ more) (x ∷ xs) (p ∷ ps) (block, items, rest) (some, piece, others) apart =
    let both = both_counted k x.items.items (items_of_all xs) in
    let same = ap (λ (l : List LogItem). entries_of k (said l)) items ∙ written_counted k (block_place p.block p.batch.entries) p.batch.items in
    let here = piece_alone g f [] p.batch k es piece apart in
    let there = kept_alone k g (f + length es) more xs ps rest others apart in omega (arith, both, same, here, there)

pub parts_of_one : (g f : ℕ) (pieces : List (List (List ℕ))) (parts : List RestatedPart) (ps : List WrittenPart) → ArePartsKept parts ps → SayPieces g f pieces ps → (from : ℕ) (bytes : List (List ℕ)) (pairs : List (List ℕ × List ℕ)) (b : Batch)
    → IsPiece g from bytes pairs b → 0 < length bytes → AreOfOne parts b.items
parts_of_one g f pieces parts ps kept are from bytes pairs b piece some k =
    at_bool (g == k) (λ t. (g == k) ≡ t → IsInAllOrNone k parts b.items)
    (λ _ same.
    subst (λ (j : ℕ). IsInAllOrNone j parts b.items) (from_eq_true g k same)
    (inl (kept_mention g f pieces parts ps kept are, mentioned g b.items (piece_has g from pairs b bytes piece some))))
    (λ _ apart.
    inr (let both = both_counted k (items_of_all parts) b.items in
    let first = kept_alone k g f pieces parts ps kept are apart in
    let last = piece_alone g from pairs b k bytes piece apart in omega (arith, both, first, last))) refl
