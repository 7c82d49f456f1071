-- Entries that are added to a batch.
use Rattle.std.proofs.Common.{◌≡◌, ℕ, zero, suc, ◌+◌, ◌<◌, ◌≤◌, ◌^◌, List, [], ◌∷◌, ◌++◌, length, take, drop, map, get_or, Result, Ok, OnOk, All, refl, sym, ap, subst, ◌∙◌, append_assoc, arith}
use Rattle.std.proofs.Math.ListN.{set}
use Rattle.std.proofs.lemmas.List.Elements.{All-more}
use Rattle.std.proofs.lemmas.List.{take_more, take-map, map-append, append-nil, get_or-map, length-map, length-append, length-take-le}
use Rattle.std.proofs.lemmas.List.Sums.{sum_by-cons, sum_by_push, sum_by-take-le}
use Rattle.std.proofs.lemmas.List.Concat.{length-flat_map, flat_map-append}
use Rattle.raft_log_record_items.specs.declared.entry.EntryIndex.{EntryIndex}
use Rattle.raft_log_record_items.specs.Run.{FollowsFrom, IsRun, unplaced_entry}
use Rattle.raft_log_record_items.specs.Placed.{run_len, laid_run}
use Rattle.raft_log_record_items.proofs.Public.{inner_get, inner_set, laid_run-append, run-laid}
use Rattle.std.specs.Borrow.{Bor}
use Rattle.raft_log_record_batches.specs.Entries.{RisesFrom, IsIndexRun, entries_of, joined, bytes_len, slices_bytes, laid_slices}

abbrev pub indexes_of : List EntryIndex → List ℕ
indexes_of es = map (λ (e : EntryIndex). e.index) es

-- ---- indexes that rise by one

rises_push : (i : ℕ) (xs : List ℕ) (x : ℕ) → RisesFrom i xs → x ≡ i + length xs → RisesFrom i (xs ++ x ∷ [])
rises_push i [] x h e = (omega arith, tt)
rises_push i (y ∷ ys) x h e = (h.0, rises_push (i + 1) ys x h.1 (omega arith))

pub rises_more : (first next i : ℕ) (es : List EntryIndex) (d : EntryIndex) → i < length es → next ≡ first + i → (get_or es i d).index ≡ next → RisesFrom first (indexes_of (take i es)) → RisesFrom first (indexes_of (take (i + 1) es))
rises_more first next i es d lt n e h =
    let one : indexes_of (take (i + 1) es) ≡ indexes_of (take i es) ++ (get_or es i d).index ∷ [] =
    ap (λ (l : List EntryIndex). indexes_of l) (take_more es i d lt) ∙ map-append (λ (x : EntryIndex). x.index) (take i es) (get_or es i d ∷ []) in
    let count : length (indexes_of (take i es)) ≡ i = length-map (take i es) (λ (x : EntryIndex). x.index) ∙ length-take-le i es (omega arith) in
    subst (λ (l : List ℕ). RisesFrom first l) (sym one) (rises_push first (indexes_of (take i es)) (get_or es i d).index h (omega (arith, e, n, count)))

pub rises_at : (first i : ℕ) (es : List EntryIndex) (d : EntryIndex) → i < length es → RisesFrom first (indexes_of es) → (get_or es i d).index ≡ first + i
rises_at first i [] d lt h = absurd (omega arith)
rises_at first zero (x ∷ xs) d lt h = omega (arith, h.0)
rises_at first (suc i) (x ∷ xs) d lt h = omega (arith, rises_at (first + 1) i xs d (omega arith) h.1)

-- ---- entries with their lengths

pub length-entries_of : (is : List ℕ) (bs : List (List ℕ)) → length is ≡ length bs → length (entries_of is bs) ≡ length is
length-entries_of [] bs e = refl
length-entries_of (i ∷ is) [] e = absurd (omega arith)
length-entries_of (i ∷ is) (b ∷ bs) e = ap (λ (n : ℕ). suc n) (length-entries_of is bs (omega arith))

pub entries_of-push : (is : List ℕ) (bs : List (List ℕ)) (i : ℕ) (b : List ℕ) → length is ≡ length bs → entries_of (is ++ i ∷ []) (bs ++ b ∷ []) ≡ entries_of is bs ++ unplaced_entry i (length b) ∷ []
entries_of-push [] [] i b e = refl
entries_of-push [] (c ∷ bs) i b e = absurd (omega arith)
entries_of-push (j ∷ is) [] i b e = absurd (omega arith)
entries_of-push (j ∷ is) (c ∷ bs) i b e = ap (λ (l : List EntryIndex). unplaced_entry j (length c) ∷ l) (entries_of-push is bs i b (omega arith))

-- one entry more has its length
pub sized_step : (old xs : List EntryIndex) (entries : List (List ℕ)) (i : ℕ) (d : EntryIndex) (b : List ℕ) (len : ℕ) → i < length old → length old ≡ length entries
    → xs ≡ entries_of (indexes_of (take i old)) (take i entries) ++ drop i old → b ≡ get_or entries i b → len ≡ length b
    → set xs i (unplaced_entry (get_or xs i d).index len) ≡ entries_of (indexes_of (take (i + 1) old)) (take (i + 1) entries) ++ drop (i + 1) old
sized_step old xs entries i d b len lt same h is l =
    let idx : EntryIndex → ℕ = λ (x : EntryIndex). x.index in
    let x : EntryIndex = get_or old i d in
    let front : List EntryIndex = entries_of (indexes_of (take i old)) (take i entries) in
    let count : length (indexes_of (take i old)) ≡ i = length-map (take i old) idx ∙ length-take-le i old (omega arith) in
    let count' : length (take i entries) ≡ i = length-take-le i entries (omega arith) in
    let even : length (indexes_of (take i old)) ≡ length (take i entries) = count ∙ sym count' in
    let size : length front ≡ i = length-entries_of (indexes_of (take i old)) (take i entries) even ∙ count in
    let here : get_or xs i d ≡ x = ap (λ (y : List EntryIndex). get_or y i d) h ∙ inner_get front old i d size lt in
    let more : indexes_of (take (i + 1) old) ≡ indexes_of (take i old) ++ x.index ∷ [] = ap (λ (y : List EntryIndex). indexes_of y) (take_more old i d lt) ∙ map-append idx (take i old) (x ∷ []) in
    let more' : take (i + 1) entries ≡ take i entries ++ b ∷ [] = take_more entries i b (omega arith) ∙ ap (λ (y : List ℕ). take i entries ++ y ∷ []) (sym is) in
    let next : entries_of (indexes_of (take (i + 1) old)) (take (i + 1) entries) ≡ front ++ unplaced_entry x.index (length b) ∷ [] =
    ap (λ (y : List ℕ). entries_of y (take (i + 1) entries)) more ∙ ap (λ (y : List (List ℕ)). entries_of (indexes_of (take i old) ++ x.index ∷ []) y) more'
    ∙ entries_of-push (indexes_of (take i old)) (take i entries) x.index b even in
    ap (λ (y : EntryIndex). set xs i (unplaced_entry y.index len)) here
    ∙ ap (λ (n : ℕ). set xs i (unplaced_entry x.index n)) l
    ∙ ap (λ (y : List EntryIndex). set y i (unplaced_entry x.index (length b))) h
    ∙ inner_set front old i d (unplaced_entry x.index (length b)) size lt
    ∙ ap (λ (y : List EntryIndex). y ++ drop (i + 1) old) (sym next)

-- ---- they are a run

follows_of : (i : ℕ) (is : List ℕ) (bs : List (List ℕ)) → RisesFrom i is → length is ≡ length bs → bytes_len bs < 2 ^ 32 → FollowsFrom i (entries_of is bs)
follows_of i [] bs h e fits = tt
follows_of i (x ∷ is) [] h e fits = absurd (omega arith)
follows_of i (x ∷ is) (b ∷ bs) h e fits =
    let whole : bytes_len (b ∷ bs) ≡ length b + bytes_len bs = sum_by-cons (λ (y : List ℕ). length y) b bs in
    (h.0, omega (arith, whole), follows_of (i + 1) is bs h.1 (omega arith) (omega (arith, whole)))

pub run_of_entries : (is : List ℕ) (bs : List (List ℕ)) → IsIndexRun is → length is ≡ length bs → bytes_len bs < 2 ^ 32 → IsRun (entries_of is bs)
run_of_entries [] bs h e fits = tt
run_of_entries (x ∷ is) [] h e fits = absurd (omega arith)
run_of_entries (x ∷ is) (b ∷ bs) h e fits = (follows_of x (x ∷ is) (b ∷ bs) h.0 e fits, omega (arith, h.1, length-entries_of (x ∷ is) (b ∷ bs) e))

pub run_len-entries_of : (is : List ℕ) (bs : List (List ℕ)) → length is ≡ length bs → run_len (entries_of is bs) ≡ bytes_len bs
run_len-entries_of [] [] e = refl
run_len-entries_of [] (b ∷ bs) e = absurd (omega arith)
run_len-entries_of (i ∷ is) [] e = absurd (omega arith)
run_len-entries_of (i ∷ is) (b ∷ bs) e =
    let left : run_len (entries_of (i ∷ is) (b ∷ bs)) ≡ length b + run_len (entries_of is bs) = sum_by-cons (λ (x : EntryIndex). x.entry_len) (unplaced_entry i (length b)) (entries_of is bs) in
    let right : bytes_len (b ∷ bs) ≡ length b + bytes_len bs = sum_by-cons (λ (y : List ℕ). length y) b bs in
    omega (arith, left, right, run_len-entries_of is bs (omega arith))

-- ---- messages

-- what is so of an answer is so, where it was given
pub on_ok : {A E P : Type 0} (r : Result A E) (x : A) → Ok x ≡ r → OnOk r P → P
on_ok {A = A} {E = E} {P = P} r x e h = subst (λ (q : Result A E). OnOk q P) (sym e) h

-- one message more is read back
pub read_more : {M : Type 0} (P : M → Type 0) (ms : List M) (i : ℕ) (m : M) → i < length ms → m ≡ get_or ms i m → All P (take i ms) → P m → All P (take (i + 1) ms)
read_more {M = M} P ms i m lt is h p =
    All-more P ms i m lt h (subst (λ (y : M). P y) is p)

pub joined-length : (entries : List (List ℕ)) → length (joined entries) ≡ bytes_len entries
joined-length entries = length-flat_map (λ (x : List ℕ). x) entries

-- one message more
pub message_more : {M : Type 0} (f : M → List ℕ) (old : List ℕ) (ms : List M) (i : ℕ) (m : M) (before after : List ℕ) → i < length ms → m ≡ get_or ms i m → before ≡ old ++ joined (map f (take i ms)) → after ≡ before ++ f m
    → after ≡ old ++ joined (map f (take (i + 1) ms))
message_more {M = M} f old ms i m before after lt is h e =
    let so_far : List ℕ = joined (map f (take i ms)) in
    let one : map f (take (i + 1) ms) ≡ map f (take i ms) ++ f m ∷ [] =
    ap (λ (l : List M). map f l) (take_more ms i m lt ∙ ap (λ (y : M). take i ms ++ y ∷ []) (sym is)) ∙ map-append f (take i ms) (m ∷ []) in
    let more : joined (map f (take (i + 1) ms)) ≡ so_far ++ f m =
    ap (λ (l : List (List ℕ)). joined l) one ∙ flat_map-append (λ (x : List ℕ). x) (map f (take i ms)) (f m ∷ []) ∙ ap (λ (l : List ℕ). so_far ++ l) (append-nil (f m)) in
    e ∙ ap (λ (l : List ℕ). l ++ f m) h ∙ append_assoc old so_far (f m) ∙ ap (λ (l : List ℕ). old ++ l) (sym more)

pub message_sized : {M : Type 0} (f : M → List ℕ) (old xs : List EntryIndex) (ms : List M) (i : ℕ) (d : EntryIndex) (m : M) (len : ℕ) → i < length old → length old ≡ length ms
    → xs ≡ entries_of (indexes_of (take i old)) (map f (take i ms)) ++ drop i old → m ≡ get_or ms i m → len ≡ length (f m)
    → set xs i (unplaced_entry (get_or xs i d).index len) ≡ entries_of (indexes_of (take (i + 1) old)) (map f (take (i + 1) ms)) ++ drop (i + 1) old
message_sized {M = M} f old xs ms i d m len lt same h is l =
    let entries : List (List ℕ) = map f ms in
    let this : f m ≡ get_or entries i (f m) = ap f is ∙ sym (get_or-map f ms i m (f m) (omega arith)) in
    let so_far : xs ≡ entries_of (indexes_of (take i old)) (take i entries) ++ drop i old = h ∙ ap (λ (b : List (List ℕ)). entries_of (indexes_of (take i old)) b ++ drop i old) (sym (take-map f i ms)) in
    sized_step old xs entries i d (f m) len lt (omega (arith, length-map ms f)) so_far this l
    ∙ ap (λ (b : List (List ℕ)). entries_of (indexes_of (take (i + 1) old)) b ++ drop (i + 1) old) (take-map f (i + 1) ms)

pub out_len : {M : Type 0} (f : M → List ℕ) (old out : List ℕ) (ms : List M) → out ≡ old ++ joined (map f ms) → length out ≡ length old + bytes_len (map f ms)
out_len f old out ms e = ap (λ (l : List ℕ). length l) e ∙ length-append old (joined (map f ms)) ∙ ap (λ (n : ℕ). length old + n) (joined-length (map f ms))

pub part_len : {M : Type 0} (f : M → List ℕ) (ms : List M) (i : ℕ) → bytes_len (map f (take i ms)) ≤ bytes_len (map f ms)
part_len f ms i = omega (arith, sum_by-take-le (λ (x : List ℕ). length x) (map f ms) i, ap (λ (l : List (List ℕ)). bytes_len l) (take-map f i ms))

-- ---- slices

pub same_item : {A : Type 0} (xs : List A) (i : ℕ) (d m : A) → i < length xs → get_or xs i d ≡ get_or xs i m
same_item [] i d m lt = absurd (omega arith)
same_item (x ∷ xs) zero d m lt = refl
same_item (x ∷ xs) (suc i) d m lt = same_item xs i d m (omega arith)

pub slice_len : (xs : List (Bor (List ℕ))) (i : ℕ) (d : Bor (List ℕ)) → i < length xs → length (get_or xs i d).now ≤ bytes_len (slices_bytes xs)
slice_len [] i d lt = absurd (omega arith)
slice_len (x ∷ xs) zero d lt = omega (arith, sum_by-cons (λ (y : List ℕ). length y) x.now (slices_bytes xs))
slice_len (x ∷ xs) (suc i) d lt = omega (arith, sum_by-cons (λ (y : List ℕ). length y) x.now (slices_bytes xs), slice_len xs i d (omega arith))

-- the bytes of one slice more
slices_more : (xs : List (Bor (List ℕ))) (i : ℕ) (b : Bor (List ℕ)) → i < length xs → b ≡ get_or xs i b
    → slices_bytes (take (i + 1) xs) ≡ slices_bytes (take i xs) ++ b.now ∷ []
slices_more xs i b lt is =
    let now : Bor (List ℕ) → List ℕ = λ (s : Bor (List ℕ)). s.now in
    ap (λ (l : List (Bor (List ℕ))). slices_bytes l) (take_more xs i b lt ∙ ap (λ (y : Bor (List ℕ)). take i xs ++ y ∷ []) (sym is)) ∙ map-append now (take i xs) (b ∷ [])

-- one slice more has so many bytes more
pub slices_len-more : (xs : List (Bor (List ℕ))) (i : ℕ) (b : Bor (List ℕ)) → i < length xs → b ≡ get_or xs i b
    → bytes_len (slices_bytes (take (i + 1) xs)) ≡ bytes_len (slices_bytes (take i xs)) + length b.now
slices_len-more xs i b lt is =
    ap (λ (l : List (List ℕ)). bytes_len l) (slices_more xs i b lt is) ∙ sum_by_push (λ (y : List ℕ). length y) (slices_bytes (take i xs)) b.now

-- one entry more lies behind the others
pub laid_more : (offset next i len : ℕ) (given : List EntryIndex) (xs : List (Bor (List ℕ))) (d : EntryIndex) (b : Bor (List ℕ)) (laid : List EntryIndex)
    → i < length given → length given ≡ length xs → b ≡ get_or xs i b → len ≡ length b.now → next ≡ offset + bytes_len (slices_bytes (take i xs))
    → laid ≡ laid_slices offset (take i given) (take i xs)
    → laid ++ record (unplaced_entry (get_or given i d).index len) { entry_offset = next } ∷ [] ≡ laid_slices offset (take (i + 1) given) (take (i + 1) xs)
laid_more offset next i len given xs d b laid lt same is l n h =
    let index : ℕ = (get_or given i d).index in
    let now : Bor (List ℕ) → List ℕ = λ (s : Bor (List ℕ)). s.now in
    let front : List EntryIndex = take i given in
    let slices : List (Bor (List ℕ)) = take i xs in
    let item : EntryIndex = unplaced_entry index (length b.now) in
    let run : List EntryIndex = entries_of (indexes_of front) (slices_bytes slices) in
    let count : length (indexes_of front) ≡ i = length-map front (λ (x : EntryIndex). x.index) ∙ length-take-le i given (omega arith) in
    let count' : length (slices_bytes slices) ≡ i = length-map slices now ∙ length-take-le i xs (omega (arith, same)) in
    let even : length (indexes_of front) ≡ length (slices_bytes slices) = count ∙ sym count' in
    let more : indexes_of (take (i + 1) given) ≡ indexes_of front ++ index ∷ [] =
    ap (λ (y : List EntryIndex). indexes_of y) (take_more given i d lt) ∙ map-append (λ (x : EntryIndex). x.index) front (get_or given i d ∷ []) in
    let whole : entries_of (indexes_of (take (i + 1) given)) (slices_bytes (take (i + 1) xs)) ≡ run ++ item ∷ [] =
    ap (λ (y : List ℕ). entries_of y (slices_bytes (take (i + 1) xs))) more
    ∙ ap (λ (y : List (List ℕ)). entries_of (indexes_of front ++ index ∷ []) y) (slices_more xs i b (omega (arith, lt, same)) is)
    ∙ entries_of-push (indexes_of front) (slices_bytes slices) index b.now even in
    let place : next ≡ offset + run_len run = n ∙ ap (λ (k : ℕ). offset + k) (sym (run_len-entries_of (indexes_of front) (slices_bytes slices) even)) in
    ap (λ (y : List EntryIndex). y ++ record (unplaced_entry index len) { entry_offset = next } ∷ []) h
    ∙ ap (λ (k : ℕ). laid_run offset run ++ record (unplaced_entry index k) { entry_offset = next } ∷ []) l
    ∙ ap (λ (k : ℕ). laid_run offset run ++ record item { entry_offset = k } ∷ []) place
    ∙ sym (laid_run-append offset run (item ∷ []))
    ∙ ap (λ (y : List EntryIndex). laid_run offset y) (sym whole)

-- such entries are a run
pub laid_is_run : (offset : ℕ) (given : List EntryIndex) (xs : List (Bor (List ℕ))) → IsIndexRun (indexes_of given) → length given ≡ length xs → bytes_len (slices_bytes xs) < 2 ^ 32
    → IsRun (laid_slices offset given xs)
laid_is_run offset given xs run same fits =
    let even : length (indexes_of given) ≡ length (slices_bytes xs) = length-map given (λ (x : EntryIndex). x.index) ∙ same ∙ sym (length-map xs (λ (s : Bor (List ℕ)). s.now)) in
    run-laid offset (entries_of (indexes_of given) (slices_bytes xs)) (run_of_entries (indexes_of given) (slices_bytes xs) run even fits)

-- a part of the slices has no more bytes
pub slices_part : (xs : List (Bor (List ℕ))) (i : ℕ) → bytes_len (slices_bytes (take i xs)) ≤ bytes_len (slices_bytes xs)
slices_part xs i = part_len (λ (s : Bor (List ℕ)). s.now) xs i
