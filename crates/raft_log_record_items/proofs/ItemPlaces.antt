-- Items whose entries get their places, one item after another.
use Rattle.std.proofs.Common.{◌≡◌, ℕ, suc, ◌+◌, ◌-◌, ◌<◌, ◌≤◌, ◌^◌, min, List, [], ◌∷◌, ◌++◌, length, take, drop, map, get_or, refl, sym, ap, ◌∙◌, arith}
use Rattle.std.proofs.Math.ListN.{set}
use Rattle.std.proofs.lemmas.List.{take_more, map-append, length-take-le, length-map, take-append-drop}
use Rattle.std.proofs.lemmas.List.Sums.{sum_by-cons, sum_by-append}
use Rattle.raft_log_record_base.specs.declared.pipe_log.FileBlockHandle.{FileBlockHandle}
use Rattle.raft_log_record_items.specs.declared.item.LogItemContent.{LogItemContent}
use Rattle.raft_log_record_items.specs.declared.item.LogItem.{LogItem}
use Rattle.raft_log_record_items.specs.Placed.{content_len, entries_len, laid_content, laid_out, written_content, written_item, placed, placed_item, ArePlaced}
use Rattle.raft_log_record_items.proofs.Places.{inner_get, inner_set}

-- Laying out.

pub laid_out-append : (offset : ℕ) (a b : List LogItem) → laid_out offset (a ++ b) ≡ laid_out offset a ++ laid_out (offset + entries_len a) b
laid_out-append offset [] b = ap (λ (o : ℕ). laid_out o b) (omega arith)
laid_out-append offset (x ∷ xs) b =
    let whole : entries_len (x ∷ xs) ≡ content_len x.content + entries_len xs = sum_by-cons (λ (y : LogItem). content_len y.content) x xs in
    let next : offset + content_len x.content + entries_len xs ≡ offset + entries_len (x ∷ xs) = omega (arith, whole) in
    ap (λ (l : List LogItem). record x { content = laid_content offset x.content } ∷ l)
    (laid_out-append (offset + content_len x.content) xs b ∙ ap (λ (o : ℕ). laid_out (offset + content_len x.content) xs ++ laid_out o b) next)

pub length-laid_out : (offset : ℕ) (xs : List LogItem) → length (laid_out offset xs) ≡ length xs
length-laid_out offset [] = refl
length-laid_out offset (x ∷ xs) = ap (λ (n : ℕ). suc n) (length-laid_out (offset + content_len x.content) xs)

front_len : (offset : ℕ) (old : List LogItem) (i : ℕ) → i < length old → length (laid_out offset (take i old)) ≡ i
front_len offset old i lt = length-laid_out offset (take i old) ∙ length-take-le i old (omega arith)

-- the item whose turn it is still is as it was
here : (offset : ℕ) (old xs : List LogItem) (i : ℕ) (d : LogItem) → i < length old → xs ≡ laid_out offset (take i old) ++ drop i old → get_or xs i d ≡ get_or old i d
here offset old xs i d lt h = ap (λ (l : List LogItem). get_or l i d) h ∙ inner_get (laid_out offset (take i old)) old i d (front_len offset old i lt) lt

pub laid_item : (offset next : ℕ) (old xs : List LogItem) (i : ℕ) (d : LogItem) (new : LogItemContent) → i < length old → xs ≡ laid_out offset (take i old) ++ drop i old → next ≡ offset + entries_len (take i old)
    → new ≡ laid_content next (get_or xs i d).content → set xs i (record (get_or xs i d) { content = new }) ≡ laid_out offset (take (i + 1) old) ++ drop (i + 1) old
laid_item offset next old xs i d new lt h n is =
    let front : List LogItem = laid_out offset (take i old) in
    let x : LogItem = get_or old i d in
    let laid : laid_out offset (take (i + 1) old) ≡ front ++ record x { content = laid_content next x.content } ∷ [] =
    ap (λ (l : List LogItem). laid_out offset l) (take_more old i d lt) ∙ laid_out-append offset (take i old) (x ∷ [])
    ∙ ap (λ (o : ℕ). front ++ record x { content = laid_content o x.content } ∷ []) (sym n) in
    ap (λ (c : LogItemContent). set xs i (record (get_or xs i d) { content = c })) is
    ∙ ap (λ (y : LogItem). set xs i (record y { content = laid_content next y.content })) (here offset old xs i d lt h)
    ∙ ap (λ (l : List LogItem). set l i (record x { content = laid_content next x.content })) h
    ∙ inner_set front old i d (record x { content = laid_content next x.content }) (front_len offset old i lt) lt
    ∙ ap (λ (l : List LogItem). l ++ drop (i + 1) old) (sym laid)

pub laid_end : (offset next : ℕ) (old xs : List LogItem) (i : ℕ) (d : LogItem) → i < length old → xs ≡ laid_out offset (take i old) ++ drop i old → next ≡ offset + entries_len (take i old)
    → next + content_len (get_or xs i d).content ≡ offset + entries_len (take (i + 1) old)
laid_end offset next old xs i d lt h n =
    let len : content_len (get_or xs i d).content ≡ content_len (get_or old i d).content = ap (λ (y : LogItem). content_len y.content) (here offset old xs i d lt h) in
    let more : entries_len (take (i + 1) old) ≡ entries_len (take i old) + content_len (get_or old i d).content =
    ap (λ (l : List LogItem). entries_len l) (take_more old i d lt) ∙ sum_by-append (λ (y : LogItem). content_len y.content) (take i old) (get_or old i d ∷ []) ∙ omega arith in
    omega (arith, n, len, more)

-- the entries of the items up to here have no more bytes than those of all
pub entries_len-take : (i : ℕ) (xs : List LogItem) → entries_len (take i xs) ≤ entries_len xs
entries_len-take i xs =
    let whole : entries_len xs ≡ entries_len (take i xs) + entries_len (drop i xs) =
    ap (λ (l : List LogItem). entries_len l) (sym (take-append-drop i xs)) ∙ sum_by-append (λ (y : LogItem). content_len y.content) (take i xs) (drop i xs) in
    omega (arith, whole)

-- Written items.

pub written_step : (handle : FileBlockHandle) (old xs : List LogItem) (i : ℕ) (d : LogItem) (new : LogItemContent) → i < length old → xs ≡ map (written_item handle) (take i old) ++ drop i old
    → new ≡ written_content handle (get_or xs i d).content → set xs i (record (get_or xs i d) { content = new }) ≡ map (written_item handle) (take (i + 1) old) ++ drop (i + 1) old
written_step handle old xs i d new lt h is =
    let f : LogItem → LogItem = written_item handle in
    let front : List LogItem = map f (take i old) in
    let x : LogItem = get_or old i d in
    let len : length front ≡ i = length-map (take i old) f ∙ length-take-le i old (omega arith) in
    let same : get_or xs i d ≡ x = ap (λ (l : List LogItem). get_or l i d) h ∙ inner_get front old i d len lt in
    let more : map f (take (i + 1) old) ≡ front ++ f x ∷ [] = ap (λ (l : List LogItem). map f l) (take_more old i d lt) ∙ map-append f (take i old) (x ∷ []) in
    ap (λ (c : LogItemContent). set xs i (record (get_or xs i d) { content = c })) is
    ∙ ap (λ (y : LogItem). set xs i (f y)) same
    ∙ ap (λ (l : List LogItem). set l i (f x)) h
    ∙ inner_set front old i d (f x) len lt
    ∙ ap (λ (l : List LogItem). l ++ drop (i + 1) old) (sym more)

-- Items that get their places as they are read.

entries_len-push : (front : List LogItem) (x : LogItem) → entries_len (front ++ x ∷ []) ≡ entries_len front + content_len x.content
entries_len-push front x = sum_by-append (λ (y : LogItem). content_len y.content) front (x ∷ []) ∙ omega arith

placed-push : (handle : FileBlockHandle) (front : List LogItem) (x : LogItem) → placed handle (front ++ x ∷ []) ≡ placed handle front ++ placed_item handle (entries_len front) x ∷ []
placed-push handle front x =
    let start : 0 + entries_len front ≡ entries_len front = omega arith in
    ap (λ (l : List LogItem). map (written_item handle) l) (laid_out-append 0 front (x ∷ []) ∙ ap (λ (o : ℕ). laid_out 0 front ++ laid_out o (x ∷ [])) start)
    ∙ map-append (written_item handle) (laid_out 0 front) (laid_out (entries_len front) (x ∷ []))

-- one more item gets its places
pub placed_more : (handle : FileBlockHandle) (front items : List LogItem) (x y : LogItem) (len end : ℕ) → ArePlaced handle front items len
    → end ≡ min (len + content_len x.content) (2 ^ 64 - 1) → (end < 2 ^ 32 → y ≡ placed_item handle len x) → ArePlaced handle (front ++ x ∷ []) (items ++ y ∷ []) end
placed_more handle front items x y len end h is place =
    let sum = entries_len-push front x in
    let whole : end ≡ min (entries_len (front ++ x ∷ [])) (2 ^ 64 - 1) = omega (arith, is, h.sum, sum) in
    record {
      sum = whole;
      places = λ fits.
          let short : entries_len front < 2 ^ 32 = omega (arith, fits, sum) in
          let same : len ≡ entries_len front = omega (arith, h.sum, short) in
          let near : end < 2 ^ 32 = omega (arith, whole, fits) in
          ap (λ (l : List LogItem). l ++ y ∷ []) (h.places short)
          ∙ ap (λ (z : LogItem). placed handle front ++ z ∷ []) (place near ∙ ap (λ (o : ℕ). placed_item handle o x) same)
          ∙ sym (placed-push handle front x);
    }
