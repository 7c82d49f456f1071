-- What shows once entries were written to Rewrite again.
use Rattle.std.proofs.Common.{◌≡◌, ℕ, zero, suc, ◌+◌, ◌-◌, ◌<◌, ◌≤◌, max, min, List, [], ◌∷◌, ◌++◌, length, map, take, drop, Option, slice_index_or, nat_lt, refl, sym, ap, ap₂, subst, ◌∙◌, arith, length-take}
use Rattle.std.proofs.lemmas.List.{length-map, take-map, drop-map}
use Rattle.raft_log_record_items.specs.declared.entry.EntryIndex.{EntryIndex}
use Rattle.raft_log_model_laws.proofs.Public.{if_false, lt_false}
use Rattle.raft_log_extents.specs.declared.place.Place.{Place}
use Rattle.raft_log_extents.specs.Entries.{place_of, run_of}
use Rattle.raft_log_memtable_index.specs.Shown.{Shown}
use Rattle.raft_log_memtable.specs.Moves.{gated, movable, rewritten_at, rewritten_by}
use Rattle.raft_log_extents.proofs.Public.{drop_at}

drop_min : {A : Type 0} (n : ℕ) (xs : List A) → drop (min n (length xs)) xs ≡ drop n xs
drop_min n xs = by (min n (length xs)) n xs refl
  where
    by : {A : Type 0} (m n : ℕ) (xs : List A) → m ≡ min n (length xs) → drop m xs ≡ drop n xs
    by zero zero xs h = refl
    by zero (suc n) [] h = refl
    by zero (suc n) (x ∷ xs) h = absurd (omega arith)
    by (suc m) zero xs h = absurd (omega arith)
    by (suc m) (suc n) [] h = refl
    by (suc m) (suc n) (x ∷ xs) h = by m n xs (omega arith)

-- these places from a position on, so many
abbrev placed : Shown → ℕ → List Place → ℕ → Shown
placed v d ps n = record v { places = take d v.places ++ (ps ++ drop (d + n) v.places); rewritten = max v.rewritten (d + n) }

-- the run of these entries, by what the call counts
pub rewrites : (gate : Option ℕ) (v : Shown) (front : EntryIndex) (rest : List EntryIndex) (d gone there more : ℕ)
    → d ≡ front.index - v.first → d ≤ v.rewritten → gone ≡ min (v.first - front.index) (length (front ∷ rest))
    → there ≡ min (length (drop gone (front ∷ rest))) (v.rewritten - d)
    → more ≡ gated gate (take (length (drop gone (front ∷ rest)) - there) (drop v.rewritten v.places))
    → there + more ≤ length (drop gone (front ∷ rest))
    → placed v d (map place_of (take (there + more) (drop gone (front ∷ rest)))) (there + more) ≡ rewritten_by gate v (run_of (front ∷ rest))
rewrites gate v front rest d gone there more position within left some others fits =
    let entries = front ∷ rest in
    let kept = drop gone entries in
    let cut = drop (v.first - front.index) (map place_of entries) in
    let same : map place_of kept ≡ cut =
    ap (λ n. map place_of (drop n entries)) left ∙ ap (map place_of) (drop_min (v.first - front.index) entries) ∙ sym (drop-map place_of (v.first - front.index) entries) in
    let count : length kept ≡ length cut = sym (length-map kept place_of) ∙ ap length same in
    let fewer : length kept - there ≡ length kept - (v.rewritten - d) = omega (arith, some) in
    let all : there + more ≡ movable v gate d (length cut) =
    ap₂ ◌+◌ some (others ∙ ap (λ n. gated gate (take n (drop v.rewritten v.places))) fewer) ∙ ap (movable v gate d) count in
    let moved : map place_of (take (there + more) kept) ≡ take (there + more) cut = sym (take-map place_of (there + more) kept) ∙ ap (take (there + more)) same in
    let long : there + more ≡ length (take (there + more) cut) = sym (length-take (there + more) cut ∙ omega (arith, fits, count)) in
    ap₂ (placed v d) moved long
    ∙ ap (λ n. rewritten_at v d (take n cut)) all
    ∙ ap (λ n. rewritten_at v n (take (movable v gate n (length cut)) cut)) position
    ∙ sym (if_false (nat_lt v.rewritten (front.index - v.first)) v (rewritten_at v (front.index - v.first) (take (movable v gate (front.index - v.first) (length cut)) cut))
    (lt_false v.rewritten (front.index - v.first) (omega (arith, position, within))))

-- the same of the call's own lists
pub shows_rewrite : (gate : Option ℕ) (v : Shown) (xs : List EntryIndex) (front : EntryIndex) (d gone there more : ℕ) (kept moved : List EntryIndex) (places : List Place) (rewritten : ℕ)
    → 0 < length xs → front ≡ slice_index_or xs 0 front → d ≡ front.index - v.first → d ≤ v.rewritten → gone ≡ min (v.first - front.index) (length xs)
    → kept ≡ drop gone xs → there ≡ min (length kept) (v.rewritten - d) → more ≡ gated gate (take (length kept - there) (drop v.rewritten v.places))
    → there + more ≤ length kept → moved ≡ take (there + more) kept
    → places ≡ take d v.places ++ (map place_of moved ++ drop (d + length moved) v.places) → rewritten ≡ max v.rewritten (d + (there + more))
    → record v { places = places; rewritten = rewritten } ≡ rewritten_by gate v (run_of xs)
shows_rewrite gate v xs front d gone there more kept moved places rewritten some first position within left rest known others fits cut list number =
    let whole : xs ≡ front ∷ drop 1 xs = drop_at 0 xs front some ∙ ap (λ e. e ∷ drop 1 xs) (sym first) in
    let long : length moved ≡ there + more = ap length cut ∙ length-take (there + more) kept ∙ omega (arith, fits) in
    ap₂ (λ l n. record v { places = l; rewritten = n }) (list ∙ ap₂ (λ ys n. take d v.places ++ (map place_of ys ++ drop (d + n) v.places)) cut long) number
    ∙ ap (λ ys. placed v d (map place_of (take (there + more) ys)) (there + more)) (rest ∙ ap (drop gone) whole)
    ∙ rewrites gate v front (drop 1 xs) d gone there more position within (left ∙ ap (λ l. min (v.first - front.index) (length l)) whole)
    (known ∙ ap (λ l. min (length l) (v.rewritten - d)) (rest ∙ ap (drop gone) whole))
    (others ∙ ap (λ l. gated gate (take (length l - there) (drop v.rewritten v.places))) (rest ∙ ap (drop gone) whole))
    (subst (λ l. there + more ≤ length l) (rest ∙ ap (drop gone) whole) fits)
    ∙ ap (λ l. rewritten_by gate v (run_of l)) (sym whole)
