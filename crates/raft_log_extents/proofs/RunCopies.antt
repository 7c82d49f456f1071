-- Entries that are read from runs, a run at a time.
use Rattle.std.proofs.Common.{◌≡◌, ℕ, zero, suc, ◌+◌, ◌-◌, ◌*◌, ◌<◌, ◌≤◌, ◌^◌, Bool, true, false, List, [], ◌∷◌, ◌++◌, length, take, drop, slice_index_or, refl, sym, ap, ◌∙◌, ◌⊎◌, inl, inr, arith, append_assoc, drop-drop, get_or-drop, length-drop, length-take-le}
use Rattle.std.proofs.lemmas.List.{get_or_default}
use Rattle.std.proofs.lemmas.Bool.{cases_lt}
use Rattle.raft_log_record_base.specs.declared.pipe_log.LogQueue.{LogQueue}
use Rattle.raft_log_record_items.specs.declared.entry.EntryIndex.{EntryIndex}
use Rattle.raft_log_extents.specs.declared.place.Place.{Place}
use Rattle.raft_log_extents.specs.declared.run.Run.{Run}
use Rattle.raft_log_extents.specs.Entries.{entries_of, entry_of}
use Rattle.raft_log_extents.specs.Blocks.{in_block}
use Rattle.raft_log_extents.specs.Runs.{IsFound, IsSound, block, counts, expand, laid, places_of, span, total, width, widths}
use Rattle.raft_log_extents.specs.Words.{whole_places}
use Rattle.raft_log_extents.proofs.Replacing.{take_next}
use Rattle.raft_log_extents.proofs.RunLists.{Around, around, part_is, whole}
use Rattle.raft_log_extents.proofs.RunParts.{part_apart, part_placed}
use Rattle.raft_log_extents.proofs.WholePlaces.{length-whole, whole-plus}
use Rattle.raft_log_extents.proofs.RunSpots.{below_end, fits_each, got_inner, got_last, no_width, rise, split_there}
use Rattle.raft_log_extents.proofs.RunTurns.{all_entries, counts_more}

-- the entries at places, and those at places behind them
pub entries_of-append : (q : LogQueue) (n : ℕ) (xs ys : List Place) → entries_of q n (xs ++ ys) ≡ entries_of q n xs ++ entries_of q (n + length xs) ys
entries_of-append q n [] ys = ap (λ k. entries_of q k ys) (let same : n ≡ n + 0 = omega arith in same)
entries_of-append q n (x ∷ xs) ys =
    ap (λ l. entry_of q n x ∷ l)
    (entries_of-append q (n + 1) xs ys
    ∙ ap (λ k. entries_of q (n + 1) xs ++ entries_of q k ys) (let same : n + 1 + length xs ≡ n + suc (length xs) = omega arith in same))

take_both : {A : Type 0} (a c : ℕ) (xs : List A) → a ≤ length xs → take (a + c) xs ≡ take a xs ++ take c (drop a xs)
take_both zero c xs h = ap (λ n. take n xs) (let same : 0 + c ≡ c = omega arith in same)
take_both (suc a) c [] h = absurd (omega arith)
take_both (suc a) c (x ∷ xs) h =
    ap (λ n. take n (x ∷ xs)) (let same : suc a + c ≡ suc (a + c) = omega arith in same) ∙ ap (λ l. x ∷ l) (take_both a c xs (omega arith))

-- one entry more
pub copied_next : (q : LogQueue) (n from i : ℕ) (ps : List Place) (p : Place) (old now new : List EntryIndex) → from + i < length ps → p ≡ slice_index_or ps (from + i) p
    → now ≡ old ++ entries_of q n (take i (drop from ps)) → new ≡ now ++ (entry_of q (n + i) p ∷ []) → new ≡ old ++ entries_of q n (take (i + 1) (drop from ps))
copied_next q n from i ps p old now new h is so e =
    let rest = drop from ps in
    let long = length-drop from ps in
    let front = length-take-le i rest (omega (arith, long, h)) in
    let next : take (i + 1) rest ≡ take i rest ++ (p ∷ []) =
    take_next i rest p (omega (arith, long, h)) ∙ ap (λ x. take i rest ++ (x ∷ [])) (get_or-drop from ps i p ∙ sym is) in
    e ∙ ap (λ l. l ++ (entry_of q (n + i) p ∷ [])) so ∙ append_assoc old (entries_of q n (take i rest)) (entry_of q (n + i) p ∷ [])
    ∙ ap (λ l. old ++ l)
    (ap (λ k. entries_of q n (take i rest) ++ (entry_of q k p ∷ [])) (let same : n + i ≡ n + length (take i rest) = omega (arith, front) in same)
    ∙ sym (entries_of-append q n (take i rest) (p ∷ [])) ∙ ap (entries_of q n) (sym next))

-- the entries of one run more
pub copied_more : (q : LogQueue) (n from i c : ℕ) (ps : List Place) (old now new : List EntryIndex) → from + i ≤ length ps
    → now ≡ old ++ entries_of q n (take i (drop from ps)) → new ≡ now ++ entries_of q (n + i) (take c (drop (from + i) ps))
    → new ≡ old ++ entries_of q n (take (i + c) (drop from ps))
copied_more q n from i c ps old now new h so e =
    let rest = drop from ps in
    let long = length-drop from ps in
    let front = length-take-le i rest (omega (arith, long, h)) in
    let more = take c (drop (from + i) ps) in
    let next : take (i + c) rest ≡ take i rest ++ more =
    take_both i c rest (omega (arith, long, h)) ∙ ap (λ l. take i rest ++ take c l) (drop-drop i from ps) in
    e ∙ ap (λ l. l ++ entries_of q (n + i) more) so ∙ append_assoc old (entries_of q n (take i rest)) (entries_of q (n + i) more)
    ∙ ap (λ l. old ++ l)
    (ap (λ k. entries_of q n (take i rest) ++ entries_of q k more) (let same : n + i ≡ n + length (take i rest) = omega (arith, front) in same)
    ∙ sym (entries_of-append q n (take i rest) more) ∙ ap (entries_of q n) (sym next))

-- the same of places that are kept as numbers
pub alone_more : (q : LogQueue) (n i c : ℕ) (ws : List ℕ) (old now new : List EntryIndex) → now ≡ old ++ entries_of q n (whole_places i ws)
    → new ≡ now ++ entries_of q (n + i) (whole_places c (drop (i * 8) ws)) → new ≡ old ++ entries_of q n (whole_places (i + c) ws)
alone_more q n i c ws old now new so e =
    let more = whole_places c (drop (i * 8) ws) in
    let long = length-whole i ws in
    e ∙ ap (λ l. l ++ entries_of q (n + i) more) so ∙ append_assoc old (entries_of q n (whole_places i ws)) (entries_of q (n + i) more)
    ∙ ap (λ l. old ++ l)
    (ap (λ k. entries_of q n (whole_places i ws) ++ entries_of q k more) (let same : n + i ≡ n + length (whole_places i ws) = omega (arith, long) in same)
    ∙ sym (entries_of-append q n (whole_places i ws) more) ∙ ap (entries_of q n) (sym (whole-plus i c ws)))

-- the run at this position has the entry at another
pub record Has (rs : List Run) (at position : ℕ) : Type 0 where
  pub there : at < length rs
  pub low : counts (take at rs) ≤ position
  pub high : position < counts (take (at + 1) rs)

-- the places of a run, by whether its entries have one length
even_laid : (e : Bool) (r : Run) (ss : List ℕ) → e ≡ true → laid e r ss ≡ laid true r []
even_laid true r ss h = refl
even_laid false r ss h = absurd (let clash : false ≡ true = h in let never : ⊥ = cc in never)

uneven_laid : (e : Bool) (r : Run) (ss : List ℕ) → e ≡ false → laid e r ss ≡ laid false r ss
uneven_laid true r ss h = absurd (let clash : true ≡ false = h in let never : ⊥ = cc in never)
uneven_laid false r ss h = refl

-- the place behind so many others whose start and end were read, and the last one, whose start was read
pub uneven_inner : (r : Run) (starts : List ℕ) (from within i o p : ℕ) (d : Place) → from + r.count ≤ length starts → within + i + 1 < r.count
    → o ≡ slice_index_or starts (from + within + i) o → p ≡ slice_index_or starts (from + within + i + 1) p
    → slice_index_or (laid false r (drop from starts)) (within + i) d ≡ in_block (block r) o (p - o)
uneven_inner r starts from within i o p d all low o_is p_is =
    got_inner false r starts from (within + i) o p d refl all low
    (o_is ∙ ap (λ n. slice_index_or starts n o) (let same : from + within + i ≡ from + (within + i) = omega arith in same))
    (p_is ∙ ap (λ n. slice_index_or starts n p) (let same : from + within + i + 1 ≡ from + (within + i) + 1 = omega arith in same))

pub uneven_last : (r : Run) (starts : List ℕ) (from within i o : ℕ) (d : Place) → from + r.count ≤ length starts → r.count ≡ within + i + 1
    → o ≡ slice_index_or starts (from + within + i) o → slice_index_or (laid false r (drop from starts)) (within + i) d ≡ in_block (block r) o r.size
uneven_last r starts from within i o d all low o_is =
    got_last false r starts from (within + i) o d refl all low
    (o_is ∙ ap (λ n. slice_index_or starts n o) (let same : from + within + i ≡ from + (within + i) = omega arith in same))

-- A run at a position of the list.
module _ (front base len at : ℕ) (rs : List Run) (ss : List ℕ) (r : Run) (sound : IsSound front base len rs ss) (there : at < length rs) (is : r ≡ slice_index_or rs at r) where
  here : Around front base len rs ss (take at rs) r (drop (at + 1) rs)
  here = around front base len rs ss (take at rs) r (drop (at + 1) rs) sound (split_there rs at r there is)

  pub first_is : r.first ≡ front + counts (take at rs)
  first_is = here.first

  pub starts_at : r.at ≡ base + widths (take at rs)
  starts_at = here.at

  pub end_is : counts (take (at + 1) rs) ≡ counts (take at rs) + total r
  end_is = counts_more rs at r there is

  pub all_starts : (r.at - base) + width r ≤ length ss
  all_starts =
      let begins = starts_at in
      let all = here.starts in omega (arith, begins, all)

  pub starts_fit : r.even ≡ false → (r.at - base) + r.count ≤ length ss
  starts_fit h =
      let all = all_starts in
      let wide = no_width r.even r.count h in omega (arith, all, wide)

  pub offsets_fit : r.even ≡ true → (j : ℕ) → j < r.count → r.start + j * r.size < 2 ^ 32
  offsets_fit = fits_each r.even r here.fits

  -- so many places behind others of the run
  places_are : (i c : ℕ) → i + c ≤ total r → take c (drop i (places_of r (drop (r.at - base) ss))) ≡ take c (drop (counts (take at rs) + i) (expand rs ss))
  places_are i c h =
      let begins = starts_at in
      let wide : r.at - base ≡ widths (take at rs) = omega (arith, begins) in
      ap (λ n. take c (drop i (places_of r (drop n ss)))) wide ∙ sym (part_is front base len rs ss (take at rs) r (drop (at + 1) rs) here i c h)

  enough : width r ≤ length (drop (r.at - base) ss)
  enough =
      let all = all_starts in
      let rest = length-drop (r.at - base) ss in omega (arith, all, rest)

  -- in its block
  placed_are : (i c : ℕ) → i + c ≤ r.count → take c (drop i (laid r.even r (drop (r.at - base) ss))) ≡ take c (drop (counts (take at rs) + i) (expand rs ss))
  placed_are i c h = sym (part_placed r (drop (r.at - base) ss) enough i c h) ∙ places_are i c (omega (arith, h))

  pub even_are : (i c : ℕ) → r.even ≡ true → i + c ≤ r.count → take c (drop i (laid true r [])) ≡ take c (drop (counts (take at rs) + i) (expand rs ss))
  even_are i c e h = ap (λ l. take c (drop i l)) (sym (even_laid r.even r (drop (r.at - base) ss) e)) ∙ placed_are i c h

  pub uneven_are : (i c : ℕ) → r.even ≡ false → i + c ≤ r.count → take c (drop i (laid false r (drop (r.at - base) ss))) ≡ take c (drop (counts (take at rs) + i) (expand rs ss))
  uneven_are i c e h = ap (λ l. take c (drop i l)) (sym (uneven_laid r.even r (drop (r.at - base) ss) e)) ∙ placed_are i c h

  -- and alone
  pub alone_are : (i c : ℕ) → r.count ≤ i → i + c ≤ total r → whole_places c (drop (r.at - base + span r i) ss) ≡ take c (drop (counts (take at rs) + i) (expand rs ss))
  alone_are i c h k =
      ap (whole_places c) (sym (drop-drop (span r i) (r.at - base) ss)) ∙ sym (part_apart r (drop (r.at - base) ss) enough i c h k) ∙ places_are i c k

-- a run that was found
pub found_has : (front base len position k : ℕ) (rs : List Run) (ss : List ℕ) → IsSound front base len rs ss → position < len → IsFound (front + position) rs k → Has rs k position
found_has front base len position k [] ss sound h found = absurd (let none = found.within in omega (arith, none))
found_has front base len position k (x ∷ rs) ss sound h found =
    let all = x ∷ rs in
    let r = slice_index_or all k x in
    let is : r ≡ slice_index_or all k r = get_or_default all k x r found.within in
    let here = around front base len all ss (take k all) r (drop (k + 1) all) sound (split_there all k r found.within is) in
    let first = here.first in
    let low = found.low x in
    let high = below_end front base len (front + position) k all ss r here found (omega (arith, h)) in
    let end = counts_more all k r found.within is in
    record {
      there = found.within;
      low = omega (arith, first, low);
      high = omega (arith, first, high, end);
    }

-- the run behind another one
pub next_has : (front base len position k : ℕ) (rs : List Run) (ss : List ℕ) → IsSound front base len rs ss → position < len → k ≤ length rs → counts (take k rs) ≡ position → Has rs k position
next_has front base len position k rs ss sound h low end = by (cases_lt k (length rs))
  where
    by : (k < length rs) ⊎ (length rs ≤ k) → Has rs k position
    by (inl there) =
        let more = rise k (k + 1) rs (whole front base rs sound.numbered) (omega arith) (omega (arith, there)) in
        record { there = there; low = omega (arith, end); high = omega (arith, more, end) }
    by (inr past) = let all = all_entries front base len rs ss sound k past in absurd (omega (arith, all, end, h))
