-- Entries that are read: those in Rewrite, and behind them those in Append.
use Rattle.std.proofs.Common.{◌≡◌, ℕ, suc, ◌+◌, ◌-◌, ◌<◌, ◌≤◌, List, [], ◌∷◌, ◌++◌, length, take, drop, nat_lt, refl, sym, ap, ap₂, ◌∙◌, arith, append_assoc, drop-drop, length-drop, length-take, length-take-le, take-append-drop, take-take}
use Rattle.std.proofs.lemmas.List.{drop-take}
use Rattle.raft_log_record_base.specs.declared.pipe_log.FileBlockHandle.{FileBlockHandle}
use Rattle.raft_log_record_base.specs.declared.pipe_log.LogQueue.TheVariants.{Append, Rewrite}
use Rattle.raft_log_record_items.specs.declared.entry.EntryIndex.{EntryIndex}
use Rattle.raft_log_model_laws.proofs.Public.{lt_false, lt_true}
use Rattle.raft_log_extents.specs.declared.place.Place.{Place}
use Rattle.raft_log_extents.specs.Blocks.{between, in_block}
use Rattle.raft_log_extents.specs.Entries.{entries_between, entries_of, entry_of, place_at, queue_of}
use Rattle.raft_log_memtable_index.specs.Shown.{Shown}
use Rattle.raft_log_memtable.specs.Reads.{entries_from}

-- entries before the border lie in Rewrite
rewritten_only : (v : Shown) (n k : ℕ) (ps : List Place) → k ≡ v.first + n → (0 < length ps → n + length ps ≤ v.rewritten) → entries_from v n ps ≡ entries_of Rewrite k ps
rewritten_only v n k [] e h = refl
rewritten_only v n k (p ∷ ps) e h =
    let all = h (omega arith) in
    ap₂ (λ b i. entry_of (queue_of b) i p ∷ entries_from v (n + 1) ps) (lt_true n v.rewritten (omega (arith, all))) (sym e)
    ∙ ap (λ l. entry_of Rewrite k p ∷ l) (rewritten_only v (n + 1) (k + 1) ps (omega (arith, e)) (λ some. omega (arith, all)))

-- entries from the border on lie in Append
appended_only : (v : Shown) (n k : ℕ) (ps : List Place) → k ≡ v.first + n → (0 < length ps → v.rewritten ≤ n) → entries_from v n ps ≡ entries_of Append k ps
appended_only v n k [] e h = refl
appended_only v n k (p ∷ ps) e h =
    let all = h (omega arith) in
    ap₂ (λ b i. entry_of (queue_of b) i p ∷ entries_from v (n + 1) ps) (lt_false n v.rewritten all) (sym e)
    ∙ ap (λ l. entry_of Append k p ∷ l) (appended_only v (n + 1) (k + 1) ps (omega (arith, e)) (λ some. omega (arith, all)))

from_append : (v : Shown) (n : ℕ) (ps qs : List Place) → entries_from v n (ps ++ qs) ≡ entries_from v n ps ++ entries_from v (n + length ps) qs
from_append v n [] qs = ap (λ k. entries_from v k qs) (let same : n ≡ n + 0 = omega arith in same)
from_append v n (p ∷ ps) qs =
    ap (λ l. entry_of (queue_of (nat_lt n v.rewritten)) (v.first + n) p ∷ l)
    (from_append v (n + 1) ps qs
    ∙ ap (λ k. entries_from v (n + 1) ps ++ entries_from v k qs) (let same : n + 1 + length ps ≡ n + suc (length ps) = omega arith in same))

-- both parts of what is read
pub parts_read : (v : Shown) (n count before first : ℕ) (ps qs : List Place) (old mid new : List EntryIndex) → first ≡ v.first → qs ≡ ps → n + count ≤ length ps → before ≤ count
    → (0 < before → n + before ≤ v.rewritten) → (0 < count - before → v.rewritten ≤ n + before)
    → mid ≡ old ++ entries_of Rewrite (first + n) (take before (drop n qs))
    → new ≡ mid ++ entries_of Append (first + (n + before)) (take (count - before) (drop (n + before) qs))
    → new ≡ old ++ entries_from v n (take count (drop n ps))
parts_read v n count before first ps qs old mid new e same h few low high one two =
    let rest = drop n ps in
    let long = length-drop n ps in
    let front = take before rest in
    let back = take (count - before) (drop (n + before) ps) in
    let front_long = length-take-le before rest (omega (arith, long, h, few)) in
    let gone = length-drop (n + before) ps in
    let back_long = length-take-le (count - before) (drop (n + before) ps) (omega (arith, gone, h, few)) in
    let whole : take count rest ≡ front ++ back =
    sym (take-append-drop before (take count rest))
    ∙ ap₂ ◌++◌ (take-take before count rest few)
    (ap (λ m. drop before (take m rest)) (let all : count ≡ before + (count - before) = omega (arith, few) in all)
    ∙ drop-take before (count - before) rest ∙ ap (take (count - before)) (drop-drop before n ps)) in
    let first_part = rewritten_only v n (first + n) front (omega (arith, e)) (λ some. let some_of = low (omega (arith, front_long, some)) in omega (arith, front_long, some_of)) in
    let last_part = appended_only v (n + length front) (first + (n + before)) back (omega (arith, e, front_long))
    (λ some. let some_of = high (omega (arith, back_long, some)) in omega (arith, front_long, some_of)) in
    two ∙ ap₂ (λ l q. l ++ entries_of Append (first + (n + before)) (take (count - before) (drop (n + before) q)))
    (one ∙ ap (λ q. old ++ entries_of Rewrite (first + n) (take before (drop n q))) same) same
    ∙ append_assoc old (entries_of Rewrite (first + n) front) (entries_of Append (first + (n + before)) back)
    ∙ ap (λ l. old ++ l) (sym (ap (entries_from v n) whole ∙ from_append v n front back ∙ ap₂ ◌++◌ first_part last_part))

-- where a place in its block is makes no difference to the places between bounds of that block
between_block : (p : Place) (xs : List ℕ) → between (in_block p 0 0) xs ≡ between p xs
between_block p [] = refl
between_block p (x ∷ []) = refl
between_block p (x ∷ (y ∷ ys)) = ap (λ l. in_block p x (y - x) ∷ l) (between_block p (y ∷ ys))

-- the entries between bounds of one block, all before the border, or all from it on
module _ (v : Shown) (n index limit : ℕ) (ps : List Place) (block : FileBlockHandle) (p : Place) (bounds : List ℕ) (at : index ≡ v.first + n)
    (same : place_at block ≡ in_block p 0 0) (long : length bounds ≤ limit + 1) (are : between p bounds ≡ take (length bounds - 1) (drop n ps)) where
  abbrev pub part : List Place
  part = take (length bounds - 1) (drop n ps)

  as_places : entries_between block index bounds ≡ entries_of block.id.queue index part
  as_places = ap (entries_of block.id.queue index) (ap (λ b. between b bounds) same ∙ between_block p bounds ∙ are)

  pub rewritten_between : block.id.queue ≡ Rewrite → n + limit ≤ v.rewritten → entries_between block index bounds ≡ entries_from v n (take (length bounds - 1) (drop n ps))
  rewritten_between queue low =
      let few = length-take (length bounds - 1) (drop n ps) in
      as_places ∙ ap (λ q. entries_of q index part) queue ∙ sym (rewritten_only v n index part at (λ some. omega (arith, few, low, long)))

  pub appended_between : block.id.queue ≡ Append → v.rewritten ≤ n → entries_between block index bounds ≡ entries_from v n (take (length bounds - 1) (drop n ps))
  appended_between queue high =
      as_places ∙ ap (λ q. entries_of q index part) queue ∙ sym (appended_only v n index part at (λ some. high))
