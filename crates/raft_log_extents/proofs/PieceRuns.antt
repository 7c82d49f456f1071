-- A piece of places as one run, and how many pieces places have.
use Rattle.std.proofs.Common.{◌≡◌, ℕ, zero, suc, ◌+◌, ◌-◌, ◌<◌, ◌≤◌, true, ◌&&◌, List, [], ◌∷◌, length, map, take, drop, slice_index_or, if◌then◌else◌, ◌==◌, refl, sym, ap, ap₂, ◌∙◌, arith}
use Rattle.raft_log_model_laws.proofs.Public.{at_bool, both, from_eq_true, if_true}
use Rattle.raft_log_extents.specs.declared.place.Place.{Place}
use Rattle.raft_log_extents.specs.Blocks.{AreOnePiece, even_places, follows, gaps, in_block, pieces, uneven_places}
use Rattle.raft_log_extents.proofs.Replacing.{drop_at}

-- the place lies in the block
abbrev pub LiesIn : Place → Place → Type 0
LiesIn b p = (b.file ≡ p.file) × (b.offset ≡ p.offset) × (b.len ≡ p.len)

pub in_block_is : (b p : Place) (o s : ℕ) → LiesIn b p → o ≡ p.entry_offset → s ≡ p.entry_len → in_block b o s ≡ p
in_block_is b p o s h e f = λ i. record { file = h.0 i; offset = h.1 i; len = h.2 i; entry_offset = e i; entry_len = f i }

-- what follows a place lies in its block, behind it
pub behind : (b p q : Place) → LiesIn b p → follows p q ≡ true → LiesIn b q × (p.entry_offset + p.entry_len ≡ q.entry_offset)
behind b p q h f =
    let (most, offset) = both (((p.file == q.file) && (p.offset == q.offset)) && (p.len == q.len)) (p.entry_offset + p.entry_len == q.entry_offset) f in
    let (two, len) = both ((p.file == q.file) && (p.offset == q.offset)) (p.len == q.len) most in
    let (file, block) = both (p.file == q.file) (p.offset == q.offset) two in (
      (h.0 ∙ from_eq_true p.file q.file file, h.1 ∙ from_eq_true p.offset q.offset block, h.2 ∙ from_eq_true p.len q.len len),
      from_eq_true (p.entry_offset + p.entry_len) q.entry_offset offset,
    )

-- each place has this length
abbrev pub HaveLength : ℕ → List Place → Type 0
HaveLength s [] = Unit {0}
HaveLength s (p ∷ ps) = (p.entry_len ≡ s) × HaveLength s ps

-- the last place has this length
abbrev pub LastHas : ℕ → List Place → Type 0
LastHas s [] = Unit {0}
LastHas s (p ∷ []) = p.entry_len ≡ s
LastHas s (p ∷ (q ∷ ps)) = LastHas s (q ∷ ps)

pub even_are : (b p : Place) (ps : List Place) (s o : ℕ) → LiesIn b p → o ≡ p.entry_offset → AreOnePiece (p ∷ ps) → HaveLength s (p ∷ ps)
    → even_places b s o (length (p ∷ ps)) ≡ p ∷ ps
even_are b p [] s o h e one len = ap (λ q. q ∷ []) (in_block_is b p o s h e (sym len.0))
even_are b p (q ∷ ps) s o h e one len =
    let next = behind b p q h one.0 in
    let size = len.0 in
    let offset = next.1 in
    ap₂ ◌∷◌ (in_block_is b p o s h e (sym size)) (even_are b q ps s (o + s) next.0 (omega (arith, e, size, offset)) one.1 len.1)

pub uneven_are : (b p : Place) (ps : List Place) (s : ℕ) → LiesIn b p → AreOnePiece (p ∷ ps) → LastHas s (p ∷ ps)
    → uneven_places b s (map (λ q. q.entry_offset) (p ∷ ps)) ≡ p ∷ ps
uneven_are b p [] s h one len = ap (λ q. q ∷ []) (in_block_is b p p.entry_offset s h refl (sym len))
uneven_are b p (q ∷ ps) s h one len =
    let next = behind b p q h one.0 in
    let offset = next.1 in
    ap₂ ◌∷◌ (in_block_is b p p.entry_offset (q.entry_offset - p.entry_offset) h refl (omega (arith, offset))) (uneven_are b q ps s next.0 one.1 len)

-- One place more.
pub one_more : (ps : List Place) (i : ℕ) (d : Place) → i + 1 < length ps → AreOnePiece (take (suc i) ps)
    → follows (slice_index_or ps i d) (slice_index_or ps (suc i) d) ≡ true → AreOnePiece (take (suc (suc i)) ps)
one_more [] i d h one f = absurd (omega arith)
one_more (p ∷ []) i d h one f = absurd (omega arith)
one_more (p ∷ (q ∷ ps)) zero d h one f = (f, tt)
one_more (p ∷ (q ∷ ps)) (suc i) d h one f = (one.0, one_more (q ∷ ps) i d (omega arith) one.1 f)

gaps_next : (ps : List Place) (i : ℕ) (d : Place) → i + 1 < length ps
    → gaps (slice_index_or ps i d) (drop (suc i) ps)
    ≡ (if follows (slice_index_or ps i d) (slice_index_or ps (suc i) d) then gaps (slice_index_or ps (suc i) d) (drop (suc (suc i)) ps) else suc (gaps (slice_index_or ps (suc i) d) (drop (suc (suc i)) ps)))
gaps_next ps i d h =
    ap (gaps (slice_index_or ps i d))
    (drop_at (suc i) ps d (omega arith) ∙ ap (λ n. slice_index_or ps (suc i) d ∷ drop n ps) (let same : suc i + 1 ≡ suc (suc i) = omega arith in same))

pub no_gap : (ps : List Place) (i : ℕ) (d : Place) → i + 1 < length ps → follows (slice_index_or ps i d) (slice_index_or ps (suc i) d) ≡ true
    → gaps (slice_index_or ps i d) (drop (suc i) ps) ≡ gaps (slice_index_or ps (suc i) d) (drop (suc (suc i)) ps)
no_gap ps i d h f =
    gaps_next ps i d h
    ∙ if_true (follows (slice_index_or ps i d) (slice_index_or ps (suc i) d)) (gaps (slice_index_or ps (suc i) d) (drop (suc (suc i)) ps)) (suc (gaps (slice_index_or ps (suc i) d) (drop (suc (suc i)) ps))) f

-- Fewer places have no more pieces.
pub pieces_le : (ps : List Place) → pieces ps ≤ length ps
pieces_le [] = omega arith
pieces_le (p ∷ ps) = let few = gaps_le p ps in omega (arith, few)
  where
    gaps_le : (p : Place) (ps : List Place) → gaps p ps ≤ length ps
    gaps_le p [] = omega arith
    gaps_le p (q ∷ ps) = let few = gaps_le q ps in
        at_bool (follows p q) (λ b. (if b then gaps q ps else suc (gaps q ps)) ≤ suc (length ps)) (λ _. omega (arith, few)) (λ _. omega (arith, few))

gaps_take : (n : ℕ) (p : Place) (ps : List Place) → gaps p (take n ps) ≤ gaps p ps
gaps_take zero p ps = omega arith
gaps_take (suc n) p [] = omega arith
gaps_take (suc n) p (q ∷ ps) = let few = gaps_take n q ps in
    at_bool (follows p q) (λ b. (if b then gaps q (take n ps) else suc (gaps q (take n ps))) ≤ (if b then gaps q ps else suc (gaps q ps))) (λ _. omega (arith, few)) (λ _. omega (arith, few))

pub pieces_take : (n : ℕ) (ps : List Place) → pieces (take n ps) ≤ pieces ps
pieces_take zero ps = omega arith
pieces_take (suc n) [] = omega arith
pieces_take (suc n) (p ∷ ps) = let few = gaps_take n p ps in omega (arith, few)

pub pieces_drop : (n : ℕ) (ps : List Place) → pieces (drop n ps) ≤ pieces ps
pieces_drop zero ps = omega arith
pieces_drop (suc n) [] = omega arith
pieces_drop (suc n) (p ∷ ps) = let few = pieces_drop n ps in let rest = behind_le p ps in omega (arith, few, rest)
  where
    behind_le : (p : Place) (ps : List Place) → pieces ps ≤ suc (gaps p ps)
    behind_le p [] = omega arith
    behind_le p (q ∷ ps) =
        at_bool (follows p q) (λ b. suc (gaps q ps) ≤ suc (if b then gaps q ps else suc (gaps q ps))) (λ _. omega arith) (λ _. omega arith)
