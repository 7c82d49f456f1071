-- Entries that are gone through one after another: where their first piece ends, and the run of a piece.
use Rattle.std.proofs.Common.{◌≡◌, ℕ, zero, suc, ◌+◌, ◌-◌, ◌<◌, ◌≤◌, Bool, true, false, Option, Some, None, List, [], ◌∷◌, ◌++◌, length, map, take, drop, slice_index_or, refl, sym, ap, ap₂, subst, ◌∙◌, arith, append_assoc, append-nil, drop-drop, take-add}
use Rattle.std.proofs.lemmas.List.{drop_all, drop-map, get_or-map, get_or_default, length-map, take-map, take_all}
use Rattle.raft_log_record_items.specs.declared.entry.EntryIndex.{EntryIndex}
use Rattle.raft_log_extents.specs.declared.place.Place.{Place}
use Rattle.raft_log_extents.specs.Blocks.{AreOnePiece, even_places, follows, gaps, in_block, pieces, uneven_places}
use Rattle.raft_log_record_base.specs.declared.pipe_log.FileBlockHandle.{FileBlockHandle}
use Rattle.raft_log_extents.specs.Entries.{place_in, place_of}
use Rattle.raft_log_extents.specs.declared.run.Run.{Run}
use Rattle.raft_log_extents.specs.Runs.{block, laid, start_of_entry, starts_for}
use Rattle.raft_log_extents.proofs.PieceRuns.{HaveLength, LastHas, even_are, no_gap, one_more, pieces_drop, pieces_take, uneven_are}

-- the places of entries that were read
pub place_at : (es : List EntryIndex) (i : ℕ) (e : EntryIndex) (d : Place) → i < length es → e ≡ slice_index_or es i e → slice_index_or (map place_of es) i d ≡ place_of e
place_at es i e d h is = get_or-map place_of es i e d h ∙ ap place_of (sym is)

module _ (es : List EntryIndex) (i : ℕ) (a b : EntryIndex) (first : 1 ≤ i) (low : i < length es) (a_is : a ≡ slice_index_or es (i - 1) a) (b_is : b ≡ slice_index_or es i b) where
  abbrev ps : List Place
  ps = map place_of es

  abbrev d : Place
  d = place_of a

  one : i ≡ suc (i - 1)
  one = omega (arith, first)

  long : (i - 1) + 1 < length ps
  long = let same = length-map es place_of in omega (arith, first, low, same)

  before : slice_index_or ps (i - 1) d ≡ place_of a
  before = place_at es (i - 1) a d (omega (arith, first, low)) a_is

  after : slice_index_or ps (suc (i - 1)) d ≡ place_of b
  after = ap (λ n. slice_index_or ps n d) (sym one) ∙ place_at es i b d low b_is

  as_test : (t : Bool) → follows (place_of a) (place_of b) ≡ t → follows (slice_index_or ps (i - 1) d) (slice_index_or ps (suc (i - 1)) d) ≡ t
  as_test t f = ap₂ follows before after ∙ f

  pub next_one : AreOnePiece (map place_of (take i es)) → follows (place_of a) (place_of b) ≡ true → AreOnePiece (map place_of (take (i + 1) es))
  next_one h f =
      subst AreOnePiece (ap (λ n. take n ps) (let same : suc (suc (i - 1)) ≡ i + 1 = omega (arith, first) in same) ∙ take-map place_of (i + 1) es)
      (one_more ps (i - 1) d long (subst AreOnePiece (sym (take-map place_of i es) ∙ ap (λ n. take n ps) one) h) (as_test true f))

  start : (all : ℕ) → all ≡ suc (gaps (place_of a) (map place_of (drop i es))) → all ≡ suc (gaps (slice_index_or ps (i - 1) d) (drop (suc (i - 1)) ps))
  start all h = h ∙ ap₂ (λ p l. suc (gaps p l)) (sym before) (sym (drop-map place_of i es) ∙ ap (λ n. drop n ps) one)

  pub next_pieces : (all : ℕ) → all ≡ suc (gaps (place_of a) (map place_of (drop i es))) → follows (place_of a) (place_of b) ≡ true
      → all ≡ suc (gaps (place_of b) (map place_of (drop (i + 1) es)))
  next_pieces all h f =
      start all h ∙ ap suc (no_gap ps (i - 1) d long (as_test true f))
      ∙ ap₂ (λ p l. suc (gaps p l)) after (ap (λ n. drop n ps) (let same : suc (suc (i - 1)) ≡ i + 1 = omega (arith, first) in same) ∙ drop-map place_of (i + 1) es)

-- all are one piece
pub no_more_pieces : (es : List EntryIndex) (n : ℕ) (p : Place) (all : ℕ) → length es ≤ n → all ≡ suc (gaps p (map place_of (drop n es))) → all ≡ 1 + pieces (map place_of (drop n es))
no_more_pieces es n p all h e =
    e ∙ ap (λ l. suc (gaps p (map place_of l))) (drop_all n es h) ∙ sym (ap (λ l. 1 + pieces (map place_of l)) (drop_all n es h))

-- Lengths and starts.
pub len_of : (e : EntryIndex) → (place_of e).entry_len ≡ e.entry_len
len_of e = by e.entries
  where
    by : (o : Option FileBlockHandle) → (place_in o e).entry_len ≡ e.entry_len
    by None = refl
    by (Some b) = refl

pub start_of : (e : EntryIndex) → (place_of e).entry_offset ≡ e.entry_offset
start_of e = by e.entries
  where
    by : (o : Option FileBlockHandle) → (place_in o e).entry_offset ≡ e.entry_offset
    by None = refl
    by (Some b) = refl

pub have_length : (es : List EntryIndex) (s : ℕ) → ((k : ℕ) (d : EntryIndex) → k < length es → (slice_index_or es k d).entry_len ≡ s) → HaveLength s (map place_of es)
have_length [] s h = tt
have_length (e ∷ es) s h = (len_of e ∙ h 0 e (omega arith), have_length es s (λ k d l. h (suc k) d (omega (arith, l))))

pub last_has : (es : List EntryIndex) (n : ℕ) (e : EntryIndex) → length es ≡ n + 1 → e ≡ slice_index_or es n e → LastHas e.entry_len (map place_of es)
last_has [] n e h is = tt
last_has (x ∷ []) zero e h is = len_of x ∙ ap (λ (y : EntryIndex). y.entry_len) (sym is)
last_has (x ∷ []) (suc n) e h is = absurd (omega arith)
last_has (x ∷ (y ∷ es)) zero e h is = absurd (omega arith)
last_has (x ∷ (y ∷ es)) (suc n) e h is = last_has (y ∷ es) n e (omega arith) is

starts_are : (es : List EntryIndex) → map (λ p. p.entry_offset) (map place_of es) ≡ map start_of_entry es
starts_are [] = refl
starts_are (e ∷ es) = ap₂ ◌∷◌ (start_of e) (starts_are es)

-- a piece whose entries have one length
pub even_piece : (es : List EntryIndex) (b p : Place) (front : EntryIndex) (s : ℕ) → 0 < length es → front ≡ slice_index_or es 0 front → p ≡ place_of front
    → b ≡ in_block p 0 0 → AreOnePiece (map place_of es) → ((k : ℕ) (d : EntryIndex) → k < length es → (slice_index_or es k d).entry_len ≡ s)
    → even_places b s p.entry_offset (length es) ≡ map place_of es
even_piece [] b p front s h is p_is b_is one lens = absurd (omega arith)
even_piece (e ∷ es) b p front s h is p_is b_is one lens =
    let same : p ≡ place_of e = p_is ∙ ap place_of is in
    ap (even_places b s p.entry_offset) (let long = length-map (e ∷ es) place_of in let same : length (e ∷ es) ≡ length (map place_of (e ∷ es)) = omega (arith, long) in same)
    ∙ even_are b (place_of e) (map place_of es) s p.entry_offset
    (ap (λ (x : Place). x.file) (b_is ∙ ap (λ x. in_block x 0 0) same), ap (λ (x : Place). x.offset) (b_is ∙ ap (λ x. in_block x 0 0) same), ap (λ (x : Place). x.len) (b_is ∙ ap (λ x. in_block x 0 0) same))
    (ap (λ (x : Place). x.entry_offset) same) one (have_length (e ∷ es) s lens)

-- a piece
pub uneven_piece : (es : List EntryIndex) (b p : Place) (front last : EntryIndex) → 0 < length es → front ≡ slice_index_or es 0 front → p ≡ place_of front
    → b ≡ in_block p 0 0 → AreOnePiece (map place_of es) → last ≡ slice_index_or es (length es - 1) last
    → uneven_places b last.entry_len (map start_of_entry es) ≡ map place_of es
uneven_piece [] b p front last h is p_is b_is one last_is = absurd (omega arith)
uneven_piece (e ∷ es) b p front last h is p_is b_is one last_is =
    let same : p ≡ place_of e = p_is ∙ ap place_of is in
    ap (uneven_places b last.entry_len) (sym (starts_are (e ∷ es)))
    ∙ uneven_are b (place_of e) (map place_of es) last.entry_len
    (ap (λ (x : Place). x.file) (b_is ∙ ap (λ x. in_block x 0 0) same), ap (λ (x : Place). x.offset) (b_is ∙ ap (λ x. in_block x 0 0) same), ap (λ (x : Place). x.len) (b_is ∙ ap (λ x. in_block x 0 0) same))
    one (last_has (e ∷ es) (length (e ∷ es) - 1) last (omega arith) last_is)

-- some of the entries have no more pieces
pub pieces_within : (es : List EntryIndex) (g m : ℕ) → pieces (map place_of (take m (drop g es))) ≤ pieces (map place_of es)
pieces_within es g m =
    let cut : take m (drop g (map place_of es)) ≡ map place_of (take m (drop g es)) = ap (take m) (drop-map place_of g es) ∙ take-map place_of m (drop g es) in
    let one = pieces_take m (drop g (map place_of es)) in
    let two = pieces_drop g (map place_of es) in
    subst (λ l. pieces l ≤ pieces (map place_of es)) cut (omega (arith, one, two))

map_both : (xs ys : List EntryIndex) → map place_of (xs ++ ys) ≡ map place_of xs ++ map place_of ys
map_both [] ys = refl
map_both (x ∷ xs) ys = ap (λ l. place_of x ∷ l) (map_both xs ys)

-- the places with one piece more
pub push_items : (old now new : List Place) (es rest piece : List EntryIndex) (done count : ℕ) → rest ≡ drop done es → piece ≡ take count rest
    → now ≡ old ++ map place_of (take done es) → new ≡ now ++ map place_of piece → new ≡ old ++ map place_of (take (done + count) es)
push_items old now new es rest piece done count rest_is piece_is now_is new_is =
    new_is ∙ ap₂ (λ a b. a ++ map place_of b) now_is (piece_is ∙ ap (take count) rest_is)
    ∙ append_assoc old (map place_of (take done es)) (map place_of (take count (drop done es)))
    ∙ ap (λ l. old ++ l) (sym (map_both (take done es) (take count (drop done es))) ∙ ap (map place_of) (sym (take-add done count es)))

-- and how many pieces are left
pub push_rest : (es rest : List EntryIndex) (done count : ℕ) → rest ≡ drop done es → pieces (map place_of rest) ≡ 1 + pieces (map place_of (drop count rest))
    → pieces (map place_of (drop done es)) ≡ 1 + pieces (map place_of (drop (done + count) es))
push_rest es rest done count rest_is e =
    ap (λ l. pieces (map place_of l)) (sym rest_is) ∙ e ∙ ap (λ l. 1 + pieces (map place_of l)) (ap (drop count) rest_is ∙ drop-drop count done es)

-- One entry more, by what was read.
module _ (es : List EntryIndex) (i : ℕ) (e : EntryIndex) (t : Bool) (first : 1 ≤ i) (low : i < length es)
    (test : t ≡ follows (place_of (slice_index_or es (i - 1) e)) (place_of (slice_index_or es i e))) where
  a_is : slice_index_or es (i - 1) e ≡ slice_index_or es (i - 1) (slice_index_or es (i - 1) e)
  a_is = get_or_default es (i - 1) e (slice_index_or es (i - 1) e) (omega (arith, first, low))

  b_is : slice_index_or es i e ≡ slice_index_or es i (slice_index_or es i e)
  b_is = get_or_default es i e (slice_index_or es i e) low

  pub step_one : t ≡ true → AreOnePiece (map place_of (take i es)) → AreOnePiece (map place_of (take (i + 1) es))
  step_one on h = next_one es i (slice_index_or es (i - 1) e) (slice_index_or es i e) first low a_is b_is h (sym test ∙ on)

  pub step_pieces : (d : EntryIndex) (all : ℕ) → t ≡ true → ((x : EntryIndex) → all ≡ suc (gaps (place_of (slice_index_or es (i - 1) x)) (map place_of (drop i es))))
      → all ≡ suc (gaps (place_of (slice_index_or es (i + 1 - 1) d)) (map place_of (drop (i + 1) es)))
  step_pieces d all on h =
      next_pieces es i (slice_index_or es (i - 1) e) (slice_index_or es i e) first low a_is b_is all (h e) (sym test ∙ on)
      ∙ ap (λ x. suc (gaps (place_of x) (map place_of (drop (i + 1) es))))
      (get_or_default es i e d low ∙ ap (λ n. slice_index_or es n d) (let same : i ≡ i + 1 - 1 = omega arith in same))

-- The run of a piece.
pub run_places : (e : Bool) (es : List EntryIndex) (r : Run) (p : Place) (d : EntryIndex) → 0 < length es → p ≡ place_of (slice_index_or es 0 d) → block r ≡ in_block p 0 0
    → r.start ≡ p.entry_offset → r.count ≡ length es → r.size ≡ (slice_index_or es (length es - 1) d).entry_len → AreOnePiece (map place_of es)
    → (e ≡ true → (k : ℕ) (x : EntryIndex) → k < length es → (slice_index_or es k x).entry_len ≡ r.size) → laid e r (starts_for e es) ++ [] ≡ map place_of es
run_places true es r p d some p_is b_is start count size one lens =
    append-nil (laid true r []) ∙
    ap₂ (λ o n. even_places (block r) r.size o n) start count
    ∙ even_piece es (block r) p (slice_index_or es 0 d) r.size some (get_or_default es 0 d (slice_index_or es 0 d) some) p_is b_is one (lens refl)
run_places false es r p d some p_is b_is start count size one lens =
    append-nil (laid false r (map start_of_entry es)) ∙
    ap₂ (λ z os. uneven_places (block r) z os) size
    (take_all r.count (map start_of_entry es) (let long = length-map es start_of_entry in omega (arith, long, count)))
    ∙ uneven_piece es (block r) p (slice_index_or es 0 d) (slice_index_or es (length es - 1) d) some (get_or_default es 0 d (slice_index_or es 0 d) some) p_is b_is one
    (get_or_default es (length es - 1) d (slice_index_or es (length es - 1) d) (omega (arith, some)))

-- the starts that are kept
pub kept_none : (e : Bool) (es : List EntryIndex) (ss : List ℕ) → e ≡ true → ss ≡ ss ++ starts_for e es
kept_none true es ss h = sym (append-nil ss)
kept_none false es ss h = absurd (let clash : false ≡ true = h in let never : ⊥ = cc in never)

pub kept_all : (e : Bool) (es : List EntryIndex) → e ≡ false → map start_of_entry es ≡ starts_for e es
kept_all true es h = absurd (let clash : true ≡ false = h in let never : ⊥ = cc in never)
kept_all false es h = refl
