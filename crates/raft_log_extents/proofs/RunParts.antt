-- The places of a run, those in its block and those alone: cut in two and looked at one by one.
use Rattle.std.proofs.Common.{◌≡◌, ℕ, zero, suc, ◌+◌, ◌-◌, ◌*◌, ◌<◌, ◌≤◌, Bool, true, false, List, [], ◌∷◌, ◌++◌, length, take, drop, slice_index_or, if◌then◌else◌, nat_le, nat_lt, refl, sym, ap, ap₂, subst, ◌∙◌, arith, append_assoc, append-nil, length-append, length-drop, length-take-le, take-append-drop, drop-drop}
use Rattle.std.proofs.lemmas.List.{drop-append-le, get_or_append_left, take-append-le}
use Rattle.raft_log_model_laws.proofs.Public.{at_bool, from_le_false, from_le_true, from_lt_false, from_lt_true, if_false, lt_false}
use Rattle.raft_log_extents.specs.declared.place.Place.{Place}
use Rattle.raft_log_extents.specs.declared.run.Run.{Run}
use Rattle.raft_log_extents.specs.Runs.{StartsFit, head, laid, one_more, places_of, span, tail, total, width, width_of}
use Rattle.raft_log_extents.specs.Words.{place_from, whole_places, words_of}
use Rattle.raft_log_extents.proofs.RunPlaces.{drop-laid, head_fits, laid-more, length-laid, tail_fits, take-laid, width-plus, width_le}
use Rattle.raft_log_extents.proofs.WholePlaces.{drop-whole, get-whole, length-whole, take-whole, whole-more, whole-push}

-- two lists, from a place in the second on
take_over : {A : Type 0} (xs ys : List A) (m c : ℕ) → m ≡ length xs + c → take m (xs ++ ys) ≡ xs ++ take c ys
take_over [] ys m c e = ap (λ k. take k ys) (let same : m ≡ c = omega (arith, e) in same)
take_over (x ∷ xs) ys zero c e = absurd (omega (arith, e))
take_over (x ∷ xs) ys (suc m) c e = ap (λ l. x ∷ l) (take_over xs ys m c (omega (arith, e)))

pub drop_over : {A : Type 0} (xs ys : List A) (m c : ℕ) → m ≡ length xs + c → drop m (xs ++ ys) ≡ drop c ys
drop_over [] ys m c e = ap (λ k. drop k ys) (let same : m ≡ c = omega (arith, e) in same)
drop_over (x ∷ xs) ys zero c e = absurd (omega (arith, e))
drop_over (x ∷ xs) ys (suc m) c e = drop_over xs ys m c (omega (arith, e))

get_over : {A : Type 0} (xs ys : List A) (m c : ℕ) (d : A) → m ≡ length xs + c → slice_index_or (xs ++ ys) m d ≡ slice_index_or ys c d
get_over [] ys m c d e = ap (λ k. slice_index_or ys k d) (let same : m ≡ c = omega (arith, e) in same)
get_over (x ∷ xs) ys zero c d e = absurd (omega (arith, e))
get_over (x ∷ xs) ys (suc m) c d e = get_over xs ys m c d (omega (arith, e))

pub span_past : (r : Run) (j : ℕ) → r.count ≤ j → span r j ≡ width_of r.even r.count + (j - r.count) * 8
span_past r j h = if_false (nat_lt j r.count) (width_of r.even j) (width_of r.even r.count + (j - r.count) * 8) (lt_false j r.count h)

pub width_rest : (e : Bool) (j n : ℕ) → j ≤ n → width_of e n ≡ width_of e j + width_of e (n - j)
width_rest e j n h = ap (width_of e) (let same : n ≡ j + (n - j) = omega (arith, h) in same) ∙ width-plus e j (n - j)

-- the first entries of a run, and the others
pub total-head : (r : Run) (n z : ℕ) → n ≤ total r → total (head r n z) ≡ n
total-head r n z h =
    at_bool (nat_le n r.count)
    (λ b. total (if b then record r { count = n; size = z; alone = 0 } else record r { alone = n - r.count }) ≡ n)
    (λ yes. let low = from_le_true n r.count yes in omega arith)
    (λ no. let high = from_le_false n r.count no in omega (arith, high))

pub width-head : (r : Run) (n z : ℕ) → n ≤ total r → width (head r n z) ≡ span r n
width-head r n z h =
    at_bool (nat_le n r.count)
    (λ b. width (if b then record r { count = n; size = z; alone = 0 } else record r { alone = n - r.count }) ≡ span r n)
    (λ yes. let low = from_le_true n r.count yes in
    at_bool (nat_lt n r.count) (λ b. width_of r.even n + 0 * 8 ≡ (if b then width_of r.even n else width_of r.even r.count + (n - r.count) * 8))
    (λ _. omega arith)
    (λ past. let high = from_lt_false n r.count past in
    let same : width_of r.even n ≡ width_of r.even r.count = ap (width_of r.even) (let all : n ≡ r.count = omega (arith, low, high) in all) in
    omega (arith, same, low, high)))
    (λ no. let high = from_le_false n r.count no in sym (span_past r n (omega (arith, high))))

pub first-head : (r : Run) (n z : ℕ) → ((head r n z).first ≡ r.first) × ((head r n z).at ≡ r.at)
first-head r n z =
    at_bool (nat_le n r.count)
    (λ b. let h : Run = if b then record r { count = n; size = z; alone = 0 } else record r { alone = n - r.count } in (h.first ≡ r.first) × (h.at ≡ r.at))
    (λ _. (refl, refl)) (λ _. (refl, refl))

pub first-tail : (r : Run) (j o : ℕ) → ((tail r j o).first ≡ r.first + j) × ((tail r j o).at ≡ r.at + span r j)
first-tail r j o =
    at_bool (nat_lt j r.count)
    (λ b. let t : Run = if b then record r { first = r.first + j; count = r.count - j; at = r.at + span r j; start = o }
    else record r { first = r.first + j; count = 0; at = r.at + span r j; alone = r.alone - (j - r.count) } in (t.first ≡ r.first + j) × (t.at ≡ r.at + span r j))
    (λ _. (refl, refl)) (λ _. (refl, refl))

pub total-tail : (r : Run) (j k o : ℕ) → total r ≡ j + k → total (tail r j o) ≡ k
total-tail r j k o h =
    at_bool (nat_lt j r.count)
    (λ b. total (if b then record r { first = r.first + j; count = r.count - j; at = r.at + span r j; start = o }
    else record r { first = r.first + j; count = 0; at = r.at + span r j; alone = r.alone - (j - r.count) }) ≡ k)
    (λ yes. let low = from_lt_true j r.count yes in omega (arith, h, low))
    (λ no. let high = from_lt_false j r.count no in omega (arith, h, high))

pub width-tail : (r : Run) (j o : ℕ) → j ≤ total r → span r j + width (tail r j o) ≡ width r
width-tail r j o h =
    at_bool (nat_lt j r.count)
    (λ b. (if b then width_of r.even j else width_of r.even r.count + (j - r.count) * 8)
    + width (if b then record r { first = r.first + j; count = r.count - j; at = r.at + span r j; start = o }
    else record r { first = r.first + j; count = 0; at = r.at + span r j; alone = r.alone - (j - r.count) }) ≡ width r)
    (λ yes. let low = from_lt_true j r.count yes in
    let parts = width_rest r.even j r.count (omega (arith, low)) in omega (arith, parts))
    (λ no. let high = from_lt_false j r.count no in
    let none = width_le r.even 0 in omega (arith, none, high, h))

pub span_le : (r : Run) (j : ℕ) → j ≤ total r → span r j ≤ width r
span_le r j h = let all = width-tail r j 0 h in omega (arith, all)

-- the starts of entries that are alone
pub span_part : (r : Run) (j c : ℕ) → r.count ≤ j → j + c ≤ total r → span r j + c * 8 ≤ width r
span_part r j c h k = let past = span_past r j h in omega (arith, past, h, k)

-- what says nothing of the places in the block
pub alone_laid : (e : Bool) (r : Run) (n : ℕ) (ss : List ℕ) → laid e (record r { alone = n }) ss ≡ laid e r ss
alone_laid true r n ss = refl
alone_laid false r n ss = refl

none_laid : (e : Bool) (r : Run) (n m a : ℕ) (ss : List ℕ) → laid e (record r { first = n; count = 0; at = m; alone = a }) ss ≡ []
none_laid true r n m a ss = refl
none_laid false r n m a ss = refl

none_wide : (e : Bool) (ss : List ℕ) → drop (width_of e 0) ss ≡ ss
none_wide true ss = refl
none_wide false ss = refl

-- The places of a run whose starts are there.
module _ (r : Run) (ss : List ℕ) (enough : width r ≤ length ss) where
  abbrev pub wide : ℕ
  wide = width_of r.even r.count

  abbrev pub placed : List Place
  placed = laid r.even r ss

  abbrev pub rest : List ℕ
  rest = drop wide ss

  abbrev pub apart : List Place
  apart = whole_places r.alone rest

  pub placed_long : length placed ≡ r.count
  placed_long = length-laid r.even r ss (omega (arith, enough))

  pub length-places : length (places_of r ss) ≡ total r
  length-places = length-append placed apart ∙ ap₂ ◌+◌ placed_long (length-whole r.alone rest)

  pub places-more : (ts : List ℕ) → places_of r (ss ++ ts) ≡ places_of r ss
  places-more ts =
      let long = length-drop wide ss in
      ap₂ ◌++◌ (laid-more r.even r ss ts (omega (arith, enough)))
      (ap (whole_places r.alone) (drop-append-le wide ss ts (omega (arith, enough))) ∙ whole-more r.alone rest ts (omega (arith, enough, long)))

  pub get-placed : (j : ℕ) (d : Place) → j < r.count → slice_index_or (places_of r ss) j d ≡ slice_index_or placed j d
  get-placed j d h = let long = placed_long in get_or_append_left placed apart d j (omega (arith, long, h))

  pub get-apart : (j : ℕ) (d : Place) → r.count ≤ j → j < total r → slice_index_or (places_of r ss) j d ≡ place_from (drop (span r j) ss)
  get-apart j d h k =
      let long = placed_long in
      get_over placed apart j (j - r.count) d (omega (arith, long, h)) ∙ get-whole r.alone (j - r.count) rest d (omega (arith, h, k))
      ∙ ap place_from (drop-drop ((j - r.count) * 8) wide ss ∙ ap (λ n. drop n ss) (sym (span_past r j h)))

  pub take-places : (i : ℕ) (d : Place) → i < total r → take (suc i) (places_of r ss) ≡ places_of (head r (suc i) (slice_index_or (places_of r ss) i d).entry_len) ss
  take-places i d h =
      let z = (slice_index_or (places_of r ss) i d).entry_len in
      let long = placed_long in
      at_bool (nat_le (suc i) r.count)
      (λ b. take (suc i) (places_of r ss) ≡ places_of (if b then record r { count = suc i; size = z; alone = 0 } else record r { alone = suc i - r.count }) ss)
      (λ yes. let low = from_le_true (suc i) r.count yes in
      take-append-le (suc i) placed apart (omega (arith, low, long)) ∙ take-laid r.even r ss i d (omega (arith, low)) (omega (arith, enough))
      ∙ ap (λ n. laid r.even (record r { count = suc i; size = n; alone = 0 }) ss) (sym (ap (λ (p : Place). p.entry_len) (get-placed i d (omega (arith, low)))))
      ∙ sym (append-nil (laid r.even (record r { count = suc i; size = z; alone = 0 }) ss)))
      (λ no. let high = from_le_false (suc i) r.count no in
      take_over placed apart (suc i) (suc i - r.count) (omega (arith, high, long))
      ∙ ap₂ ◌++◌ (sym (alone_laid r.even r (suc i - r.count) ss)) (take-whole r.alone (suc i - r.count) rest (omega (arith, h, high))))

  pub drop-places : (j : ℕ) (d : Place) → j < total r
      → drop j (places_of r ss) ≡ places_of (tail r j (slice_index_or (places_of r ss) j d).entry_offset) (drop (span r j) ss)
  drop-places j d h =
      let o = (slice_index_or (places_of r ss) j d).entry_offset in
      let k = r.count - j in
      let m = r.at + span r j in
      let long = placed_long in
      at_bool (nat_lt j r.count)
      (λ b. drop j (places_of r ss)
      ≡ places_of (if b then record r { first = r.first + j; count = r.count - j; at = r.at + span r j; start = o }
      else record r { first = r.first + j; count = 0; at = r.at + span r j; alone = r.alone - (j - r.count) })
      (drop (if b then width_of r.even j else width_of r.even r.count + (j - r.count) * 8) ss))
      (λ yes. let low = from_lt_true j r.count yes in
      let parts = width_rest r.even j r.count (omega (arith, low)) in
      drop-append-le j placed apart (omega (arith, low, long))
      ∙ ap₂ ◌++◌
      (drop-laid r.even r ss j k (r.first + j) m d (omega (arith, low)) low
      ∙ ap (λ n. laid r.even (record r { first = r.first + j; count = k; at = m; start = n }) (drop (width_of r.even j) ss)) (sym (ap (λ (p : Place). p.entry_offset) (get-placed j d low))))
      (ap (whole_places r.alone) (ap (λ n. drop n ss) parts ∙ sym (drop-drop (width_of r.even k) (width_of r.even j) ss))))
      (λ no. let high = from_lt_false j r.count no in
      let left = r.alone - (j - r.count) in
      let starts = drop (wide + (j - r.count) * 8) ss in
      drop_over placed apart j (j - r.count) (omega (arith, high, long))
      ∙ drop-whole r.alone (j - r.count) left rest (omega (arith, high, h))
      ∙ ap (whole_places left) (drop-drop ((j - r.count) * 8) wide ss ∙ sym (none_wide r.even starts))
      ∙ ap (λ l. l ++ whole_places left (drop (width_of r.even 0) starts)) (sym (none_laid r.even r (r.first + j) m left starts)))

  -- so many places, in the block or past it
  pub part_placed : (i c : ℕ) → i + c ≤ r.count → take c (drop i (places_of r ss)) ≡ take c (drop i placed)
  part_placed i c h =
      let long = placed_long in
      let left = length-drop i placed in
      ap (take c) (drop-append-le i placed apart (omega (arith, long, h))) ∙ take-append-le c (drop i placed) apart (omega (arith, long, left, h))

  pub part_apart : (i c : ℕ) → r.count ≤ i → i + c ≤ total r → take c (drop i (places_of r ss)) ≡ whole_places c (drop (span r i) ss)
  part_apart i c h k =
      let long = placed_long in
      let left = r.alone - (i - r.count) in
      ap (take c) (drop_over placed apart i (i - r.count) (omega (arith, long, h)) ∙ drop-whole r.alone (i - r.count) left rest (omega (arith, h, k)))
      ∙ take-whole left c (drop ((i - r.count) * 8) rest) (omega (arith, h, k))
      ∙ ap (whole_places c) (drop-drop ((i - r.count) * 8) wide ss ∙ ap (λ n. drop n ss) (sym (span_past r i h)))

-- starts taken from the front are enough
pub places-take : (r : Run) (n : ℕ) (ss : List ℕ) → width r ≤ n → n ≤ length ss → places_of r (take n ss) ≡ places_of r ss
places-take r n ss h k =
    let long = length-take-le n ss k in
    sym (places-more r (take n ss) (omega (arith, long, h)) (drop n ss)) ∙ ap (places_of r) (take-append-drop n ss)

-- Offsets of 32 bits.
pub head_fit : (r : Run) (ss : List ℕ) (i : ℕ) (d : Place) → width r ≤ length ss → StartsFit r.even r
    → StartsFit (head r (suc i) (slice_index_or (places_of r ss) i d).entry_len).even (head r (suc i) (slice_index_or (places_of r ss) i d).entry_len)
head_fit r ss i d enough f =
    let z = (slice_index_or (places_of r ss) i d).entry_len in
    at_bool (nat_le (suc i) r.count)
    (λ b. let h : Run = if b then record r { count = suc i; size = z; alone = 0 } else record r { alone = suc i - r.count } in StartsFit h.even h)
    (λ yes. let low = from_le_true (suc i) r.count yes in
    subst (λ n. StartsFit r.even (record r { count = suc i; size = n; alone = 0 })) (sym (ap (λ (p : Place). p.entry_len) (get-placed r ss enough i d (omega (arith, low)))))
    (head_fits r.even r ss i d (omega (arith, low)) f))
    (λ _. same r.even f)
  where
    same : (e : Bool) → StartsFit e r → StartsFit e (record r { alone = suc i - r.count })
    same true f = f
    same false f = tt

pub tail_fit : (r : Run) (ss : List ℕ) (j : ℕ) (d : Place) → width r ≤ length ss → StartsFit r.even r
    → StartsFit (tail r j (slice_index_or (places_of r ss) j d).entry_offset).even (tail r j (slice_index_or (places_of r ss) j d).entry_offset)
tail_fit r ss j d enough f =
    let o = (slice_index_or (places_of r ss) j d).entry_offset in
    let m = r.at + span r j in
    at_bool (nat_lt j r.count)
    (λ b. let t : Run = if b then record r { first = r.first + j; count = r.count - j; at = r.at + span r j; start = o }
    else record r { first = r.first + j; count = 0; at = r.at + span r j; alone = r.alone - (j - r.count) } in StartsFit t.even t)
    (λ yes. let low = from_lt_true j r.count yes in
    subst (λ n. StartsFit r.even (record r { first = r.first + j; count = r.count - j; at = m; start = n })) (sym (ap (λ (p : Place). p.entry_offset) (get-placed r ss enough j d low)))
    (tail_fits r.even r ss j (r.count - j) (r.first + j) m d (omega (arith, low)) low f))
    (λ _. none r.even)
  where
    none : (e : Bool) → StartsFit e (record r { first = r.first + j; count = 0; at = r.at + span r j; alone = r.alone - (j - r.count) })
    none true = λ i h. absurd (omega (arith, h))
    none false = tt

pub places-push : (r : Run) (ss : List ℕ) (p : Place) → width r ≡ length ss → places_of (one_more r) (ss ++ words_of p) ≡ places_of r ss ++ (p ∷ [])
places-push r ss p e =
    let w = width_of r.even r.count in
    let long = length-drop w ss in
    ap₂ ◌++◌ (alone_laid r.even r (r.alone + 1) (ss ++ words_of p) ∙ laid-more r.even r ss (words_of p) (omega (arith, e)))
    (ap₂ whole_places (let one : r.alone + 1 ≡ suc r.alone = omega arith in one) (drop-append-le w ss (words_of p) (omega (arith, e)))
    ∙ whole-push r.alone (drop w ss) p (omega (arith, e, long)))
    ∙ sym (append_assoc (laid r.even r ss) (whole_places r.alone (drop w ss)) (p ∷ []))

pub more_fits : (e : Bool) (r : Run) → StartsFit e r → StartsFit e (one_more r)
more_fits true r f = f
more_fits false r f = tt
