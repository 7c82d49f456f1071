-- Runs that come in the stead of others between two borders.
use Rattle.std.proofs.Common.{◌≡◌, ℕ, zero, suc, ◌+◌, ◌-◌, ◌<◌, ◌≤◌, ◌^◌, List, [], ◌∷◌, ◌++◌, length, take, drop, refl, sym, ap, ap₂, subst, subst₂, ◌∙◌, arith, nat_le, append_assoc, length-append, length-drop, length-take-le, take-append-drop, take-take}
use Rattle.std.proofs.lemmas.List.{drop_at, take-append-le, take_at}
use Rattle.raft_log_model_laws.proofs.Public.{at_bool, from_le_false, from_le_true}
use Rattle.raft_log_extents.specs.declared.place.Place.{Place}
use Rattle.raft_log_extents.specs.declared.run.Run.{Run}
use Rattle.raft_log_extents.specs.declared.spot.Spot.{Spot}
use Rattle.raft_log_extents.specs.Runs.{AreAdded, IsNumbered, IsSound, counts, expand, renumbered, total, width, widths}
use Rattle.raft_log_extents.specs.Spots.{IsSpot}
use Rattle.raft_log_extents.proofs.RunLists.{AreWhole, counts-append, counts-renumbered, expand-renumbered, joined, length-expand, numbered_both, numbered_left, numbered_right, renumbered_is, whole, whole-append, widths-append, widths-renumbered}
use Rattle.raft_log_extents.proofs.RunTurns.{back_of, counts_more, front_of, parts}

-- how many places a sound list stands for
pub sound_length : (front base len : ℕ) (rs : List Run) (ss : List ℕ) → IsSound front base len rs ss → length (expand rs ss) ≡ counts rs
sound_length front base len rs ss s = let same = s.starts_are in length-expand rs ss (omega (arith, same))

-- more runs have no fewer entries and starts
pub counts_rise : (a b : ℕ) (rs : List Run) → a ≤ b → counts (take a rs) ≤ counts (take b rs)
counts_rise zero b rs h = omega arith
counts_rise (suc a) zero rs h = absurd (omega arith)
counts_rise (suc a) (suc b) [] h = omega arith
counts_rise (suc a) (suc b) (r ∷ rs) h = let rest = counts_rise a b rs (omega arith) in omega (arith, rest)

pub widths_rise : (a b : ℕ) (rs : List Run) → a ≤ b → widths (take a rs) ≤ widths (take b rs)
widths_rise zero b rs h = omega arith
widths_rise (suc a) zero rs h = absurd (omega arith)
widths_rise (suc a) (suc b) [] h = omega arith
widths_rise (suc a) (suc b) (r ∷ rs) h = let rest = widths_rise a b rs (omega arith) in omega (arith, rest)

-- fewer entries are in fewer runs
pub runs_between : (a b : ℕ) (rs : List Run) → counts (take a rs) < counts (take b rs) → a < b
runs_between a b rs h =
    at_bool (nat_le b a) (λ _. a < b) (λ yes. let more = counts_rise b a rs (from_le_true b a yes) in absurd (omega (arith, more, h))) (λ no. from_le_false b a no)

-- runs that end before the one that is cut in two
pub cut_keeps : (position k : ℕ) (rs : List Run) (ss : List ℕ) (s : Spot) (h t : Run) (new : List Run) → IsSpot rs ss position s → new ≡ take s.at rs ++ (h ∷ (t ∷ drop (s.at + 1) rs))
    → counts (take k rs) ≤ position → counts (take k new) ≡ counts (take k rs)
cut_keeps position k rs ss s h t new spot is few =
    let there = spot.there in
    let long = length-take-le s.at rs (omega (arith, there)) in
    at_bool (nat_le k s.at) (λ _. counts (take k new) ≡ counts (take k rs))
    (λ yes. let low = from_le_true k s.at yes in
    ap counts (ap (take k) is ∙ take-append-le k (take s.at rs) (h ∷ (t ∷ drop (s.at + 1) rs)) (omega (arith, low, long)) ∙ take-take k s.at rs low))
    (λ no. let past = from_le_false k s.at no in
    let next = counts_more rs s.at s.run there spot.run_is in
    let more = counts_rise (s.at + 1) k rs (omega (arith, past)) in
    let here = spot.within_is in
    let low = spot.within in absurd (omega (arith, next, more, here, low, few)))

-- a list that was turned and cut, with others behind it, and turned back
pub turned_back : {A : Type 0} (xs one two three more : List A) (i j m k : ℕ) → i ≤ j → j ≤ length xs → one ≡ drop j xs ++ take i xs → two ≡ one ++ more → m ≡ length two
    → k ≡ i + length more → three ≡ drop (m - k) two ++ take (m - k) two → three ≡ take i xs ++ (more ++ drop j xs)
turned_back xs one two three more i j m k low high one_is two_is m_is k_is three_is =
    let back = drop j xs in
    let all : two ≡ back ++ (take i xs ++ more) = two_is ∙ ap (λ l. l ++ more) one_is ∙ append_assoc back (take i xs) more in
    let front_long = length-take-le i xs (omega (arith, low, high)) in
    let sum = ap length all ∙ length-append back (take i xs ++ more) in
    let part = length-append (take i xs) more in
    let n : length back ≡ m - k = omega (arith, sum, part, front_long, m_is, k_is) in
    three_is ∙ ap (λ l. drop (m - k) l ++ take (m - k) l) all
    ∙ ap₂ ◌++◌ (drop_at back (take i xs ++ more) (m - k) n) (take_at back (take i xs ++ more) (m - k) n)
    ∙ append_assoc (take i xs) more back

-- numbers that are right stay, and those of a list's parts are those of all
pub renumbered_same : (n m : ℕ) (rs : List Run) → IsNumbered n m rs → renumbered n m rs ≡ rs
renumbered_same n m [] h = refl
renumbered_same n m (r ∷ rs) h = ap₂ ◌∷◌ (λ i. record r { first = sym h.0 i; at = sym h.1 i }) (renumbered_same (n + total r) (m + width r) rs h.4)

pub renumbered_both : (n m : ℕ) (rs qs : List Run) → renumbered n m (rs ++ qs) ≡ renumbered n m rs ++ renumbered (n + counts rs) (m + widths rs) qs
renumbered_both n m [] qs = ap₂ (λ a b. renumbered a b qs) (let same : n ≡ n + 0 = omega arith in same) (let same : m ≡ m + 0 = omega arith in same)
renumbered_both n m (r ∷ rs) qs =
    ap (λ l. record r { first = n; at = m } ∷ l)
    (renumbered_both (n + total r) (m + width r) rs qs
    ∙ ap₂ (λ a b. renumbered (n + total r) (m + width r) rs ++ renumbered a b qs)
    (let same : n + total r + counts rs ≡ n + (total r + counts rs) = omega arith in same)
    (let same : m + width r + widths rs ≡ m + (width r + widths rs) = omega arith in same))

-- the first runs under new numbers, with which those behind go on
pub renumbered_front : (n m b k : ℕ) (rs : List Run) → IsNumbered (n + counts (take k rs)) m (drop k rs) → b + widths (take k rs) ≡ m
    → renumbered n b (take k rs) ++ drop k rs ≡ renumbered n b rs
renumbered_front n m b k rs h e =
    ap (λ l. renumbered n b (take k rs) ++ l)
    (sym (renumbered_same (n + counts (take k rs)) m (drop k rs) h) ∙ ap (λ a. renumbered (n + counts (take k rs)) a (drop k rs)) (sym e))
    ∙ sym (renumbered_both n b (take k rs) (drop k rs)) ∙ ap (renumbered n b) (take-append-drop k rs)

pub renumbered_none : (n b k : ℕ) (rs : List Run) → IsNumbered n b (take k rs) → IsNumbered (n + counts (take k rs)) (b + widths (take k rs)) (drop k rs) → rs ≡ renumbered n b rs
renumbered_none n b k rs h g =
    sym (take-append-drop k rs) ∙ ap (λ l. l ++ drop k rs) (sym (renumbered_same n b (take k rs) h)) ∙ renumbered_front n (b + widths (take k rs)) b k rs g refl

-- what is left of a list that was turned
pub turned_out : {A : Type 0} (xs one : List A) (i j m k : ℕ) → i ≤ j → j ≤ length xs → one ≡ drop j xs ++ take j xs → m ≡ length xs → k ≡ m - (j - i) → take k one ≡ drop j xs ++ take i xs
turned_out xs one i j m k low high one_is m_is k_is =
    let long = length-drop j xs in
    ap (take k) one_is ∙ take_over (drop j xs) (take j xs) k i (omega (arith, long, low, high, m_is, k_is)) ∙ ap (λ l. drop j xs ++ l) (take-take i j xs low)
  where
    take_over : {A : Type 0} (xs ys : List A) (m c : ℕ) → m ≡ length xs + c → take m (xs ++ ys) ≡ xs ++ take c ys
    take_over [] ys m c e = ap (λ k. take k ys) (let same : m ≡ c = omega (arith, e) in same)
    take_over (x ∷ xs) ys zero c e = absurd (omega (arith, e))
    take_over (x ∷ xs) ys (suc m) c e = ap (λ l. x ∷ l) (take_over xs ys m c (omega (arith, e)))

-- Runs between two borders, and others in their stead.
module _ (front base len position n i j : ℕ) (rs more : List Run) (ss kept : List ℕ) (sound : IsSound front base len rs ss) (low : i ≤ j)
    (start : counts (take i rs) ≡ position) (stop : counts (take j rs) ≡ position + n) (new : IsSound (front + position) (base + widths (take i rs)) n more kept) where
  abbrev spliced : List Run
  spliced = take i rs ++ (more ++ drop j rs)

  abbrev starts : List ℕ
  starts = take (widths (take i rs)) ss ++ (kept ++ drop (widths (take j rs)) ss)

  front_long : length (take (widths (take i rs)) ss) ≡ widths (take i rs)
  front_long = let all = parts front base len rs ss sound i in length-take-le (widths (take i rs)) ss (omega (arith, all))

  pub spliced_places : expand spliced starts ≡ take position (expand rs ss) ++ (expand more kept ++ drop (position + n) (expand rs ss))
  spliced_places =
      joined (take i rs) (more ++ drop j rs) (take (widths (take i rs)) ss) (kept ++ drop (widths (take j rs)) ss) (sym front_long)
      ∙ ap₂ ◌++◌ (part_is ∙ ap (λ k. take k (expand rs ss)) start)
      (joined more (drop j rs) kept (drop (widths (take j rs)) ss) new.starts_are
      ∙ ap (λ l. expand more kept ++ l) (back_of front base len rs ss sound j ∙ ap (λ k. drop k (expand rs ss)) stop))
    where
      part_is : expand (take i rs) (take (widths (take i rs)) ss) ≡ take (counts (take i rs)) (expand rs ss)
      part_is = front_of front base len rs ss sound i

  sums : counts spliced ≡ len
  sums =
      let all = counts-append (take i rs) (more ++ drop j rs) in
      let rest = counts-append more (drop j rs) in
      let both = counts-append (take j rs) (drop j rs) in
      let same = ap counts (take-append-drop j rs) in
      let count = sound.count in
      let added = new.count in
      omega (arith, all, rest, both, same, count, added, start, stop)

  wides : widths spliced ≡ length starts
  wides =
      let all = widths-append (take i rs) (more ++ drop j rs) in
      let rest = widths-append more (drop j rs) in
      let long = length-append (take (widths (take i rs)) ss) (kept ++ drop (widths (take j rs)) ss) in
      let behind = length-append kept (drop (widths (take j rs)) ss) in
      let back = length-drop (widths (take j rs)) ss in
      let first = front_long in
      let left = parts front base len rs ss sound j in
      let added = new.starts_are in
      omega (arith, all, rest, long, behind, back, first, left, added)

  are_whole : AreWhole spliced
  are_whole = whole-append (take i rs) (more ++ drop j rs) (whole_front i rs (whole front base rs sound.numbered))
      (whole-append more (drop j rs) (whole (front + position) (base + widths (take i rs)) more new.numbered) (whole_back j rs (whole front base rs sound.numbered)))
    where
      whole_front : (k : ℕ) (xs : List Run) → AreWhole xs → AreWhole (take k xs)
      whole_front zero xs h = tt
      whole_front (suc k) [] h = tt
      whole_front (suc k) (x ∷ xs) h = (h.0, h.1, whole_front k xs h.2)

      whole_back : (k : ℕ) (xs : List Run) → AreWhole xs → AreWhole (drop k xs)
      whole_back zero xs h = h
      whole_back (suc k) [] h = tt
      whole_back (suc k) (x ∷ xs) h = whole_back k xs h.2

  -- the first of them, and those behind, whose numbers stay
  pub first_numbered : IsNumbered front base (take i rs ++ more)
  first_numbered =
      numbered_both front base (front + position) (base + widths (take i rs)) (take i rs) more (omega (arith, start)) (omega arith)
      (numbered_left front base (take i rs) (drop i rs) (subst (IsNumbered front base) (sym (take-append-drop i rs)) sound.numbered)) new.numbered

  pub rest_numbered : IsNumbered (front + (position + n)) (base + widths (take j rs)) (drop j rs)
  rest_numbered =
      numbered_right front base (front + (position + n)) (base + widths (take j rs)) (take j rs) (drop j rs) (omega (arith, stop)) (omega arith)
      (subst (IsNumbered front base) (sym (take-append-drop j rs)) sound.numbered)

  pub anew_places : (b : ℕ) → expand (renumbered front b spliced) starts ≡ take position (expand rs ss) ++ (expand more kept ++ drop (position + n) (expand rs ss))
  anew_places b = expand-renumbered front b spliced starts ∙ spliced_places

  pub anew_sound : (b : ℕ) → b + widths spliced < 2 ^ 64 → IsSound front b len (renumbered front b spliced) starts
  anew_sound b h = record {
    numbered = renumbered_is front b spliced are_whole;
    count = counts-renumbered front b spliced ∙ sums;
    starts_are = widths-renumbered front b spliced ∙ wides;
    fits = sound.fits;
    starts_fit = let all = wides in omega (arith, all, h);
  }

-- The lists that a replacement makes, one after another: turned and cut, with the new behind, turned back.
module _ (front base len position n i j from to m k u v : ℕ) (rs one two three more : List Run) (ss ones twos threes kept : List ℕ) (ps : List Place) (sound : IsSound front base len rs ss)
    (low : i ≤ j) (high : j ≤ length rs) (start : counts (take i rs) ≡ position) (stop : counts (take j rs) ≡ position + n) (from_is : from ≡ widths (take i rs)) (to_is : to ≡ widths (take j rs))
    (one_is : one ≡ drop j rs ++ take i rs) (ones_are : ones ≡ drop to ss ++ take from ss) (added : AreAdded (front + position) (base + from) n ps one two ones twos more kept)
    (m_is : m ≡ length two) (k_is : k ≡ i + length more) (three_is : three ≡ drop (m - k) two ++ take (m - k) two)
    (u_is : u ≡ length twos) (v_is : v ≡ from + length kept) (threes_are : threes ≡ drop (u - v) twos ++ take (u - v) twos) where
  new : IsSound (front + position) (base + widths (take i rs)) n more kept
  new = subst (λ w. IsSound (front + position) (base + w) n more kept) from_is added.sound

  runs_are : take i rs ++ (more ++ drop j rs) ≡ three
  runs_are = sym (turned_back rs one two three more i j m k low high one_is added.runs m_is k_is three_is)

  starts_are : take (widths (take i rs)) ss ++ (kept ++ drop (widths (take j rs)) ss) ≡ threes
  starts_are =
      let rise = widths_rise i j rs low in
      let all = parts front base len rs ss sound j in
      ap₂ (λ a b. take a ss ++ (kept ++ drop b ss)) (sym from_is) (sym to_is)
      ∙ sym (turned_back ss ones twos threes kept from to u v (omega (arith, rise, from_is, to_is)) (omega (arith, all, to_is)) ones_are added.starts_are u_is v_is threes_are)

  places_are : take position (expand rs ss) ++ (expand more kept ++ drop (position + n) (expand rs ss)) ≡ take position (expand rs ss) ++ (ps ++ drop (position + n) (expand rs ss))
  places_are = ap (λ l. take position (expand rs ss) ++ (l ++ drop (position + n) (expand rs ss))) added.places

  pub replaced : (last : List Run) (b : ℕ) → b + widths three < 2 ^ 64 → last ≡ renumbered front b three
      → (expand last threes ≡ take position (expand rs ss) ++ (ps ++ drop (position + n) (expand rs ss))) × IsSound front b len last threes
  replaced last b h e =
      subst₂ (λ x y. (expand x y ≡ take position (expand rs ss) ++ (ps ++ drop (position + n) (expand rs ss))) × IsSound front b len x y) (ap (renumbered front b) runs_are ∙ sym e) starts_are (
        anew_places front base len position n i j rs more ss kept sound low start stop new b ∙ places_are,
        anew_sound front base len position n i j rs more ss kept sound low start stop new b (subst (λ l. b + widths l < 2 ^ 64) (sym runs_are) h),
      )

  -- how they are numbered before that
  front_run : take k three ≡ take i rs ++ more
  front_run =
      ap (take k) (sym runs_are ∙ sym (append_assoc (take i rs) more (drop j rs)))
      ∙ take_at (take i rs ++ more) (drop j rs) k (let long = length-take-le i rs (omega (arith, low, high)) in let all = length-append (take i rs) more in omega (arith, long, all, k_is))

  back_run : drop k three ≡ drop j rs
  back_run =
      ap (drop k) (sym runs_are ∙ sym (append_assoc (take i rs) more (drop j rs)))
      ∙ drop_at (take i rs ++ more) (drop j rs) k (let long = length-take-le i rs (omega (arith, low, high)) in let all = length-append (take i rs) more in omega (arith, long, all, k_is))

  pub replaced_first : IsNumbered front base (take k three)
  replaced_first = subst (IsNumbered front base) (sym front_run) (first_numbered front base len position n i j rs more ss kept sound low start stop new)

  pub replaced_behind : IsNumbered (front + counts (take k three)) (base + to) (drop k three)
  replaced_behind =
      let sum = ap counts front_run ∙ counts-append (take i rs) more in
      let added_count = new.count in
      let rest = rest_numbered front base len position n i j rs more ss kept sound low start stop new in
      subst (λ l. IsNumbered (front + counts (take k three)) (base + to) l) (sym back_run)
      (subst₂ (λ x y. IsNumbered x y (drop j rs)) (let same : front + (position + n) ≡ front + counts (take k three) = omega (arith, sum, added_count, start) in same)
      (let same : base + widths (take j rs) ≡ base + to = omega (arith, to_is) in same) rest)

  pub replaced_starts : from + length kept ≡ widths (take k three)
  replaced_starts =
      let sum = ap widths front_run ∙ widths-append (take i rs) more in
      let wide = new.starts_are in omega (arith, sum, wide, from_is)

  pub replaced_count : counts three ≡ len
  replaced_count = ap counts (sym runs_are) ∙ sums front base len position n i j rs more ss kept sound low start stop new

  -- and how many starts they have
  pub replaced_wide : widths three ≡ from + (length kept + widths (drop j rs))
  replaced_wide =
      let all = ap widths (sym runs_are) ∙ widths-append (take i rs) (more ++ drop j rs) in
      let rest = widths-append more (drop j rs) in
      let added_starts = new.starts_are in omega (arith, all, rest, added_starts, from_is)

  pub replaced_rest : to + widths (drop k three) ≡ length ss
  replaced_rest =
      let same = ap widths back_run in
      let all = parts front base len rs ss sound j in omega (arith, same, all, to_is)
