-- Of files in the order of their numbers, the last of each number are one a number.
use Rattle.std.specs.Prelude.{Contains, ◌⊎◌, if◌then◌else◌}
use Rattle.std.specs.List.Sorted.{IsPermutation, IsSorted}
use Rattle.std.specs.Ordering.{bool_cmp, nat_cmp, is_lt, ordering_then}
use Rattle.std.specs.declared.cmp.Ordering.{Ordering}
use Rattle.std.specs.declared.cmp.Ordering.TheVariants.{Less, Equal}
use Rattle.std.specs.Cmp.{nat_cmp_is}
use Rattle.std.proofs.Common.{◌≡◌, ℕ, zero, suc, ◌+◌, ◌<◌, Bool, true, false, List, [], ◌∷◌, ◌++◌, length, get_or, drop, nat_eq, refl, sym, ◌∙◌, ap, subst, inl, inr, arith}
use Rattle.std.proofs.lemmas.Bool.{false≢true, cases_order}
use Rattle.std.proofs.lemmas.Bool.Decides.{Decides-eqb}
use Rattle.std.proofs.lemmas.List.Elements.{Contains-append_cases}
use Rattle.std.proofs.lemmas.List.Sorted.{IsPermutation-sym, Contains-permutation}
use Rattle.raft_log_recovery_scan.specs.Runs.{found_cmp}
use Rattle.raft_log_recovery_scan.specs.declared.scanning.found.FoundFile.{FoundFile}
use Rattle.raft_log_offline.specs.Sources.{AreRising, IsLastOf, IsNextAnother, IsNoLater, IsOneEach, lasts, unless_again}

-- Lists.

pub first_or_later : {X : Type 0} (x : X) (xs : List X) (y : X) → Contains (x ∷ xs) y → (x ≡ y) ⊎ Contains xs y
first_or_later x xs y (zero, lt, is) = inl is
first_or_later x xs y (suc k, lt, is) = inr (k, omega (arith, lt), is)

pub later : {X : Type 0} (x : X) (xs : List X) (y : X) → Contains xs y → Contains (x ∷ xs) y
later x xs y (k, lt, is) = (suc k, omega (arith, lt), is)

pub first : {X : Type 0} (x : X) (xs : List X) → Contains (x ∷ xs) x
first x xs = (0, omega arith, refl)

pub in_none : {X : Type 0} (y : X) → Contains [] y → ⊥
in_none y (k, lt, is) = omega (arith, lt)

-- The order of files.

pub itself : (f : FoundFile) → IsNoLater f f
itself f = inr (refl, λ is. is)

pub no_later_then : (a b c : FoundFile) → IsNoLater a b → IsNoLater b c → IsNoLater a c
no_later_then a b c (inl x) (inl y) = inl (omega (arith, x, y))
no_later_then a b c (inl x) (inr y) = inl (omega (arith, x, y.0))
no_later_then a b c (inr x) (inl y) = inl (omega (arith, x.0, y))
no_later_then a b c (inr x) (inr y) = inr (x.0 ∙ y.0, λ is. y.1 (x.1 is))

one_sign : (x y : Bool) → (x ≡ true → y ≡ true) → (y ≡ true → x ≡ true) → x ≡ y
one_sign true true there back = refl
one_sign false false there back = refl
one_sign true false there back = sym (there refl)
one_sign false true there back = back refl

both_ways : (a b : FoundFile) → IsNoLater a b → IsNoLater b a → (a.path_id ≡ b.path_id) × (a.signed ≡ b.signed)
both_ways a b (inl x) (inl y) = absurd (omega (arith, x, y))
both_ways a b (inl x) (inr y) = absurd (omega (arith, x, y.0))
both_ways a b (inr x) (inl y) = absurd (omega (arith, x.0, y))
both_ways a b (inr x) (inr y) = (x.0, one_sign a.signed b.signed x.1 y.1)

-- the first has the lesser number, or the same one and lies no later
abbrev Before : FoundFile → FoundFile → Type 0
Before a b = (a.seq < b.seq) ⊎ ((a.seq ≡ b.seq) × IsNoLater a b)

before_then : (a b c : FoundFile) → Before a b → Before b c → Before a c
before_then a b c (inl x) (inl y) = inl (omega (arith, x, y))
before_then a b c (inl x) (inr y) = inl (omega (arith, x, y.0))
before_then a b c (inr x) (inl y) = inl (omega (arith, x.0, y))
before_then a b c (inr x) (inr y) = inr (omega (arith, x.0, y.0), no_later_then a b c x.1 y.1)

sign_not_less : (x y : Bool) → is_lt (bool_cmp y x) ≡ false → x ≡ true → y ≡ true
sign_not_less x true not is = refl
sign_not_less true false not is = sym not
sign_not_less false false not is = is

-- what isn't less than the one before it stands behind it
not_less : (a b : FoundFile) → is_lt (found_cmp b a) ≡ false → Before a b
not_less a b not =
    let signs : Ordering = bool_cmp b.signed a.signed in
    elim (cases_order a.seq b.seq) [
      | inr (inl below) ↦ inl below
      | inl same ↦
          let level : Equal ≡ nat_cmp b.seq a.seq = nat_cmp_is b.seq a.seq Equal (sym same) in
          let rest : is_lt (ordering_then (nat_cmp b.path_id a.path_id) signs) ≡ false =
          ap (λ (o : Ordering). is_lt (ordering_then (ordering_then o (nat_cmp b.path_id a.path_id)) signs)) level ∙ not in
          elim (cases_order a.path_id b.path_id) [
            | inr (inl earlier) ↦ inr (same, inl earlier)
            | inl one ↦
                let also : Equal ≡ nat_cmp b.path_id a.path_id = nat_cmp_is b.path_id a.path_id Equal (sym one) in
                inr (same, inr (one, sign_not_less a.signed b.signed (ap (λ (o : Ordering). is_lt (ordering_then o signs)) also ∙ rest)))
            | inr (inr later) ↦
                let under : Less ≡ nat_cmp b.path_id a.path_id = nat_cmp_is b.path_id a.path_id Less later in
                absurd (false≢true (sym rest ∙ ap (λ (o : Ordering). is_lt (ordering_then o signs)) (sym under)))
          ]
      | inr (inr above) ↦
          let under : Less ≡ nat_cmp b.seq a.seq = nat_cmp_is b.seq a.seq Less above in
          absurd (false≢true (sym not ∙ ap (λ (o : Ordering). is_lt (ordering_then (ordering_then o (nat_cmp b.path_id a.path_id)) signs)) (sym under)))
    ]

-- each stands before all behind it
abbrev AreOrdered : List FoundFile → Type 0
AreOrdered [] = Unit {0}
AreOrdered (f ∷ fs) = ((g : FoundFile) → Contains fs g → Before f g) × AreOrdered fs

ordered : (files : List FoundFile) → ((k : ℕ) (d : FoundFile) → suc k < length files → Before (get_or files k d) (get_or files (suc k) d)) → AreOrdered files
ordered [] next = tt
ordered (f ∷ []) next = ((λ g there. absurd (in_none g there)), tt)
ordered (f ∷ h ∷ fs) next =
    let rest = ordered (h ∷ fs) (λ k d lt. next (suc k) d (omega (arith, lt))) in
    let one : Before f h = next 0 f (omega arith) in (
      (λ g there. elim (first_or_later h fs g there) [
        | inl same ↦ subst (Before f) same one
        | inr behind ↦ before_then f h g one (rest.0 g behind)
      ]),
      rest,
    )

-- Files that are kept.

kept_or : (f : FoundFile) (fs : List FoundFile) (g : FoundFile) → Contains (lasts (f ∷ fs)) g → Contains (unless_again f fs) g ⊎ Contains (lasts fs) g
kept_or f fs g there = Contains-append_cases (unless_again f fs) (lasts fs) g there

-- a file that is kept is the file, and none behind it has its number
kept_is : (f : FoundFile) (fs : List FoundFile) (g : FoundFile) → AreOrdered (f ∷ fs) → Contains (unless_again f fs) g → (f ≡ g) × ((h : FoundFile) → Contains fs h → f.seq < h.seq)
kept_is f [] g order there = elim (first_or_later f [] g there) [
  | inl same ↦ (same, λ h inside. absurd (in_none h inside))
  | inr none ↦ absurd (in_none g none)
]
kept_is f (n ∷ fs) g order there = pick (nat_eq f.seq n.seq) refl there
  where
    pick : (b : Bool) → nat_eq f.seq n.seq ≡ b → Contains (if b then [] else f ∷ []) g → (f ≡ g) × ((h : FoundFile) → Contains (n ∷ fs) h → f.seq < h.seq)
    pick true is inside = absurd (in_none g inside)
    pick false is inside = elim (first_or_later f [] g inside) [
      | inr none ↦ absurd (in_none g none)
      | inl same ↦ (
        same,
        λ h behind.
            let step : f.seq < n.seq = elim (order.0 n (first n fs)) [ inl below ↦ below | inr level ↦ absurd (false≢true (sym is ∙ (Decides-eqb f.seq n.seq).1 level.0)) ] in
            elim (first_or_later n fs h behind) [
              | inl one ↦ subst (λ (x : FoundFile). f.seq < x.seq) one step
              | inr more ↦ elim (order.1.0 h more) [ inl below ↦ omega (arith, step, below) | inr level ↦ omega (arith, step, level.0) ]
            ],
      )
    ]

kept_there : (files : List FoundFile) (g : FoundFile) → AreOrdered files → Contains (lasts files) g → Contains files g
kept_there [] g order there = there
kept_there (f ∷ fs) g order there = elim (kept_or f fs g there) [
  | inl here ↦ (let is = kept_is f fs g order here in subst (Contains (f ∷ fs)) is.0 (first f fs))
  | inr behind ↦ later f fs g (kept_there fs g order.1 behind)
]

kept_last : (files : List FoundFile) (g : FoundFile) → AreOrdered files → Contains (lasts files) g → (other : FoundFile) → Contains files other → other.seq ≡ g.seq → IsNoLater other g
kept_last [] g order there other inside same = absurd (in_none other inside)
kept_last (f ∷ fs) g order there other inside same = elim (kept_or f fs g there) [
  | inl here ↦ (let is = kept_is f fs g order here in elim (first_or_later f fs other inside) [
    | inl one ↦ subst (IsNoLater other) (sym one ∙ is.0) (itself other)
    | inr more ↦ (let above = is.1 other more in let q = ap (λ (x : FoundFile). x.seq) is.0 in absurd (omega (arith, above, q, same)))
  ])
  | inr behind ↦ elim (first_or_later f fs other inside) [
    | inr more ↦ kept_last fs g order.1 behind other more same
    | inl one ↦ (let s = ap (λ (x : FoundFile). x.seq) one in elim (order.0 g (kept_there fs g order.1 behind)) [
      | inl below ↦ absurd (omega (arith, below, s, same))
      | inr level ↦ subst (λ (x : FoundFile). IsNoLater x g) one level.1
    ])
  ]
]

same_found : (a b : FoundFile) → a.seq ≡ b.seq → a.path_id ≡ b.path_id → a.signed ≡ b.signed → a ≡ b
same_found a b seq path sign = ap (λ (n : ℕ). record a { seq = n }) seq
    ∙ ap (λ (p : ℕ). record { seq = b.seq; path_id = p; signed = a.signed }) path ∙ ap (λ (s : Bool). record b { signed = s }) sign

behind_last : (f : FoundFile) (fs : List FoundFile) (g : FoundFile) → IsLastOf (f ∷ fs) g → Contains fs g → IsLastOf fs g
behind_last f fs g is there = record { there = there; last = λ other inside same. is.last other (later f fs other inside) same }

-- what is kept of the others is kept, and the file itself, unless the next one has its number
all_kept_more : (f n : FoundFile) (fs : List FoundFile) (g : FoundFile) (b : Bool) → nat_eq f.seq n.seq ≡ b → AreOrdered (f ∷ n ∷ fs) → IsLastOf (f ∷ n ∷ fs) g
    → (Contains (n ∷ fs) g → Contains (lasts (n ∷ fs)) g) → Contains ((if b then [] else f ∷ []) ++ lasts (n ∷ fs)) g
all_kept_more f n fs g true again order is rest = elim (first_or_later f (n ∷ fs) g is.there) [
  | inr behind ↦ rest behind
  | inl same ↦
      (let one : f.seq ≡ n.seq = (Decides-eqb f.seq n.seq).0 again in
      let s : n.seq ≡ g.seq = sym one ∙ ap (λ (x : FoundFile). x.seq) same in
      let most = is.last n (later f (n ∷ fs) n (first n fs)) s in
      let least : IsNoLater f n = elim (order.0 n (first n fs)) [ inl below ↦ absurd (omega (arith, below, one)) | inr level ↦ level.1 ] in
      let both = both_ways n g most (subst (λ (x : FoundFile). IsNoLater x n) same least) in
      rest (subst (Contains (n ∷ fs)) (same_found n g s both.0 both.1) (first n fs)))
]
all_kept_more f n fs g false apart order is rest = elim (first_or_later f (n ∷ fs) g is.there) [
  | inl same ↦ subst (Contains (f ∷ lasts (n ∷ fs))) same (first f (lasts (n ∷ fs)))
  | inr behind ↦ later f (lasts (n ∷ fs)) g (rest behind)
]

all_kept : (files : List FoundFile) (g : FoundFile) → AreOrdered files → IsLastOf files g → Contains (lasts files) g
all_kept [] g order is = is.there
all_kept (f ∷ []) g order is = elim (first_or_later f [] g is.there) [ inl same ↦ subst (Contains (f ∷ [])) same (first f []) | inr none ↦ absurd (in_none g none) ]
all_kept (f ∷ n ∷ fs) g order is = all_kept_more f n fs g (nat_eq f.seq n.seq) refl order is (λ there. all_kept (n ∷ fs) g order.1 (behind_last f (n ∷ fs) g is there))

-- one file in front of others that rise
rising_more : (f n : FoundFile) (fs : List FoundFile) (b : Bool) → nat_eq f.seq n.seq ≡ b → AreOrdered (f ∷ n ∷ fs) → AreRising (lasts (n ∷ fs)) → AreRising ((if b then [] else f ∷ []) ++ lasts (n ∷ fs))
rising_more f n fs true again order rest = rest
rising_more f n fs false apart order rest = (
  (λ other there.
      let inside = kept_there (n ∷ fs) other order.1 there in
      let step : f.seq < n.seq = elim (order.0 n (first n fs)) [ inl below ↦ below | inr level ↦ absurd (false≢true (sym apart ∙ (Decides-eqb f.seq n.seq).1 level.0)) ] in
      elim (first_or_later n fs other inside) [
        | inl one ↦ subst (λ (x : FoundFile). f.seq < x.seq) one step
        | inr more ↦ elim (order.1.0 other more) [ inl below ↦ omega (arith, step, below) | inr level ↦ omega (arith, step, level.0) ]
      ]),
  rest,
)

rising : (files : List FoundFile) → AreOrdered files → AreRising (lasts files)
rising [] order = tt
rising (f ∷ []) order = ((λ other there. absurd (in_none other there)), tt)
rising (f ∷ n ∷ fs) order = rising_more f n fs (nat_eq f.seq n.seq) refl order (rising (n ∷ fs) order.1)

-- What was found in any order, and is kept.

last_of_same : (found files : List FoundFile) (g : FoundFile) → IsPermutation found files → IsLastOf files g → IsLastOf found g
last_of_same found files g same is = record {
  there = Contains-permutation files found g (IsPermutation-sym found files same) is.there;
  last = λ other inside. is.last other (Contains-permutation found files other same inside);
}

pub one_of_each : (found files : List FoundFile) → IsPermutation found files → IsSorted found_cmp files → IsOneEach found (lasts files)
one_of_each found files same sorted =
    let order = ordered files (λ k d lt. in_turn k d lt) in
    record {
      are = λ g there. last_of_same found files g same (record { there = kept_there files g order there; last = kept_last files g order there });
      all = λ g is. all_kept files g order (last_of_same files found g (IsPermutation-sym found files same) is);
      rising = rising files order;
    }
  where
    in_turn : (k : ℕ) (d : FoundFile) → suc k < length files → Before (get_or files k d) (get_or files (suc k) d)
    in_turn k d lt =
        let next : k + 1 ≡ suc k = omega arith in
        subst (λ (j : ℕ). Before (get_or files k d) (get_or files j d)) next (not_less (get_or files k d) (get_or files (k + 1) d) (sorted k d (omega arith) (omega (arith, lt))))

-- One file further.

abbrev IsNextApart : List FoundFile → ℕ → Type 0
IsNextApart files at = (suc at ≡ length files) ⊎ ((d : FoundFile) → (get_or files at d).seq ≡ (get_or files (suc at) d).seq → ⊥)

kept_first : (f n : FoundFile) (fs : List FoundFile) (b : Bool) → nat_eq f.seq n.seq ≡ b → (f.seq ≡ n.seq → ⊥) → (if b then [] else f ∷ []) ++ lasts (n ∷ fs) ≡ f ∷ lasts (n ∷ fs)
kept_first f n fs true again apart = absurd (apart ((Decides-eqb f.seq n.seq).0 again))
kept_first f n fs false other apart = refl

kept_in : (files : List FoundFile) (i : ℕ) (d : FoundFile) → i < length files → IsNextApart files i → lasts (drop i files) ≡ get_or files i d ∷ lasts (drop (suc i) files)
kept_in [] i d lt next = absurd (omega (arith, lt))
kept_in (f ∷ []) zero d lt next = refl
kept_in (f ∷ n ∷ fs) zero d lt (inl end) = absurd (omega (arith, end))
kept_in (f ∷ n ∷ fs) zero d lt (inr apart) = kept_first f n fs (nat_eq f.seq n.seq) refl (apart f)
kept_in (f ∷ fs) (suc i) d lt (inl end) = kept_in fs i d (omega (arith, lt)) (inl (omega (arith, end)))
kept_in (f ∷ fs) (suc i) d lt (inr apart) = kept_in fs i d (omega (arith, lt)) (inr apart)

passed_first : (f n : FoundFile) (fs : List FoundFile) (b : Bool) → nat_eq f.seq n.seq ≡ b → ((f.seq ≡ n.seq → ⊥) → ⊥) → (if b then [] else f ∷ []) ++ lasts (n ∷ fs) ≡ lasts (n ∷ fs)
passed_first f n fs true again same = refl
passed_first f n fs false other same = absurd (same (λ is. false≢true (sym other ∙ (Decides-eqb f.seq n.seq).1 is)))

passed_in : (files : List FoundFile) (i : ℕ) → i < length files → (IsNextApart files i → ⊥) → lasts (drop i files) ≡ lasts (drop (suc i) files)
passed_in [] i lt next = absurd (omega (arith, lt))
passed_in (f ∷ []) zero lt next = absurd (next (inl refl))
passed_in (f ∷ n ∷ fs) zero lt next = passed_first f n fs (nat_eq f.seq n.seq) refl (λ apart. next (inr (λ d. apart)))
passed_in (f ∷ fs) (suc i) lt next = passed_in fs i (omega (arith, lt)) (λ is. next (to is))
  where
    to : IsNextApart fs i → IsNextApart (f ∷ fs) (suc i)
    to (inl end) = inl (omega (arith, end))
    to (inr apart) = inr apart

-- the same, told by the place behind
next_apart : (files : List FoundFile) (at : ℕ) → IsNextAnother files at → IsNextApart files at
next_apart files at (inl end) = inl (omega (arith, end))
next_apart files at (inr apart) = let e : at + 1 ≡ suc at = omega arith in inr (subst (λ (k : ℕ). (d : FoundFile) → (get_or files at d).seq ≡ (get_or files k d).seq → ⊥) e apart)

next_another : (files : List FoundFile) (at : ℕ) → IsNextApart files at → IsNextAnother files at
next_another files at (inl end) = inl (omega (arith, end))
next_another files at (inr apart) = let e : suc at ≡ at + 1 = omega arith in inr (subst (λ (k : ℕ). (d : FoundFile) → (get_or files at d).seq ≡ (get_or files k d).seq → ⊥) e apart)

pub kept_here : (files : List FoundFile) (i : ℕ) (d : FoundFile) → i < length files → IsNextAnother files i → lasts (drop i files) ≡ get_or files i d ∷ lasts (drop (i + 1) files)
kept_here files i d lt next =
    let e : suc i ≡ i + 1 = omega arith in
    subst (λ (k : ℕ). lasts (drop i files) ≡ get_or files i d ∷ lasts (drop k files)) e (kept_in files i d lt (next_apart files i next))

pub passed_here : (files : List FoundFile) (i : ℕ) → i < length files → (IsNextAnother files i → ⊥) → lasts (drop i files) ≡ lasts (drop (i + 1) files)
passed_here files i lt next =
    let e : suc i ≡ i + 1 = omega arith in
    subst (λ (k : ℕ). lasts (drop i files) ≡ lasts (drop k files)) e (passed_in files i lt (λ is. next (next_another files i is)))
