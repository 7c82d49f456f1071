-- Where the files that a scan kept begin.
use Rattle.std.specs.Prelude.{Contains, ◌⊎◌}
use Rattle.std.specs.List.{sum_by}
use Rattle.std.specs.List.Sorted.{IsPermutation, IsSorted}
use Rattle.std.specs.Cmp.{nat_cmp_is}
use Rattle.std.specs.Ordering.{bool_cmp, is_lt, nat_cmp, ordering_then}
use Rattle.std.specs.declared.cmp.Ordering.{Ordering}
use Rattle.std.specs.declared.cmp.Ordering.TheVariants.{Less}
use Rattle.std.proofs.Common.{◌≡◌, ℕ, ◌+◌, ◌-◌, ◌<◌, ◌≤◌, zero, suc, Bool, List, [], ◌∷◌, ◌++◌, length, get_or, cond, eqb, ◌&&◌, refl, sym, ap, subst, ◌∙◌, inl, inr, true, false, arith, length-append, append_assoc}
use Rattle.std.proofs.lemmas.Bool.{cases_lt, cases_eq, false≢true}
use Rattle.std.proofs.lemmas.List.Elements.{Contains-get_or}
use Rattle.std.proofs.lemmas.List.Sorted.{Contains-permutation, IsPermutation-sym, sum_by-IsPermutation}
use Rattle.std.proofs.lemmas.List.Sums.{sum_by-append, sum_by-cons}
use Rattle.raft_log_fs.specs.Disk.{Disk}
use Rattle.raft_log_recovery_scan.specs.Found.{AreDistinct, AreFilesIn, FileLiesIn}
use Rattle.raft_log_recovery_scan.specs.Runs.{FollowsNumber, IsRunOf, found_cmp}
use Rattle.raft_log_recovery_scan.specs.declared.file_kind.FileKind.{FileKind}
use Rattle.raft_log_recovery_scan.specs.declared.scanning.found.FoundFile.{FoundFile}
use Rattle.raft_log_recovery_laws.specs.Beginning.{IsTwice}

-- In order.

-- a file with a lower number is before the others
lower_first : (a b : FoundFile) → b.seq < a.seq → is_lt (found_cmp b a) ≡ true
lower_first a b less =
    subst (λ (o : Ordering). is_lt (ordering_then (ordering_then o (nat_cmp b.path_id a.path_id)) (bool_cmp b.signed a.signed)) ≡ true) (nat_cmp_is b.seq a.seq Less less) refl

numbers_rise : (a b : FoundFile) → is_lt (found_cmp b a) ≡ false → a.seq ≤ b.seq
numbers_rise a b sorted = elim (cases_lt b.seq a.seq) [
  | inl less ↦ absurd (false≢true (sym sorted ∙ lower_first a b less))
  | inr up ↦ up
]

-- of sorted files the numbers rise, however far apart
rise_by : (files : List FoundFile) (f : FoundFile) (i n : ℕ) → IsSorted found_cmp files → i + n < length files → (get_or files i f).seq ≤ (get_or files (i + n) f).seq
rise_by files f i zero sorted within =
    let same : i + 0 ≡ i = omega arith in
    subst (λ (k : ℕ). (get_or files i f).seq ≤ (get_or files k f).seq) (sym same) (omega arith)
rise_by files f i (suc n) sorted within =
    let next : i + n + 1 ≡ i + suc n = omega arith in
    let low : 0 ≤ i + n = omega arith in
    let below : i + n + 1 < length files = omega (arith, within) in
    let before = rise_by files f i n sorted (omega (arith, within)) in
    let one = numbers_rise (get_or files (i + n) f) (get_or files (i + n + 1) f) (sorted (i + n) f low below) in
    subst (λ (k : ℕ). (get_or files i f).seq ≤ (get_or files k f).seq) next (omega (arith, before, one))

pub rise : (files : List FoundFile) (f : FoundFile) (i j : ℕ) → IsSorted found_cmp files → i ≤ j → j < length files → (get_or files i f).seq ≤ (get_or files j f).seq
rise files f i j sorted up within =
    let apart : i + (j - i) ≡ j = omega (arith, up) in
    subst (λ (k : ℕ). (get_or files i f).seq ≤ (get_or files k f).seq) apart (rise_by files f i (j - i) sorted (omega (arith, within, up)))

-- Each once.

same_sign : Bool → Bool → ℕ
same_sign true b = cond b 1 0
same_sign false b = cond b 0 1

sign_itself : (b : Bool) → same_sign b b ≡ 1
unfolding same_sign
sign_itself true = refl
sign_itself false = refl

sign_or_none : (a b : Bool) → (a ≡ b) ⊎ (same_sign a b ≡ 0)
unfolding same_sign
sign_or_none true true = inl refl
sign_or_none false false = inl refl
sign_or_none true false = inr refl
sign_or_none false true = inr refl

same_sign-le : (a b : Bool) → same_sign a b ≤ 1
unfolding same_sign
same_sign-le true true = omega arith
same_sign-le false false = omega arith
same_sign-le true false = omega arith
same_sign-le false true = omega arith

-- whether a file is this one
is_one : FoundFile → FoundFile → ℕ
is_one f g = cond (eqb f.seq g.seq && eqb f.path_id g.path_id) (same_sign f.signed g.signed) 0

itself : (f : FoundFile) → is_one f f ≡ 1
unfolding is_one
itself f = let sign = sign_itself f.signed in grind (arith, sign)

one_or_none : (f g : FoundFile) → (f ≡ g) ⊎ (is_one f g ≡ 0)
unfolding is_one
one_or_none f g = elim (cases_eq f.seq g.seq) [
  | inl seq ↦ elim (cases_eq f.path_id g.path_id) [
    | inl path ↦ elim (sign_or_none f.signed g.signed) [
      | inl sign ↦ inl (λ i. record { seq = seq i; path_id = path i; signed = sign i })
      | inr other ↦ inr (grind (arith, other))
    ]
    | inr apart ↦ inr (grind arith)
  ]
  | inr apart ↦ inr (grind arith)
]

none_of : (f : FoundFile) (files : List FoundFile) → (Contains files f → ⊥) → sum_by (is_one f) files ≡ 0
none_of f [] absent = refl
none_of f (g ∷ files) absent =
    let rest = none_of f files (λ (k, lt, is). absent (suc k, omega (arith, lt), is)) in
    let head : is_one f g ≡ 0 = elim (one_or_none f g) [ inl same ↦ absurd (absent (0, omega arith, sym same)) | inr none ↦ none ] in
    omega (arith, rest, head, sum_by-cons (is_one f) g files)

is_one-le : (f g : FoundFile) → is_one f g ≤ 1
unfolding is_one
is_one-le f g = let sign = same_sign-le f.signed g.signed in grind (arith, sign)

once : (f : FoundFile) (files : List FoundFile) → AreDistinct files → sum_by (is_one f) files ≤ 1
once f [] distinct = omega arith
once f (g ∷ files) (lone, distinct) = elim (one_or_none f g) [
  | inl same ↦
      let rest = none_of f files (subst (λ (h : FoundFile). Contains files h → ⊥) (sym same) lone) in
      omega (arith, rest, is_one-le f g, sum_by-cons (is_one f) g files)
  | inr none ↦ omega (arith, once f files distinct, none, sum_by-cons (is_one f) g files)
]

-- so no two that stand side by side are one
apart : (found before behind : List FoundFile) (f g : FoundFile) → AreDistinct found → IsPermutation found (before ++ f ∷ g ∷ behind) → f ≡ g → ⊥
apart found before behind f g distinct same one =
    let count = sum_by-IsPermutation (is_one f) found (before ++ f ∷ g ∷ behind) same in
    let second : is_one f g ≡ 1 = subst (λ (h : FoundFile). is_one f h ≡ 1) one (itself f) in
    omega (
      arith,
      count,
      once f found distinct,
      second,
      itself f,
      sum_by-append (is_one f) before (f ∷ g ∷ behind),
      sum_by-cons (is_one f) f (g ∷ behind),
      sum_by-cons (is_one f) g behind,
    )

-- Where they begin.

pub at_end : (before behind : List FoundFile) (f d : FoundFile) → get_or (before ++ f ∷ behind) (length before) d ≡ f
at_end [] behind f d = refl
at_end (b ∷ before) behind f d = at_end before behind f d

-- no file has the number below that of the first
abbrev pub NoneBelow : FileKind → List (List ℕ) → Disk → ℕ → Type 0
NoneBelow kind directories d first = (m : ℕ) → suc m ≡ first → (f : FoundFile) → FileLiesIn kind directories d f → f.seq ≡ m → ⊥

-- all files that lie there are among those that are in order
pub listed : (kind : FileKind) (directories : List (List ℕ)) (d : Disk) (found all : List FoundFile) (f : FoundFile) → AreFilesIn kind directories d found → IsPermutation found all → FileLiesIn kind directories d f → Contains all f
listed kind directories d found all f are same lies = Contains-permutation found all f same (are.all f lies)

pub lies_there : (kind : FileKind) (directories : List (List ℕ)) (d : Disk) (found all : List FoundFile) (f : FoundFile) → AreFilesIn kind directories d found → IsPermutation all found → Contains all f → FileLiesIn kind directories d f
lies_there kind directories d found all f are same there = are.found f (Contains-permutation all found f same there)

behind_it : (before behind : List FoundFile) (f g d : FoundFile) → get_or (before ++ f ∷ g ∷ behind) (suc (length before)) d ≡ g
behind_it [] behind f g d = refl
behind_it (b ∷ before) behind f g d = behind_it before behind f g d

next_to : (before behind : List FoundFile) (f g d : FoundFile) → get_or (before ++ f ∷ g ∷ behind) (length before + 1) d ≡ g
next_to before behind f g d =
    let next : suc (length before) ≡ length before + 1 = omega arith in
    subst (λ (n : ℕ). get_or (before ++ f ∷ g ∷ behind) n d ≡ g) next (behind_it before behind f g d)

unbroken : (kind : FileKind) (directories : List (List ℕ)) (d : Disk) (found : List FoundFile) (g : FoundFile) (gs : List FoundFile) → AreFilesIn kind directories d found → IsPermutation found (g ∷ gs) → IsSorted found_cmp (g ∷ gs)
    → NoneBelow kind directories d g.seq
unbroken kind directories d found g gs are same sorted m next f lies is =
    let there = listed kind directories d found (g ∷ gs) f are same lies in
    let low : 0 ≤ there.0 = omega arith in
    let up : g.seq ≤ f.seq = subst (λ (h : FoundFile). g.seq ≤ h.seq) there.2 (rise (g ∷ gs) f 0 there.0 sorted low there.1) in
    omega (arith, up, next, is)

module _ (kind : FileKind) (directories : List (List ℕ)) (d : Disk) (found before behind : List FoundFile) (last first : FoundFile) (are : AreFilesIn kind directories d found)
    (same : IsPermutation found (before ++ last ∷ first ∷ behind)) (sorted : IsSorted found_cmp (before ++ last ∷ first ∷ behind)) (breaks : FollowsNumber last first → ⊥) where
  abbrev all : List FoundFile
  all = before ++ last ∷ first ∷ behind

  long : length before + 1 < length all
  long = omega (arith, length-append before (last ∷ first ∷ behind))

  ordered : is_lt (found_cmp first last) ≡ false
  ordered =
      let low : 0 ≤ length before = omega arith in
      subst (λ (h : FoundFile). is_lt (found_cmp h last) ≡ false) (next_to before behind last first last)
      (subst (λ (h : FoundFile). is_lt (found_cmp (get_or all (length before + 1) last) h) ≡ false) (at_end before (first ∷ behind) last last) (sorted (length before) last low long))

  -- a file is before the break or behind it
  beside : (f : FoundFile) → FileLiesIn kind directories d f → (f.seq ≤ last.seq) ⊎ (first.seq ≤ f.seq)
  beside f lies =
      let there = listed kind directories d found all f are same lies in
      elim (cases_lt there.0 (length before + 1)) [
        | inl less ↦
            let low : there.0 ≤ length before = omega (arith, less) in
            let short : length before < length all = omega (arith, long) in
            inl (subst (λ (h : FoundFile). f.seq ≤ h.seq) (at_end before (first ∷ behind) last f)
            (subst (λ (h : FoundFile). h.seq ≤ (get_or all (length before) f).seq) there.2 (rise all f there.0 (length before) sorted low short)))
        | inr up ↦
            inr (subst (λ (h : FoundFile). h.seq ≤ f.seq) (next_to before behind last first f)
            (subst (λ (h : FoundFile). (get_or all (length before + 1) f).seq ≤ h.seq) there.2 (rise all f (length before + 1) there.0 sorted up there.1)))
      ]

  gap : last.seq < first.seq → NoneBelow kind directories d first.seq
  gap less m next f lies is = elim (beside f lies) [
    | inl low ↦ breaks (omega (arith, less, low, next, is))
    | inr up ↦ omega (arith, up, next, is)
  ]

  twice : first.seq ≤ last.seq → IsTwice kind directories d first.seq
  twice up =
      let one : first.seq ≡ last.seq = omega (arith, up, numbers_rise last first ordered) in
      record {
        here = last;
        there = first;
        here_lies = lies_there kind directories d found all last are (IsPermutation-sym found all same) (subst (Contains all) (at_end before (first ∷ behind) last last) (Contains-get_or all (length before) last (omega (arith, long))));
        there_lies = lies_there kind directories d found all first are (IsPermutation-sym found all same) (subst (Contains all) (next_to before behind last first last) (Contains-get_or all (length before + 1) last long));
        here_number = sym one;
        there_number = refl;
        apart = apart found before behind last first are.once same;
      }

  broken : NoneBelow kind directories d first.seq ⊎ IsTwice kind directories d first.seq
  broken = elim (cases_lt last.seq first.seq) [ inl less ↦ inl (gap less) | inr up ↦ inr (twice up) ]

-- the kept files begin behind a gap, or with a number that two files have
pub kept_begin : (kind : FileKind) (directories : List (List ℕ)) (d : Disk) (found kept : List FoundFile) (g : FoundFile) (gs : List FoundFile) → AreFilesIn kind directories d found → IsRunOf found kept → kept ≡ g ∷ gs
    → NoneBelow kind directories d g.seq ⊎ IsTwice kind directories d g.seq
kept_begin kind directories d found kept g gs are run is = elim run.broken [
  | inl none ↦
      let all : run.dropped ++ kept ≡ g ∷ gs = ap (λ (l : List FoundFile). l ++ kept) none ∙ is in
      inl (unbroken kind directories d found g gs are (subst (IsPermutation found) all run.same) (subst (IsSorted found_cmp) all run.ordered))
  | inr b ↦
      let all : run.dropped ++ kept ≡ b.before ++ b.last ∷ b.first ∷ b.behind =
      ap (λ (l : List FoundFile). l ++ kept) b.ends ∙ ap (λ (l : List FoundFile). (b.before ++ b.last ∷ []) ++ l) b.begins ∙ append_assoc b.before (b.last ∷ []) (b.first ∷ b.behind) in
      let head : b.first ≡ g = cc in
      subst (λ (h : FoundFile). NoneBelow kind directories d h.seq ⊎ IsTwice kind directories d h.seq) head
      (broken kind directories d found b.before b.behind b.last b.first are (subst (IsPermutation found) all run.same) (subst (IsSorted found_cmp) all run.ordered) b.breaks)
]
