-- Where a finding is told: the first hole between runs.
use Rattle.std.proofs.Common.{◌≡◌, ℕ, ◌+◌, ◌<◌, ◌≤◌, Bool, true, false, if◌then◌else◌, nat_lt, List, [], ◌∷◌, ◌++◌, Some, None, refl, sym, ap, subst, ◌∙◌, arith}
use Rattle.std.proofs.lemmas.Bool.Decides.{nat_tests}
use Rattle.raft_log_offline.specs.Runs.{Run, HasNoHole, IsFirstHole, finding, leaves_hole}

-- Cases on a test.

pub by_test : {P : Type 0} (b : Bool) → (b ≡ true → P) → (b ≡ false → P) → P
by_test true f g = f refl
by_test false f g = g refl

pub if_so : {A : Type 0} (b : Bool) (x y : A) → b ≡ true → (if b then x else y) ≡ x
if_so true x y h = refl
if_so false x y h = cc

pub if_not : {A : Type 0} (b : Bool) (x y : A) → b ≡ false → (if b then x else y) ≡ y
if_not true x y h = cc
if_not false x y h = refl

pub some_is : {A P : Type 0} {x : A} → None ≡ Some x → P
some_is h = absurd (let never : ⊥ = cc in never)

pub same_value : {A : Type 0} {x y : A} → Some x ≡ Some y → x ≡ y
same_value h = cc

missing_if : (a b : ℕ) → nat_lt (a + 1) b ≡ true → a + 1 < b
missing_if a b h = grind (arith, nat_tests, h)

whole_if : (a b : ℕ) → nat_lt (a + 1) b ≡ false → b ≤ a + 1
whole_if a b h = grind (arith, nat_tests, h)

if_missing : (a b : ℕ) → a + 1 < b → nat_lt (a + 1) b ≡ true
if_missing a b h = grind (arith, nat_tests, h)

if_whole : (a b : ℕ) → b ≤ a + 1 → nat_lt (a + 1) b ≡ false
if_whole a b h = grind (arith, nat_tests, h)

head_is : {A : Type 0} {x y : A} {xs ys : List A} → (x ∷ xs) ≡ (y ∷ ys) → x ≡ y
head_is h = cc

-- a run before runs without a hole, where none lies between it and the first of them
whole_more : (run next : Run) (runs before : List Run) (last after : Run) (behind : List Run)
    → (next ∷ runs) ≡ before ++ last ∷ after ∷ behind → next.first ≤ run.last + 1
    → HasNoHole (before ++ last ∷ []) → HasNoHole (run ∷ before ++ last ∷ [])
whole_more run next runs [] last after behind split fits whole = (subst (λ (r : Run). r.first ≤ run.last + 1) (head_is split) fits, tt)
whole_more run next runs (x ∷ before) last after behind split fits whole = (subst (λ (r : Run). r.first ≤ run.last + 1) (head_is split) fits, whole)

one_further : (run next : Run) (runs : List Run) (end : ℕ) → next.first ≤ run.last + 1 → IsFirstHole (next ∷ runs) end → IsFirstHole (run ∷ next ∷ runs) end
one_further run next runs end fits h = record {
  before = run ∷ h.before;
  run = h.run;
  next = h.next;
  behind = h.behind;
  split = ap (λ rs. run ∷ rs) h.split;
  whole = whole_more run next runs h.before h.run h.next h.behind h.split fits h.whole;
  missing = h.missing;
  end_is = h.end_is;
}

-- what is told is the end before the first hole
pub told_is_first : (runs : List Run) (end : ℕ) → finding runs ≡ Some end → IsFirstHole runs end
told_is_first [] end told = some_is told
told_is_first (run ∷ []) end told = some_is told
told_is_first (run ∷ next ∷ runs) end told =
    by_test (leaves_hole run next)
    (λ t. record {
      before = [];
      run = run;
      next = next;
      behind = runs;
      split = refl;
      whole = tt;
      missing = missing_if run.last next.first t;
      end_is = same_value (sym (if_so (leaves_hole run next) (Some run.last) (finding (next ∷ runs)) t) ∙ told);
    })
    (λ t. one_further run next runs end (whole_if run.last next.first t)
    (told_is_first (next ∷ runs) end (sym (if_not (leaves_hole run next) (Some run.last) (finding (next ∷ runs)) t) ∙ told)))

-- a run before others, between which and the first of them no index is missing, changes no finding
pub passed_by : (run next : Run) (runs : List Run) → next.first ≤ run.last + 1 → finding (run ∷ next ∷ runs) ≡ finding (next ∷ runs)
passed_by run next runs fits = if_not (leaves_hole run next) (Some run.last) (finding (next ∷ runs)) (if_whole run.last next.first fits)

told_behind : (before : List Run) (run next : Run) (behind : List Run) → HasNoHole (before ++ run ∷ []) → run.last + 1 < next.first
    → finding (before ++ run ∷ next ∷ behind) ≡ Some run.last
told_behind [] run next behind whole missing = if_so (leaves_hole run next) (Some run.last) (finding (next ∷ behind)) (if_missing run.last next.first missing)
told_behind (x ∷ []) run next behind whole missing = passed_by x run (next ∷ behind) whole.0 ∙ told_behind [] run next behind tt missing
told_behind (x ∷ y ∷ before) run next behind whole missing =
    passed_by x y (before ++ run ∷ next ∷ behind) whole.0 ∙ told_behind (y ∷ before) run next behind whole.1 missing

-- the end before the first hole is told
pub first_is_told : (runs : List Run) (end : ℕ) → IsFirstHole runs end → finding runs ≡ Some end
first_is_told runs end h = ap finding h.split ∙ told_behind h.before h.run h.next h.behind h.whole h.missing ∙ ap Some h.end_is

-- where nothing is told there is no hole
pub untold_is_whole : (runs : List Run) → finding runs ≡ None → HasNoHole runs
untold_is_whole [] none = tt
untold_is_whole (run ∷ []) none = tt
untold_is_whole (run ∷ next ∷ runs) none =
    by_test (leaves_hole run next)
    (λ t. some_is (sym none ∙ if_so (leaves_hole run next) (Some run.last) (finding (next ∷ runs)) t))
    (λ t. (whole_if run.last next.first t, untold_is_whole (next ∷ runs) (sym (if_not (leaves_hole run next) (Some run.last) (finding (next ∷ runs)) t) ∙ none)))

pub whole_is_untold : (runs : List Run) → HasNoHole runs → finding runs ≡ None
whole_is_untold [] whole = refl
whole_is_untold (run ∷ []) whole = refl
whole_is_untold (run ∷ next ∷ runs) whole = passed_by run next runs whole.0 ∙ whole_is_untold (next ∷ runs) whole.1
