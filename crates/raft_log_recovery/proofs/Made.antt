-- Reserved files are made one after the other.
use Rattle.std.proofs.Common.{◌≡◌, ℕ, ◌+◌, ◌-◌, ◌<◌, ◌≤◌, ◌^◌, ◌||◌, append_assoc, suc, min, Bool, true, false, List, [], ◌∷◌, ◌++◌, length, refl, sym, ap, subst, ◌∙◌, arith, length-append}
use Rattle.std.proofs.Math.Bool.{or_assoc}
use Rattle.raft_log_record_base.specs.declared.errors.Error.{Error}
use Rattle.raft_log_record_base.specs.declared.errors.Error.TheVariants as errors
use Rattle.raft_log_fs.specs.Disk.{Disk}
use Rattle.raft_log_active_file.specs.Layout.{FilePaths}
use Rattle.raft_log_active_file.specs.declared.format.File.{File}
use Rattle.raft_log_recovery.specs.Making.{AreFewer, FailsToMake, FailsToMakeEach, Makes, MakesEach}

-- where one of so many is still to be made, fewer are made
pub fewer_made : (error : Error) (made count : ℕ) → made < count → AreFewer error made count
fewer_made errors.Memory made count less = omega (arith, less)
fewer_made _ made count less = less

pub made_without_memory : (error : Error) (made count : ℕ) → error ≡ errors.Memory → made ≤ count → AreFewer error made count
made_without_memory error made count is most = subst (λ (e : Error). AreFewer e made count) (sym is) most

module _ {F : Type 0} (disk : F → Disk) (tells : F → List ℕ → ℕ → Type 0) where
  or_none : (one : Bool) → (one || false) ≡ one
  or_none true = refl
  or_none false = refl

  -- one more is made
  pub each_more : (paths : FilePaths) (bytes : List ℕ) (size first : ℕ) (made : List File) (full : Bool) (a b : F) (file : File) (one : Bool) (c : F) → MakesEach disk tells paths bytes size first made full a b
      → Makes disk tells paths bytes size (first + length made) file one b c → MakesEach disk tells paths bytes size first (made ++ file ∷ []) (full || one) a c
  each_more paths bytes size first [] full a b file one c (none, same) makes =
      let at : first + 0 ≡ first = omega arith in
      let moved = subst (λ (d : F). Makes disk tells paths bytes size (first + 0) file one d c) same makes in
      (one, false, c, subst (λ (n : ℕ). Makes disk tells paths bytes size n file one a c) at moved, (refl, refl), ap (λ (x : Bool). x || one) none ∙ sym (or_none one))
  each_more paths bytes size first (f ∷ fs) full a b file one c (x, others, mid, makes, rest, is) more =
      let at : first + suc (length fs) ≡ suc first + length fs = omega arith in
      let later = each_more paths bytes size (suc first) fs others mid b file one c rest (subst (λ (n : ℕ). Makes disk tells paths bytes size n file one b c) at more) in
      (x, others || one, mid, makes, later, ap (λ (y : Bool). y || one) is ∙ or_assoc x others one)

  -- so many are made behind some files
  pub record HasMade (paths : FilePaths) (bytes : List ℕ) (size first count : ℕ) (before files : List File) (full : Bool) (old new : F) : Type 0 where
    pub made : List File
    pub behind : files ≡ before ++ made
    pub long : length made ≡ count
    pub makes : MakesEach disk tells paths bytes size first made full old new

  pub made_none : (paths : FilePaths) (bytes : List ℕ) (size first : ℕ) (files : List File) (d : F) → HasMade paths bytes size first 0 files files false d d
  made_none paths bytes size first files d = record { made = []; behind = sym (append_nil files); long = refl; makes = (refl, refl) }
    where
      append_nil : (l : List File) → l ++ [] ≡ l
      append_nil [] = refl
      append_nil (f ∷ fs) = ap (λ (l : List File). f ∷ l) (append_nil fs)

  -- a file that has a name has the number that it is to have
  exact : (first at : ℕ) → min (first + at) (2 ^ 64 - 1) < 10 ^ 16 → min (first + at) (2 ^ 64 - 1) ≡ first + at
  exact first at small = omega (arith, small)

  fails_exact : (paths : FilePaths) (size first at : ℕ) (error : Error) (old new : F) → FailsToMake disk tells paths size (min (first + at) (2 ^ 64 - 1)) error old new → FailsToMake disk tells paths size (first + at) error old new
  fails_exact paths size first at errors.Memory old new same = same
  fails_exact paths size first at errors.NumberRange old new (great, same) = (omega (arith, great), same)
  fails_exact paths size first at (errors.Io kind) old new (small, fails) =
      subst (λ (n : ℕ). FailsToMake disk tells paths size n (errors.Io kind) old new) (exact first at small) (small, fails)
  fails_exact paths size first at _ old new fails = absurd fails

  -- one more is made
  pub made_more : (paths : FilePaths) (bytes : List ℕ) (size first count : ℕ) (before files : List File) (full : Bool) (a b : F) (file : File) (one : Bool) (c : F) → HasMade paths bytes size first count before files full a b
      → Makes disk tells paths bytes size (min (first + count) (2 ^ 64 - 1)) file one b c → HasMade paths bytes size first (count + 1) before (files ++ file ∷ []) (full || one) a c
  made_more paths bytes size first count before files full a b file one c has makes =
      let exactly : Makes disk tells paths bytes size (first + count) file one b c = subst (λ (n : ℕ). Makes disk tells paths bytes size n file one b c) (exact first count makes.small) makes in
      let at : first + count ≡ first + length has.made = omega (arith, has.long) in
      record {
        made = has.made ++ file ∷ [];
        behind = ap (λ (l : List File). l ++ file ∷ []) has.behind ∙ append_assoc before has.made (file ∷ []);
        long = omega (arith, length-append has.made (file ∷ []), has.long);
        makes = each_more paths bytes size first has.made full a b file one c has.makes (subst (λ (n : ℕ). Makes disk tells paths bytes size n file one b c) at exactly);
      }

  -- one isn't
  pub made_short : (paths : FilePaths) (bytes : List ℕ) (size first at count : ℕ) (before files : List File) (full : Bool) (a b : F) (error : Error) (c : F) → AreFewer error at count → HasMade paths bytes size first at before files full a b
      → FailsToMake disk tells paths size (min (first + at) (2 ^ 64 - 1)) error b c → FailsToMakeEach disk tells paths bytes size first count error a c
  made_short paths bytes size first at count before files full a b error c less has fails =
      let place : first + at ≡ first + length has.made = omega (arith, has.long) in
      record {
        made = has.made;
        full = full;
        fewer = subst (λ (n : ℕ). AreFewer error n count) (sym has.long) less;
        between = b;
        makes = has.makes;
        fails = subst (λ (n : ℕ). FailsToMake disk tells paths size n error b c) place (fails_exact paths size first at error b c fails);
      }

  -- want of memory leaves all as it is
  pub no_memory : (paths : FilePaths) (size n : ℕ) (error : Error) (d : F) → error ≡ errors.Memory → FailsToMake disk tells paths size n error d d
  no_memory paths size n error d is = subst (λ (e : Error). FailsToMake disk tells paths size n e d d) (sym is) refl
