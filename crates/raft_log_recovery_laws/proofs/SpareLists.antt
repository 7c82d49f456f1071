-- Lists of files that are kept for use: their numbers rise, so no two have one path.
use Rattle.std.specs.List.{last_or}
use Rattle.std.specs.Prelude.{min}
use Rattle.std.proofs.Common.{◌≡◌, ℕ, ◌-◌, ◌^◌, ◌<◌, ◌≤◌, zero, suc, true, false, Some, List, [], ◌∷◌, ◌++◌, length, drop, take, sym, subst, ◌∙◌, arith}
use Rattle.raft_log_record_base.specs.declared.pipe_log.LogQueue.TheVariants.{Append}
use Rattle.raft_log_fs.specs.Disk.{Disk}
use Rattle.raft_log_fs.specs.Touching.{HasFile}
use Rattle.raft_log_active_file.specs.Layout.{path_of}
use Rattle.raft_log_active_file.specs.declared.format.File.{File}
use Rattle.raft_log_engine_laws.specs.raft_log_active_file.specs.QueueFiles.{log_format, log_paths}
use Rattle.raft_log_engine_laws.specs.raft_log_active_file.specs.Paths.{IsPathWith, reserved_suffix_of}
use Rattle.raft_log_engine_laws.specs.raft_log_active_file.specs.PathLaws.{one_number, reserved_is}
use Rattle.raft_log_file_pipe.specs.Files.{AllKept, CanBeUsed, NoneHas}
use Rattle.raft_log_file_pipe.proofs.Public.{path_reserved}
use Rattle.raft_log_recovery.specs.Readying.{next_number, number_behind}
use Rattle.raft_log_engine_laws.specs.raft_log_block_cache.specs.Stored.{Each}

-- the numbers of the files rise, from this one on
abbrev pub AreRising : ℕ → List File → Type 0
AreRising n [] = Unit {0}
AreRising n (f ∷ fs) = (n ≤ f.seq) × AreRising (suc f.seq) fs

pub above : (m n : ℕ) (fs : List File) → m ≤ n → AreRising n fs → Each (λ (g : File). m ≤ g.seq) fs
above m n [] up rising = tt
above m n (f ∷ fs) up (here, more) = (omega (arith, up, here), above m (suc f.seq) fs (omega (arith, up, here)) more)

pub each_weaker : {A : Type 0} (P Q : A → Type 0) (xs : List A) → ((x : A) → P x → Q x) → Each P xs → Each Q xs
each_weaker P Q [] step each = tt
each_weaker P Q (x ∷ xs) step (one, each) = (step x one, each_weaker P Q xs step each)

pub rising_take : (k n : ℕ) (fs : List File) → AreRising n fs → AreRising n (take k fs)
rising_take zero n fs rising = tt
rising_take (suc k) n [] rising = tt
rising_take (suc k) n (f ∷ fs) (here, more) = (here, rising_take k (suc f.seq) fs more)

pub each_take : {A : Type 0} (P : A → Type 0) (k : ℕ) (xs : List A) → Each P xs → Each P (take k xs)
each_take P zero xs each = tt
each_take P (suc k) [] each = tt
each_take P (suc k) (x ∷ xs) (one, each) = (one, each_take P k xs each)

pub each_dropped : {A : Type 0} (P : A → Type 0) (k : ℕ) (xs : List A) → Each P xs → Each P (drop k xs)
each_dropped P zero xs each = each
each_dropped P (suc k) [] each = tt
each_dropped P (suc k) (x ∷ xs) (one, each) = each_dropped P k xs each

-- those that are dropped stand behind those that stay
pub dropped_above : (k n : ℕ) (fs : List File) → AreRising n fs → Each (λ (f : File). Each (λ (g : File). f.seq < g.seq) (drop k fs)) (take k fs)
dropped_above zero n fs rising = tt
dropped_above (suc k) n [] rising = tt
dropped_above (suc k) n (f ∷ fs) (here, more) = (
  each_dropped (λ (g : File). f.seq < g.seq) k fs (above (suc f.seq) (suc f.seq) fs (omega arith) more),
  dropped_above k (suc f.seq) fs more,
)

-- Files that are made behind them.

abbrev AreSmall : List File → Type 0
AreSmall fs = Each (λ (f : File). f.seq < 10 ^ 16) fs

-- a number is behind that of the file
behind_one : (f : File) → f.seq < 10 ^ 16 → number_behind (Some f) ≡ suc f.seq
behind_one f small = omega (arith, small)

below_next : (n : ℕ) (f : File) (fs : List File) → AreRising n (f ∷ fs) → AreSmall (f ∷ fs) → Each (λ (g : File). g.seq < number_behind (last_or (Some f) fs)) (f ∷ fs)
below_next n f [] (here, more) (small, rest) = (omega (arith, behind_one f small), tt)
below_next n f (g ∷ gs) (here, (next, more)) (small, rest) =
    let behind = below_next (suc f.seq) g gs (next, more) rest in
    (omega (arith, behind.0, next), behind)

all_below : (n : ℕ) (fs : List File) → AreRising n fs → AreSmall fs → Each (λ (g : File). g.seq < next_number fs) fs
all_below n [] rising small = tt
all_below n (f ∷ fs) rising small = below_next n f fs rising small

rising_append : (n e : ℕ) (fs made : List File) → n ≤ e → Each (λ (g : File). g.seq < e) fs → AreRising n fs → AreRising e made → AreRising n (fs ++ made)
rising_append n e [] [] up below rising more = tt
rising_append n e [] (f ∷ made) up below rising (here, more) = (omega (arith, up, here), more)
rising_append n e (f ∷ fs) made up (low, below) (here, rising) more = (here, rising_append (suc f.seq) e fs made (omega (arith, low)) below rising more)

pub rising_made : (fs made : List File) → AreRising 0 fs → AreSmall fs → AreRising (next_number fs) made → AreRising 0 (fs ++ made)
rising_made fs made rising small more = rising_append 0 (next_number fs) fs made (omega arith) (all_below 0 fs rising small) rising more

-- Under reserved names.
module _ (directories : List (List ℕ)) (some : 0 < length directories) where
  -- the file is kept under a reserved name
  pub record IsSpareOn (d : Disk) (f : File) : Type 0 where
    pub reserved : f.reserved ≡ true
    pub small : f.seq < 10 ^ 16
    pub named : d.names (path_of (log_paths Append directories) f) ≡ Some f.handle.file

  -- it can be used
  abbrev pub IsUsableOn : Disk → File → Type 0
  IsUsableOn d f = HasFile f.handle.file (CanBeUsed (log_format Append directories)) d

  reserved_at : (f : File) → f.reserved ≡ true → IsPathWith (reserved_suffix_of Append) directories (min f.seq (10 ^ 16 - 1)) (path_of (log_paths Append directories) f)
  reserved_at f is = subst (IsPathWith (reserved_suffix_of Append) directories (min f.seq (10 ^ 16 - 1))) (sym (path_reserved (log_paths Append directories) f is)) (reserved_is Append directories f.path_id f.seq some)

  -- no two numbers have one path
  pub paths_apart : (f g : File) → f.reserved ≡ true → g.reserved ≡ true → f.seq < 10 ^ 16 → g.seq < 10 ^ 16 → f.seq < g.seq → path_of (log_paths Append directories) g ≡ path_of (log_paths Append directories) f → ⊥
  paths_apart f g is also small less apart same =
      let at = subst (IsPathWith (reserved_suffix_of Append) directories (min g.seq (10 ^ 16 - 1))) same (reserved_at g also) in
      let one : min g.seq (10 ^ 16 - 1) ≡ min f.seq (10 ^ 16 - 1) = one_number (reserved_suffix_of Append) directories _ _ (path_of (log_paths Append directories) f) at (reserved_at f is) in
      omega (arith, one, small, less, apart)

  none_has : (f : File) (fs : List File) → f.reserved ≡ true → f.seq < 10 ^ 16 → Each (λ (g : File). suc f.seq ≤ g.seq) fs → Each (λ (g : File). (g.reserved ≡ true) × (g.seq < 10 ^ 16)) fs → NoneHas (log_paths Append directories) (path_of (log_paths Append directories) f) fs
  none_has f [] is small up spares = tt
  none_has f (g ∷ gs) is small (here, up) ((also, less), spares) = (paths_apart f g is also small less here, none_has f gs is small up spares)

  pub names_of : (d : Disk) (fs : List File) → Each (IsSpareOn d) fs → Each (λ (g : File). (g.reserved ≡ true) × (g.seq < 10 ^ 16)) fs
  names_of d fs spares = each_weaker (IsSpareOn d) (λ (g : File). (g.reserved ≡ true) × (g.seq < 10 ^ 16)) fs (λ g is. (is.reserved, is.small)) spares

  pub are_small : (d : Disk) (fs : List File) → Each (IsSpareOn d) fs → AreSmall fs
  are_small d fs spares = each_weaker (IsSpareOn d) (λ (g : File). g.seq < 10 ^ 16) fs (λ g is. is.small) spares

  -- such files are kept for use, where each can be used
  pub are_kept : (first n : ℕ) (d : Disk) (fs : List File) → AreRising n fs → Each (IsSpareOn d) fs → Each (IsUsableOn d) fs → AllKept (log_format Append directories) (log_paths Append directories) first d fs
  are_kept first n d [] rising spares usable = tt
  are_kept first n d (f ∷ fs) (here, rising) (is, spares) (can, usable) = (
    record {
      named = is.named;
      below = λ plain. (let clash : true ≡ false = sym is.reserved ∙ plain in let never : ⊥ = cc in absurd never);
      small = is.small;
      usable = can;
    },
    none_has f fs is.reserved is.small (above (suc f.seq) (suc f.seq) fs (omega arith) rising) (names_of d fs spares),
    are_kept first (suc f.seq) d fs rising spares usable,
  )
