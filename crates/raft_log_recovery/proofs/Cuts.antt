-- Files are cut one after the other.
use Rattle.std.proofs.Common.{◌≡◌, ℕ, ◌+◌, ◌<◌, ◌≤◌, zero, suc, List, [], ◌∷◌, length, take, get_or, refl, subst, arith}
use Rattle.raft_log_fs.specs.Disk.{Disk}
use Rattle.raft_log_active_file.specs.declared.format.File.{File}
use Rattle.raft_log_recovery_read.specs.declared.file_ending.FileEnding.{FileEnding}
use Rattle.std.specs.declared.io.ErrorKind.{ErrorKind}
use Rattle.raft_log_recovery_read.proofs.Public.{one_item}
use Rattle.raft_log_recovery.specs.Cutting.{CutsEach, CutsOne, FailsToCutEach, FailsToCutOne}

more : (files : List File) (endings : List FileEnding) (i : ℕ) (f : File) (e : FileEnding) (a b c : Disk) → i < length files → i < length endings → CutsEach (take i files) (take i endings) a b
    → CutsOne (get_or files i f) (get_or endings i e) b c → CutsEach (take (suc i) files) (take (suc i) endings) a c
more [] endings i f e a b c there told cuts one = absurd (omega (arith, there))
more (file ∷ files) [] i f e a b c there told cuts one = absurd (omega (arith, told))
more (file ∷ files) (ending ∷ endings) zero f e a b c there told cuts one = (c, subst (λ (d : Disk). CutsOne file ending d c) cuts one, refl)
more (file ∷ files) (ending ∷ endings) (suc i) f e a b c there told cuts one =
    (cuts.0, cuts.1, more files endings i f e cuts.0 b c (omega (arith, there)) (omega (arith, told)) cuts.2 one)

-- one more is cut
pub cuts_more : (files : List File) (endings : List FileEnding) (i : ℕ) (f : File) (e : FileEnding) (a b c : Disk) → i < length files → i < length endings → CutsEach (take i files) (take i endings) a b
    → CutsOne (get_or files i f) (get_or endings i e) b c → CutsEach (take (i + 1) files) (take (i + 1) endings) a c
cuts_more files endings i f e a b c there told cuts one =
    let next : suc i ≡ i + 1 = omega arith in
    subst (λ (n : ℕ). CutsEach (take n files) (take n endings) a c) next (more files endings i f e a b c there told cuts one)

-- all are cut
pub cuts_all : (files : List File) (endings : List FileEnding) (n : ℕ) (a b : Disk) → n ≡ length endings → length endings ≤ length files → CutsEach (take n files) (take n endings) a b → CutsEach files endings a b
cuts_all [] [] n a b all fits cuts = by_count n cuts
  where
    by_count : (k : ℕ) → CutsEach (take k []) (take k []) a b → b ≡ a
    by_count zero h = h
    by_count (suc k) h = h
cuts_all [] (ending ∷ endings) n a b all fits cuts = absurd (omega (arith, fits))
cuts_all (file ∷ files) [] zero a b all fits cuts = cuts
cuts_all (file ∷ files) [] (suc n) a b all fits cuts = absurd (omega (arith, all))
cuts_all (file ∷ files) (ending ∷ endings) zero a b all fits cuts = absurd (omega (arith, all))
cuts_all (file ∷ files) (ending ∷ endings) (suc n) a b all fits cuts =
    (cuts.0, cuts.1, cuts_all files endings n cuts.0 b (omega (arith, all)) (omega (arith, fits)) cuts.2)

-- one isn't cut
pub cuts_stop : (files : List File) (endings : List FileEnding) (i : ℕ) (f : File) (e : FileEnding) (kind : ErrorKind) (a b c : Disk) → i < length files → i < length endings
    → CutsEach (take i files) (take i endings) a b → FailsToCutOne (get_or files i f) (get_or endings i e) kind b c → FailsToCutEach files endings kind a c
cuts_stop files endings i f e kind a b c there told cuts fails = record {
  at = i;
  file = get_or files i f;
  ending = get_or endings i e;
  file_is = λ other. one_item files i other f there;
  ending_is = λ other. one_item endings i other e told;
  between = b;
  cuts = cuts;
  fails = fails;
}
