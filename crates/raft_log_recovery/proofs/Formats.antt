-- Files get the formats that were read of them, one after the other.
use Rattle.std.specs.Prelude.{Some, None, false, slice_get}
use Rattle.std.proofs.Common.{◌≡◌, ℕ, ◌+◌, ◌-◌, ◌<◌, zero, suc, List, [], ◌∷◌, length, get_or, set, refl, ap, subst, arith}
use Rattle.raft_log_record_base.specs.declared.pipe_log.Version.TheVariants.{V1}
use Rattle.raft_log_fs.specs.declared.handle.Permission.TheVariants.{ReadOnly}
use Rattle.raft_log_active_file.specs.declared.format.File.{File}
use Rattle.raft_log_recovery_read.specs.declared.file_ending.FileEnding.{FileEnding}
use Rattle.raft_log_recovery.specs.Endings.{as_read, end_of_last}

-- what stands for a file, and for an ending, that isn't there
abbrev pub no_file : File
no_file = record { seq = 0; handle = record { file = 0; permission = ReadOnly }; format = record { version = V1; alignment = 0 }; path_id = 0; reserved = false }

abbrev pub no_ending : FileEnding
no_ending = record { format = record { version = V1; alignment = 0 }; end = None; is_damaged = false }

-- the first files have them
abbrev pub so_far : ℕ → List FileEnding → List File → List File
so_far zero endings files = files
so_far (suc i) [] files = files
so_far (suc i) (ending ∷ endings) [] = []
so_far (suc i) (ending ∷ endings) (file ∷ files) = record file { format = ending.format } ∷ so_far i endings files

one_more : (i : ℕ) (endings : List FileEnding) (files : List File) (e : FileEnding) (f : File) → i < length endings → i < length files
    → set (so_far i endings files) i (record (get_or (so_far i endings files) i f) { format = (get_or endings i e).format }) ≡ so_far (suc i) endings files
one_more i [] files e f told there = absurd (omega (arith, told))
one_more i (ending ∷ endings) [] e f told there = absurd (omega (arith, there))
one_more zero (ending ∷ endings) (file ∷ files) e f told there = refl
one_more (suc i) (ending ∷ endings) (file ∷ files) e f told there =
    ap (λ (l : List File). record file { format = ending.format } ∷ l) (one_more i endings files e f (omega (arith, told)) (omega (arith, there)))

-- one more has
pub so_far_more : (i : ℕ) (endings : List FileEnding) (files : List File) (e : FileEnding) (f : File) → i < length endings → i < length files
    → set (so_far i endings files) i (record (get_or (so_far i endings files) i f) { format = (get_or endings i e).format }) ≡ so_far (i + 1) endings files
so_far_more i endings files e f told there =
    let next : suc i ≡ i + 1 = omega arith in
    subst (λ (n : ℕ). set (so_far i endings files) i (record (get_or (so_far i endings files) i f) { format = (get_or endings i e).format }) ≡ so_far n endings files) next (one_more i endings files e f told there)

-- all have
pub so_far_all : (i : ℕ) (endings : List FileEnding) (files : List File) → i ≡ length endings → so_far i endings files ≡ as_read endings files
so_far_all zero [] files all = refl
so_far_all (suc i) [] files all = refl
so_far_all zero (ending ∷ endings) files all = absurd (omega (arith, all))
so_far_all (suc i) (ending ∷ endings) [] all = refl
so_far_all (suc i) (ending ∷ endings) (file ∷ files) all = ap (λ (l : List File). record file { format = ending.format } ∷ l) (so_far_all i endings files (omega (arith, all)))

-- the last ending
pub end_is_last : (endings : List FileEnding) (e : FileEnding) → slice_get endings (length endings - 1) ≡ Some e → end_of_last endings ≡ e.end
end_is_last [] e is = absurd (cc)
end_is_last (ending ∷ []) e is = cc
end_is_last (ending ∷ next ∷ endings) e is =
    let place : length (ending ∷ next ∷ endings) - 1 ≡ suc (length (next ∷ endings) - 1) = omega arith in
    end_is_last (next ∷ endings) e (subst (λ (k : ℕ). slice_get (ending ∷ next ∷ endings) k ≡ Some e) place is)
