-- For tests: a file system on which each queue of a log stays empty, and the files of such a log.
use Rattle.std.specs.Prelude.{◌≡◌, ℕ, [], ◌∷◌}
use Rattle.raft_log_machine_laws.specs.DirectoryImages.{Readings, empty_file}
use Rattle.raft_log_machine_laws.specs.Model.{Files, no_files}

-- a file system that a crash never changes, and of which a recovery reads one empty file for each queue, with number 1
abbrev pub no_log : {D : Type 0} → Readings D ℕ ℕ
no_log = record {
  leaves = λ d e. e ≡ d;
  rewrite = λ d s files. (s ≡ 1) × (files ≡ empty_file ∷ []);
  append = λ d s files. (s ≡ 1) × (files ≡ empty_file ∷ []);
}

-- in any state `s`, the files `f` are those of a log to which nothing was written: one empty file for each queue
abbrev pub IsEmpty : {S : Type 0} → S → Files ℕ ℕ → Type 0
IsEmpty s f = f ≡ no_files
