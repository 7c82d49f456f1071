-- The files that the settings of a store make.
use Rattle.std.specs.Prelude.{ℕ, List, Option}
use Rattle.raft_voter_program.specs.declared.store_setup.NoFiles.{NoFiles}
use Rattle.raft_voter_program.specs.declared.store_setup.NoFiles.TheVariants.{Settings, Memory}

-- `makes` says which files a settings text makes, and `refuses` which settings texts are rejected; `None` is for a
-- session without settings
pub record Setup (F : Type 0) : Type 1 where
  pub makes : Option (List ℕ) → F → Type 0
  pub refuses : Option (List ℕ) → Type 0

-- why settings make no files: they are rejected; or memory ran out, which is possible for any settings
abbrev pub IsWithoutFiles : {F : Type 0} → Setup F → Option (List ℕ) → NoFiles → Type 0
IsWithoutFiles s settings Settings = s.refuses settings
IsWithoutFiles s settings Memory = Unit {0}
