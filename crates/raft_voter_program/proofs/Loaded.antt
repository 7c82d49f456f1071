-- What is told of files that were loaded.
use Rattle.std.proofs.Common.{ℕ, Result, Ok, Err, IfOk, OnErr, ◌⊎◌, inr}
use Rattle.raft_voter_log.specs.declared.files.LogFiles.{LogFiles}
use Rattle.raft_voter_program.specs.Loading.{IsLoaded}

-- what is told of the files is told of some files that were loaded
pub loads : {E : Type 0} (r : Result ℕ E) (Lists : LogFiles → ℕ → Type 0) (files : LogFiles) → IsLoaded files → IfOk r (Lists files)
    → IfOk r (λ status. (loaded : LogFiles) × IsLoaded loaded × Lists loaded status)
loads (Ok status) Lists files loaded told = (files, loaded, told)
loads (Err fault) Lists files loaded told = tt

-- and so where the writer stopped
pub loads_early : {T E : Type 0} (r : Result T E) (Kept : Type 0) (Lists : LogFiles → Type 0) (files : LogFiles) → IsLoaded files → OnErr r (Lists files)
    → OnErr r (Kept ⊎ ((loaded : LogFiles) × IsLoaded loaded × Lists loaded))
loads_early (Ok status) Kept Lists files loaded told = tt
loads_early (Err fault) Kept Lists files loaded told = inr (files, loaded, told)
