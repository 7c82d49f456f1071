-- A file that was synced is at rest, and then a queue can use it, whatever it holds.
use Rattle.std.proofs.Common.{◌≡◌, ℕ, Some, List, [], ◌∷◌, refl, sym, ap, subst, ◌∙◌, inl, inr}
use Rattle.std.proofs.lemmas.Bool.{cases_eq}
use Rattle.raft_log_fs.specs.Calls.{flushed, Changes}
use Rattle.raft_log_fs.specs.Disk.{Disk, File, at_rest}
use Rattle.raft_log_fs.specs.Touching.{HasFile}
use Rattle.raft_log_fs.proofs.Public.{file_apart, file_here, has_weaker}
use Rattle.raft_log_record_base.specs.declared.pipe_log.LogQueue.TheVariants.{Append}
use Rattle.raft_log_active_file.specs.declared.format.File as listed
use Rattle.raft_log_active_file.specs.Queue.{begun}
use Rattle.raft_log_active_file.specs.States.{IsNew}
use Rattle.raft_log_active_file.proofs.Public.{new_over}
use Rattle.raft_log_engine_laws.specs.raft_log_active_file.specs.QueueFiles.{log_format}
use Rattle.raft_log_file_pipe.specs.Files.{CanBeUsed}
use Rattle.raft_log_recovery.specs.Syncing.{SyncsEach}
use Rattle.raft_log_engine_laws.specs.raft_log_block_cache.specs.Stored.{Each}

-- the file is at rest
abbrev IsRested : File → Type 0
IsRested file = file ≡ at_rest file.content

rest_usable : (directories : List (List ℕ)) (file : File) → IsRested file → CanBeUsed (log_format Append directories) file
rest_usable directories file is q header head =
    subst (λ (f : File). IsNew (log_format Append directories) (begun header f.content q) f) (sym is) (new_over (log_format Append directories) header file.content q)

synced_rests : (id : ℕ) (old new : Disk) → Changes id flushed old new → HasFile id IsRested new
synced_rests id old new c = record { file = flushed c.file; is = ap (λ (d : Disk). d.files id) c.done ∙ file_here old.files id (Some (flushed c.file)); has = refl }

-- it stays so through the sync of any file
rests_still : (id other : ℕ) (old new : Disk) → Changes other flushed old new → HasFile id IsRested old → HasFile id IsRested new
rests_still id other old new c has = elim (cases_eq id other) [
  | inl same ↦ subst (λ (n : ℕ). HasFile n IsRested new) (sym same) (synced_rests other old new c)
  | inr apart ↦ record { file = has.file; is = ap (λ (d : Disk). d.files id) c.done ∙ file_apart old.files other (Some (flushed c.file)) id apart ∙ has.is; has = has.has }
]

rests_through : (id : ℕ) (files : List listed.File) (old new : Disk) → SyncsEach files old new → HasFile id IsRested old → HasFile id IsRested new
rests_through id [] old new same has = subst (HasFile id IsRested) (sym same) has
rests_through id (f ∷ files) old new (mid, one, rest) has = rests_through id files mid new rest (rests_still id f.handle.file old mid one has)

-- each of these files can be used once they are synced
pub synced_usable : (directories : List (List ℕ)) (files : List listed.File) (old new : Disk) → SyncsEach files old new → Each (λ (f : listed.File). HasFile f.handle.file (CanBeUsed (log_format Append directories)) new) files
synced_usable directories [] old new same = tt
synced_usable directories (f ∷ files) old new (mid, one, rest) = (
  has_weaker f.handle.file IsRested (CanBeUsed (log_format Append directories)) new (λ file is. rest_usable directories file is) (rests_through f.handle.file files mid new rest (synced_rests f.handle.file old mid one)),
  synced_usable directories files mid new rest,
)
