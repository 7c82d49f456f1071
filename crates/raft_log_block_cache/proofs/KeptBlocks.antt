-- The block that is kept is what was written at its place.
use Rattle.std.proofs.Common.{◌≡◌, ◌⊎◌, ℕ, ◌-◌, ◌<◌, ◌≤◌, true, List, length, None, refl, Some, Result, Err, inl, inr, sym, ap, subst, ◌∙◌}
use Rattle.std.specs.Prelude.{IsOk}
use Rattle.std.proofs.lemmas.Bool.{false≢true}
use Rattle.std.specs.declared.io.ErrorKind.TheVariants.{Other}
use Rattle.raft_log_fs.specs.Disk.{Disk}
use Rattle.raft_log_fs.specs.Reading.{stopped}
use Rattle.raft_log_record_base.specs.Fault.{Fault}
use Rattle.raft_log_record_base.specs.declared.errors.Error.{Error}
use Rattle.raft_log_record_base.specs.declared.errors.Error.TheVariants as errors
use Rattle.raft_log_record_base.specs.declared.pipe_log.FileBlockHandle.{FileBlockHandle}
use Rattle.raft_log_record_frames.specs.Record.{block_of}
use Rattle.raft_log_file_pipe.specs.Reading.{IsReadAt}
use Rattle.raft_log_file_pipe.specs.declared.pipe_files.PipeFiles.{PipeFiles}
use Rattle.raft_log_machine_laws.specs.Calls.{Which}
use Rattle.raft_log_machine_laws.specs.Calls.Which.{InAppend, InRewrite}
use Rattle.raft_log_active_file.specs.QueueFilesLaws.{files_are_told, is_layout}
use Rattle.raft_log_record_base.specs.declared.pipe_log.LogQueue.TheVariants.{Append, Rewrite}
use Rattle.raft_log_dual_pipes.specs.Queues.{IsQueueLayout, layout_at}
use Rattle.raft_log_dual_pipes.specs.State.{RunsQueue, pipe_at, spanned_at}
use Rattle.raft_log_dual_pipes.specs.Pipes.{LogPipes, LogSense, RunsOn, State, files_of, queues, which_of}
use Rattle.raft_log_block_cache.specs.Stored.{BlockLiesIn, KeepsLog, block_at}
use Rattle.raft_log_block_cache.proofs.Reading.{file_of_number, stored_block_is_read, told_in_span}
use Rattle.raft_log_block_cache.proofs.Staying.{block_stays}
use Rattle.raft_log_block_cache.specs.declared.block_cache.BlockCache.{BlockCache}
use Rattle.raft_log_block_cache.specs.Blocks.{BlockIsStored, IsBlockUnread, IsFileUnread, IsNotKept, IsOfLog, KeepsBlock, KeptBlocksAreWritten, KeptBlocksStay, StandsAt, WholeBlocksAreRead, written_block}

runs_at : (log : LogSense) (v : LogPipes) (s : State) (which : Which) → RunsOn log v s → RunsQueue (layout_at which (queues log)) (pipe_at which (files_of v)) (spanned_at which s) s.disk
runs_at log v s InAppend run = run.run.append
runs_at log v s InRewrite run = run.run.rewrite

lawful_at : (log : LogSense) (v : LogPipes) (s : State) (which : Which) → RunsOn log v s → IsQueueLayout (layout_at which (queues log))
lawful_at log v s InAppend run = record { lawful = is_layout Append log.append run.append.some; told = files_are_told Append log.append }
lawful_at log v s InRewrite run = record { lawful = is_layout Rewrite log.rewrite run.rewrite.some; told = files_are_told Rewrite log.rewrite }

module _ (log : LogSense) (v : LogPipes) (s : State) (run : RunsOn log v s) where
  -- what stands at the place of a block that lies in the log
  read_is_written : (block : FileBlockHandle) (bytes : List ℕ) → BlockIsStored s block → StandsAt v block bytes → bytes ≡ written_block s block
  read_is_written block bytes lies stands =
      let which = which_of block.id.queue in
      stored_block_is_read (layout_at which (queues log)) (lawful_at log v s which run) (pipe_at which (files_of v)) (spanned_at which s) s.disk (runs_at log v s which run) block lies bytes
      (subst (λ (d : Disk). IsReadAt (pipe_at which (files_of v)) block bytes d) (sym run.disk) stands)

  one_place : (a b : FileBlockHandle) (cache : BlockCache) → cache.place ≡ Some a → cache.place ≡ Some b → a ≡ b
  one_place a b cache one other = cc

  now_written : (old new : BlockCache) (block : FileBlockHandle) → IsOfLog s old → BlockIsStored s block
      → ((old.place ≡ Some block) × (new ≡ old)) ⊎ (IsNotKept block old × StandsAt v block new.bytes.items × IsOk (block_of new.bytes.items)) → new.bytes.items ≡ written_block s block
  now_written old new block is lies (inl (had, same)) = subst (λ (c : BlockCache). c.bytes.items ≡ written_block s block) (sym same) (is block had).1
  now_written old new block is lies (inr (apart, stands, good)) = read_is_written block new.bytes.items lies stands

  pub kept_is_written : (old new : BlockCache) → IsOfLog s old → (block : FileBlockHandle) → BlockIsStored s block → KeepsBlock v block old new
      → IsOfLog s new × (new.bytes.items ≡ written_block s block)
  kept_is_written old new is block lies (place, how) =
      let now = now_written old new block is lies how in
      (λ other there. subst (λ (b : FileBlockHandle). BlockIsStored s b × (new.bytes.items ≡ written_block s b)) (one_place block other new place there) (lies, now), now)

pub kept_blocks_are_written : KeptBlocksAreWritten
kept_blocks_are_written log v s run old new is block lies keeps = kept_is_written log v s run old new is block lies keeps

-- A whole block that lies in the log.

module _ (log : LogSense) (v : LogPipes) (s : State) (run : RunsOn log v s) (block : FileBlockHandle) (lies : BlockIsStored s block) (whole : IsOk (block_of (written_block s block))) where
  abbrev which : Which
  which = which_of block.id.queue

  abbrev files : PipeFiles
  files = pipe_at which (files_of v)

  -- its file is there
  has_file : (block.id.seq ≡ files.active.seq → ⊥) → (files.first_seq ≤ block.id.seq → block.id.seq - files.first_seq < length files.earlier.items → ⊥) → ⊥
  has_file other none = told_in_span (layout_at which (queues log)) (lawful_at log v s which run) files (spanned_at which s) s.disk (runs_at log v s which run) block.id.seq lies.first lies.last other none

  -- its bytes are those that were written, which are whole
  unbroken : (bytes : List ℕ) (fault : Fault) → StandsAt v block bytes → block_of bytes ≡ Err fault → ⊥
  unbroken bytes fault stands is =
      let here : block_of (written_block s block) ≡ Err fault = ap block_of (sym (read_is_written log v s run block bytes lies stands)) ∙ is in
      false≢true (subst (λ (r : Result (List ℕ) Fault). IsOk r) here whole)

  pub file_unread : (error : Error) → IsBlockUnread v block error → IsFileUnread v block error
  file_unread errors.Memory why = tt
  file_unread (errors.Io kind) (inl (inl none)) = absurd none
  file_unread (errors.Io kind) (inl (inr refused)) = refused
  file_unread (errors.Io kind) (inr (bytes, stands, fault)) = absurd fault
  file_unread (errors.Corruption text) (inl (inl none)) = has_file none.0 none.1
  file_unread (errors.Corruption text) (inl (inr (handle, listed, why))) = absurd why
  file_unread (errors.Corruption text) (inr (bytes, stands, fault)) = unbroken bytes _ stands fault
  file_unread (errors.Codec c) (inl (inl none)) = absurd none
  file_unread (errors.Codec c) (inl (inr (handle, listed, why))) = absurd why
  file_unread (errors.Codec c) (inr (bytes, stands, fault)) = unbroken bytes _ stands fault
  file_unread _ (inl (inl none)) = absurd none
  file_unread _ (inl (inr (handle, listed, why))) = absurd why
  file_unread _ (inr (bytes, stands, fault)) = absurd fault

-- where the file system has stopped, a block that lies in the log is unread for its file
pub stopped_block : (log : LogSense) (v : LogPipes) (s : State) → RunsOn log v s → (block : FileBlockHandle) → BlockIsStored s block → v.disk.stopped ≡ true → IsFileUnread v block (errors.Io Other)
stopped_block log v s run block lies ends =
    let which = which_of block.id.queue in
    let (handle, listed) = file_of_number (layout_at which (queues log)) (lawful_at log v s which run) (pipe_at which (files_of v)) (spanned_at which s) s.disk (runs_at log v s which run) block.id.seq lies.first lies.last in
    (handle, listed, stopped ends refl)

pub whole_blocks_are_read : WholeBlocksAreRead
whole_blocks_are_read log v s run block lies whole error unread = file_unread log v s run block lies whole error unread

-- a cache without a block is of every log
pub none_kept : (s : State) (cache : BlockCache) → cache.place ≡ None → IsOfLog s cache
none_kept s cache none block place = let never : ⊥ = cc in absurd never

stays_at : (s t : State) (which : Which) → KeepsLog s t → (n offset len : ℕ) → BlockLiesIn (spanned_at which s) n offset len
    → BlockLiesIn (spanned_at which t) n offset len × (block_at (spanned_at which t).files n offset len ≡ block_at (spanned_at which s).files n offset len)
stays_at s t InAppend keeps n offset len lies = block_stays s.append t.append keeps.append keeps.append_first n offset len lies
stays_at s t InRewrite keeps n offset len lies = block_stays s.rewrite t.rewrite keeps.rewrite keeps.rewrite_first n offset len lies

pub kept_blocks_stay : KeptBlocksStay
kept_blocks_stay s t keeps cache is block place =
    let (lies, bytes) = is block place in
    let (there, same) = stays_at s t (which_of block.id.queue) keeps block.id.seq block.offset block.len lies in
    (there, bytes ∙ sym same)
