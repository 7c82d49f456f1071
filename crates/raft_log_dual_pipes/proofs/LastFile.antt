-- Which file of a queue is its last one behind a record, by the calls of its pipe.
use Rattle.std.proofs.Common.{◌≡◌, ◌⊎◌, ℕ, suc, ◌≤◌, List, Result, Ok, Err, inl, inr, refl, ◌∙◌, ap, arith}
use Rattle.std.specs.Prelude.{IfOk, OnOk}
use Rattle.raft_log_fs.specs.Disk.{Disk}
use Rattle.raft_log_file_writer.specs.LogFormat.{Format}
use Rattle.raft_log_record_base.specs.declared.errors.Error.{Error}
use Rattle.raft_log_record_base.specs.declared.errors.Error.TheVariants as errors
use Rattle.raft_log_record_base.specs.declared.pipe_log.FileBlockHandle.{FileBlockHandle}
use Rattle.raft_log_record_base.specs.declared.pipe_log.LogFileContext.{LogFileContext}
use Rattle.raft_log_active_file.specs.Layout.{FilePaths}
use Rattle.raft_log_active_file.specs.declared.last_file.WriteFault.TheVariants as faults
use Rattle.raft_log_file_pipe.specs.Appending.{AppendsAt, TurnsFirst}
use Rattle.raft_log_file_pipe.specs.Appending.TurnsFirst.{stays, turns}
use Rattle.raft_log_file_pipe.specs.declared.new_files.NewFiles.{NewFiles}
use Rattle.raft_log_file_pipe.specs.declared.pipe_files.PipeFiles.{PipeFiles}
use Rattle.raft_log_machine_laws.specs.Calls.{Which}
use Rattle.raft_log_machine_laws.specs.Calls.Which.{InAppend, InRewrite}
use Rattle.raft_log_dual_pipes.specs.State.{pipe_at}
use Rattle.raft_log_dual_pipes.specs.LastFile.{IsNextIfFull, last_of}
use Rattle.raft_log_dual_pipes.specs.Pipes.{LogPipes, OnePipe, files_of, layout_of, one_at}
use Rattle.raft_log_dual_pipes.proofs.Pairing.{with_one}

-- the next file where the last one is full, and else the last one, of files
abbrev GoesIfFull : NewFiles → PipeFiles → ℕ → Type 0
GoesIfFull begin before n = ((begin.target_size ≤ before.writer.written) × (n ≡ suc before.active.seq))
    ⊎ ((begin.target_size ≤ before.writer.written → ⊥) × (n ≡ before.active.seq))

-- One pipe.
module _ {R : Type 0} (F : Format R) (own : List ℕ → Type 0) (paths : FilePaths) (begin : NewFiles) where
  goes_if_full : (before middle : PipeFiles) (old between : Disk) → TurnsFirst F own paths begin before middle old between → GoesIfFull begin before middle.active.seq
  goes_if_full before middle old between (stays short same is) = inr ((λ full. omega (arith, short, full)), ap (λ (f : PipeFiles). f.active.seq) same)
  goes_if_full before middle old between (turns long rotates turned) = inl (long, turned.number)

  goes_on : (before middle : PipeFiles) (n : ℕ) → n ≡ middle.active.seq → GoesIfFull begin before middle.active.seq → GoesIfFull begin before n
  goes_on before middle n same goes = elim goes [
    | inl next ↦ inl (next.0, same ∙ next.1)
    | inr here ↦ inr (here.0, same ∙ here.1)
  ]

-- The pair.

last_is : (which : Which) (v : LogPipes) (o : OnePipe) (d : Disk) → last_of which (with_one which v o d) ≡ o.files.active.seq
last_is InAppend v o d = refl
last_is InRewrite v o d = refl

module _ (which : Which) (v : LogPipes) (o : OnePipe) (d : Disk) where
  lasts : (signed : LogFileContext → List ℕ) (block : FileBlockHandle)
      → AppendsAt (layout_of (one_at which v)).format (layout_of (one_at which v)).own (layout_of (one_at which v)).paths (one_at which v).settings.new_files (one_at which v).settings.queue signed (pipe_at which (files_of v)) o.files block v.disk d
      → IsNextIfFull which v (last_of which (with_one which v o d))
  lasts signed block at =
      let layout = layout_of (one_at which v) in
      let begin = (one_at which v).settings.new_files in
      let before = pipe_at which (files_of v) in
      goes_on layout.format layout.own layout.paths begin before at.middle (last_of which (with_one which v o d)) (last_is which v o d ∙ ap (λ f. f.seq) at.lists.active)
      (goes_if_full layout.format layout.own layout.paths begin before at.middle v.disk at.between at.first)

  -- The same of what the call answered.

  pub lasts_when : (signed : LogFileContext → List ℕ) (r : Result FileBlockHandle Error)
      → IfOk r (λ block. AppendsAt (layout_of (one_at which v)).format (layout_of (one_at which v)).own (layout_of (one_at which v)).paths (one_at which v).settings.new_files (one_at which v).settings.queue signed (pipe_at which (files_of v)) o.files block v.disk d)
      → OnOk r (IsNextIfFull which v (last_of which (with_one which v o d)))
  lasts_when signed (Ok block) at = lasts signed block at
  lasts_when signed (Err error) at = tt
