-- The files of a queue at rest as its pipe is told of them, and what was read of them.
use Rattle.std.proofs.Common.{◌≡◌, ℕ, suc, ◌<◌, Option, Some, None, List, [], ◌∷◌, ◌++◌, length, refl, sym, ap, ap₂, subst, ◌∙◌, append-nil, arith}
use Rattle.raft_log_record_base.specs.declared.pipe_log.LogQueue.{LogQueue}
use Rattle.raft_log_fs.specs.Disk.{Disk}
use Rattle.raft_log_file_writer.specs.LawsChains.{Written}
use Rattle.raft_log_file_writer.specs.LogFormat.{Format}
use Rattle.raft_log_file_writer.specs.LogQueue.{recent}
use Rattle.raft_log_fs.specs.Touching.{HasFile}
use Rattle.raft_log_file_settings.specs.declared.recovery_mode.RecoveryMode.{RecoveryMode}
use Rattle.raft_log_active_file.specs.Standing.{Names}
use Rattle.raft_log_active_file.specs.Reopening.{IsReadTo}
use Rattle.raft_log_active_file.specs.Layout.{FilePaths}
use Rattle.raft_log_active_file.specs.declared.format.File.{File}
use Rattle.raft_log_engine_laws.specs.raft_log_active_file.specs.declared.record.LogRecord.{LogRecord}
use Rattle.raft_log_file_pipe.specs.Files.{AllKept, IsSpan}
use Rattle.raft_log_file_pipe.specs.Opening.{first_number, taken_up, HasOwnHeader, OpensPipe}
use Rattle.raft_log_file_pipe.specs.Opening.OpensPipe.{begins, takes_up}
use Rattle.raft_log_file_pipe.specs.declared.found_files.FoundFiles.{FoundFiles}
use Rattle.raft_log_file_pipe.specs.declared.pipe_files.PipeFiles.{PipeFiles}
use Rattle.raft_log_file_pipe.specs.declared.new_files.NewFiles.{NewFiles}
use Rattle.raft_log_replay.specs.Machines.{Batch}
use Rattle.raft_log_recovery_read.specs.declared.file_ending.FileEnding.{FileEnding}
use Rattle.raft_log_dual_pipes.specs.Own.{log_layout}
use Rattle.raft_log_dual_pipes.specs.Queues.{QueueLayout}
use Rattle.raft_log_dual_pipes.specs.State.{Spanned}
use Rattle.raft_log_dual_pipes.specs.Reopening.{GoesOnFound, IsFoundOf}
use Rattle.raft_log_dual_pipes.specs.Reopening.IsFoundOf.{stopped, unbegun}
use Rattle.raft_log_recovery.specs.Endings.{as_read, end_of_last}
use Rattle.raft_log_recovery_laws.specs.Reading.{AreOfQueue}
use Rattle.raft_log_recovery_laws.specs.Found.{ReadsQueue}
use Rattle.raft_log_recovery_laws.proofs.QueueReading.{no_files_are_the_queue, read_files_are_the_queue}
use Rattle.raft_log_recovery_laws.specs.Files.{AreToldOf, ReadsAsTold}
use Rattle.raft_log_recovery_laws.specs.Files.AreToldOf.{none_told, some_told}

-- Lists.

no_end : {A : Type 0} (xs : List A) (x : A) → xs ++ x ∷ [] ≡ [] → ⊥
no_end [] x is = cc
no_end (y ∷ xs) x is = cc

same_end : {A : Type 0} (xs ys : List A) (x y : A) → xs ++ x ∷ [] ≡ ys ++ y ∷ [] → (xs ≡ ys) × (x ≡ y)
same_end [] [] x y same = (refl, cc same)
same_end [] (b ∷ ys) x y same = (let rest : ys ++ y ∷ [] ≡ [] = cc same in absurd (no_end ys y rest))
same_end (a ∷ xs) [] x y same = (let rest : xs ++ x ∷ [] ≡ [] = cc same in absurd (no_end xs x rest))
same_end {A} (a ∷ xs) (b ∷ ys) x y same =
    let rest : xs ++ x ∷ [] ≡ ys ++ y ∷ [] = cc same in
    let first : a ≡ b = cc same in
    let (all, last) = same_end xs ys x y rest in
    ((λ i. first i ∷ all i), last)

-- the last file, as it was read
abbrev read_as : FileEnding → File → File
read_as ending last = record last { format = ending.format }

as_read_end : (earlier : List File) (last : File) (front : List FileEnding) (ending : FileEnding) → length front ≡ length earlier → as_read (front ++ ending ∷ []) (earlier ++ last ∷ []) ≡ as_read front earlier ++ read_as ending last ∷ []
as_read_end [] last [] ending long = refl
as_read_end [] last (e ∷ front) ending long = (let none : suc (length front) ≡ 0 = long in absurd (omega (arith, none)))
as_read_end (f ∷ earlier) last [] ending long = (let none : 0 ≡ suc (length earlier) = long in absurd (omega (arith, none)))
as_read_end (f ∷ earlier) last (e ∷ front) ending long = ap (λ (l : List File). record f { format = e.format } ∷ l) (as_read_end earlier last front ending (omega (arith, long)))

end_of_ends : (front : List FileEnding) (ending : FileEnding) → end_of_last (front ++ ending ∷ []) ≡ ending.end
end_of_ends [] ending = refl
end_of_ends (e ∷ []) ending = refl
end_of_ends (e ∷ f ∷ front) ending = end_of_ends (f ∷ front) ending

none_read : (endings : List FileEnding) → as_read endings [] ≡ []
none_read [] = refl
none_read (e ∷ endings) = refl

span_read : (paths : FilePaths) (N : Names) (n last : ℕ) (files : List File) (endings : List FileEnding) → length endings ≡ length files → IsSpan paths N n files last → IsSpan paths N n (as_read endings files) last
span_read paths N n last [] [] long span = span
span_read paths N n last [] (e ∷ endings) long span = (let none : suc (length endings) ≡ 0 = long in absurd (omega (arith, none)))
span_read paths N n last (f ∷ files) [] long span = (let none : 0 ≡ suc (length files) = long in absurd (omega (arith, none)))
span_read paths N n last (f ∷ files) (e ∷ endings) long (number, listed, named, behind) = (number, listed, named, span_read paths N (suc n) last files endings (omega (arith, long)) behind)

first_read : (files : List File) (endings : List FileEnding) (last : File) (ending : FileEnding) → length endings ≡ length files → first_number (as_read endings files) (read_as ending last) ≡ first_number files last
first_read [] [] last ending long = refl
first_read [] (e ∷ endings) last ending long = (let none : suc (length endings) ≡ 0 = long in absurd (omega (arith, none)))
first_read (f ∷ files) [] last ending long = (let none : 0 ≡ suc (length files) = long in absurd (omega (arith, none)))
first_read (f ∷ files) (e ∷ endings) last ending long = refl

first_taken : (earlier : List File) (end : Option ℕ) (last : File) → first_number earlier (taken_up end last) ≡ first_number earlier last
first_taken [] (Some n) last = refl
first_taken [] None last = refl
first_taken (f ∷ fs) end last = refl

-- What the pipe is told of.
module _ (layout : QueueLayout LogRecord) (q : Spanned LogRecord) (d : Disk) (files : List File) (endings : List FileEnding) (found : FoundFiles) (items : found.files.items ≡ as_read endings files) (ends_at : found.end ≡ end_of_last endings) where
  headed_by : (last : File) (ending : FileEnding) → ReadsAsTold layout q d last ending → (o : Option ℕ) → o ≡ ending.end → HasOwnHeader layout.format o (read_as ending last) d
  headed_by last ending told (Some end) is = told.headed end (sym is)
  headed_by last ending told None is = tt

  pub told_found : ((first : ℕ) → AllKept layout.format layout.paths first d found.recycled.items) → AreToldOf layout q d files endings → IsFoundOf layout found q d
  told_found spares (none_told are also there) = unbegun (items ∙ ap (as_read endings) are ∙ none_read endings) there (spares 1)
  told_found spares (some_told earlier last front ending are also long fine all told) =
      let end_is : found.end ≡ ending.end = ends_at ∙ ap end_of_last also ∙ end_of_ends front ending in
      let firsts = first_read earlier front last ending long in
      stopped (as_read front earlier) (read_as ending last) (items ∙ ap₂ as_read also are ∙ as_read_end earlier last front ending long) all.stops (record {
        number_is = all.listed.number_is;
        listed = all.listed.listed;
        permitted = all.permitted;
        named = all.listed.named;
        read = subst (λ (o : Option ℕ). HasFile last.handle.file (IsReadTo layout.format q.files.last o) d) (sym end_is) told.read;
        headed = headed_by last ending told found.end end_is;
        span = subst (λ (n : ℕ). IsSpan layout.paths d.names n (as_read front earlier) q.files.last) (sym firsts) (span_read layout.paths d.names (first_number earlier last) q.files.last earlier front long all.listed.span);
        begins = λ m next. all.begins m (next ∙ firsts);
        spares = spares (first_number (as_read front earlier) (read_as ending last));
      })

-- What was read of them are the batches of the queue that goes on.
module _ (queue : LogQueue) (directories : List (List ℕ)) (some : 0 < length directories) (mode : RecoveryMode) (d one other : Disk) (was now : Spanned LogRecord) (files : List File) (endings : List FileEnding) (batches : List Batch)
    (read : ReadsQueue mode queue files d batches endings) (found : FoundFiles) (items : found.files.items ≡ as_read endings files) (ends_at : found.end ≡ end_of_last endings)
    (F : Format LogRecord) (own : List ℕ → Type 0) (paths : FilePaths) (begin : NewFiles) (pipe : PipeFiles) (opens : OpensPipe F own paths begin found pipe one other) (begins_at : now.first ≡ pipe.first_seq) (on : GoesOnFound pipe was.files now.files) where
  same_records : recent now.files ≡ recent was.files
  same_records = ap₂ (λ (x y : List (Written LogRecord)). x ++ y) on.durable on.pending ∙ append-nil (recent was.files)

  pub of_queue : AreToldOf (log_layout queue directories) was d files endings → AreOfQueue queue now batches
  of_queue told = by_files told opens
    where
      by_files : AreToldOf (log_layout queue directories) was d files endings → OpensPipe F own paths begin found pipe one other → AreOfQueue queue now batches
      by_files (none_told are also there) (takes_up earlier last is takes lists) = absurd (no_end earlier last (sym is ∙ items ∙ ap (as_read endings) are ∙ none_read endings))
      by_files (some_told earlier last front ending are also long fine all told) (begins none begun first) =
          absurd (no_end (as_read front earlier) (read_as ending last) (sym (items ∙ ap₂ as_read also are ∙ as_read_end earlier last front ending long) ∙ none))
      by_files (none_told are also there) (begins none begun first) =
          let was_is = there.is.3 in
          let number : now.files.last ≡ 1 = on.last ∙ ap (λ (x : Spanned LogRecord). x.files.last) was_is in
          let at_one : now.first ≡ 1 = begins_at ∙ first.first in
          no_files_are_the_queue queue mode d batches endings (subst (λ (l : List File). ReadsQueue mode queue l d batches endings) are read) now (at_one ∙ sym number)
          (same_records ∙ ap (λ (x : Spanned LogRecord). recent x.files) was_is)
      by_files (some_told earlier last front ending are also long fine all told) (takes_up earlier' last' is takes lists) =
          let (earlier_is, last_is) = same_end earlier' (as_read front earlier) last' (read_as ending last) (sym is ∙ items ∙ ap₂ as_read also are ∙ as_read_end earlier last front ending long) in
          let first_is : pipe.first_seq ≡ first_number earlier last =
          lists.first ∙ first_taken earlier' found.end last' ∙ ap₂ first_number earlier_is last_is ∙ first_read earlier front last ending long in
          read_files_are_the_queue queue directories some mode d was.files all.stops earlier last all.listed batches endings (subst (λ (l : List File). ReadsQueue mode queue l d batches endings) are read) pipe.active.format
          (λ front' ending' ends end there_is.
          (let (front_is, ending_is) = same_end front' front ending' ending (sym ends ∙ also) in
          let end_is : found.end ≡ Some end = ends_at ∙ ap end_of_last ends ∙ end_of_ends front' ending' ∙ there_is in
          let active : pipe.active ≡ read_as ending last = lists.active ∙ ap₂ taken_up end_is last_is in
          ap (λ (x : FileEnding). x.format) ending_is ∙ sym (ap (λ (x : File). x.format) active)))
          now (record { begins = begins_at ∙ first_is; older = on.older; last = on.last; header = on.header; records = same_records })
