-- Where a log that rests is opened, an engine of what was read of it holds its map.
use Rattle.std.proofs.Common.{◌≡◌, ℕ, suc, ◌<◌, Option, Some, None, List, [], ◌∷◌, ◌++◌, length, take, refl, sym, ap, ap₂, subst, ◌∙◌, append-nil}
use Rattle.raft_log_model_laws.specs.Groups.{taken}
use Rattle.raft_log_record_base.specs.declared.pipe_log.LogQueue.{LogQueue}
use Rattle.raft_log_record_base.specs.declared.pipe_log.LogQueue.TheVariants.{Append, Rewrite}
use Rattle.raft_log_fs.specs.Disk.{Disk}
use Rattle.raft_log_file_writer.specs.LawsChains.{Written}
use Rattle.raft_log_file_writer.specs.LogFormat.{Format}
use Rattle.raft_log_file_writer.specs.LogQueue.{recent}
use Rattle.raft_log_file_settings.specs.declared.recovery_mode.RecoveryMode.{RecoveryMode}
use Rattle.raft_log_active_file.specs.Layout.{path_of, FilePaths}
use Rattle.raft_log_active_file.specs.declared.format.File.{File}
use Rattle.raft_log_active_file.specs.Standing.{Names}
use Rattle.raft_log_engine_laws.specs.raft_log_active_file.specs.declared.record.LogRecord.{LogRecord}
use Rattle.raft_log_file_pipe.specs.Files.{IsSpan}
use Rattle.raft_log_file_pipe.specs.Opening.{first_number, taken_up, OpensPipe}
use Rattle.raft_log_file_pipe.specs.Opening.OpensPipe.{begins, takes_up}
use Rattle.raft_log_file_pipe.specs.declared.found_files.FoundFiles.{FoundFiles}
use Rattle.raft_log_file_pipe.specs.declared.new_files.NewFiles.{NewFiles}
use Rattle.raft_log_file_pipe.specs.declared.pipe_files.PipeFiles.{PipeFiles}
use Rattle.raft_log_replay.specs.Machines.{Batch}
use Rattle.raft_log_recovery_read.specs.declared.file_ending.FileEnding.{FileEnding}
use Rattle.raft_log_dual_pipes.specs.Own.{log_layout}
use Rattle.raft_log_dual_pipes.specs.State.{Spanned}
use Rattle.raft_log_dual_pipes.specs.Reopening.{GoesOnFound, IsFoundOf}
use Rattle.raft_log_dual_pipes.specs.Reopening.IsFoundOf.{stopped, unbegun}
use Rattle.raft_log_engine_laws.specs.EngineState.{sense}
use Rattle.raft_log_recovery_laws.specs.Reading.{AreOfQueue}
use Rattle.raft_log_recovery_laws.specs.Found.{ReadsQueue}
use Rattle.raft_log_recovery_laws.specs.Recovered.{AreFoundAsRead, AreInFormats, CrashedLogsOpen, ReadLogsAreHeld}
use Rattle.raft_log_recovery_laws.proofs.Left.{crashed_logs_rest}
use Rattle.raft_log_recovery_laws.proofs.Opened.{opened_engines_hold}
use Rattle.raft_log_recovery_laws.proofs.QueueReading.{no_files_are_the_queue, read_files_are_the_queue}

-- Lists.

no_end : {A : Type 0} (xs : List A) (x : A) → xs ++ x ∷ [] ≡ [] → ⊥
no_end [] x is = cc
no_end (y ∷ xs) x is = cc

same_end : {A : Type 0} (xs ys : List A) (x y : A) → xs ++ x ∷ [] ≡ ys ++ y ∷ [] → (xs ≡ ys) × (x ≡ y)
same_end [] [] x y same = (refl, cc same)
same_end [] (b ∷ ys) x y same = (let rest : ys ++ y ∷ [] ≡ [] = cc same in absurd (no_end ys y rest))
same_end (a ∷ xs) [] x y same = (let rest : xs ++ x ∷ [] ≡ [] = cc same in absurd (no_end xs x rest))
same_end {A} (a ∷ xs) (b ∷ ys) x y same =
    let rest : xs ++ x ∷ [] ≡ ys ++ y ∷ [] = cc same in
    let first : a ≡ b = cc same in
    let (all, last) = same_end xs ys x y rest in
    ((λ i. first i ∷ all i), last)

-- Files in the formats that were read of them.

-- the files of which those are the last and the others, and what was told of the last
record EndsAs (files : List File) (endings : List FileEnding) (earlier : List File) (last : File) : Type 0 where
  before : List File
  file : File
  splits : files ≡ before ++ file ∷ []
  front : List FileEnding
  ending : FileEnding
  ends : endings ≡ front ++ ending ∷ []
  last_is : last ≡ record file { format = ending.format }
  formats : AreInFormats before front earlier

cons_is : {A : Type 0} (x y : A) (xs ys : List A) → ◌≡◌ {A = List A} (x ∷ xs) (y ∷ ys) → (x ≡ y) × (xs ≡ ys)
cons_is x y xs ys h = (cc, cc)

ends_as : (files : List File) (endings : List FileEnding) (earlier : List File) (last : File) → AreInFormats files endings (earlier ++ last ∷ []) → EndsAs files endings earlier last
ends_as [] [] earlier last are = absurd (no_end earlier last are)
ends_as [] (e ∷ es) earlier last are = absurd are
ends_as (f ∷ fs) [] earlier last are = absurd are
ends_as (f ∷ fs) (e ∷ es) (g ∷ earlier) last (more, is, rest) =
    let (here, others) = cons_is g (record f { format = e.format }) (earlier ++ last ∷ []) more is in
    let later = ends_as fs es earlier last (subst (AreInFormats fs es) (sym others) rest) in
    record {
      before = f ∷ later.before;
      file = later.file;
      splits = ap (λ (l : List File). f ∷ l) later.splits;
      front = e ∷ later.front;
      ending = later.ending;
      ends = ap (λ (l : List FileEnding). e ∷ l) later.ends;
      last_is = later.last_is;
      formats = (earlier, ap (λ (x : File). x ∷ earlier) here, later.formats);
    }
ends_as (f ∷ fs) (e ∷ es) [] last (more, is, rest) =
    let (here, others) = cons_is last (record f { format = e.format }) [] more is in
    at_last fs es (subst (AreInFormats fs es) (sym others) rest) here
  where
    at_last : (gs : List File) (ds : List FileEnding) → AreInFormats gs ds [] → last ≡ record f { format = e.format } → EndsAs (f ∷ gs) (e ∷ ds) [] last
    at_last [] [] none here = record { before = []; file = f; splits = refl; front = []; ending = e; ends = refl; last_is = here; formats = refl }
    at_last [] (d ∷ ds) none here = absurd none
    at_last (g ∷ gs) [] none here = absurd none
    at_last (g ∷ gs) (d ∷ ds) (behind, is, others) here = (let never : ⊥ = cc is in absurd never)

none_in : (files : List File) (endings : List FileEnding) → AreInFormats files endings [] → files ≡ []
none_in [] [] are = refl
none_in [] (e ∷ es) are = absurd are
none_in (f ∷ fs) [] are = absurd are
none_in (f ∷ fs) (e ∷ es) (more, is, rest) = (let never : ⊥ = cc is in absurd never)

-- their formats are no part of where they lie
span_formats : (paths : FilePaths) (N : Names) (n last : ℕ) (files : List File) (endings : List FileEnding) (found : List File) → AreInFormats files endings found → IsSpan paths N n found last
    → IsSpan paths N n files last
span_formats paths N n last [] [] found are span = subst (λ (l : List File). IsSpan paths N n l last) are span
span_formats paths N n last [] (e ∷ es) found are span = absurd are
span_formats paths N n last (f ∷ fs) [] found are span = absurd are
span_formats paths N n last (f ∷ fs) (e ∷ es) found (more, is, rest) span =
    let (number, listed, named, behind) = subst (λ (l : List File). IsSpan paths N n l last) is span in
    (number, listed, named, span_formats paths N (suc n) last fs es more rest behind)

first_formats : (files : List File) (endings : List FileEnding) (found : List File) (last other : File) → AreInFormats files endings found → last.seq ≡ other.seq → first_number found last ≡ first_number files other
first_formats [] [] found last other are same = ap (λ (l : List File). first_number l last) are ∙ same
first_formats [] (e ∷ es) found last other are same = absurd are
first_formats (f ∷ fs) [] found last other are same = absurd are
first_formats (f ∷ fs) (e ∷ es) found last other (more, is, rest) same = ap (λ (l : List File). first_number l last) is

first_taken : (earlier : List File) (end : Option ℕ) (last : File) → first_number earlier (taken_up end last) ≡ first_number earlier last
first_taken [] (Some n) last = refl
first_taken [] None last = refl
first_taken (f ∷ fs) end last = refl

-- One queue: the pipe goes on with the files that it was told of, and what was read of them are its batches.
module _ (queue : LogQueue) (directories : List (List ℕ)) (some : 0 < length directories) (mode : RecoveryMode) (d one other : Disk) (was now : Spanned LogRecord) (found : FoundFiles) (is : IsFoundOf (log_layout queue directories) found was d)
    (F : Format LogRecord) (own : List ℕ → Type 0) (paths : FilePaths) (begin : NewFiles) (files : PipeFiles) (opens : OpensPipe F own paths begin found files one other) (begins_at : now.first ≡ files.first_seq)
    (on : GoesOnFound files was.files now.files) (listed : List File) (endings : List FileEnding) (batches : List Batch) (read : ReadsQueue mode queue listed d batches endings) (as_read : AreFoundAsRead listed endings found) where
  same_records : recent now.files ≡ recent was.files
  same_records = ap₂ (λ (x y : List (Written LogRecord)). x ++ y) on.durable on.pending ∙ append-nil (recent was.files)

  of_queue : AreOfQueue queue now batches
  of_queue = by_files is opens
    where
      by_files : IsFoundOf (log_layout queue directories) found was d → OpensPipe F own paths begin found files one other → AreOfQueue queue now batches
      by_files (stopped earlier last items left there) (begins none begun first) = absurd (no_end earlier last (sym items ∙ none))
      by_files (unbegun none there spares) (takes_up earlier last items takes lists) = absurd (no_end earlier last (sym items ∙ none))
      by_files (unbegun none there spares) (begins nothing begun first) =
          let no_files = none_in listed endings (subst (AreInFormats listed endings) none as_read.formats) in
          let was_is = there.is.3 in
          let number : now.files.last ≡ 1 = on.last ∙ ap (λ (x : Spanned LogRecord). x.files.last) was_is in
          let one : now.first ≡ 1 = begins_at ∙ first.first in
          no_files_are_the_queue queue mode d batches endings (subst (λ (l : List File). ReadsQueue mode queue l d batches endings) no_files read) now (one ∙ sym number)
          (same_records ∙ ap (λ (x : Spanned LogRecord). recent x.files) was_is)
      by_files (stopped earlier last items left there) (takes_up earlier' last' items' takes lists) =
          let (earlier_is, last_is) = same_end earlier' earlier last' last (sym items' ∙ items) in
          let e = ends_as listed endings earlier last (subst (AreInFormats listed endings) items as_read.formats) in
          let seq : last.seq ≡ e.file.seq = ap (λ (x : File). x.seq) e.last_is in
          let firsts = first_formats e.before e.front earlier last e.file e.formats seq in
          let spans = subst (λ (n : ℕ). IsSpan (log_layout queue directories).paths d.names n earlier was.files.last) firsts there.span in
          let first_is : files.first_seq ≡ first_number e.before e.file =
          lists.first ∙ first_taken earlier' found.end last' ∙ ap₂ first_number earlier_is last_is ∙ firsts in
          read_files_are_the_queue queue directories some mode d was.files left e.before e.file (record {
            number_is = sym seq ∙ there.number_is;
            listed = ap (λ (x : File). x.reserved) (sym e.last_is) ∙ there.listed;
            named = subst (λ (x : File). d.names (path_of (log_layout queue directories).paths x) ≡ Some x.handle.file) e.last_is there.named;
            span = span_formats (log_layout queue directories).paths d.names (first_number e.before e.file) was.files.last e.before e.front earlier e.formats spans;
          }) batches endings (subst (λ (l : List File). ReadsQueue mode queue l d batches endings) e.splits read) files.active.format
          (λ front ending ends end there_is.
          (let (front_is, ending_is) = same_end front e.front ending e.ending (sym ends ∙ e.ends) in
          let end_is : found.end ≡ Some end = as_read.end front ending ends ∙ there_is in
          let active : files.active ≡ last = lists.active ∙ ap₂ taken_up end_is last_is in
          ap (λ (x : FileEnding). x.format) ending_is ∙ sym (ap (λ (x : File). x.format) (active ∙ e.last_is))))
          now (record { begins = begins_at ∙ first_is; older = on.older; last = on.last; header = on.header; records = same_records })

pub read_logs_are_held : ReadLogsAreHeld
read_logs_are_held home m mode append rewrite old v tables opens rests read =
    let runs = opens.log (sense home) m rests in
    let state = runs.state in
    let h = rests.rests in
    opened_engines_hold home h.state m v tables h.holds (record {
      state = state;
      runs = runs.runs;
      again = runs.reads;
      append_batches = read.append_batches;
      rewrite_batches = read.rewrite_batches;
      of_append = of_queue Append home.append runs.runs.append.some mode old old opens.mid h.state.append state.append append.found rests.append_found _ _ _ append.settings.new_files v.append.files opens.append_opens
          (sym runs.runs.run.append.first) runs.append_goes_on read.append_files read.append_endings read.append_batches read.append_read read.append_found;
      of_rewrite = of_queue Rewrite home.rewrite runs.runs.rewrite.some mode old opens.mid v.disk h.state.rewrite state.rewrite rewrite.found rests.rewrite_found _ _ _ rewrite.settings.new_files v.rewrite.files opens.rewrite_opens
          (sym runs.runs.run.rewrite.first) runs.rewrite_goes_on read.rewrite_files read.rewrite_endings read.rewrite_batches read.rewrite_read read.rewrite_found;
      merged = read.merged;
    })

pub crashed_logs_open : CrashedLogsOpen
crashed_logs_open home one other d image m pending left crash =
    let (k, within, rests) = crashed_logs_rest home one other d image m pending left crash in (
      k,
      within,
      (
        rests,
        λ mode append rewrite v tables found opens read. read_logs_are_held home (taken m (take k pending)) mode append rewrite image v tables opens (record {
          append_as = found.append_as;
          rewrite_as = found.rewrite_as;
          rests = rests;
          append_found = found.append_found;
          rewrite_found = found.rewrite_found;
        }) read,
      ),
    )
