-- The pair of pipes, and the log that it runs over.
use Rattle.std.proofs.Common.{◌≡◌, Bool, true, false, ◌||◌, ◌↔◌, List, ℕ, Result, Ok, Err, Some, inl, inr, refl, sym, ◌∙◌, ap, subst}
use Rattle.std.specs.Prelude.{IsTrue, IfErr, IfOk, IsErr, is_err}
use Rattle.std.proofs.lemmas.Bool.{cases_Bool, false≢true}
use Rattle.raft_log_fs.specs.Disk.{Disk}
use Rattle.raft_log_record_base.specs.declared.errors.Error.{Error}
use Rattle.raft_log_record_base.specs.declared.errors.Error.TheVariants as errors
use Rattle.raft_log_record_base.specs.declared.pipe_log.LogQueue.{LogQueue}
use Rattle.raft_log_record_base.specs.declared.pipe_log.LogQueue.TheVariants.{Append, Rewrite}
use Rattle.raft_log_active_file.specs.declared.record.LogRecord.{LogRecord}
use Rattle.raft_log_active_file.specs.QueueFilesLaws.{files_are_told, is_layout, queues_are_apart}
use Rattle.raft_log_file_pipe.specs.declared.pipe_files.PipeFiles.{PipeFiles}
use Rattle.raft_log_machine_laws.specs.Calls.{Which}
use Rattle.raft_log_machine_laws.specs.Calls.Which.{InAppend, InRewrite}
use Rattle.raft_log_dual_pipes.specs.Queues.{QueueLayout, AreTwoQueues, layout_at}
use Rattle.raft_log_dual_pipes.specs.State.{Spanned, with_spanned, pipe_at, with_pipe, Run}
use Rattle.raft_log_dual_pipes.specs.OpenOrClosed.{both_open, with_open, IsOpenOrClosed}
use Rattle.raft_log_dual_pipes.specs.Own.{log_layout}
use Rattle.raft_log_dual_pipes.specs.PipeCalls.{SameRules}
use Rattle.raft_log_dual_pipes.specs.Pipes.{OnePipe, LogPipes, LogSense, IsPipeOf, RunsOn, State, files_of, layout_of, one_at, queue_of, queues}

abbrev pub append_with : Which → LogPipes → OnePipe → OnePipe
append_with InAppend v o = o
append_with InRewrite v o = v.append

abbrev pub rewrite_with : Which → LogPipes → OnePipe → OnePipe
rewrite_with InAppend v o = v.rewrite
rewrite_with InRewrite v o = o

-- the pipes with another such one, on another disk
abbrev pub with_one : Which → LogPipes → OnePipe → Disk → LogPipes
with_one which v o d = record { append = append_with which v o; rewrite = rewrite_with which v o; disk = d }

pub two_of : (log : LogSense) (v : LogPipes) (s : State) → RunsOn log v s → AreTwoQueues (queues log)
two_of log v s run = record {
  append = record { lawful = is_layout Append log.append run.append.some; told = files_are_told Append log.append };
  rewrite = record { lawful = is_layout Rewrite log.rewrite run.rewrite.some; told = files_are_told Rewrite log.rewrite };
  apart = queues_are_apart log.append log.rewrite;
}

-- both pipes run, told of one of them
pub both_run : (which : Which) (log : LogSense) (v : LogPipes) (s : State) → RunsOn log v s → IsOpenOrClosed (queues log) (with_open which (both_open (files_of v)) (Some (pipe_at which (files_of v)))) s
both_run InAppend log v s run = record { append = run.run.append; rewrite = run.run.rewrite }
both_run InRewrite log v s run = record { append = run.run.append; rewrite = run.run.rewrite }

-- What a pipe's call says of its own layout, queue and disk, it says of the log's.
moved : (P : QueueLayout LogRecord → LogQueue → Disk → Type 0) (queue : LogQueue) (directories : List (List ℕ)) (o : OnePipe) (d e : Disk) → IsPipeOf queue directories o → e ≡ d → P (layout_of o) o.settings.queue d → P (log_layout queue directories) queue e
moved P queue directories o d e is same h =
    subst (λ (x : Disk). P (log_layout queue directories) queue x) (sym same)
    (subst (λ (n : LogQueue). P (log_layout queue directories) n d) is.told
    (subst (λ (ds : List (List ℕ)). P (log_layout queue ds) o.settings.queue d) is.lies
    (subst (λ (n : LogQueue). P (log_layout n o.directories) o.settings.queue d) is.named h)))

pub at_log : (which : Which) (log : LogSense) (v : LogPipes) (s : State) → RunsOn log v s → (P : QueueLayout LogRecord → LogQueue → Disk → Type 0) → P (layout_of (one_at which v)) (one_at which v).settings.queue v.disk
    → P (layout_at which (queues log)) (queue_of which) s.disk
at_log InAppend log v s run P h = moved P Append log.append v.append v.disk s.disk run.append run.disk h
at_log InRewrite log v s run P h = moved P Rewrite log.rewrite v.rewrite v.disk s.disk run.rewrite run.disk h

goes_on : (queue : LogQueue) (directories : List (List ℕ)) (old new : OnePipe) → IsPipeOf queue directories old → SameRules old new → new.failed ≡ false → IsPipeOf queue directories new
goes_on queue directories old new is same alive = record {
  named = same.queue ∙ is.named;
  told = ap (λ r. r.queue) same.settings ∙ is.told;
  lies = same.directories ∙ is.lies;
  some = is.some;
  alive = alive;
}

-- both pipes run again
pub runs_again : (which : Which) (log : LogSense) (v : LogPipes) (s t : State) (o : OnePipe) (d : Disk) → RunsOn log v s → SameRules (one_at which v) o → o.failed ≡ false → t.disk ≡ d → Run (queues log) (with_pipe which (files_of v) o.files) t
    → RunsOn log (with_one which v o d) t
runs_again InAppend log v s t o d run same alive there next = record { append = goes_on Append log.append v.append o run.append same alive; rewrite = run.rewrite; disk = there; run = next }
runs_again InRewrite log v s t o d run same alive there next = record { append = run.append; rewrite = goes_on Rewrite log.rewrite v.rewrite o run.rewrite same alive; disk = there; run = next }

pub next_disk : (which : Which) (s : State) (q : Spanned LogRecord) (d : Disk) → (with_spanned which s q d).disk ≡ d
next_disk InAppend s q d = refl
next_disk InRewrite s q d = refl

-- the pipes with one of them as it was
pub same_files : (which : Which) (log : LogSense) (v : LogPipes) (t : State) (files : PipeFiles) → files ≡ pipe_at which (files_of v) → Run (queues log) (files_of v) t → Run (queues log) (with_pipe which (files_of v) files) t
same_files InAppend log v t files same run = subst (λ (fs : PipeFiles). Run (queues log) (with_pipe InAppend (files_of v) fs) t) (sym same) run
same_files InRewrite log v t files same run = subst (λ (fs : PipeFiles). Run (queues log) (with_pipe InRewrite (files_of v) fs) t) (sym same) run

-- Failing.

pub either_false : (a b : Bool) → (a || b) ≡ false → (a ≡ false) × (b ≡ false)
either_false false b h = (refl, h)
either_false true b h = absurd (false≢true (sym h))

-- whether the error is that of a failure that couldn't be mended
abbrev pub is_failure : Error → Bool
is_failure errors.Failed = true
is_failure _ = false

failure_of : {A : Type 0} → Result A Error → Bool
failure_of (Ok x) = false
failure_of (Err error) = is_failure error

-- a call that tells another error hasn't failed
pub mended : {A : Type 0} (b : Bool) (error : Error) → (IsTrue b ↔ (◌≡◌ {A = Result A Error} (Err error) (Err errors.Failed))) → is_failure error ≡ false → b ≡ false
unfolding failure_of
mended {A} b error h other = elim (cases_Bool b) [
  | inl hit ↦ absurd (false≢true (sym other ∙ ap (failure_of {A = A}) (h.0 hit)))
  | inr miss ↦ miss
]

pub err_through : {A : Type 0} (r : Result A Error) (P Q : Error → Type 0) → IfErr r P → ((e : Error) → r ≡ Err e → P e → Q e) → IfErr r Q
err_through (Ok x) P Q h all = tt
err_through (Err e) P Q h all = all e refl h

pub ok_through : {A : Type 0} (r : Result A Error) (P Q : A → Type 0) → IfOk r P → ((x : A) → r ≡ Ok x → P x → Q x) → IfOk r Q
ok_through (Ok x) P Q h all = all x refl h
ok_through (Err e) P Q h all = tt

-- what a refusal says, it says of pipes that hadn't failed
pub when_alive : {A : Type 0} (r : Result A Error) (P : Error → Type 0) (failed : Bool) → IfErr r P → IfErr r (λ e. failed ≡ false → P e)
when_alive (Ok x) P failed h = tt
when_alive (Err e) P failed h = λ alive. h

-- a call that answers hasn't failed
pub answered : {A : Type 0} (r : Result A Error) (x : A) (b : Bool) → r ≡ Ok x → (IsTrue b ↔ IsErr r) → b ≡ false
answered r x b is h = elim (cases_Bool b) [
  | inl hit ↦ absurd (false≢true (sym (ap is_err is) ∙ h.0 hit))
  | inr miss ↦ miss
]

pub told : {A : Type 0} (r : Result A Error) (x : A) (b : Bool) → r ≡ Ok x → (IsTrue b ↔ (r ≡ Err errors.Failed)) → b ≡ false
told {A} r x b is h = elim (cases_Bool b) [
  | inl hit ↦ absurd (false≢true (ap is_err (sym is ∙ h.0 hit)))
  | inr miss ↦ miss
]

pub mended_at : {A : Type 0} (r : Result A Error) (b : Bool) (error : Error) → r ≡ Err error → (IsTrue b ↔ (r ≡ Err errors.Failed)) → is_failure error ≡ false → b ≡ false
mended_at {A} r b error is h = mended {A = A} b error (subst (λ (x : Result A Error). IsTrue b ↔ (x ≡ Err errors.Failed)) is h)
