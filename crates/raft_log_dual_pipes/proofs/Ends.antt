-- A close of both pipes, queue by queue.
use Rattle.std.specs.Prelude.{IsTrue, OnOk, reverse}
use Rattle.std.specs.Result.{result_and}
use Rattle.std.proofs.Common.{◌≡◌, ◌↔◌, ℕ, Bool, false, ◌||◌, List, Result, Ok, Err, sym, ◌∙◌, subst}
use Rattle.std.proofs.lemmas.Bool.{false≢true}
use Rattle.raft_log_fs.specs.Disk.{Disk}
use Rattle.raft_log_record_base.specs.declared.errors.Error.{Error}
use Rattle.raft_log_record_base.specs.declared.errors.Error.TheVariants as errors
use Rattle.raft_log_record_base.specs.declared.pipe_log.LogQueue.{LogQueue}
use Rattle.raft_log_active_file.specs.QueueFiles.{log_paths}
use Rattle.raft_log_active_file.specs.declared.record.LogRecord.{LogRecord}
use Rattle.raft_log_file_pipe.specs.Closing.{IsSettledBy, LeavesClosed, ReservesAll, StaysLeft, greatest_reserved}
use Rattle.raft_log_file_pipe.specs.Files.{Listed}
use Rattle.raft_log_machine_laws.specs.Calls.Which.{InAppend, InRewrite}
use Rattle.raft_log_dual_pipes.specs.Queues.{QueueLayout}
use Rattle.raft_log_dual_pipes.specs.Own.{log_layout}
use Rattle.raft_log_dual_pipes.proofs.CloseSteps.{closed_log_is_a_log, settled_log_is_a_log}
use Rattle.raft_log_dual_pipes.specs.Pipes.{LogPipes, files_of, layout_of, queues}
use Rattle.raft_log_dual_pipes.specs.ClosingCalls.{ClosesLog, ClosesSettled}
use Rattle.raft_log_dual_pipes.proofs.Pairing.{at_log, either_false, two_of}

-- what is said of files kept for use by a pipe that goes by the same layout, with the same such files
pub stays_same : (n m : LogQueue) (ds es : List (List ℕ)) (fs gs : List Listed) (d e : Disk) → m ≡ n → es ≡ ds → gs ≡ fs → StaysLeft (log_layout m es).format (log_layout m es).own gs d e → StaysLeft (log_layout n ds).format (log_layout n ds).own fs d e
stays_same n m ds es fs gs d e named lies kept h =
    subst (λ (xs : List Listed). StaysLeft (log_layout n ds).format (log_layout n ds).own xs d e) kept
    (subst (λ (xs : List (List ℕ)). StaysLeft (log_layout n xs).format (log_layout n xs).own gs d e) lies
    (subst (λ (x : LogQueue). StaysLeft (log_layout x es).format (log_layout x es).own gs d e) named h))

-- and which names they get
pub names_same : (n m : LogQueue) (ds es : List (List ℕ)) (fs gs : List Listed) (d e : Disk) → m ≡ n → es ≡ ds → gs ≡ fs → ReservesAll (log_paths m es) (reverse gs) (greatest_reserved gs) d e → ReservesAll (log_paths n ds) (reverse fs) (greatest_reserved fs) d e
names_same n m ds es fs gs d e named lies kept h =
    subst (λ (xs : List Listed). ReservesAll (log_paths n ds) (reverse xs) (greatest_reserved xs) d e) kept
    (subst (λ (xs : List (List ℕ)). ReservesAll (log_paths n xs) (reverse gs) (greatest_reserved gs) d e) lies
    (subst (λ (x : LogQueue). ReservesAll (log_paths x es) (reverse gs) (greatest_reserved gs) d e) named h))

-- Both pipes: their last files are finished one after the other, and then the spare files of one and of the
-- other get their names.
pub closes : (v : LogPipes) (first second third last : Disk) → LeavesClosed (layout_of v.append).format (layout_of v.append).own (layout_of v.append).paths v.append.files v.disk first
    → LeavesClosed (layout_of v.rewrite).format (layout_of v.rewrite).own (layout_of v.rewrite).paths v.rewrite.files first second → StaysLeft (layout_of v.append).format (layout_of v.append).own v.append.files.recycled.items second third
    → StaysLeft (layout_of v.rewrite).format (layout_of v.rewrite).own v.rewrite.files.recycled.items third last → ClosesLog v last
closes v first second third last finish_append finish_rewrite name_append name_rewrite log s run = closed_log_is_a_log (queues log) (two_of log v s run) (files_of v) s last run.run (record {
  one = first;
  two = second;
  three = third;
  append = at_log InAppend log v s run (λ (l : QueueLayout LogRecord) (n : LogQueue) (x : Disk). LeavesClosed l.format l.own l.paths v.append.files x first) finish_append;
  rewrite = at_log InRewrite log v s run (λ (l : QueueLayout LogRecord) (n : LogQueue) (x : Disk). LeavesClosed l.format l.own l.paths v.rewrite.files first second) finish_rewrite;
  append_names = at_log InAppend log v s run (λ (l : QueueLayout LogRecord) (n : LogQueue) (x : Disk). StaysLeft l.format l.own v.append.files.recycled.items second third) name_append;
  rewrite_names = at_log InRewrite log v s run (λ (l : QueueLayout LogRecord) (n : LogQueue) (x : Disk). StaysLeft l.format l.own v.rewrite.files.recycled.items third last) name_rewrite;
})

-- The same where both last files were finished: then the log is all synced.
closes_settled : (v : LogPipes) (first second third last : Disk) → IsSettledBy (layout_of v.append).format (layout_of v.append).own (layout_of v.append).paths v.append.files v.disk first
    → IsSettledBy (layout_of v.rewrite).format (layout_of v.rewrite).own (layout_of v.rewrite).paths v.rewrite.files first second → StaysLeft (layout_of v.append).format (layout_of v.append).own v.append.files.recycled.items second third
    → StaysLeft (layout_of v.rewrite).format (layout_of v.rewrite).own v.rewrite.files.recycled.items third last → ClosesSettled v last
closes_settled v first second third last finish_append finish_rewrite name_append name_rewrite log s run = settled_log_is_a_log (queues log) (two_of log v s run) (files_of v) s last run.run (record {
  one = first;
  two = second;
  three = third;
  append = at_log InAppend log v s run (λ (l : QueueLayout LogRecord) (n : LogQueue) (x : Disk). IsSettledBy l.format l.own l.paths v.append.files x first) finish_append;
  rewrite = at_log InRewrite log v s run (λ (l : QueueLayout LogRecord) (n : LogQueue) (x : Disk). IsSettledBy l.format l.own l.paths v.rewrite.files first second) finish_rewrite;
  append_names = at_log InAppend log v s run (λ (l : QueueLayout LogRecord) (n : LogQueue) (x : Disk). StaysLeft l.format l.own v.append.files.recycled.items second third) name_append;
  rewrite_names = at_log InRewrite log v s run (λ (l : QueueLayout LogRecord) (n : LogQueue) (x : Disk). StaysLeft l.format l.own v.rewrite.files.recycled.items third last) name_rewrite;
})

-- the same by what finishing each of them came to
pub settles_when : (v : LogPipes) (append rewrite : Result (Unit {0}) Error) (first second third last : Disk) → OnOk append (IsSettledBy (layout_of v.append).format (layout_of v.append).own (layout_of v.append).paths v.append.files v.disk first)
    → OnOk rewrite (IsSettledBy (layout_of v.rewrite).format (layout_of v.rewrite).own (layout_of v.rewrite).paths v.rewrite.files first second) → StaysLeft (layout_of v.append).format (layout_of v.append).own v.append.files.recycled.items second third
    → StaysLeft (layout_of v.rewrite).format (layout_of v.rewrite).own v.rewrite.files.recycled.items third last → OnOk (result_and append rewrite) (ClosesSettled v last)
settles_when v (Ok a) (Ok r) first second third last finish_append finish_rewrite name_append name_rewrite = closes_settled v first second third last finish_append finish_rewrite name_append name_rewrite
settles_when v (Ok a) (Err e) first second third last finish_append finish_rewrite name_append name_rewrite = tt
settles_when v (Err e) r first second third last finish_append finish_rewrite name_append name_rewrite = tt

-- pipes that hadn't failed don't say that they had
pub fails_as : (a r : Bool) (append rewrite : Result (Unit {0}) Error) → (a || r) ≡ false → (IsTrue a ↔ (append ≡ Err errors.Failed)) → (IsTrue r ↔ (rewrite ≡ Err errors.Failed)) → IsTrue (a || r) ↔ (result_and append rewrite ≡ Err errors.Failed)
fails_as a r (Ok v) rewrite alive of_append of_rewrite = (λ said. absurd (false≢true (sym alive ∙ said)), λ is. absurd (false≢true (sym (either_false a r alive).1 ∙ of_rewrite.1 is)))
fails_as a r (Err e) rewrite alive of_append of_rewrite = (λ said. absurd (false≢true (sym alive ∙ said)), λ is. absurd (false≢true (sym (either_false a r alive).0 ∙ of_append.1 is)))
