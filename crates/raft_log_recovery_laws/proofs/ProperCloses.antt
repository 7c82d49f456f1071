-- Which closes are proper: those that succeed, and those in which no file call fails.
use Rattle.std.specs.Prelude.{Result, Ok, Err}
use Rattle.std.specs.Result.{result_and}
use Rattle.std.proofs.Common.{◌≡◌, reverse, subst, inl, inr}
use Rattle.raft_log_record_base.specs.declared.errors.Error.{Error}
use Rattle.raft_log_record_base.specs.declared.errors.Error.TheVariants as errors
use Rattle.raft_log_record_base.specs.declared.pipe_log.LogQueue.TheVariants.{Append, Rewrite}
use Rattle.raft_log_fs.specs.Disk.{Disk}
use Rattle.raft_log_fs.specs.Causes.{Fails, IsLater}
use Rattle.raft_log_fs.specs.Image.{IsSound}
use Rattle.raft_log_fs.specs.Touching.{TouchesOnlyNames}
use Rattle.raft_log_fs.proofs.Public.{fails_after, fails_still, later_then, names_file}
use Rattle.raft_log_file_writer.specs.LogQueue.{LogFiles}
use Rattle.raft_log_file_writer.specs.Writer.{Closes, IsWritten}
use Rattle.raft_log_file_writer.specs.declared.writer.LogFileWriter.{LogFileWriter}
use Rattle.raft_log_engine_laws.specs.raft_log_active_file.specs.declared.record.LogRecord.{LogRecord}
use Rattle.raft_log_engine_laws.specs.raft_log_active_file.specs.QueueFiles.{log_paths}
use Rattle.raft_log_engine_laws.specs.raft_log_active_file.specs.QueueFilesLaws.{files_are_told, is_layout, queues_are_apart}
use Rattle.raft_log_active_file.specs.Layout.{path_of}
use Rattle.raft_log_active_file.specs.Queue.{whole}
use Rattle.raft_log_file_pipe.specs.Closing.{FinishesAs, FinishesOrNot, greatest_reserved}
use Rattle.raft_log_file_pipe.specs.Files.{IsPipe}
use Rattle.raft_log_file_pipe.specs.declared.pipe_files.PipeFiles.{PipeFiles}
use Rattle.raft_log_dual_pipes.specs.ClosingCalls.{ClosesAs, ClosesInOrder}
use Rattle.raft_log_dual_pipes.specs.Pipes.{LogPipes, LogSense, RunsOn, State, queues}
use Rattle.raft_log_dual_pipes.specs.Queues.{AreTwoQueues, QueueLayout}
use Rattle.raft_log_dual_pipes.proofs.Public.{pipe_stays}
use Rattle.raft_log_recovery_laws.specs.Closed.{ClosesProperly, SuccessfulClosesAreProper, UndisturbedClosesAreProper}
use Rattle.raft_log_recovery_laws.proofs.ClosingCalls.{closes_later, closes_touch, finish_later, reserves_later, unclosed_fails}
use Rattle.raft_log_recovery_laws.proofs.ClosingPipes.{active_own, active_written}

-- A close that succeeds.

abbrev AreFinished : LogPipes → Disk → Disk → Disk → Type 0
AreFinished v old one two = ((after : LogFileWriter) × Closes v.append.files.writer after old one)
    × ((after : LogFileWriter) × Closes v.rewrite.files.writer after one two)

both_finished : (v : LogPipes) (old one two : Disk) (first second : Result (Unit {0}) Error) (answer : Unit {0}) → Ok answer ≡ result_and first second
    → FinishesAs v.append.files.writer first old one → FinishesAs v.rewrite.files.writer second one two → AreFinished v old one two
both_finished v old one two (Ok x) (Ok y) answer is append rewrite = (append, rewrite)
both_finished v old one two (Ok x) (Err error) answer is append rewrite = (let clash : Ok answer ≡ Err error = is in let never : ⊥ = cc in absurd never)
both_finished v old one two (Err error) second answer is append rewrite = (let clash : Ok answer ≡ Err error = is in let never : ⊥ = cc in absurd never)

pub answered_closes_are_proper : (v : LogPipes) (new : Disk) (answer : Unit {0}) → ClosesAs v (Ok answer) new → ClosesProperly v new
answered_closes_are_proper v new answer c =
    let (append, rewrite) = both_finished v v.disk c.one c.two c.of_append c.of_rewrite answer c.is c.append c.rewrite in
    record { one = c.one; two = c.two; three = c.three; append = append; rewrite = rewrite; append_names = c.append_names; rewrite_names = c.rewrite_names }

pub successful_closes_are_proper : SuccessfulClosesAreProper
successful_closes_are_proper v new c = answered_closes_are_proper v new tt c

-- What the calls of a close are, whatever it results in.

finished_or_not : (writer : LogFileWriter) (result : Result (Unit {0}) Error) (old new : Disk) → FinishesAs writer result old new → FinishesOrNot writer old new
finished_or_not writer (Ok x) old new done = inl done
finished_or_not writer (Err (errors.Io kind)) old new failed = inr (failed.0, kind, failed.1)
finished_or_not writer (Err _) old new failed = absurd failed

pub closes_in_order : (v : LogPipes) (result : Result (Unit {0}) Error) (new : Disk) → ClosesAs v result new → ClosesInOrder v new
closes_in_order v result new c = record {
  one = c.one;
  two = c.two;
  three = c.three;
  append = finished_or_not v.append.files.writer c.of_append v.disk c.one c.append;
  rewrite = finished_or_not v.rewrite.files.writer c.of_rewrite c.one c.two c.rewrite;
  append_names = c.append_names;
  rewrite_names = c.rewrite_names;
}

-- One in which no file call fails.

module _ (log : LogSense) (v : LogPipes) (s : State) (new : Disk) (sound : IsSound v.disk) (runs : RunsOn log v s) (c : ClosesInOrder v new) (calm : Fails v.disk new → ⊥) where
  abbrev A : QueueLayout LogRecord
  A = (queues log).append

  abbrev R : QueueLayout LogRecord
  R = (queues log).rewrite

  abbrev a : PipeFiles
  a = v.append.files

  abbrev r : PipeFiles
  r = v.rewrite.files

  abbrev qa : LogFiles LogRecord
  qa = s.append.files

  abbrev qr : LogFiles LogRecord
  qr = s.rewrite.files

  two : AreTwoQueues (queues log)
  two = record {
    append = record { lawful = is_layout Append log.append runs.append.some; told = files_are_told Append log.append };
    rewrite = record { lawful = is_layout Rewrite log.rewrite runs.rewrite.some; told = files_are_told Rewrite log.rewrite };
    apart = queues_are_apart log.append log.rewrite;
  }

  append_pipe : IsPipe A.format A.own A.paths v.disk a qa v.disk
  append_pipe = subst (λ (x : Disk). IsPipe A.format A.own A.paths x a qa x) runs.disk runs.run.append.pipe

  rewrite_pipe : IsPipe R.format R.own R.paths v.disk r qr v.disk
  rewrite_pipe = subst (λ (x : Disk). IsPipe R.format R.own R.paths x r qr x) runs.disk runs.run.rewrite.pipe

  names_later : IsLater c.two new
  names_later = later_then c.two c.three new
      (reserves_later (log_paths v.append.queue v.append.directories) (reverse a.recycled.items) (greatest_reserved a.recycled.items) c.two c.three c.append_names)
      (reserves_later (log_paths v.rewrite.queue v.rewrite.directories) (reverse r.recycled.items) (greatest_reserved r.recycled.items) c.three new c.rewrite_names)

  rest_later : IsLater c.one new
  rest_later = later_then c.one c.two new (finish_later r.writer c.one c.two c.rewrite) names_later

  module _ (after : LogFileWriter) (closed : Closes a.writer after v.disk c.one) where
    only_one : TouchesOnlyNames A.own v.disk c.one
    only_one = names_file A.own v.disk c.one (path_of A.paths a.active) a.writer.handle.file sound (active_own A two.append a qa v.disk v.disk append_pipe) append_pipe.active.stands.named (closes_touch a.writer after v.disk c.one closed)

    rewrite_one : IsPipe R.format R.own R.paths c.one r qr c.one
    rewrite_one = pipe_stays R two.rewrite A.own v.disk c.one (λ path mine theirs. two.apart path theirs mine) only_one v.disk r qr rewrite_pipe

    rewrite_written : IsWritten r.writer (whole qr) c.one
    rewrite_written = active_written R two.rewrite r qr c.one c.one rewrite_one

    by_rewrite : ClosesProperly v new
    by_rewrite = elim c.rewrite [
      | inl done ↦ record { one = c.one; two = c.two; three = c.three; append = (after, closed); rewrite = done; append_names = c.append_names; rewrite_names = c.rewrite_names }
      | inr failed ↦
          (let failed_there : Fails c.one c.two = unclosed_fails r.writer failed.0 failed.1 c.one c.two (whole qr) rewrite_written failed.2 in
          absurd (calm (fails_still v.disk c.two new (fails_after v.disk c.one c.two (closes_later a.writer after v.disk c.one closed) failed_there) names_later)))
    ]

  by_append : ClosesProperly v new
  by_append = elim c.append [
    | inl done ↦ by_rewrite done.0 done.1
    | inr failed ↦
        (let failed_there : Fails v.disk c.one = unclosed_fails a.writer failed.0 failed.1 v.disk c.one (whole qa) (active_written A two.append a qa v.disk v.disk append_pipe) failed.2 in
        absurd (calm (fails_still v.disk c.one new failed_there rest_later)))
  ]

pub undisturbed_closes_are_proper : UndisturbedClosesAreProper
undisturbed_closes_are_proper log v s new sound runs c calm = by_append log v s new sound runs c calm
