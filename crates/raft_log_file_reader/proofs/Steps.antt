-- What a step of a reader of batches makes of what still comes.
use Rattle.std.proofs.Common.{◌≡◌, ◌+◌, ◌<◌, ◌≤◌, List, [], ◌∷◌, ◌++◌, None, Err, refl, sym, ap, subst, ◌∙◌, append_assoc, arith}
use Rattle.std.specs.Prelude.{sum_by}
use Rattle.std.proofs.lemmas.List.Sums.{sum_by-cons}
use Rattle.raft_log_record_base.specs.declared.errors.Error.{Error}
use Rattle.raft_log_fs.specs.Disk.{Disk}
use Rattle.raft_log_file_reader.specs.Reader.{ReadsHonestly, file_of}
use Rattle.raft_log_file_reader.specs.declared.reader.LogItemBatchFileReader.{LogItemBatchFileReader}
use Rattle.raft_log_file_reader.specs.Answers.{Answer, GivesFiles}
use Rattle.raft_log_file_reader.specs.ItemBatches.{GivesOpen, GivesRest, AnswersGoOn, files_of, most_of, most_left}
use Rattle.raft_log_file_reader.specs.Steps.{EndsOpen, OpensNext, FailsNext, most_open}
use Rattle.raft_log_file_reader.specs.declared.log_file.LogFile.{LogFile}
use Rattle.raft_log_file_reader.specs.declared.batches.BatchReader.{BatchReader}

-- what goes on over nothing goes on
pub goes_further : {S : Type 0} (gives : S → List Answer → Type 0) (a b c : S) (first : List Answer) → AnswersGoOn gives a [] b → AnswersGoOn gives b first c → AnswersGoOn gives a first c
goes_further gives a b c first before step rest more = before (first ++ rest) (step rest more)

-- of a reader without a file nothing comes
pub closed_gives : (d : Disk) (reader : LogItemBatchFileReader) (answers : List Answer) → file_of reader ≡ None → GivesOpen d reader answers → answers ≡ []
closed_gives d reader answers closed gives = rw closed at gives

gives_closed : (d : Disk) (reader : LogItemBatchFileReader) → file_of reader ≡ None → GivesOpen d reader []
gives_closed d reader closed = rw closed refl

-- a batch of the file that is open
pub read_on : (d : Disk) (first : List Answer) (old new : BatchReader) → files_of new ≡ files_of old → AnswersGoOn (GivesOpen d) old.reader first new.reader → AnswersGoOn (GivesRest d) old first new
read_on d first old new same step rest more = record {
  current = first ++ more.current;
  later = more.later;
  of_current = step more.current more.of_current;
  of_later = subst (λ (files : List LogFile). GivesFiles d files more.later) same more.of_later;
  both = ap (λ (l : List Answer). first ++ l) more.both ∙ sym (append_assoc first more.current more.later);
}

-- the file that was open gives these answers, and is closed
pub file_ended : (d : Disk) (first : List Answer) (old new : BatchReader) → files_of new ≡ files_of old → GivesOpen d old.reader first → file_of new.reader ≡ None → AnswersGoOn (GivesRest d) old first new
file_ended d first old new same gives closed rest more = record {
  current = first;
  later = rest;
  of_current = gives;
  of_later = subst (λ (l : List Answer). GivesFiles d (files_of old) l) (sym (more.both ∙ ap (λ (l : List Answer). l ++ more.later) (closed_gives d new.reader more.current closed more.of_current)))
      (subst (λ (files : List LogFile). GivesFiles d files more.later) same more.of_later);
  both = refl;
}

-- of a closed reader come its files
files_give : (d : Disk) (reader : BatchReader) (answers : List Answer) → file_of reader.reader ≡ None → GivesFiles d (files_of reader) answers → GivesRest d reader answers
files_give d reader answers closed gives = record { current = []; later = answers; of_current = gives_closed d reader.reader closed; of_later = gives; both = refl }

-- the next file was opened
pub opened_next : (d : Disk) (old new : BatchReader) → file_of old.reader ≡ None → OpensNext d old new → AnswersGoOn (GivesRest d) old [] new
opened_next d old new closed next rest more =
    files_give d old rest closed (subst (λ (files : List LogFile). GivesFiles d files rest) (sym next.next) (more.current, more.later, next.gives more.current more.of_current, more.of_later, more.both))

-- the next file was refused
pub failed_next : (d : Disk) (error : Error) (old new : BatchReader) → file_of old.reader ≡ None → FailsNext d error old new → AnswersGoOn (GivesRest d) old (Err error ∷ []) new
failed_next d error old new closed next rest more =
    let later : GivesFiles d (files_of new) rest = subst (GivesFiles d (files_of new)) (sym (more.both ∙ ap (λ (l : List Answer). l ++ more.later) (closed_gives d new.reader more.current next.closed.file more.of_current))) more.of_later in
    files_give d old (Err error ∷ rest) closed (subst (λ (files : List LogFile). GivesFiles d files (Err error ∷ rest)) (sym next.next) (Err error ∷ [], rest, next.told, later, refl))

-- How much is left at most.

closed_most : (reader : LogItemBatchFileReader) → file_of reader ≡ None → most_open reader ≡ 0
closed_most reader closed = rw closed refl

pub ended_most : (d : Disk) (old new : BatchReader) → files_of new ≡ files_of old → file_of new.reader ≡ None → most_left d new + most_open old.reader ≡ most_left d old
ended_most d old new same closed = omega (arith, closed_most new.reader closed, ap (sum_by (most_of d)) same)

most_next : (d : Disk) (file : LogFile) (files : List LogFile) → sum_by (most_of d) (file ∷ files) ≡ most_of d file + sum_by (most_of d) files
most_next d file files = sum_by-cons (most_of d) file files

pub fewer_opened : (d : Disk) (old new : BatchReader) → OpensNext d old new → most_left d new < most_left d old
fewer_opened d old new next = omega (arith, next.fewer, ap (sum_by (most_of d)) next.next, most_next d next.file (files_of new))

-- How the loop over the files goes on.

-- nothing came yet on the way from the one to the other
pub record HasComeTo (d : Disk) (old new : BatchReader) : Type 0 where
  pub reading : ReadsHonestly d new.reader
  pub goes_on : AnswersGoOn (GivesRest d) old [] new
  pub fewer : most_left d new ≤ most_left d old

-- the next file was opened behind one that ended
pub came_to_next : (d : Disk) (old from ended new : BatchReader) → HasComeTo d old from → files_of ended ≡ files_of from → EndsOpen d from.reader ended.reader → OpensNext d ended new → ReadsHonestly d new.reader
    → HasComeTo d old new
came_to_next d old from ended new come same ends next reading = record {
  reading = reading;
  goes_on = goes_further (GivesRest d) old from new [] come.goes_on
      (goes_further (GivesRest d) from ended new [] (file_ended d [] from ended same ends.nothing ends.closed.file) (opened_next d ended new ends.closed.file next));
  fewer = omega (arith, come.fewer, ended_most d from ended same ends.closed.file, fewer_opened d ended new next);
}

-- the next file was refused behind one that ended
pub refused_next : (d : Disk) (error : Error) (old from ended new : BatchReader) → HasComeTo d old from → files_of ended ≡ files_of from → EndsOpen d from.reader ended.reader → FailsNext d error ended new
    → AnswersGoOn (GivesRest d) old (Err error ∷ []) new
refused_next d error old from ended new come same ends next =
    goes_further (GivesRest d) old from new (Err error ∷ []) come.goes_on
    (goes_further (GivesRest d) from ended new (Err error ∷ []) (file_ended d [] from ended same ends.nothing ends.closed.file) (failed_next d error ended new ends.closed.file next))

-- a batch of the file that is open
pub came_to_batch : (d : Disk) (first : List Answer) (old from new : BatchReader) → HasComeTo d old from → files_of new ≡ files_of from → AnswersGoOn (GivesOpen d) from.reader first new.reader
    → AnswersGoOn (GivesRest d) old first new
came_to_batch d first old from new come same step = goes_further (GivesRest d) old from new first come.goes_on (read_on d first from new same step)
