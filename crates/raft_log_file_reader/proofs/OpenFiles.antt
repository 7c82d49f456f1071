-- What comes of a file that is open, as its reader goes on.
use Rattle.std.proofs.Common.{◌≡◌, ℕ, ◌-◌, suc, List, [], ◌∷◌, ◌++◌, Option, Some, None, Err, refl, sym, ap, ◌∙◌, append_assoc, arith}
use Rattle.raft_log_record_base.specs.declared.errors.Error.{Error}
use Rattle.raft_log_record_items.specs.declared.item.LogItem.{LogItem}
use Rattle.raft_log_fs.specs.Disk.{Disk}
use Rattle.raft_log_file_reader.specs.Source.{bytes_of}
use Rattle.raft_log_file_reader.specs.Batches.{HasBatch, HasNoMore}
use Rattle.raft_log_file_reader.specs.Refused.{FailsBehind}
use Rattle.raft_log_file_reader.specs.Reader.{IsReading, HasNoneOpen, file_of, end_of}
use Rattle.raft_log_file_reader.specs.declared.open_file.OpenFile.{OpenFile}
use Rattle.raft_log_file_reader.specs.declared.reader.LogItemBatchFileReader.{LogItemBatchFileReader}
use Rattle.raft_log_file_reader.proofs.Weights.{batches_outweigh_items_is}
use Rattle.raft_log_file_reader.specs.Answers.{Answer, given, given_all, GivesFrom}
use Rattle.raft_log_file_reader.specs.Answers.GivesFrom.{whole, cut_short}
use Rattle.raft_log_file_reader.specs.ItemBatches.{GivesOpen}
use Rattle.raft_log_file_reader.specs.Steps.{ReadsOn, EndsOpen, FailsOpen, most_open}

-- a batch, and what comes behind it
gives_batch : (d : Disk) (file : OpenFile) (offset next : ℕ) (items : List LogItem) (rest : List Answer) → HasBatch file (bytes_of file.source d) offset items next
    → GivesFrom d file next rest → GivesFrom d file offset (given items ++ rest)
gives_batch d file offset next items rest has (whole batches end more none is) =
    whole (items ∷ batches) end (next, has, more) none (ap (λ (l : List Answer). given items ++ l) is)
gives_batch d file offset next items rest has (cut_short batches end error more fails is) =
    cut_short (items ∷ batches) end error (next, has, more) fails
    (ap (λ (l : List Answer). given items ++ l) is ∙ sym (append_assoc (given items) (given_all batches) (Err error ∷ [])))

gives_some : (d : Disk) (reader : LogItemBatchFileReader) (file : OpenFile) (answers : List Answer) → file_of reader ≡ Some file → GivesFrom d file (end_of reader) answers → GivesOpen d reader answers
gives_some d reader file answers is gives = rw is gives

pub some_gives : (d : Disk) (reader : LogItemBatchFileReader) (file : OpenFile) (answers : List Answer) → file_of reader ≡ Some file → GivesOpen d reader answers → GivesFrom d file (end_of reader) answers
some_gives d reader file answers is gives = rw is at gives

pub most_some : (reader : LogItemBatchFileReader) (file : OpenFile) → file_of reader ≡ Some file → most_open reader ≡ suc (file.source.size - end_of reader)
most_some reader file is = rw is refl

pub read_batch : (d : Disk) (old new : LogItemBatchFileReader) (items : List LogItem) → file_of new ≡ file_of old → IsReading d new
    → ((file : OpenFile) → file_of old ≡ Some file → HasBatch file (bytes_of file.source d) (end_of old) items (end_of new)) → (file_of old ≡ None → ⊥)
    → ReadsOn d items old new
read_batch d old new items same reading batch some = by (file_of old) refl
  where
    by : (o : Option OpenFile) → file_of old ≡ o → ReadsOn d items old new
    by None is = absurd (some is)
    by (Some file) is =
        let has = batch file is in
        let now = same ∙ is in
        let within = (reading file now).within in
        let more = batches_outweigh_items_is file (bytes_of file.source d) (end_of old) (end_of new) items has in
        record {
          goes_on = λ rest gives. gives_some d old file (given items ++ rest) is (gives_batch d file (end_of old) (end_of new) items rest has (some_gives d new file rest now gives));
          fewer = omega (arith, most_some old file is, most_some new file now, within, more);
        }

pub read_end : (d : Disk) (old new : LogItemBatchFileReader) → ((file : OpenFile) → file_of old ≡ Some file → HasNoMore file (bytes_of file.source d) (end_of old)) → HasNoneOpen new → EndsOpen d old new
read_end d old new none closed = by (file_of old) refl
  where
    by : (o : Option OpenFile) → file_of old ≡ o → EndsOpen d old new
    by None is = record { nothing = rw is refl; closed = closed }
    by (Some file) is = record { nothing = gives_some d old file [] is (whole [] (end_of old) refl (none file is) refl); closed = closed }

pub read_refused : (d : Disk) (error : Error) (old new : LogItemBatchFileReader) → ((file : OpenFile) → file_of old ≡ Some file → FailsBehind file d (end_of old) error) → (file_of old ≡ None → ⊥)
    → HasNoneOpen new → FailsOpen d error old new
read_refused d error old new fails some closed = by (file_of old) refl
  where
    by : (o : Option OpenFile) → file_of old ≡ o → FailsOpen d error old new
    by None is = absurd (some is)
    by (Some file) is = record {
      told = gives_some d old file (Err error ∷ []) is (cut_short [] (end_of old) error refl (fails file is) refl);
      some = omega (arith, most_some old file is);
      closed = closed;
    }
