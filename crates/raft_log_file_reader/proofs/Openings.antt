-- What comes of the next file, opened or refused.
use Rattle.std.proofs.Common.{◌≡◌, ℕ, IsTrue, List, ◌∷◌, length, Some, refl, sym, ap, subst, arith}
use Rattle.std.specs.String.{string_bytes}
use Rattle.raft_log_record_base.specs.declared.errors.Error.{Error}
use Rattle.raft_log_fs.specs.Disk.{Disk}
use Rattle.raft_log_fs.specs.Reading.{IsOpened}
use Rattle.raft_log_fs.specs.declared.handle.Handle.{Handle}
use Rattle.raft_log_fs.specs.declared.handle.Permission.TheVariants.{ReadOnly}
use Rattle.raft_log_file_format.specs.declared.header.LogFileFormat.{LogFileFormat}
use Rattle.raft_log_file_reader.specs.Source.{bytes_of, bytes_in}
use Rattle.raft_log_file_reader.specs.Opening.{FailsToOpen}
use Rattle.raft_log_file_reader.specs.Reader.{HasNoneOpen, Opens, end_of, honest_of}
use Rattle.raft_log_file_reader.specs.declared.open_file.OpenFile.{OpenFile}
use Rattle.raft_log_file_reader.specs.declared.reader.LogItemBatchFileReader.{LogItemBatchFileReader}
use Rattle.raft_log_file_reader.specs.Answers.{IsLogFileOpen, IsReadOpenRefusal}
use Rattle.raft_log_file_reader.specs.Answers.GivesFile.{unfound, unopened, opened}
use Rattle.raft_log_file_reader.specs.ItemBatches.{files_of, named_len}
use Rattle.raft_log_file_reader.specs.Steps.{OpensNext, FailsNext}
use Rattle.raft_log_file_reader.specs.declared.log_file.LogFile.{LogFile}
use Rattle.raft_log_file_reader.specs.declared.batches.BatchReader.{BatchReader}
use Rattle.raft_log_file_reader.proofs.OpenFiles.{some_gives, most_some}

abbrev opened_file : (file : LogFile) (handle : Handle) (d : Disk) (format : LogFileFormat) (reader : LogItemBatchFileReader) → Opens file.id handle d format reader → OpenFile
opened_file file handle d format reader opens = record { id = file.id; source = opens.source; format = format }

is_open : (file : LogFile) (handle : Handle) (d : Disk) (format : LogFileFormat) (reader : LogItemBatchFileReader) (found : IsOpened (string_bytes file.path) ReadOnly handle d)
    (opens : Opens file.id handle d format reader) → IsTrue (honest_of reader) → IsLogFileOpen d file (opened_file file handle d format reader opens) (end_of reader)
is_open file handle d format reader found opens honest = record {
  is = refl;
  found = subst (λ (h : Handle). IsOpened (string_bytes file.path) ReadOnly h d) (sym opens.reads_by) found;
  size = opens.size;
  header = opens.header honest;
}

named_is : (d : Disk) (path : List ℕ) (id : ℕ) → d.names path ≡ Some id → named_len d (d.names path) ≡ length (bytes_in (d.files id))
named_is d path id is = rw is refl

pub opens_next : (d : Disk) (old new : BatchReader) (file : LogFile) (handle : Handle) (format : LogFileFormat) → files_of old ≡ file ∷ files_of new
    → IsOpened (string_bytes file.path) ReadOnly handle d → Opens file.id handle d format new.reader → IsTrue (honest_of new.reader) → OpensNext d old new
opens_next d old new file handle format next found opens honest =
    let current = opened_file file handle d format new.reader opens in
    let same : length (bytes_of opens.source d) ≡ length (bytes_in (d.files handle.file)) = ap (λ (h : Handle). length (bytes_in (d.files h.file))) opens.reads_by in
    record {
      file = file;
      next = next;
      gives = λ answers gives. opened current (end_of new.reader) (is_open file handle d format new.reader found opens honest) (some_gives d new.reader current answers opens.opened gives);
      fewer = omega (arith, most_some new.reader current opens.opened, opens.size, same, named_is d (string_bytes file.path) handle.file found.is);
    }

pub unfound_next : (d : Disk) (old new : BatchReader) (file : LogFile) (error : Error) → files_of old ≡ file ∷ files_of new → IsReadOpenRefusal (string_bytes file.path) d error → HasNoneOpen new.reader
    → FailsNext d error old new
unfound_next d old new file error next fails closed = record { file = file; next = next; told = unfound error fails refl; closed = closed }

pub unopened_next : (d : Disk) (old new : BatchReader) (file : LogFile) (handle : Handle) (error : Error) → files_of old ≡ file ∷ files_of new
    → IsOpened (string_bytes file.path) ReadOnly handle d → FailsToOpen handle d error → HasNoneOpen new.reader → FailsNext d error old new
unopened_next d old new file handle error next found fails closed = record { file = file; next = next; told = unopened handle error found fails refl; closed = closed }
