-- A reader at work, batch by batch.
use Rattle.std.proofs.Common.{◌≡◌, ◌<◌, ℕ, IsTrue, List, [], ◌∷◌, ◌++◌, sym, ap, subst, ◌∙◌, arith}
use Rattle.raft_log_record_base.specs.declared.pipe_log.FileId.{FileId}
use Rattle.raft_log_record_items.specs.declared.item.LogItem.{LogItem}
use Rattle.raft_log_fs.specs.Disk.{Disk}
use Rattle.raft_log_fs.specs.declared.handle.Handle.{Handle}
use Rattle.raft_log_file_reader.specs.Source.{bytes_of}
use Rattle.raft_log_file_reader.specs.Batches.{HasBatch}
use Rattle.raft_log_file_reader.specs.Laws.{EndsBehind}
use Rattle.raft_log_file_reader.specs.Reader.{IsReading, file_of, end_of, size_in, left_of, honest_of}
use Rattle.raft_log_file_reader.specs.declared.open_file.OpenFile.{OpenFile}
use Rattle.raft_log_file_reader.specs.declared.reader.LogItemBatchFileReader.{LogItemBatchFileReader}
use Rattle.raft_log_file_reader.proofs.Public.{batches_go_on_is}
use Rattle.raft_log_file_uses.specs.GoodEnd.{HasReadSoFar, HasReadTo, EndsItsBatches}

-- one more batch
pub went_on : (id : FileId) (handle : Handle) (d : Disk) (old new : LogItemBatchFileReader) (items : List LogItem) (work : HasReadSoFar id handle d old)
    → file_of new ≡ file_of old → IsReading d new → IsTrue (honest_of new) → HasBatch work.file (bytes_of work.file.source d) (end_of old) items (end_of new) → HasReadSoFar id handle d new
went_on id handle d old new items work same reading honest batch = record {
  reading = reading;
  honest = honest;
  file = work.file;
  opened = same ∙ work.opened;
  read = record {
    is = work.read.is;
    reads_by = work.read.reads_by;
    start = work.read.start;
    header = work.read.header;
    batches = work.read.batches ++ items ∷ [];
    has = batches_go_on_is work.file (bytes_of work.file.source d) work.read.start (end_of old) (end_of new) work.read.batches items work.read.has batch;
  };
}

-- leaves less behind it
pub less_left : (id : FileId) (handle : Handle) (d : Disk) (old new : LogItemBatchFileReader) → HasReadSoFar id handle d old → file_of new ≡ file_of old → IsReading d new
    → end_of old < end_of new → left_of new < left_of old
less_left id handle d old new work same reading further =
    let within = (reading work.file (same ∙ work.opened)).within in
    let size : size_in (file_of old) ≡ work.file.source.size = ap size_in work.opened in
    let kept : size_in (file_of new) ≡ work.file.source.size = ap size_in (same ∙ work.opened) in
    omega (arith, within, size, kept, further)

-- where none comes any more the batches end
pub ended : (id : FileId) (handle : Handle) (d : Disk) (old : LogItemBatchFileReader) (n : ℕ) (work : HasReadSoFar id handle d old) → n ≡ end_of old
    → EndsBehind work.file (bytes_of work.file.source d) (end_of old) → EndsItsBatches id handle d n
ended id handle d old n work is ends = subst (EndsItsBatches id handle d) (sym is) (record { file = work.file; read = work.read; ends = ends })

-- a reader that stands where another one stood, by the same file
pub record StandsAs (d : Disk) (old new : LogItemBatchFileReader) : Type 0 where
  pub reading : IsReading d new
  pub honest : IsTrue (honest_of new)
  pub file : file_of new ≡ file_of old
  pub end : end_of new ≡ end_of old

-- is as much at work
pub as_much : (id : FileId) (handle : Handle) (d : Disk) (old new : LogItemBatchFileReader) → HasReadSoFar id handle d old → StandsAs d old new → HasReadSoFar id handle d new
as_much id handle d old new work same = record {
  reading = same.reading;
  honest = same.honest;
  file = work.file;
  opened = same.file ∙ work.opened;
  read = subst (HasReadTo id handle d work.file) (sym same.end) work.read;
}
