-- A file's reading stops at one place: at a foreign record or not.
use Rattle.std.proofs.Common.{◌≡◌, ◌⊎◌, inl, inr, ℕ, Bool, Option, List, length, take, Err, sym, ap, subst, ◌∙◌}
use Rattle.raft_log_record_base.specs.Fault.{Fault}
use Rattle.raft_log_record_base.specs.declared.errors.Error.{Error}
use Rattle.raft_log_record_base.specs.declared.pipe_log.FileId.{FileId}
use Rattle.raft_log_fs.specs.Disk.{Disk}
use Rattle.raft_log_fs.specs.declared.handle.Handle.{Handle}
use Rattle.raft_log_record_items.specs.declared.item.LogItem.{LogItem}
use Rattle.raft_log_file_format.specs.Header.{header_at}
use Rattle.raft_log_file_format.specs.declared.header.LogFileFormat.{LogFileFormat}
use Rattle.raft_log_file_reader.specs.Foreign.{HasForeignRecord}
use Rattle.raft_log_file_reader.specs.Opening.{SaysFormat}
use Rattle.raft_log_file_reader.specs.declared.open_file.OpenFile.{OpenFile}
use Rattle.raft_log_file_reader.specs.declared.source.Source.{Source}
use Rattle.raft_log_file_reader.specs.Source.{bytes_of, CannotRead}
use Rattle.raft_log_recovery_read.specs.Foreign.{FailsToReadRecords, IsForeign, StopsAtNoForeign}
use Rattle.raft_log_recovery_read.specs.ForeignSteps.{RefusesForeign}
use Rattle.raft_log_recovery_read.specs.Records.{ReadsBehind}
use Rattle.raft_log_recovery_read.proofs.Elsewhere.{read_from, same_behind}
use Rattle.raft_log_recovery_read.proofs.FaultLemmas.{file_unread, from_front}
use Rattle.raft_log_recovery_read.proofs.HeldOnce.{header_found, one_header}
use Rattle.raft_log_recovery_read.proofs.OneReading.{one_behind}

-- whether the next record is foreign doesn't depend on where the file is read from
foreign_from : (file : OpenFile) (s : Source) (content : List ℕ) (end at compression : ℕ) → HasForeignRecord (read_from file s) content end at compression → HasForeignRecord file content end at compression
foreign_from file s content end at compression h = record { goes_on = h.goes_on; begins = h.begins; is = h.is }

foreign_same : (f g : OpenFile) (content : List ℕ) (end at compression : ℕ) → f.id ≡ g.id → f.format ≡ g.format → HasForeignRecord g content end at compression → HasForeignRecord f content end at compression
foreign_same f g content end at compression id format h =
    let same : g ≡ read_from f g.source = ap (λ (i : FileId). record { id = i; source = g.source; format = g.format }) (sym id)
    ∙ ap (λ (m : LogFileFormat). record { id = f.id; source = g.source; format = m }) (sym format) in
    foreign_from f g.source content end at compression (subst (λ (o : OpenFile). HasForeignRecord o content end at compression) same h)

-- where one reading of a file stops at no foreign record, none does
pub native_is : (last : Bool) (id : FileId) (content : List ℕ) (file : OpenFile) (start end : ℕ) (batches : List (List LogItem)) (fault : Option Fault) → file.id ≡ id → SaysFormat content file.format start
    → ReadsBehind last file content start batches end fault → ((at compression : ℕ) → HasForeignRecord file content end at compression → ⊥) → StopsAtNoForeign last id content
native_is last id content file start end batches fault is header behind other at compression h =
    let one = one_header content file.format h.file.format start h.start header h.header in
    let same : file.id ≡ h.file.id = is ∙ sym h.is in
    let there = subst (λ (k : ℕ). ReadsBehind last h.file content k h.batches h.end h.fault) (sym one.1) h.behind in
    let here = same_behind last file h.file content start h.end h.batches h.fault same one.0 there in
    let both = one_behind last file content start end h.end batches h.batches fault h.fault behind here in
    other at compression (subst (λ (k : ℕ). HasForeignRecord file content k at compression) (sym both.1) (foreign_same file h.file content h.end at compression same one.0 h.foreign))

-- nor does a file without a header
pub headless_native : (last : Bool) (id : FileId) (content : List ℕ) (fault : Fault) → header_at (take 69 content) ≡ Err fault → StopsAtNoForeign last id content
headless_native last id content fault wrong at compression h = header_found content h.file.format h.start fault h.header wrong

-- Why a file isn't read where its reading stops.
pub refused_as : (last : Bool) (id : FileId) (handle : Handle) (d : Disk) (file : OpenFile) (start end : ℕ) (batches : List (List LogItem)) (fault : Option Fault) (e : Error) → file.id ≡ id → file.source.handle ≡ handle
    → file.source.size ≡ length (bytes_of file.source d) → SaysFormat (bytes_of file.source d) file.format start → ReadsBehind last file (bytes_of file.source d) start batches end fault
    → CannotRead file.source end d e ⊎ RefusesForeign id file (bytes_of file.source d) end e → FailsToReadRecords last id handle d e
refused_as last id handle d file start end batches fault e is reads size header behind (inl unread) =
    inl (file_unread file.source handle d e reads size (from_front file.source end d e unread))
refused_as last id handle d file start end batches fault e is reads size header behind (inr refused) =
    inr (subst (λ (h : Handle). IsForeign last id h d e) reads (record {
      at = refused.at;
      compression = refused.compression;
      stops = record { file = file; is = is; start = start; header = header; batches = batches; end = end; fault = fault; behind = behind; foreign = refused.foreign };
      told = refused.told;
    }))
