-- The last file of a queue reads as its records.
use Rattle.std.proofs.Common.{◌≡◌, ℕ, ◌+◌, ◌-◌, ◌≤◌, List, [], ◌∷◌, ◌++◌, length, take, drop, Option, Some, Ok, Err, refl, sym, ap, subst, ◌∙◌, arith, append_assoc}
use Rattle.std.proofs.lemmas.List.{length-append}
use Rattle.std.proofs.Math.Seq.{take-append-add}
use Rattle.raft_log_record_base.specs.Fault.{Fault}
use Rattle.raft_log_record_base.specs.declared.pipe_log.FileId.{FileId}
use Rattle.raft_log_record_base.specs.declared.pipe_log.LogFileContext.{LogFileContext}
use Rattle.raft_log_record_base.specs.declared.pipe_log.Version.TheVariants.{V1, V2}
use Rattle.raft_log_record_items.specs.declared.item.LogItem.{LogItem}
use Rattle.raft_log_file_format.specs.Header.{IsFileHeader, magic, header_at}
use Rattle.raft_log_file_format.specs.declared.header.LogFileFormat.{LogFileFormat}
use Rattle.raft_log_file_format.proofs.Public.{is_header}
use Rattle.raft_log_fs.specs.Disk.{File}
use Rattle.raft_log_file_writer.specs.LawsChains.{Written, AreFrames, Reads, spelled}
use Rattle.raft_log_file_writer.specs.LogFormat.{HasHeader}
use Rattle.raft_log_active_file.specs.Layout.{IsUnaligned}
use Rattle.raft_log_file_reader.specs.Opening.{SaysFormat}
use Rattle.raft_log_record_base.proofs.Public.{prefix_free}
use Rattle.raft_log_active_file.specs.Reopening.{IsReadTo}
use Rattle.raft_log_engine_laws.specs.raft_log_active_file.specs.QueueFiles.{IsRecordIn, log_format}
use Rattle.raft_log_engine_laws.specs.raft_log_active_file.specs.declared.record.LogRecord.{LogRecord}
use Rattle.raft_log_file_reader.specs.Batches.{context_of}
use Rattle.raft_log_file_reader.specs.declared.open_file.OpenFile.{OpenFile}
use Rattle.raft_log_recovery_read.specs.Reading.{FileReading}
use Rattle.raft_log_recovery_read.specs.Records.{HasRecords, ReadsLastFile}
use Rattle.raft_log_recovery_read.specs.Reading.ReadsBytes.{headless, headed, torn}
use Rattle.raft_log_recovery_laws.specs.Records.{AreBatchesOf}
use Rattle.raft_log_recovery_laws.specs.FileReading.{LastFileIsRead, ReadsRecords, ReadsTo, context_in}
use Rattle.raft_log_recovery_laws.proofs.Places.{next_record, stops_whole}

-- Headers.

magic_length : length magic ≡ 53
unfolding magic
magic_length = refl

-- a header has 69 bytes at most
pub header_short : (header : List ℕ) (format : LogFileFormat) → IsFileHeader header format → length header ≤ 69
header_short header format (x, front, back, is_magic, (V1, f, b, version, payload, split), joined) =
    omega (arith, ap length joined, length-append front back, ap length is_magic, magic_length, ap length split, length-append f b, version.spelled.size, ap length payload.0)
header_short header format (x, front, back, is_magic, (V2, f, b, version, payload, split), joined) =
    omega (arith, ap length joined, length-append front back, ap length is_magic, magic_length, ap length split, length-append f b, version.spelled.size, payload.1.size)

-- bytes that begin with a header have it in their first 69
pub header_in_front : (header rest : List ℕ) (format : LogFileFormat) → IsFileHeader header format → take 69 (header ++ rest) ≡ header ++ take (69 - length header) rest
header_in_front header rest format says =
    let short = header_short header format says in
    let all : 69 ≡ length header + (69 - length header) = omega arith in
    ap (λ (n : ℕ). take n (header ++ rest)) all ∙ take-append-add header rest (69 - length header)

-- where reading found no header there is none
pub no_header : (id : FileId) (directories : List (List ℕ)) (content : List ℕ) (fault : Fault) → header_at (take 69 content) ≡ Err fault → (header : List ℕ) → HasHeader (log_format id.queue directories) header content → ⊥
no_header id directories content fault bad header has =
    let format = has.is.0 in
    let front : take 69 content ≡ header ++ take (69 - length header) has.rest = ap (λ (l : List ℕ). take 69 l) has.splits ∙ header_in_front header has.rest format has.is.1 in
    let good : header_at (take 69 content) ≡ Ok (format, take (69 - length header) has.rest) = ap (λ (l : List ℕ). header_at l) front ∙ is_header.again header (take (69 - length header) has.rest) format has.is.1 in
    absurd cc

-- where the header that was read has an alignment there is none without
pub no_whole_header : (id : FileId) (directories : List (List ℕ)) (content : List ℕ) (format : LogFileFormat) (start : ℕ) → SaysFormat content format start → (IsUnaligned format → ⊥) → (header : List ℕ)
    → HasHeader (log_format id.queue directories) header content → ⊥
no_whole_header id directories content format start begins aligned header has =
    let one = prefix_free is_header header begins.header has.rest begins.rest has.is.0 format has.is.1 begins.says (sym has.splits ∙ begins.splits) in
    aligned (ap (λ (f : LogFileFormat). f.alignment) (sym one.1) ∙ has.is.2)

-- Records.

-- the records behind an offset, up to an end
pub record Behind (file : OpenFile) (header content : List ℕ) (offset : ℕ) (batches : List (List LogItem)) (end : ℕ) : Type 0 where
  pub records : List (Written LogRecord)
  pub frames : AreFrames (IsRecordIn file.id.seq header) records
  pub said : AreBatchesOf (context_of file) offset batches records
  pub splits : drop offset content ≡ spelled records ++ drop end content
  pub ends : end ≡ offset + length (spelled records)

records_behind : (file : OpenFile) (header content : List ℕ) (offset end : ℕ) (batches : List (List LogItem)) → IsFileHeader header file.format → file.format.alignment ≡ 0 → HasRecords file content offset batches end
    → Behind file header content offset batches end
records_behind file header content offset end [] says none has =
    record { records = []; frames = tt; said = tt; splits = ap (λ (k : ℕ). drop k content) (sym has); ends = omega (arith, has) }
records_behind file header content offset end (items ∷ more) says none has =
    let first = next_record file header content offset has.0 items says none has.1 in
    let w = first.written in
    let later = records_behind file header content has.0 end more says none has.2 in
    record {
      records = w ∷ later.records;
      frames = (first.is, later.frames);
      said = (first.batch, subst (λ (k : ℕ). AreBatchesOf (context_of file) k more later.records) first.ends later.said);
      splits = first.splits ∙ ap (λ (l : List ℕ). w.bytes ++ l) later.splits ∙ sym (append_assoc w.bytes (spelled later.records) (drop end content));
      ends = omega (arith, later.ends, first.ends, length-append w.bytes (spelled later.records));
    }

-- a file with a header
read_records : (directories : List (List ℕ)) (id : FileId) (content : List ℕ) (read : FileReading) (file : OpenFile) (start end : ℕ) (fault : Option Fault) (header rest : List ℕ) → file.id ≡ id → IsFileHeader header file.format
    → content ≡ header ++ rest → start ≡ length header → ReadsLastFile file content start read.batches end fault → read.format ≡ file.format → read.format.alignment ≡ 0
    → ReadsRecords directories id content read end
read_records directories id content read file start end fault header rest same says splits starts reads format none =
    let free : file.format.alignment ≡ 0 = ap (λ (f : LogFileFormat). f.alignment) (sym format) ∙ none in
    let behind = records_behind file header content start end read.batches says free reads.0 in
    let numbered : file.id.seq ≡ id.seq = ap (λ (i : FileId). i.seq) same in
    let context : context_of file ≡ context_in id read.format = ap (λ (i : FileId). record { id = i; version = file.format.version }) same ∙ ap (λ (f : LogFileFormat). record { id = id; version = f.version }) (sym format) in
    let here : Reads (IsRecordIn file.id.seq header) (length header) behind.records content = record {
      rest = drop end content;
      splits = ap (λ (k : ℕ). drop k content) (sym starts) ∙ behind.splits;
      frames = behind.frames;
      ends = stops_whole file header content end fault says free reads.1;
    } in
    record {
      header = header;
      begins = record { is = (file.format, says, free); rest = rest; splits = splits };
      records = behind.records;
      reads = subst (λ (n : ℕ). Reads (IsRecordIn n header) (length header) behind.records content) numbered here;
      ends = omega (arith, behind.ends, starts);
      batches = subst (λ (c : LogFileContext). AreBatchesOf c (length header) read.batches behind.records) context
          (subst (λ (k : ℕ). AreBatchesOf (context_of file) k read.batches behind.records) starts behind.said);
    }

-- what was read with its end is how far its pipe takes it to be read
read_to : (directories : List (List ℕ)) (id : FileId) (file : File) (read : FileReading) (end : ℕ) → ReadsRecords directories id file.content read end → IsReadTo (log_format id.queue directories) id.seq (Some end) file
read_to directories id file read end r = (r.header, r.records, r.begins, r.reads, r.ends)

-- what is told of a last file that was read to here
abbrev Told : List (List ℕ) → FileId → File → FileReading → Option ℕ → Type 0
Told directories id file read end = ReadsTo directories id file.content read end × IsReadTo (log_format id.queue directories) id.seq end file

pub last_file_is_read : LastFileIsRead
last_file_is_read directories id file read (headless fault bad tells none no_end first) aligned =
    let nowhere = no_header id directories file.content fault bad in
    subst (λ (end : Option ℕ). Told directories id file read end) (sym no_end) ((nowhere, none), nowhere)
last_file_is_read directories id file read (torn log_file start end fault same begins reads bad tells no_end first) aligned =
    let nowhere = no_whole_header id directories file.content log_file.format start begins bad.1 in
    subst (λ (end : Option ℕ). Told directories id file read end) (sym no_end) ((nowhere, bad.2), nowhere)
last_file_is_read directories id file read (headed log_file start end fault same begins reads whole tells is_end format) aligned =
    let records = read_records directories id file.content read log_file start end fault begins.header begins.rest same begins.says begins.splits begins.ends reads format aligned in
    subst (λ (e : Option ℕ). Told directories id file read e) (sym is_end) (records, read_to directories id file read end records)
