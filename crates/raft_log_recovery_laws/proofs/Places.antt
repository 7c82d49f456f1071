-- What stands at an offset of a file without an alignment: a batch, a whole record, or none.
use Rattle.std.proofs.Common.{◌≡◌, ℕ, ◌+◌, ◌≤◌, inl, inr, List, [], ◌++◌, length, take, drop, Option, Some, None, Result, Ok, Err, refl, sym, ap, subst, ◌∙◌, arith}
use Rattle.std.specs.Prelude.{IsOk}
use Rattle.std.proofs.lemmas.Bool.{false≢true}
use Rattle.std.proofs.lemmas.List.{length-drop, length-append, length-take-le, drop-drop, drop_at, take-append-drop}
use Rattle.raft_log_record_base.specs.Fault.{Fault}
use Rattle.raft_log_record_base.specs.Files.{signature, signature_of}
use Rattle.raft_log_record_base.specs.declared.pipe_log.LogFileContext.{LogFileContext}
use Rattle.raft_log_record_base.proofs.Public.{ok_is, prefix_free}
use Rattle.raft_log_record_items.specs.declared.item.LogItem.{LogItem}
use Rattle.raft_log_record_items.specs.Placed.{placed}
use Rattle.raft_log_file_format.specs.Header.{IsFileHeader}
use Rattle.raft_log_file_format.specs.declared.header.LogFileFormat.{LogFileFormat}
use Rattle.raft_log_file_format.proofs.Public.{is_header}
use Rattle.raft_log_record_frames.specs.Record.{IsBlock, IsFrame, IsRecord, Front, block_of, frame_at, record_at}
use Rattle.raft_log_record_frames.proofs.Public.{block_found, frame_is_read, frames_are_read_back, frames_take_bytes, records_are_read_back}
use Rattle.raft_log_file_writer.specs.LawsChains.{Written, Refuses}
use Rattle.raft_log_engine_laws.specs.raft_log_active_file.specs.QueueFiles.{IsRecordIn}
use Rattle.raft_log_engine_laws.specs.raft_log_active_file.specs.declared.record.LogRecord.{LogRecord}
use Rattle.raft_log_file_reader.specs.Batches.{padding_len, GoesOnAt, HasBatch, HasNoMore, batch_at, block_at, context_of}
use Rattle.raft_log_file_reader.specs.Batches.GoesOnAt.{behind_padding, at_once}
use Rattle.raft_log_file_reader.specs.Laws.{EndsBehind}
use Rattle.raft_log_file_reader.specs.declared.open_file.OpenFile.{OpenFile}
use Rattle.raft_log_file_reader.proofs.Public.{frame_of_batch}
use Rattle.raft_log_recovery_read.specs.Records.{HasRecord, IsRecordTorn, StopsWhole}
use Rattle.raft_log_recovery_laws.specs.Records.{IsBatchOf}

-- without an alignment nothing is skipped
pub no_padding : (alignment : ℕ) (content : List ℕ) (offset at : ℕ) → alignment ≡ 0 → GoesOnAt alignment content offset at → at ≡ offset
no_padding alignment content offset at none (behind_padding padding is) =
    let nothing : padding_len alignment offset ≡ 0 = rw none refl in
    absurd (omega (arith, padding.some, nothing))
no_padding alignment content offset at none (at_once free is) = is

-- a record of a file whose format is known
pub record_in : (n : ℕ) (header bytes : List ℕ) (format : LogFileFormat) (said : LogRecord) → IsFileHeader header format → IsRecordIn n header bytes said
    → IsRecord (signature format.version n) bytes said.items said.entries
record_in n header bytes format said says is =
    let same : is.format ≡ format = (prefix_free is_header header header [] [] is.format format is.says says refl).1 in
    subst (λ (f : LogFileFormat). IsRecord (signature f.version n) bytes said.items said.entries) same is.is

-- it has bytes
pub record_long : (n : ℕ) (header bytes : List ℕ) (said : LogRecord) → IsRecordIn n header bytes said → 21 ≤ length bytes
record_long n header bytes said is =
    let long = frames_take_bytes (signature is.format.version n) bytes is.is.block said.items is.is.frame in
    omega (arith, long)

-- A whole record.

-- the record of a frame that is read, and whose block is
pub record_there : (s : Option ℕ) (input : List ℕ) (front : Front) → frame_at s input ≡ Ok front → IsOk (record_at s input) → (entries : List ℕ) × (block_of front.bytes ≡ Ok entries)
unfolding record_at
record_there s input front read ok = by_block (block_of front.bytes) refl
  where
    by_block : (r : Result (List ℕ) Fault) → block_of front.bytes ≡ r → (entries : List ℕ) × (block_of front.bytes ≡ Ok entries)
    by_block (Ok entries) is = (entries, is)
    by_block (Err fault) is =
        let bad : record_at s input ≡ Err fault = rw (read, is) refl in
        absurd (false≢true (subst (λ (r : Result Front Fault). IsOk r) bad ok))

-- what stands at an offset: a record, whose batch this is, and behind it the rest
pub record Next (n : ℕ) (file : OpenFile) (header content : List ℕ) (offset next : ℕ) (items : List LogItem) : Type 0 where
  pub written : Written LogRecord
  pub is : IsRecordIn n header written.bytes written.value
  pub batch : IsBatchOf (context_of file) offset items written
  pub splits : drop offset content ≡ written.bytes ++ drop next content
  pub ends : next ≡ offset + length written.bytes

pub next_record : (file : OpenFile) (header content : List ℕ) (offset next : ℕ) (items : List LogItem) → IsFileHeader header file.format → file.format.alignment ≡ 0 → HasRecord file content offset items next
    → Next file.id.seq file header content offset next items
next_record file header content offset next items says none has =
    let context = context_of file in
    let input = drop offset content in
    let at : has.batch.at ≡ offset = no_padding file.format.alignment content offset has.batch.at none has.batch.goes_on in
    let there : has.whole.at ≡ offset = no_padding file.format.alignment content offset has.whole.at none has.whole.goes_on in
    let frame = frame_of_batch context offset has.batch.len content items (ap (λ (k : ℕ). batch_at context k content) (sym at) ∙ has.batch.frame) in
    let front : Front = frame.0 in
    let whole : IsOk (record_at (signature_of context) input) = subst (λ (k : ℕ). IsOk (record_at (signature_of context) (drop k content))) there has.whole.record_there in
    let block = record_there (signature_of context) input front frame.1 whole in
    let stands = (frame_is_read (signature_of context) input front).0 frame.1 in
    let bytes = take front.len input in
    let size : length bytes ≡ front.len = length-take-le front.len input stands.0 in
    let ends : next ≡ offset + length bytes = omega (arith, has.batch.ends, at, size, frame.2) in
    let behind : drop front.len input ≡ drop next content = drop-drop front.len offset content ∙ ap (λ (k : ℕ). drop k content) (let k : offset + front.len ≡ next = omega (arith, ends, size) in k) in
    let filled = block_found front.bytes block.0 block.1 in
    record {
      written = record { bytes = bytes; value = record { items = front.items; entries = block.0 } };
      is = record { format = file.format; says = says; is = record { block = front.bytes; frame = stands.1; block_spelled = filled } };
      batch = (front.bytes, stands.1, filled, frame.3);
      splits = sym (take-append-drop front.len input) ∙ ap (λ (l : List ℕ). bytes ++ l) behind;
      ends = ends;
    }

-- Where reading stops.

-- where a record begins it is read
pub record_read : (file : OpenFile) (header content rest : List ℕ) (offset : ℕ) (w : Written LogRecord) → IsFileHeader header file.format → IsRecordIn file.id.seq header w.bytes w.value → drop offset content ≡ w.bytes ++ rest
    → record_at (signature_of (context_of file)) (drop offset content) ≡ Ok (record { len = length w.bytes; items = w.value.items; bytes = w.value.entries })
record_read file header content rest offset w says is splits =
    ap (λ (l : List ℕ). record_at (signature_of (context_of file)) l) splits
    ∙ records_are_read_back (signature_of (context_of file)) w.bytes w.value.entries rest w.value.items (record_in file.id.seq header w.bytes file.format w.value says is)

-- where one begins none is torn
pub not_torn : (file : OpenFile) (header content rest : List ℕ) (offset : ℕ) (w : Written LogRecord) (fault : Fault) → IsFileHeader header file.format → file.format.alignment ≡ 0
    → IsRecordIn file.id.seq header w.bytes w.value → drop offset content ≡ w.bytes ++ rest → IsRecordTorn file content offset fault → ⊥
not_torn file header content rest offset w fault says none is splits torn =
    let at : torn.at ≡ offset = no_padding file.format.alignment content offset torn.at none torn.goes_on in
    let good = record_read file header content rest offset w says is splits in
    let bad = ap (λ (k : ℕ). record_at (signature_of (context_of file)) (drop k content)) (sym at) ∙ torn.wrong in
    absurd cc

-- where one begins the file doesn't end
pub not_ended : (file : OpenFile) (header content rest : List ℕ) (offset : ℕ) (w : Written LogRecord) → file.format.alignment ≡ 0 → IsRecordIn file.id.seq header w.bytes w.value → drop offset content ≡ w.bytes ++ rest
    → HasNoMore file content offset → ⊥
not_ended file header content rest offset w none is splits ended =
    let at = no_padding file.format.alignment content offset (length content) none ended.goes_on in
    let long = record_long file.id.seq header w.bytes w.value is in
    omega (arith, at, long, ap length splits, length-append w.bytes rest, length-drop offset content)

pub stops_whole : (file : OpenFile) (header content : List ℕ) (offset : ℕ) (fault : Option Fault) → IsFileHeader header file.format → file.format.alignment ≡ 0 → StopsWhole file content offset fault
    → Refuses (IsRecordIn file.id.seq header) (drop offset content)
stops_whole file header content offset None says none stops w rest is splits = not_ended file header content rest offset w none is splits stops
stops_whole file header content offset (Some fault) says none stops w rest is splits = not_torn file header content rest offset w fault says none is splits stops

-- A record of a file that is known.

-- where one begins its frame is read
pub frame_read : (file : OpenFile) (header content rest : List ℕ) (offset : ℕ) (w : Written LogRecord) → IsFileHeader header file.format → (is : IsRecordIn file.id.seq header w.bytes w.value) → drop offset content ≡ w.bytes ++ rest
    → (block : List ℕ) × IsFrame (signature_of (context_of file)) w.bytes w.value.items block × IsBlock block w.value.entries
    × (frame_at (signature_of (context_of file)) (drop offset content) ≡ Ok (record { len = length w.bytes; items = w.value.items; bytes = block }))
frame_read file header content rest offset w says is splits =
    let s = signature_of (context_of file) in
    let r = record_in file.id.seq header w.bytes file.format w.value says is in
    (r.block, r.frame, r.block_spelled, ap (λ (l : List ℕ). frame_at s l) splits ∙ frames_are_read_back s w.bytes r.block rest w.value.items r.frame)

-- a batch that begins where a record does is its batch, and ends where it does
pub same_record : (file : OpenFile) (header content rest : List ℕ) (offset next : ℕ) (items : List LogItem) (w : Written LogRecord) → IsFileHeader header file.format → file.format.alignment ≡ 0
    → IsRecordIn file.id.seq header w.bytes w.value → drop offset content ≡ w.bytes ++ rest → HasBatch file content offset items next
    → IsBatchOf (context_of file) offset items w × (next ≡ offset + length w.bytes) × (drop next content ≡ rest)
same_record file header content rest offset next items w says none is splits has =
    let context = context_of file in
    let at : has.at ≡ offset = no_padding file.format.alignment content offset has.at none has.goes_on in
    let frame = frame_of_batch context offset has.len content items (ap (λ (k : ℕ). batch_at context k content) (sym at) ∙ has.frame) in
    let there = frame_read file header content rest offset w says is splits in
    let front : Front = record { len = length w.bytes; items = w.value.items; bytes = there.0 } in
    let same : frame.0 ≡ front = ok_is {E = Fault} frame.0 front (sym frame.1 ∙ there.3) in
    let len : length w.bytes ≡ has.len = sym (ap (λ (f : Front). f.len) same) ∙ frame.2 in
    let ends : next ≡ offset + length w.bytes = omega (arith, has.ends, at, len) in (
      (there.0, there.1, there.2, frame.3 ∙ ap (λ (f : Front). placed (block_at context offset (length f.bytes)) f.items) same),
      ends,
      ap (λ (k : ℕ). drop k content) ends ∙ sym (drop-drop (length w.bytes) offset content) ∙ ap (λ (l : List ℕ). drop (length w.bytes) l) splits ∙ drop_at w.bytes rest (length w.bytes) refl,
    )

-- where nothing stands there is no batch
pub no_batch : (file : OpenFile) (content : List ℕ) (offset next : ℕ) (items : List LogItem) → file.format.alignment ≡ 0 → drop offset content ≡ [] → HasBatch file content offset items next → ⊥
no_batch file content offset next items none empty has =
    let context = context_of file in
    let at : has.at ≡ offset = no_padding file.format.alignment content offset has.at none has.goes_on in
    let frame = frame_of_batch context offset has.len content items (ap (λ (k : ℕ). batch_at context k content) (sym at) ∙ has.frame) in
    let front : Front = frame.0 in
    let stands = (frame_is_read (signature_of context) (drop offset content) front).0 frame.1 in
    let some = frames_take_bytes (signature_of context) (take front.len (drop offset content)) front.bytes front.items stands.1 in
    omega (arith, some, length-take-le front.len (drop offset content) stands.0, stands.0, ap length empty)

-- where a frame is read a batch is
batch_of : (c : LogFileContext) (k : ℕ) (bytes : List ℕ) (front : Front) → frame_at (signature_of c) (drop k bytes) ≡ Ok front
    → batch_at c k bytes ≡ Ok (front.len, placed (block_at c k (length front.bytes)) front.items)
unfolding batch_at
batch_of c k bytes front e = rw e refl

-- where a record begins a batch comes
pub batch_comes : (file : OpenFile) (header content rest : List ℕ) (offset : ℕ) (w : Written LogRecord) → IsFileHeader header file.format → file.format.alignment ≡ 0 → IsRecordIn file.id.seq header w.bytes w.value
    → drop offset content ≡ w.bytes ++ rest → EndsBehind file content offset → ⊥
batch_comes file header content rest offset w says none is splits (inl ended) = not_ended file header content rest offset w none is splits ended
batch_comes file header content rest offset w says none is splits (inr (fault, broken)) =
    let context = context_of file in
    let at : broken.at ≡ offset = no_padding file.format.alignment content offset broken.at none broken.goes_on in
    let there = frame_read file header content rest offset w says is splits in
    let good = batch_of context offset content (record { len = length w.bytes; items = w.value.items; bytes = there.0 }) there.3 in
    let bad = ap (λ (k : ℕ). batch_at context k content) (sym at) ∙ broken.frame in
    absurd cc
