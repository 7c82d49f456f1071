-- A file that was finished reads whole.
use Rattle.std.proofs.Common.{◌≡◌, ℕ, ◌+◌, ◌≤◌, inl, inr, List, [], ◌∷◌, ◌++◌, length, drop, Option, Some, None, refl, sym, ap, subst, ◌∙◌, arith}
use Rattle.std.proofs.lemmas.List.{length-append, length-drop, drop_at}
use Rattle.raft_log_record_base.specs.Fault.{Fault}
use Rattle.raft_log_record_base.specs.declared.errors.Error.{Error}
use Rattle.raft_log_record_base.specs.declared.pipe_log.FileId.{FileId}
use Rattle.raft_log_record_base.specs.declared.pipe_log.LogFileContext.{LogFileContext}
use Rattle.raft_log_record_base.proofs.Public.{prefix_free}
use Rattle.raft_log_record_items.specs.declared.item.LogItem.{LogItem}
use Rattle.raft_log_file_format.specs.Header.{IsFileHeader}
use Rattle.raft_log_file_format.specs.declared.header.LogFileFormat.{LogFileFormat}
use Rattle.raft_log_file_format.proofs.Public.{is_header}
use Rattle.raft_log_fs.specs.Disk.{File}
use Rattle.raft_log_file_writer.specs.LawsChains.{Written, AreFrames, spelled}
use Rattle.raft_log_engine_laws.specs.raft_log_active_file.specs.QueueFiles.{IsRecordIn}
use Rattle.raft_log_engine_laws.specs.raft_log_active_file.specs.declared.record.LogRecord.{LogRecord}
use Rattle.raft_log_file_reader.specs.Batches.{HasBatch, HasBatches, context_of}
use Rattle.raft_log_file_reader.specs.Laws.{EndsBehind}
use Rattle.raft_log_file_reader.specs.declared.open_file.OpenFile.{OpenFile}
use Rattle.raft_log_file_reader.proofs.Public.{batches_go_on_is}
use Rattle.raft_log_recovery_read.specs.Faults.{TellsIfAny}
use Rattle.raft_log_recovery_read.specs.Records.{IsRecordTorn, ReadsEarlier, StopsGood}
use Rattle.raft_log_recovery_read.specs.Records.ReadsEarlier.{none as read_none, good as read_good, torn as read_torn}
use Rattle.raft_log_recovery_read.specs.Reading.ReadsBytes.{headless, headed, torn as torn_head}
use Rattle.raft_log_recovery_laws.specs.Records.{AreBatchesOf}
use Rattle.raft_log_recovery_laws.specs.FileReading.{FinishedFileIsRead, context_in}
use Rattle.raft_log_recovery_laws.proofs.LastFiles.{no_header}
use Rattle.raft_log_recovery_laws.proofs.Places.{batch_comes, no_batch, no_padding, not_torn, same_record}

-- what stands to the end of a file are these records
record Represents (file : OpenFile) (header content : List ℕ) (at : ℕ) (ws : List (Written LogRecord)) : Type 0 where
  says : IsFileHeader header file.format
  aligned : file.format.alignment ≡ 0
  frames : AreFrames (IsRecordIn file.id.seq header) ws
  all : drop at content ≡ spelled ws

-- the same behind the first one
holds_later : (file : OpenFile) (header content : List ℕ) (at next : ℕ) (items : List LogItem) (w : Written LogRecord) (ws : List (Written LogRecord)) → Represents file header content at (w ∷ ws) → HasBatch file content at items next
    → Represents file header content next ws
holds_later file header content at next items w ws h has =
    let same = same_record file header content (spelled ws) at next items w h.says h.aligned h.frames.0 h.all has in
    record { says = h.says; aligned = h.aligned; frames = h.frames.1; all = same.2 }

-- all batches are those of the records, and the last one ends where these do
walked : (file : OpenFile) (header content : List ℕ) (at end : ℕ) (xs : List (List LogItem)) (ws : List (Written LogRecord)) → Represents file header content at ws → HasBatches file content at xs end → EndsBehind file content end
    → AreBatchesOf (context_of file) at xs ws × (end ≡ at + length (spelled ws))
walked file header content at end [] [] h has ends = (tt, omega (arith, has))
walked file header content at end (x ∷ xs) [] h has ends = absurd (no_batch file content at has.0 x h.aligned h.all has.1)
walked file header content at end [] (w ∷ ws) h has ends = absurd (batch_comes file header content (spelled ws) at w h.says h.aligned h.frames.0 h.all (subst (EndsBehind file content) has ends))
walked file header content at end (x ∷ xs) (w ∷ ws) h has ends =
    let same = same_record file header content (spelled ws) at has.0 x w h.says h.aligned h.frames.0 h.all has.1 in
    let later = walked file header content has.0 end xs ws (holds_later file header content at has.0 x w ws h has.1) has.2 ends in (
      (same.0, subst (λ (k : ℕ). AreBatchesOf (context_of file) k xs ws) same.1 later.0),
      omega (arith, later.1, same.1, length-append w.bytes (spelled ws)),
    )

-- none of them is torn
none_torn : (file : OpenFile) (header content : List ℕ) (at end next : ℕ) (items : List LogItem) (fault : Fault) (xs : List (List LogItem)) (ws : List (Written LogRecord)) → Represents file header content at ws
    → HasBatches file content at xs end → HasBatch file content end items next → IsRecordTorn file content end fault → ⊥
none_torn file header content at end next items fault [] [] h has one torn = no_batch file content at next items h.aligned h.all (subst (λ (k : ℕ). HasBatch file content k items next) has one)
none_torn file header content at end next items fault (x ∷ xs) [] h has one torn = no_batch file content at has.0 x h.aligned h.all has.1
none_torn file header content at end next items fault [] (w ∷ ws) h has one torn =
    not_torn file header content (spelled ws) at w fault h.says h.aligned h.frames.0 h.all (subst (λ (k : ℕ). IsRecordTorn file content k fault) has torn)
none_torn file header content at end next items fault (x ∷ xs) (w ∷ ws) h has one torn =
    none_torn file header content has.0 end next items fault xs ws (holds_later file header content at has.0 x w ws h has.1) has.2 one torn

stops : (file : OpenFile) (content : List ℕ) (end : ℕ) (fault : Option Fault) → StopsGood file content end fault → EndsBehind file content end
stops file content end None good = inl good
stops file content end (Some fault) good = inr (fault, good)

-- at its end nothing is wrong
sound_end : (file : OpenFile) (content : List ℕ) (end : ℕ) (fault : Option Fault) → file.format.alignment ≡ 0 → end ≡ length content → StopsGood file content end fault → fault ≡ None
sound_end file content end None none all good = refl
sound_end file content end (Some fault) none all good =
    let at = no_padding file.format.alignment content end good.at none good.goes_on in
    absurd (omega (arith, at, all, good.inside))

-- nothing is told then
nothing_told : (told : Option Error) (fault : Option Fault) → fault ≡ None → TellsIfAny told fault → told ≡ None
nothing_told None fault none tells = refl
nothing_told (Some error) fault none tells = let some = tells.1 in absurd cc

-- what is read of the file: its records, up to its end, where nothing is wrong
record IsRead (file : OpenFile) (content : List ℕ) (at : ℕ) (xs : List (List LogItem)) (ws : List (Written LogRecord)) (end : ℕ) (fault : Option Fault) : Type 0 where
  batches : AreBatchesOf (context_of file) at xs ws
  ends : end ≡ at + length (spelled ws)
  sound : fault ≡ None

is_read : (file : OpenFile) (header content : List ℕ) (at end : ℕ) (xs : List (List LogItem)) (ws : List (Written LogRecord)) (fault : Option Fault) → Represents file header content at ws → at ≤ length content
    → HasBatches file content at xs end → StopsGood file content end fault → IsRead file content at xs ws end fault
is_read file header content at end xs ws fault h inside has good =
    let all = walked file header content at end xs ws h has (stops file content end fault good) in
    let last : end ≡ length content = omega (arith, all.1, ap length h.all, length-drop at content, inside) in
    record { batches = all.0; ends = all.1; sound = sound_end file content end fault h.aligned last good }

earlier_read : (file : OpenFile) (header content : List ℕ) (at end : ℕ) (xs : List (List LogItem)) (ws : List (Written LogRecord)) (fault : Option Fault) → Represents file header content at ws → at ≤ length content
    → ReadsEarlier file content at xs end fault → IsRead file content at xs ws end fault
earlier_read file header content at end xs ws fault h inside (read_none nothing same good) =
    subst (λ (l : List (List LogItem)). IsRead file content at l ws end fault) (sym nothing) (is_read file header content at end [] ws fault h inside same good)
earlier_read file header content at end xs ws fault h inside (read_good whole good) =
    let all = batches_go_on_is file content at whole.between end whole.before whole.last whole.first whole.record_last.batch in
    is_read file header content at end xs ws fault h inside (subst (λ (l : List (List LogItem)). HasBatches file content at l end) (sym whole.split) all) good
earlier_read file header content at end xs ws fault h inside (read_torn items next f has one ends torn is) =
    absurd (none_torn file header content at end next items f xs ws h has one torn)

pub finished_file_is_read : FinishedFileIsRead
finished_file_is_read directories id past file read is (headless fault bad tells none no_end first) aligned =
    let content : file.content ≡ past.header ++ spelled past.records = ap (λ (f : File). f.content) is.is in
    absurd (no_header id directories file.content fault bad past.header (record { is = is.header; rest = spelled past.records; splits = content }))
finished_file_is_read directories id past file read is (torn_head log_file start end fault same begins reads bad tells no_end first) aligned = (let never : ⊥ = let not_last = bad.0 in cc in absurd never)
finished_file_is_read directories id past file read is (headed log_file start end fault same begins reads whole tells is_end format) aligned =
    let content : file.content ≡ past.header ++ spelled past.records = ap (λ (f : File). f.content) is.is in
    let one = prefix_free is_header begins.header past.header begins.rest (spelled past.records) log_file.format is.header.0 begins.says is.header.1 (sym begins.splits ∙ content) in
    let starts : start ≡ length past.header = begins.ends ∙ ap length one.0 in
    let numbered : id.seq ≡ log_file.id.seq = ap (λ (i : FileId). i.seq) (sym same) in
    let context : context_of log_file ≡ context_in id read.format = ap (λ (i : FileId). record { id = i; version = log_file.format.version }) same ∙ ap (λ (f : LogFileFormat). record { id = id; version = f.version }) (sym format) in
    let h : Represents log_file past.header file.content start past.records = record {
      says = subst (λ (l : List ℕ). IsFileHeader l log_file.format) one.0 begins.says;
      aligned = ap (λ (f : LogFileFormat). f.alignment) (sym format) ∙ aligned;
      frames = subst (λ (n : ℕ). AreFrames (IsRecordIn n past.header) past.records) numbered is.frames;
      all = ap (λ (k : ℕ). drop k file.content) starts ∙ ap (λ (l : List ℕ). drop (length past.header) l) content ∙ drop_at past.header (spelled past.records) (length past.header) refl;
    } in
    let inside : start ≤ length file.content = omega (arith, starts, ap length content, length-append past.header (spelled past.records)) in
    let whole = earlier_read log_file past.header file.content start end read.batches past.records fault h inside reads in
    record {
      sound = nothing_told read.fault fault whole.sound tells;
      end = is_end ∙ ap (λ (k : ℕ). Some k) (whole.ends ∙ ap (λ (k : ℕ). k + length (spelled past.records)) starts);
      batches = subst (λ (c : LogFileContext). AreBatchesOf c (length past.header) read.batches past.records) context
          (subst (λ (k : ℕ). AreBatchesOf (context_of log_file) k read.batches past.records) starts whole.batches);
    }
