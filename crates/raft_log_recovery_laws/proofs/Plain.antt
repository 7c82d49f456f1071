-- The files of a log at rest have no alignment.
use Rattle.std.proofs.Common.{◌≡◌, ℕ, zero, suc, ◌+◌, ◌<◌, Bool, true, false, inl, inr, List, [], ◌∷◌, ◌++◌, length, take, drop, Option, Some, refl, sym, ap, subst, ◌∙◌, append_assoc, arith}
use Rattle.std.specs.Prelude.{IsOk}
use Rattle.std.proofs.lemmas.List.{length-append, take-append-drop}
use Rattle.raft_log_record_base.specs.Files.{signature_of}
use Rattle.raft_log_record_base.specs.declared.pipe_log.FileId.{FileId}
use Rattle.raft_log_record_base.specs.declared.pipe_log.LogQueue.{LogQueue}
use Rattle.raft_log_record_base.proofs.Public.{prefix_free}
use Rattle.raft_log_record_items.specs.declared.item.LogItem.{LogItem}
use Rattle.raft_log_record_frames.specs.Record.{Front, record_at}
use Rattle.raft_log_record_frames.proofs.Public.{block_found, frame_is_read}
use Rattle.raft_log_fs.specs.Disk.{Disk, File as DiskFile}
use Rattle.raft_log_file_format.specs.declared.header.LogFileFormat.{LogFileFormat}
use Rattle.raft_log_file_format.proofs.Public.{is_header}
use Rattle.raft_log_file_settings.specs.declared.recovery_mode.RecoveryMode.{RecoveryMode}
use Rattle.raft_log_file_writer.specs.LawsChains.{spelled}
use Rattle.raft_log_file_writer.specs.LogQueue.{Past, IsPast}
use Rattle.raft_log_file_reader.specs.Batches.{GoesOnAt, context_of}
use Rattle.raft_log_file_reader.specs.Batches.GoesOnAt.{behind_padding, at_once}
use Rattle.raft_log_file_reader.specs.Opening.{SaysFormat}
use Rattle.raft_log_file_reader.specs.Source.{bytes_in}
use Rattle.raft_log_file_reader.specs.declared.open_file.OpenFile.{OpenFile}
use Rattle.raft_log_file_reader.proofs.Public.{frame_of_batch}
use Rattle.raft_log_active_file.specs.Layout.{IsUnaligned, path_of}
use Rattle.raft_log_active_file.specs.declared.format.File.{File}
use Rattle.raft_log_file_pipe.specs.Files.{IsSpan}
use Rattle.raft_log_file_pipe.proofs.Public.{span_end}
use Rattle.raft_log_engine_laws.specs.raft_log_active_file.specs.QueueFiles.{IsAlignedFile, log_format, log_paths}
use Rattle.raft_log_engine_laws.specs.raft_log_active_file.specs.declared.record.LogRecord.{LogRecord}
use Rattle.raft_log_recovery_scan.specs.declared.recovery_config.RecoveryConfig.{RecoveryConfig}
use Rattle.raft_log_replay_context.specs.declared.context.MemTableRecoverContext.{MemTableRecoverContext}
use Rattle.raft_log_replay.specs.Machines.{Batch}
use Rattle.raft_log_replay.specs.Sources.{HoldEach}
use Rattle.raft_log_recovery_read.specs.Reading.{FileReading, ReadsBytes}
use Rattle.raft_log_recovery_read.specs.Reading.ReadsBytes.{headless, headed, torn}
use Rattle.raft_log_recovery_read.specs.Records.{HasRecord, HasRecords}
use Rattle.raft_log_recovery_read.specs.Segments.{HoldsFile, id_of, is_at_end}
use Rattle.raft_log_recovery_read.specs.declared.file_ending.FileEnding.{FileEnding}
use Rattle.raft_log_recovery.specs.Reading.{HasReadFiles}
use Rattle.raft_log_recovery.specs.Unaligned.{AreUnaligned}
use Rattle.raft_log_dual_pipes.specs.Own.{log_layout}
use Rattle.raft_log_dual_pipes.specs.State.{IsStopped, Spanned}
use Rattle.raft_log_recovery_laws.specs.ByCalls.{reads}
use Rattle.raft_log_recovery_laws.specs.Files.{AreQueueFiles}
use Rattle.raft_log_recovery_laws.specs.Files.AreQueueFiles.{none_made, some_made}
use Rattle.raft_log_recovery_laws.proofs.ByCalls.{no_length}
use Rattle.raft_log_recovery_laws.proofs.Places.{record_there}
use Rattle.raft_log_recovery_laws.proofs.Reading.{at_end, index_of, not_at_end, last_is, name_there, path_at}
use Rattle.raft_log_recovery_laws.proofs.Refused.{endings_by}

-- A file with an alignment.

-- a record behind an offset is looked for in one place
one_place : (alignment : ℕ) (content : List ℕ) (offset x y : ℕ) → GoesOnAt alignment content offset x → GoesOnAt alignment content offset y → x ≡ y
one_place alignment content offset x y (behind_padding leads is) (behind_padding also here) = is ∙ sym here
one_place alignment content offset x y (behind_padding leads is) (at_once not here) = absurd (not leads)
one_place alignment content offset x y (at_once not is) (behind_padding leads here) = absurd (not leads)
one_place alignment content offset x y (at_once not is) (at_once nor here) = is ∙ sym here

-- where a record is read behind a header with an alignment, the file is one with an alignment
aligned_file : (file : OpenFile) (content : List ℕ) (start next : ℕ) (items : List LogItem) → SaysFormat content file.format start → (IsUnaligned file.format → ⊥) → HasRecord file content start items next → IsAlignedFile file.id.seq content
aligned_file file content start next items begins aligned has =
    let context = context_of file in
    let at = has.batch.at in
    let input = drop at content in
    let frame = frame_of_batch context at has.batch.len content items has.batch.frame in
    let front : Front = frame.0 in
    let there : has.whole.at ≡ at = one_place file.format.alignment content start has.whole.at at has.whole.goes_on has.batch.goes_on in
    let whole : IsOk (record_at (signature_of context) input) = subst (λ (k : ℕ). IsOk (record_at (signature_of context) (drop k content))) there has.whole.record_there in
    let block = record_there (signature_of context) input front frame.1 whole in
    let stands = (frame_is_read (signature_of context) input front).0 frame.1 in
    let filled = block_found front.bytes block.0 block.1 in
    record {
      header = begins.header;
      rest = begins.rest;
      format = file.format;
      splits = begins.splits;
      says = begins.says;
      aligned = aligned;
      at = at;
      written = take front.len input;
      behind = drop front.len input;
      stands = sym (take-append-drop front.len input);
      said = record { items = front.items; entries = block.0 };
      is = record { block = front.bytes; frame = stands.1; block_spelled = filled };
    }

-- a last file that is none reads as one without an alignment
last_plain : (id : FileId) (content : List ℕ) (read : FileReading) → (IsAlignedFile id.seq content → ⊥) → ReadsBytes true id content read → read.format.alignment ≡ 0
last_plain id content read plain (headless fault bad tells none no_end first) = ap (λ (f : LogFileFormat). f.alignment) first
last_plain id content read plain (torn file start end fault same begins behind bad tells no_end first) = ap (λ (f : LogFileFormat). f.alignment) first
last_plain id content read plain (headed file start end fault same begins behind whole tells is_end format) = by_alignment file.format.alignment refl
  where
    by_batches : (batches : List (List LogItem)) → read.batches ≡ batches → (IsUnaligned file.format → ⊥) → read.format.alignment ≡ 0
    by_batches [] is aligned = absurd (whole (refl, aligned, is))
    by_batches (items ∷ more) is aligned =
        let found = subst (λ (bs : List (List LogItem)). HasRecords file content start bs end) is behind.0 in
        absurd (plain (subst (λ (n : ℕ). IsAlignedFile n content) (ap (λ (i : FileId). i.seq) same) (aligned_file file content start found.0 items begins aligned found.1)))

    by_alignment : (n : ℕ) → file.format.alignment ≡ n → read.format.alignment ≡ 0
    by_alignment zero is = ap (λ (f : LogFileFormat). f.alignment) format ∙ is
    by_alignment (suc n) is = by_batches read.batches refl (λ none. (let clash : suc n ≡ 0 = sym is ∙ none in omega (arith, clash)))

-- a file that a pipe has finished reads as one without an alignment
past_plain : (queue : LogQueue) (directories : List (List ℕ)) (id : FileId) (past : Past LogRecord) (file : DiskFile) (read : FileReading) → IsPast (log_format queue directories) id.seq past file → ReadsBytes false id file.content read
    → read.format.alignment ≡ 0
past_plain queue directories id past file read is (headless fault bad tells none no_end first) = ap (λ (f : LogFileFormat). f.alignment) first
past_plain queue directories id past file read is (torn log_file start end fault same begins behind bad tells no_end first) = ap (λ (f : LogFileFormat). f.alignment) first
past_plain queue directories id past file read is (headed log_file start end fault same begins behind whole tells is_end format) =
    let content : file.content ≡ past.header ++ spelled past.records = ap (λ (f : DiskFile). f.content) is.is in
    let one = prefix_free is_header begins.header past.header begins.rest (spelled past.records) log_file.format is.header.0 begins.says is.header.1 (sym begins.splits ∙ content) in
    ap (λ (f : LogFileFormat). f.alignment) (format ∙ one.1) ∙ is.header.2

-- All files of a queue.
module _ (queue : LogQueue) (directories : List (List ℕ)) (some : 0 < length directories) (mode : RecoveryMode) (d : Disk) (q : Spanned LogRecord) (left : IsStopped (log_layout queue directories) q.files d) where
  last_is_plain : (f : File) → f.reserved ≡ false → f.seq ≡ q.files.last → d.names (path_of (log_paths queue directories) f) ≡ Some f.handle.file → (read : FileReading)
      → ReadsBytes true (id_of queue f) (bytes_in (d.files f.handle.file)) read → read.format.alignment ≡ 0
  last_is_plain f listed number named read there =
      let is : d.files f.handle.file ≡ Some left.stands.file.file = ap d.files (last_is queue directories some mode d q left f listed number named) ∙ left.stands.file.is in
      let over = left.stands.file.has in
      let content : bytes_in (d.files f.handle.file) ≡ over.bytes = ap bytes_in is ∙ ap (λ (x : DiskFile). x.content) over.is in
      last_plain (id_of queue f) over.bytes read (λ other. over.plain (subst (λ (n : ℕ). IsAlignedFile n over.bytes) number other)) (subst (λ (l : List ℕ). ReadsBytes true (id_of queue f) l read) content there)

  past_is_plain : (f : File) → f.reserved ≡ false → d.names (path_of (log_paths queue directories) f) ≡ Some f.handle.file → f.seq < q.files.last → (read : FileReading)
      → ReadsBytes false (id_of queue f) (bytes_in (d.files f.handle.file)) read → read.format.alignment ≡ 0
  past_is_plain f listed named below read there =
      let bound = left.stands.bound in
      let path = path_of (log_paths queue directories) f in
      let past = left.stands.older f.seq f.handle.file path below (path_at queue directories some mode d q left f listed (omega (arith, below, bound))) (name_there queue directories some mode d q left path f.handle.file named) in
      past_plain queue directories (id_of queue f) (q.files.older f.seq) past.file read past.has (subst (λ (o : Option DiskFile). ReadsBytes false (id_of queue f) (bytes_in o) read) past.is there)

  rest_plain : (done rest : List File) (last : File) (n : ℕ) → IsSpan (log_paths queue directories) d.names n rest q.files.last → last.reserved ≡ false → last.seq ≡ q.files.last
      → d.names (path_of (log_paths queue directories) last) ≡ Some last.handle.file → (k : ℕ) → k ≡ length done → (segments : List (List Batch)) (endings : List FileEnding)
      → HoldEach (HoldsFile mode queue (done ++ (rest ++ last ∷ [])) d) k segments endings → length endings ≡ length rest + 1 → AreUnaligned endings
  rest_plain done [] last n span listed number named k at segments [] holds long = tt
  rest_plain done [] last n span listed number named k at segments (e ∷ f ∷ es) holds long = (let many : suc (suc (length es)) ≡ 1 = long in absurd (omega (arith, many)))
  rest_plain done [] last n span listed number named k at [] (e ∷ []) holds long = absurd holds
  rest_plain done [] last n span listed number named k at (bs ∷ more) (e ∷ []) (one, others) long =
      let h : HoldsFile mode queue (done ++ last ∷ []) d (length done) bs e = subst (λ (i : ℕ). HoldsFile mode queue (done ++ last ∷ []) d i bs e) at one in
      let same : h.file ≡ last = h.reads.is last ∙ index_of done [] last last in
      let there : ReadsBytes true (id_of queue last) (bytes_in (d.files last.handle.file)) h.read =
      subst (λ (x : File). ReadsBytes true (id_of queue x) (bytes_in (d.files x.handle.file)) h.read) same
      (subst (λ (b : Bool). ReadsBytes b (id_of queue h.file) (bytes_in (d.files h.file.handle.file)) h.read) (at_end done last) h.reads.reads.reads) in
      (ap (λ (k : LogFileFormat). k.alignment) h.ends.format ∙ last_is_plain last listed number named h.read there, tt)
  rest_plain done (f ∷ rest) last n span listed number named k at segments [] holds long = tt
  rest_plain done (f ∷ rest) last n span listed number named k at [] (e ∷ es) holds long = absurd holds
  rest_plain done (f ∷ rest) last n (seq, not_reserved, path, more_span) listed number named k at (bs ∷ more) (e ∷ es) (one, others) long =
      let all = span_end (log_paths queue directories) d.names n q.files.last (f ∷ rest) (seq, not_reserved, path, more_span) in
      let h : HoldsFile mode queue (done ++ f ∷ (rest ++ last ∷ [])) d (length done) bs e = subst (λ (i : ℕ). HoldsFile mode queue (done ++ f ∷ (rest ++ last ∷ [])) d i bs e) at one in
      let same : h.file ≡ f = h.reads.is f ∙ index_of done (rest ++ last ∷ []) f f in
      let before : is_at_end (done ++ f ∷ (rest ++ last ∷ [])) (length done) ≡ false = behind rest in
      let there : ReadsBytes false (id_of queue f) (bytes_in (d.files f.handle.file)) h.read =
      subst (λ (x : File). ReadsBytes false (id_of queue x) (bytes_in (d.files x.handle.file)) h.read) same
      (subst (λ (b : Bool). ReadsBytes b (id_of queue h.file) (bytes_in (d.files h.file.handle.file)) h.read) before h.reads.reads.reads) in
      let moved : (done ++ f ∷ []) ++ (rest ++ last ∷ []) ≡ done ++ f ∷ (rest ++ last ∷ []) = append_assoc done (f ∷ []) (rest ++ last ∷ []) in
      let next = length-append done (f ∷ []) in (
        ap (λ (k : LogFileFormat). k.alignment) h.ends.format ∙ past_is_plain f not_reserved path (omega (arith, seq, all)) h.read there,
        rest_plain (done ++ f ∷ []) rest last (suc n) more_span listed number named (suc k) (omega (arith, next, at)) more es
            (subst (λ (l : List File). HoldEach (HoldsFile mode queue l d) (suc k) more es) (sym moved) others) (omega (arith, long)),
      )
    where
      behind : (rest : List File) → is_at_end (done ++ f ∷ (rest ++ last ∷ [])) (length done) ≡ false
      behind [] = not_at_end done [] f last
      behind (g ∷ rest) = not_at_end done (rest ++ last ∷ []) f g

-- what workers read of a queue at rest has no alignment
pub queue_plain : (queue : LogQueue) (directories : List (List ℕ)) → 0 < length directories → (config : RecoveryConfig) → config.queue ≡ queue → (d : Disk) (q : Spanned LogRecord) (files : List File) (endings : List FileEnding) (context : MemTableRecoverContext)
    → HasReadFiles reads config files d context endings → AreQueueFiles (log_layout queue directories) q d files → AreUnaligned endings
queue_plain queue directories some config is d q files endings context read all = elim (endings_by config files d context endings read) [
  | inl long ↦ by_files all long
  | inr none ↦ subst AreUnaligned (sym none) tt
]
  where
    held : HoldEach (HoldsFile config.mode queue files d) 0 read.batches endings
    held = subst (λ (w : LogQueue). HoldEach (HoldsFile config.mode w files d) 0 read.batches endings) is read.held

    by_files : AreQueueFiles (log_layout queue directories) q d files → length endings ≡ length files → AreUnaligned endings
    by_files (some_made earlier last are all) long =
        let both = length-append earlier (last ∷ []) in
        let listed = all.listed in
        rest_plain queue directories some config.mode d q all.stops [] earlier last _ listed.span listed.listed listed.number_is listed.named 0 refl read.batches endings
        (subst (λ (l : List File). HoldEach (HoldsFile config.mode queue l d) 0 read.batches endings) are held) (omega (arith, long, ap length are, both))
    by_files (none_made are unbegun) long = subst AreUnaligned (sym (no_length endings (long ∙ ap length are))) tt
