-- What recovery reads of the files of a queue that rests on a disk are the batches of the queue.
use Rattle.std.proofs.Common.{◌≡◌, ℕ, suc, ◌+◌, ◌-◌, ◌<◌, ◌≤◌, ◌==◌, Bool, true, false, Option, Some, None, List, [], ◌∷◌, ◌++◌, length, inl, inr, refl, sym, ap, subst, ◌∙◌, append_assoc, append-nil, arith}
use Rattle.std.specs.Prelude.{slice_index_or}
use Rattle.std.proofs.lemmas.List.{length-append}
use Rattle.std.proofs.lemmas.Bool.Decides.{nat_tests}
use Rattle.raft_log_record_base.specs.declared.pipe_log.FileId.{FileId}
use Rattle.raft_log_record_base.specs.declared.pipe_log.LogQueue.{LogQueue}
use Rattle.raft_log_record_base.specs.declared.pipe_log.Version.TheVariants.{V1, V2}
use Rattle.raft_log_record_items.specs.declared.item.LogItem.{LogItem}
use Rattle.raft_log_fs.specs.Disk.{Disk, File as DiskFile}
use Rattle.raft_log_file_writer.specs.LawsChains.{Written, Reads}
use Rattle.raft_log_file_writer.specs.LogFormat.{Format, HasHeader}
use Rattle.raft_log_file_writer.specs.LogQueue.{LogFiles, Past, recent}
use Rattle.raft_log_file_writer.proofs.Public.{reads_unique}
use Rattle.raft_log_file_format.specs.Header.{header_bytes, magic, IsFileHeader}
use Rattle.raft_log_file_format.specs.declared.header.LogFileFormat.{LogFileFormat}
use Rattle.raft_log_file_format.proofs.Public.{header_length}
use Rattle.raft_log_file_settings.specs.declared.recovery_mode.RecoveryMode.{RecoveryMode}
use Rattle.raft_log_active_file.specs.Layout.{path_of}
use Rattle.raft_log_active_file.specs.declared.format.File.{File}
use Rattle.raft_log_engine_laws.specs.raft_log_active_file.specs.QueueFiles.{log_format, log_paths}
use Rattle.raft_log_engine_laws.specs.raft_log_active_file.specs.QueueFilesLaws.{is_layout}
use Rattle.raft_log_engine_laws.specs.raft_log_active_file.specs.declared.record.LogRecord.{LogRecord}
use Rattle.raft_log_file_pipe.specs.Files.{IsSpan}
use Rattle.raft_log_file_pipe.specs.Opening.{first_number}
use Rattle.raft_log_file_pipe.proofs.Public.{path_numbered, span_end}
use Rattle.raft_log_file_reader.specs.Source.{bytes_in}
use Rattle.raft_log_recovery_read.specs.Reading.{FileReading, ReadsBytes}
use Rattle.raft_log_recovery_read.specs.Reading.ReadsBytes.{headless, headed, torn}
use Rattle.raft_log_replay.specs.Machines.{Batch}
use Rattle.raft_log_replay.specs.Segments.{all_batches}
use Rattle.raft_log_replay.specs.Sources.{HoldEach}
use Rattle.raft_log_recovery_read.specs.Batches.{said}
use Rattle.raft_log_recovery_read.specs.Segments.{id_of, is_at_end, HoldsFile, ReadsAt}
use Rattle.raft_log_recovery_read.specs.declared.file_ending.FileEnding.{FileEnding}
use Rattle.raft_log_recovery_laws.specs.FileReading.{context_in, ReadsTo}
use Rattle.raft_log_recovery_laws.specs.Records.{AreBatchesOf}
use Rattle.raft_log_recovery_laws.proofs.LastFiles.{last_file_is_read}
use Rattle.raft_log_recovery_laws.proofs.PastFiles.{finished_file_is_read}
use Rattle.raft_log_dual_pipes.specs.State.{IsStopped, Spanned}
use Rattle.raft_log_dual_pipes.specs.Own.{log_layout}
use Rattle.raft_log_engine_laws.specs.raft_log_block_cache.specs.Stored.{Each}
use Rattle.raft_log_recovery_laws.specs.Reading.{batches_in, AreOfFile, AreOfFiles, AreOfQueue}
use Rattle.raft_log_recovery_laws.specs.Found.{AreListed, QueueGoesOnWith, NoFilesAreTheQueue, ReadFilesAreTheQueue, ReadsQueue, TellsLast}

-- Places in a list.

index_of : {A : Type 0} (done rest : List A) (x d : A) → slice_index_or (done ++ x ∷ rest) (length done) d ≡ x
index_of [] rest x d = refl
index_of (y ∷ done) rest x d = index_of done rest x d

left_behind : {A : Type 0} (done rest : List A) → length (done ++ rest) - length done ≡ length rest
left_behind done rest = (let all = length-append done rest in omega (arith, all))

not_one : (n : ℕ) → 2 ≤ n → (n == 1) ≡ false
not_one n many = grind (arith, nat_tests)

-- one file more is behind this one
not_at_end : (done rest : List File) (f g : File) → is_at_end (done ++ f ∷ (g ∷ rest)) (length done) ≡ false
not_at_end done rest f g = ap (λ (n : ℕ). n == 1) (left_behind done (f ∷ (g ∷ rest))) ∙ not_one (length (f ∷ (g ∷ rest))) (omega arith)

at_end : (done : List File) (f : File) → is_at_end (done ++ f ∷ []) (length done) ≡ true
at_end done f = ap (λ (n : ℕ). n == 1) (left_behind done (f ∷ []))

-- the batches of a file are of its items
said_in : (id : FileId) (bs : List (List LogItem)) → said id bs ≡ batches_in id.seq bs
said_in id [] = refl
said_in id (b ∷ bs) = ap (λ (l : List Batch). record { file = id.seq; items = b } ∷ l) (said_in id bs)

-- Headers of one format are as long.
magic_long : length magic ≡ 53
unfolding magic
magic_long = refl

header_long : (header : List ℕ) (format : LogFileFormat) → IsFileHeader header format → length header ≡ length (header_bytes format)
header_long header format (x, front, back, is_magic, (V1, f, b, version, payload, split), joined) =
    let written = header_length V1 0 61 (λ same. refl) (λ same. (let never : ⊥ = cc in absurd never)) in
    let long : length header ≡ 61 =
    omega (arith, ap length joined, length-append front back, ap length is_magic, magic_long, ap length split, length-append f b, version.spelled.size, ap length payload.0) in
    long ∙ sym written ∙ ap (λ (k : LogFileFormat). length (header_bytes k)) (sym payload.1)
header_long header format (x, front, back, is_magic, (V2, f, b, version, payload, split), joined) =
    let written = header_length V2 payload.0 69 (λ same. (let never : ⊥ = cc in absurd never)) (λ same. refl) in
    let long : length header ≡ 69 =
    omega (arith, ap length joined, length-append front back, ap length is_magic, magic_long, ap length split, length-append f b, version.spelled.size, payload.1.size) in
    long ∙ sym written ∙ ap (λ (k : LogFileFormat). length (header_bytes k)) (sym payload.2)

-- The records that a file was told to begin with are as they stand behind another header as long.
moved_to : (queue : LogQueue) (n : ℕ) (header other : List ℕ) (ws : List (Written LogRecord)) (batches : List Batch) → length header ≡ length other → AreOfFile queue n header ws batches → AreOfFile queue n other ws batches
moved_to queue n header other ws batches same are = record {
  format = are.format;
  items = are.items;
  is = are.is;
  are = subst (λ (k : ℕ). AreBatchesOf (context_in (record { queue = queue; seq = n }) are.format) k are.items ws) same are.are;
}

module _ (queue : LogQueue) (directories : List (List ℕ)) (some : 0 < length directories) (mode : RecoveryMode) (d : Disk) (q : LogFiles LogRecord) (left : IsStopped (log_layout queue directories) q d) where
  abbrev F : Format LogRecord
  F = log_format queue directories

  -- a file that is named as one of the queue
  path_at : (f : File) → f.reserved ≡ false → f.seq < F.limit → F.IsPath f.seq (path_of (log_paths queue directories) f)
  path_at f listed bound = subst (F.IsPath f.seq) (sym (path_numbered (log_paths queue directories) f listed)) ((is_layout queue directories some).numbered f.path_id f.seq bound)

  name_there : (path : List ℕ) (id : ℕ) → d.names path ≡ Some id → left.N path ≡ Some id
  name_there path id named = ap (λ (names : List ℕ → Option ℕ). names path) (sym left.stands.names) ∙ named

  -- a finished one
  past_read : (f : File) → f.reserved ≡ false → d.names (path_of (log_paths queue directories) f) ≡ Some f.handle.file → f.seq < q.last → (read : FileReading)
      → ReadsBytes false (id_of queue f) (bytes_in (d.files f.handle.file)) read → read.format.alignment ≡ 0
      → AreOfFile queue f.seq (q.older f.seq).header (q.older f.seq).records (said (id_of queue f) read.batches)
  past_read f listed named below read reads aligned =
      let bound = left.stands.bound in
      let path = path_of (log_paths queue directories) f in
      let past = left.stands.older f.seq f.handle.file path below (path_at f listed (omega (arith, below, bound))) (name_there path f.handle.file named) in
      let whole = finished_file_is_read directories (id_of queue f) (q.older f.seq) past.file read past.has
      (subst (λ (o : Option DiskFile). ReadsBytes false (id_of queue f) (bytes_in o) read) past.is reads) aligned in
      record { format = read.format; items = read.batches; is = said_in (id_of queue f) read.batches; are = whole.batches }

  -- the last one
  module _ (f : File) (listed : f.reserved ≡ false) (number : f.seq ≡ q.last) (named : d.names (path_of (log_paths queue directories) f) ≡ Some f.handle.file) (read : FileReading)
      (reads : ReadsBytes true (id_of queue f) (bytes_in (d.files f.handle.file)) read) (aligned : read.format.alignment ≡ 0) where
    abbrev path : List ℕ
    path = path_of (log_paths queue directories) f

    is_last : f.handle.file ≡ left.id
    is_last =
        let bound = left.stands.bound in
        left.stands.alone path f.handle.file (subst (λ (n : ℕ). F.IsPath n path) number (path_at f listed (omega (arith, number, bound)))) (name_there path f.handle.file named)

    abbrev content : List ℕ
    content = left.stands.file.has.bytes

    bytes_are : bytes_in (d.files f.handle.file) ≡ content
    bytes_are = ap bytes_in (ap d.files is_last ∙ left.stands.file.is) ∙ ap (λ (x : DiskFile). x.content) left.stands.file.has.is

    reads_there : ReadsBytes true (id_of queue f) content read
    reads_there = subst (λ (l : List ℕ). ReadsBytes true (id_of queue f) l read) bytes_are reads

    at_rest_there : ReadsBytes true (id_of queue f) left.stands.file.file.content read
    at_rest_there = subst (λ (l : List ℕ). ReadsBytes true (id_of queue f) l read) (sym (ap (λ (x : DiskFile). x.content) left.stands.file.has.is)) reads_there

    told : ReadsTo directories (id_of queue f) content read read.end
    told =
        subst (λ (l : List ℕ). ReadsTo directories (id_of queue f) l read read.end) (ap (λ (x : DiskFile). x.content) left.stands.file.has.is)
        (last_file_is_read directories (id_of queue f) left.stands.file.file read at_rest_there aligned).0

    -- the header that it begins with is as long as that of its format
    format_long : (header : List ℕ) (end : ℕ) → read.end ≡ Some end → HasHeader F header content → length header ≡ length (header_bytes read.format)
    format_long header end is has = by_read reads_there
      where
        by_read : ReadsBytes true (id_of queue f) content read → length header ≡ length (header_bytes read.format)
        by_read (headless fault bad tells none no_end first) = (let clash : None ≡ Some end = sym no_end ∙ is in let never : ⊥ = cc in absurd never)
        by_read (torn log_file start stop fault same begins behind bad tells no_end first) = (let clash : None ≡ Some end = sym no_end ∙ is in let never : ⊥ = cc in absurd never)
        by_read (headed log_file start stop fault same begins behind whole tells is_end format) =
            let one : header ≡ begins.header = (is_layout queue directories some).format.headers header begins.header has.rest begins.rest has.is (log_file.format, begins.says, ap (λ (f : LogFileFormat). f.alignment) (sym format) ∙ aligned) (sym has.splits ∙ begins.splits) in
            ap length one ∙ header_long begins.header log_file.format begins.says ∙ ap (λ (k : LogFileFormat). length (header_bytes k)) (sym format)

    by_end : (end : Option ℕ) → read.end ≡ end → ReadsTo directories (id_of queue f) content read end → (header : List ℕ) → ((end : ℕ) → read.end ≡ Some end → header ≡ header_bytes read.format)
        → AreOfFile queue f.seq header (recent q) (said (id_of queue f) read.batches)
    by_end None is (none, nothing) header known = elim left.stands.file.has.reads [
      | inl (no_records, no_header) ↦ record {
        format = read.format;
        items = [];
        is = ap (said (id_of queue f)) nothing;
        are = subst (λ (ws : List (Written LogRecord)). AreBatchesOf (context_in (id_of queue f) read.format) (length header) [] ws) (sym no_records) tt;
      }
      | inr (other, has, records) ↦ absurd (none other has)
    ]
    by_end (Some end) is to front known = elim left.stands.file.has.reads [
      | inl (no_records, no_header) ↦ absurd (no_header to.header to.begins)
      | inr (header, has, records) ↦
          (let one : header ≡ to.header = (is_layout queue directories some).format.headers header to.header has.rest to.begins.rest has.is to.begins.is (sym has.splits ∙ to.begins.splits) in
          let frames = (is_layout queue directories some).format.free f.seq to.header in
          let there = subst (λ (n : ℕ). Reads (F.IsFrame n header) (length header) (recent q) content) (sym number) records in
          let here = subst (λ (h : List ℕ). Reads (F.IsFrame f.seq h) (length h) (recent q) content) one there in
          let same : to.records ≡ recent q = reads_unique (F.IsFrame f.seq to.header) frames (length to.header) (recent q) to.records content here to.reads in
          moved_to queue f.seq to.header front (recent q) (said (id_of queue f) read.batches) (format_long to.header end is to.begins ∙ ap length (sym (known end is))) (record {
            format = read.format;
            items = read.batches;
            is = said_in (id_of queue f) read.batches;
            are = subst (λ (ws : List (Written LogRecord)). AreBatchesOf (context_in (id_of queue f) read.format) (length to.header) read.batches ws) same to.batches;
          }))
    ]

    pub last_read : (header : List ℕ) → ((end : ℕ) → read.end ≡ Some end → header ≡ header_bytes read.format) → AreOfFile queue f.seq header (recent q) (said (id_of queue f) read.batches)
    last_read header known = by_end read.end refl told header known

  -- a file in its place
  file_is : (done rest : List File) (f file : File) (read : FileReading) → ReadsAt mode queue (done ++ f ∷ rest) d (length done) file read → file ≡ f
  file_is done rest f file read at = at.is f ∙ index_of done rest f f

  -- What was read of the files from one place on.
  record AreRest (n count : ℕ) (segments : List (List Batch)) (endings : List FileEnding) : Type 0 where
    pub finished : List Batch
    pub active : List Batch
    pub splits : all_batches segments ≡ finished ++ active
    pub of_finished : AreOfFiles queue q.older n count finished
    pub front : List FileEnding
    pub ending : FileEnding
    pub ends : endings ≡ front ++ ending ∷ []
    pub of_last : (header : List ℕ) → ((end : ℕ) → ending.end ≡ Some end → header ≡ header_bytes ending.format) → AreOfFile queue q.last header (recent q) active

  rest_read : (done rest : List File) (last : File) (n : ℕ) → IsSpan (log_paths queue directories) d.names n rest q.last → last.reserved ≡ false → last.seq ≡ q.last
      → d.names (path_of (log_paths queue directories) last) ≡ Some last.handle.file → (k : ℕ) → k ≡ length done → (segments : List (List Batch)) (endings : List FileEnding)
      → HoldEach (HoldsFile mode queue (done ++ (rest ++ last ∷ [])) d) k segments endings → length segments ≡ length rest + 1 → Each (λ (e : FileEnding). e.format.alignment ≡ 0) endings
      → AreRest n (length rest) segments endings
  rest_read done [] last n span listed number named k at [] [] holds long aligned = (let none : 0 ≡ 1 = long in absurd (omega (arith, none)))
  rest_read done [] last n span listed number named k at [] (e ∷ es) holds long aligned = absurd holds
  rest_read done [] last n span listed number named k at (bs ∷ more) [] holds long aligned = absurd holds
  rest_read done [] last n span listed number named k at (bs ∷ b ∷ more) (e ∷ es) holds long aligned = (let many : suc (suc (length more)) ≡ 1 = long in absurd (omega (arith, many)))
  rest_read done [] last n span listed number named k at (bs ∷ []) (e ∷ f ∷ es) (one, others) long aligned = absurd others
  rest_read done [] last n span listed number named k at (bs ∷ []) (e ∷ []) (one, others) long (aligned, no_more) =
      let h : HoldsFile mode queue (done ++ last ∷ []) d (length done) bs e = subst (λ (i : ℕ). HoldsFile mode queue (done ++ last ∷ []) d i bs e) at one in
      let same = file_is done [] last h.file h.read h.reads in
      let reads : ReadsBytes true (id_of queue last) (bytes_in (d.files last.handle.file)) h.read =
      subst (λ (x : File). ReadsBytes true (id_of queue x) (bytes_in (d.files x.handle.file)) h.read) same
      (subst (λ (b : Bool). ReadsBytes b (id_of queue h.file) (bytes_in (d.files h.file.handle.file)) h.read) (at_end done last) h.reads.reads.reads) in
      let unaligned : h.read.format.alignment ≡ 0 = ap (λ (k : LogFileFormat). k.alignment) (sym h.ends.format) ∙ aligned in
      let there = last_read last listed number named h.read reads unaligned in
      let known : (header : List ℕ) → ((end : ℕ) → e.end ≡ Some end → header ≡ header_bytes e.format) → (end : ℕ) → h.read.end ≡ Some end → header ≡ header_bytes h.read.format =
      λ header given end is. given end (h.ends.end ∙ is) ∙ ap header_bytes h.ends.format in
      record {
        finished = [];
        active = bs;
        splits = append-nil bs;
        of_finished = refl;
        front = [];
        ending = e;
        ends = refl;
        of_last = λ header given.
            subst (λ (l : List Batch). AreOfFile queue q.last header (recent q) l) (ap (λ (x : File). said (id_of queue x) h.read.batches) (sym same) ∙ sym h.holds)
            (subst (λ (i : ℕ). AreOfFile queue i header (recent q) (said (id_of queue last) h.read.batches)) number (there header (known header given)));
      }
  rest_read done (f ∷ rest) last n span listed number named k at [] [] holds long aligned = (let none : 0 ≡ length (f ∷ rest) + 1 = long in absurd (omega (arith, none)))
  rest_read done (f ∷ rest) last n span listed number named k at [] (e ∷ es) holds long aligned = absurd holds
  rest_read done (f ∷ rest) last n span listed number named k at (bs ∷ more) [] holds long aligned = absurd holds
  rest_read done (f ∷ rest) last n (seq, not_reserved, path, more_span) listed number named k at (bs ∷ more) (e ∷ es) (one, others) long (aligned, more_aligned) =
      let all = span_end (log_paths queue directories) d.names n q.last (f ∷ rest) (seq, not_reserved, path, more_span) in
      let h : HoldsFile mode queue (done ++ f ∷ (rest ++ last ∷ [])) d (length done) bs e = subst (λ (i : ℕ). HoldsFile mode queue (done ++ f ∷ (rest ++ last ∷ [])) d i bs e) at one in
      let same = file_is done (rest ++ last ∷ []) f h.file h.read h.reads in
      let before : is_at_end (done ++ f ∷ (rest ++ last ∷ [])) (length done) ≡ false = behind rest in
      let reads : ReadsBytes false (id_of queue f) (bytes_in (d.files f.handle.file)) h.read =
      subst (λ (x : File). ReadsBytes false (id_of queue x) (bytes_in (d.files x.handle.file)) h.read) same
      (subst (λ (b : Bool). ReadsBytes b (id_of queue h.file) (bytes_in (d.files h.file.handle.file)) h.read) before h.reads.reads.reads) in
      let unaligned : h.read.format.alignment ≡ 0 = ap (λ (k : LogFileFormat). k.alignment) (sym h.ends.format) ∙ aligned in
      let there = past_read f not_reserved path (omega (arith, seq, all)) h.read reads unaligned in
      let moved : (done ++ f ∷ []) ++ (rest ++ last ∷ []) ≡ done ++ f ∷ (rest ++ last ∷ []) = append_assoc done (f ∷ []) (rest ++ last ∷ []) in
      let next = length-append done (f ∷ []) in
      let later = rest_read (done ++ f ∷ []) rest last (suc n) more_span listed number named (suc k) (omega (arith, next, at)) more es
      (subst (λ (l : List File). HoldEach (HoldsFile mode queue l d) (suc k) more es) (sym moved) others) (omega (arith, long)) more_aligned in
      record {
        finished = bs ++ later.finished;
        active = later.active;
        splits = ap (λ (l : List Batch). bs ++ l) later.splits ∙ sym (append_assoc bs later.finished later.active);
        of_finished = (
          bs,
          later.finished,
          refl,
          subst (λ (l : List Batch). AreOfFile queue n (q.older n).header (q.older n).records l) (ap (λ (x : File). said (id_of queue x) h.read.batches) (sym same) ∙ sym h.holds)
              (subst (λ (i : ℕ). AreOfFile queue i (q.older i).header (q.older i).records (said (id_of queue f) h.read.batches)) seq there),
          later.of_finished,
        );
        front = e ∷ later.front;
        ending = later.ending;
        ends = ap (λ (l : List FileEnding). e ∷ l) later.ends;
        of_last = later.of_last;
      }
    where
      behind : (rest : List File) → is_at_end (done ++ f ∷ (rest ++ last ∷ [])) (length done) ≡ false
      behind [] = not_at_end done [] f last
      behind (g ∷ rest) = not_at_end done (rest ++ last ∷ []) f g

  -- What was read of all of them.
  pub queue_read : (earlier : List File) (last : File) → AreListed (log_layout queue directories) earlier last q.last d → (batches : List Batch) (endings : List FileEnding)
      → ReadsQueue mode queue (earlier ++ last ∷ []) d batches endings → (format : LogFileFormat) → TellsLast endings format → (now : Spanned LogRecord) → QueueGoesOnWith (first_number earlier last) format q now
      → AreOfQueue queue now batches
  queue_read earlier last listed batches endings read format tells now on =
      let span = listed.span in
      let all = span_end (log_paths queue directories) d.names (first_number earlier last) q.last earlier span in
      let long = length-append earlier (last ∷ []) in
      let every = read.all in
      let rest = rest_read [] earlier last (first_number earlier last) span listed.listed listed.number_is listed.named 0 refl read.segments endings read.held (omega (arith, every, long)) read.unaligned in
      let header_is : (end : ℕ) → rest.ending.end ≡ Some end → now.files.header ≡ header_bytes rest.ending.format =
      λ end is. on.header ∙ ap header_bytes (sym (tells rest.front rest.ending rest.ends end is)) in
      let begins = on.begins in
      let last_is = on.last in
      record {
        finished = rest.finished;
        last = rest.active;
        splits = read.is ∙ rest.splits;
        count = length earlier;
        reaches = omega (arith, all, begins, last_is);
        of_finished = subst (λ (n : ℕ). AreOfFiles queue now.files.older n (length earlier) rest.finished) (sym on.begins)
            (subst (λ (older : ℕ → Past LogRecord). AreOfFiles queue older (first_number earlier last) (length earlier) rest.finished) (sym on.older) rest.of_finished);
        of_last =
            subst (λ (n : ℕ). AreOfFile queue n now.files.header (recent now.files) rest.active) (sym on.last)
            (subst (λ (ws : List (Written LogRecord)). AreOfFile queue q.last now.files.header ws rest.active) (sym on.records)
            (rest.of_last now.files.header header_is));
      }

pub read_files_are_the_queue : ReadFilesAreTheQueue
read_files_are_the_queue queue directories some mode d was left earlier last listed batches endings read format tells now on =
    queue_read queue directories some mode d was left earlier last listed batches endings read format tells now on

pub no_files_are_the_queue : NoFilesAreTheQueue
no_files_are_the_queue queue mode d batches endings read now only none = record {
  finished = [];
  last = [];
  splits = read.is ∙ no_segments read.segments read.all;
  count = 0;
  reaches = omega (arith, only);
  of_finished = refl;
  of_last = record {
    format = record { version = V1; alignment = 0 };
    items = [];
    is = refl;
    are = subst (λ (ws : List (Written LogRecord)). AreBatchesOf (context_in (record { queue = queue; seq = now.files.last }) (record { version = V1; alignment = 0 })) (length now.files.header) [] ws) (sym none) tt;
  };
}
  where
    no_segments : (segments : List (List Batch)) → length segments ≡ 0 → all_batches segments ≡ []
    no_segments [] long = refl
    no_segments (bs ∷ more) long = absurd (omega (arith, long))
