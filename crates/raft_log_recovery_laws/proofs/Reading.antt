-- What is told of the files of a queue at rest once they were read.
use Rattle.std.proofs.Common.{◌≡◌, ℕ, suc, ◌+◌, ◌-◌, ◌<◌, ◌≤◌, ◌==◌, Bool, true, false, Option, Some, None, List, [], ◌∷◌, ◌++◌, length, refl, sym, ap, subst, ◌∙◌, append_assoc, arith}
use Rattle.std.specs.Prelude.{is_some, slice_index_or}
use Rattle.std.proofs.lemmas.List.{length-append}
use Rattle.std.proofs.lemmas.Bool.Decides.{nat_tests}
use Rattle.raft_log_record_base.specs.declared.pipe_log.LogQueue.{LogQueue}
use Rattle.raft_log_fs.specs.Disk.{Disk, File as DiskFile}
use Rattle.raft_log_file_writer.specs.LogFormat.{Format, HasHeader}
use Rattle.raft_log_file_format.specs.Header.{header_bytes}
use Rattle.raft_log_file_format.specs.declared.header.LogFileFormat.{LogFileFormat}
use Rattle.raft_log_file_settings.specs.declared.recovery_mode.RecoveryMode.{RecoveryMode}
use Rattle.raft_log_active_file.specs.Reopening.{IsReadTo}
use Rattle.raft_log_active_file.specs.Layout.{path_of}
use Rattle.raft_log_active_file.specs.declared.format.File.{File}
use Rattle.raft_log_engine_laws.specs.raft_log_active_file.specs.QueueFiles.{log_format, log_paths}
use Rattle.raft_log_engine_laws.specs.raft_log_active_file.specs.QueueFilesLaws.{is_layout}
use Rattle.raft_log_engine_laws.specs.raft_log_active_file.specs.declared.record.LogRecord.{LogRecord}
use Rattle.raft_log_file_pipe.specs.Files.{IsSpan}
use Rattle.raft_log_file_pipe.proofs.Public.{path_numbered, span_end}
use Rattle.raft_log_file_reader.specs.Source.{bytes_in}
use Rattle.raft_log_recovery_read.specs.Reading.{FileReading, ReadsBytes}
use Rattle.raft_log_replay.specs.Machines.{Batch}
use Rattle.raft_log_replay.specs.Sources.{HoldEach}
use Rattle.raft_log_recovery_read.specs.Segments.{id_of, is_at_end, HoldsFile}
use Rattle.raft_log_recovery_read.specs.declared.file_ending.FileEnding.{FileEnding}
use Rattle.raft_log_recovery_laws.proofs.Headers.{header_is_written}
use Rattle.raft_log_recovery_laws.proofs.LastFiles.{last_file_is_read}
use Rattle.raft_log_recovery_laws.proofs.PastFiles.{finished_file_is_read}
use Rattle.raft_log_dual_pipes.specs.State.{IsStopped, Spanned}
use Rattle.raft_log_dual_pipes.specs.Own.{log_layout}
use Rattle.raft_log_recovery.specs.Unaligned.{AreUnaligned}
use Rattle.raft_log_engine_laws.specs.raft_log_block_cache.specs.Stored.{Each}
use Rattle.raft_log_recovery_laws.specs.Files.{AreAll, ReadsAsTold}

-- Places in a list.

pub index_of : {A : Type 0} (done rest : List A) (x d : A) → slice_index_or (done ++ x ∷ rest) (length done) d ≡ x
index_of [] rest x d = refl
index_of (y ∷ done) rest x d = index_of done rest x d

left_behind : {A : Type 0} (done rest : List A) → length (done ++ rest) - length done ≡ length rest
left_behind done rest = (let all = length-append done rest in omega (arith, all))

not_one : (n : ℕ) → 2 ≤ n → (n == 1) ≡ false
not_one n many = grind (arith, nat_tests)

pub not_at_end : (done rest : List File) (f g : File) → is_at_end (done ++ f ∷ (g ∷ rest)) (length done) ≡ false
not_at_end done rest f g = ap (λ (n : ℕ). n == 1) (left_behind done (f ∷ (g ∷ rest))) ∙ not_one (length (f ∷ (g ∷ rest))) (omega arith)

pub at_end : (done : List File) (f : File) → is_at_end (done ++ f ∷ []) (length done) ≡ true
at_end done f = ap (λ (n : ℕ). n == 1) (left_behind done (f ∷ []))

-- What is told of the last file, and that the others aren't damaged.
pub record IsToldOf (queue : LogQueue) (directories : List (List ℕ)) (q : Spanned LogRecord) (d : Disk) (count : ℕ) (last : File) (endings : List FileEnding) : Type 0 where
  pub front : List FileEnding
  pub ending : FileEnding
  pub ends : endings ≡ front ++ ending ∷ []
  pub long : length front ≡ count
  pub sound : Each (λ (e : FileEnding). e.is_damaged ≡ false) front
  pub told : ReadsAsTold (log_layout queue directories) q d last ending

module _ (queue : LogQueue) (directories : List (List ℕ)) (some : 0 < length directories) (mode : RecoveryMode) (d : Disk) (q : Spanned LogRecord) (left : IsStopped (log_layout queue directories) q.files d) where
  abbrev F : Format LogRecord
  F = log_format queue directories

  pub path_at : (f : File) → f.reserved ≡ false → f.seq < F.limit → F.IsPath f.seq (path_of (log_paths queue directories) f)
  path_at f listed bound = subst (F.IsPath f.seq) (sym (path_numbered (log_paths queue directories) f listed)) ((is_layout queue directories some).numbered f.path_id f.seq bound)

  pub name_there : (path : List ℕ) (id : ℕ) → d.names path ≡ Some id → left.N path ≡ Some id
  name_there path id named = ap (λ (names : List ℕ → Option ℕ). names path) (sym left.stands.names) ∙ named

  -- the last file is the one that is listed so
  pub last_is : (f : File) → f.reserved ≡ false → f.seq ≡ q.files.last → d.names (path_of (log_paths queue directories) f) ≡ Some f.handle.file → f.handle.file ≡ left.id
  last_is f listed number named =
      let bound = left.stands.bound in
      let path = path_of (log_paths queue directories) f in
      left.stands.alone path f.handle.file (subst (λ (n : ℕ). F.IsPath n path) number (path_at f listed (omega (arith, number, bound)))) (name_there path f.handle.file named)

  past_sound : (f : File) → f.reserved ≡ false → d.names (path_of (log_paths queue directories) f) ≡ Some f.handle.file → f.seq < q.files.last → (read : FileReading)
      → ReadsBytes false (id_of queue f) (bytes_in (d.files f.handle.file)) read → read.format.alignment ≡ 0 → read.fault ≡ None
  past_sound f listed named below read reads aligned =
      let bound = left.stands.bound in
      let path = path_of (log_paths queue directories) f in
      let past = left.stands.older f.seq f.handle.file path below (path_at f listed (omega (arith, below, bound))) (name_there path f.handle.file named) in
      (finished_file_is_read directories (id_of queue f) (q.files.older f.seq) past.file read past.has (subst (λ (o : Option DiskFile). ReadsBytes false (id_of queue f) (bytes_in o) read) past.is reads) aligned).sound

  last_told : (f : File) → f.reserved ≡ false → f.seq ≡ q.files.last → d.names (path_of (log_paths queue directories) f) ≡ Some f.handle.file → (read : FileReading)
      → ReadsBytes true (id_of queue f) (bytes_in (d.files f.handle.file)) read → read.format.alignment ≡ 0 → (e : FileEnding) → e.end ≡ read.end → e.format ≡ read.format → ReadsAsTold (log_layout queue directories) q d f e
  last_told f listed number named read reads aligned e end_is format_is =
      let is : d.files f.handle.file ≡ Some left.stands.file.file = ap d.files (last_is f listed number named) ∙ left.stands.file.is in
      let file = left.stands.file.file in
      let there : ReadsBytes true (id_of queue f) file.content read = subst (λ (o : Option DiskFile). ReadsBytes true (id_of queue f) (bytes_in o) read) is reads in
      let to : IsReadTo F f.seq read.end file = (last_file_is_read directories (id_of queue f) file read there aligned).1 in
      record {
        read = record { file = file; is = is; has = subst (λ (n : ℕ). IsReadTo F n e.end file) number (subst (λ (o : Option ℕ). IsReadTo F f.seq o file) (sym end_is) to) };
        headed = λ end at. record {
          file = file;
          is = is;
          has = subst (λ (k : LogFileFormat). HasHeader F (header_bytes k) file.content) (sym format_is) (header_is_written directories true (id_of queue f) file.content read end there aligned (sym end_is ∙ at));
        };
      }

  rest_told : (done rest : List File) (last : File) (n : ℕ) → IsSpan (log_paths queue directories) d.names n rest q.files.last → last.reserved ≡ false → last.seq ≡ q.files.last
      → d.names (path_of (log_paths queue directories) last) ≡ Some last.handle.file → (k : ℕ) → k ≡ length done → (segments : List (List Batch)) (endings : List FileEnding)
      → HoldEach (HoldsFile mode queue (done ++ (rest ++ last ∷ [])) d) k segments endings → length endings ≡ length rest + 1 → AreUnaligned endings
      → IsToldOf queue directories q d (length rest) last endings
  rest_told done [] last n span listed number named k at segments [] holds long aligned = (let none : 0 ≡ 1 = long in absurd (omega (arith, none)))
  rest_told done [] last n span listed number named k at segments (e ∷ f ∷ es) holds long aligned = (let many : suc (suc (length es)) ≡ 1 = long in absurd (omega (arith, many)))
  rest_told done [] last n span listed number named k at [] (e ∷ []) holds long aligned = absurd holds
  rest_told done [] last n span listed number named k at (bs ∷ more) (e ∷ []) (one, others) long (aligned, no_more) =
      let h : HoldsFile mode queue (done ++ last ∷ []) d (length done) bs e = subst (λ (i : ℕ). HoldsFile mode queue (done ++ last ∷ []) d i bs e) at one in
      let same : h.file ≡ last = h.reads.is last ∙ index_of done [] last last in
      let reads : ReadsBytes true (id_of queue last) (bytes_in (d.files last.handle.file)) h.read =
      subst (λ (x : File). ReadsBytes true (id_of queue x) (bytes_in (d.files x.handle.file)) h.read) same
      (subst (λ (b : Bool). ReadsBytes b (id_of queue h.file) (bytes_in (d.files h.file.handle.file)) h.read) (at_end done last) h.reads.reads.reads) in
      let unaligned : h.read.format.alignment ≡ 0 = ap (λ (k : LogFileFormat). k.alignment) (sym h.ends.format) ∙ aligned in
      record { front = []; ending = e; ends = refl; long = refl; sound = tt; told = last_told last listed number named h.read reads unaligned e h.ends.end h.ends.format }
  rest_told done (f ∷ rest) last n span listed number named k at segments [] holds long aligned = (let none : 0 ≡ length (f ∷ rest) + 1 = long in absurd (omega (arith, none)))
  rest_told done (f ∷ rest) last n span listed number named k at [] (e ∷ es) holds long aligned = absurd holds
  rest_told done (f ∷ rest) last n (seq, not_reserved, path, more_span) listed number named k at (bs ∷ more) (e ∷ es) (one, others) long (aligned, more_aligned) =
      let all = span_end (log_paths queue directories) d.names n q.files.last (f ∷ rest) (seq, not_reserved, path, more_span) in
      let h : HoldsFile mode queue (done ++ f ∷ (rest ++ last ∷ [])) d (length done) bs e = subst (λ (i : ℕ). HoldsFile mode queue (done ++ f ∷ (rest ++ last ∷ [])) d i bs e) at one in
      let same : h.file ≡ f = h.reads.is f ∙ index_of done (rest ++ last ∷ []) f f in
      let before : is_at_end (done ++ f ∷ (rest ++ last ∷ [])) (length done) ≡ false = behind rest in
      let reads : ReadsBytes false (id_of queue f) (bytes_in (d.files f.handle.file)) h.read =
      subst (λ (x : File). ReadsBytes false (id_of queue x) (bytes_in (d.files x.handle.file)) h.read) same
      (subst (λ (b : Bool). ReadsBytes b (id_of queue h.file) (bytes_in (d.files h.file.handle.file)) h.read) before h.reads.reads.reads) in
      let unaligned : h.read.format.alignment ≡ 0 = ap (λ (k : LogFileFormat). k.alignment) (sym h.ends.format) ∙ aligned in
      let no_fault = past_sound f not_reserved path (omega (arith, seq, all)) h.read reads unaligned in
      let moved : (done ++ f ∷ []) ++ (rest ++ last ∷ []) ≡ done ++ f ∷ (rest ++ last ∷ []) = append_assoc done (f ∷ []) (rest ++ last ∷ []) in
      let next = length-append done (f ∷ []) in
      let later = rest_told (done ++ f ∷ []) rest last (suc n) more_span listed number named (suc k) (omega (arith, next, at)) more es
      (subst (λ (l : List File). HoldEach (HoldsFile mode queue l d) (suc k) more es) (sym moved) others) (omega (arith, long)) more_aligned in
      record {
        front = e ∷ later.front;
        ending = later.ending;
        ends = ap (λ (l : List FileEnding). e ∷ l) later.ends;
        long = ap suc later.long;
        sound = (h.ends.damaged ∙ ap is_some no_fault, later.sound);
        told = later.told;
      }
    where
      behind : (rest : List File) → is_at_end (done ++ f ∷ (rest ++ last ∷ [])) (length done) ≡ false
      behind [] = not_at_end done [] f last
      behind (g ∷ rest) = not_at_end done (rest ++ last ∷ []) f g

-- What is told of all files of a queue at rest.
pub files_are_told : (queue : LogQueue) (directories : List (List ℕ)) → 0 < length directories → (mode : RecoveryMode) (d : Disk) (q : Spanned LogRecord) (earlier : List File) (last : File)
    → AreAll (log_layout queue directories) q d earlier last → (segments : List (List Batch)) (endings : List FileEnding) → HoldEach (HoldsFile mode queue (earlier ++ last ∷ []) d) 0 segments endings
    → length endings ≡ length (earlier ++ last ∷ []) → AreUnaligned endings → IsToldOf queue directories q d (length earlier) last endings
files_are_told queue directories some mode d q earlier last all segments endings held long unaligned =
    let both = length-append earlier (last ∷ []) in
    rest_told queue directories some mode d q all.stops [] earlier last _ all.listed.span all.listed.listed all.listed.number_is all.listed.named 0 refl segments endings held (omega (arith, long, both)) unaligned
