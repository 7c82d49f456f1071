-- What a scan answers and a recovery reads is what a pipe may be opened over.
use Rattle.std.proofs.Common.{◌≡◌, ℕ, List, [], ◌∷◌, Option, Some, None, true, refl, subst}
use Rattle.raft_log_record_base.specs.declared.pipe_log.FileId.{FileId}
use Rattle.raft_log_fs.specs.Disk.{Disk, File}
use Rattle.raft_log_file_format.specs.declared.header.LogFileFormat.{LogFileFormat}
use Rattle.raft_log_engine_laws.specs.raft_log_active_file.specs.QueueFiles.{log_format, log_paths}
use Rattle.raft_log_file_pipe.specs.Files.{Listed, AllKept, IsSpan}
use Rattle.raft_log_file_pipe.specs.Opening.{HasOwnHeader, first_number}
use Rattle.raft_log_file_reader.specs.Source.{bytes_in}
use Rattle.raft_log_recovery_read.specs.Reading.{FileReading, ReadsBytes}
use Rattle.raft_log_recovery_laws.specs.Scanned.{ReadFilesAreScanned, with_format}
use Rattle.raft_log_recovery_laws.proofs.Headers.{header_is_written}
use Rattle.raft_log_recovery_laws.proofs.LastFiles.{last_file_is_read}

-- a format changes no number
same_first : (earlier : List Listed) (last : Listed) (format : LogFileFormat) → first_number earlier last ≡ first_number earlier (with_format format last)
same_first [] last format = refl
same_first (f ∷ fs) last format = refl

-- a file that isn't missing is there
there : (o : Option File) → (o ≡ None → ⊥) → (file : File) × (o ≡ Some file)
there None not = absurd (not refl)
there (Some file) not = (file, refl)

-- the header of a file is its format's
own_header : (directories : List (List ℕ)) (id : FileId) (last : Listed) (d : Disk) (read : FileReading) (file : File) (end : Option ℕ) → d.files last.handle.file ≡ Some file → read.end ≡ end
    → ReadsBytes true id file.content read → read.format.alignment ≡ 0 → HasOwnHeader (log_format id.queue directories) end (with_format read.format last) d
own_header directories id last d read file None is ends reads aligned = tt
own_header directories id last d read file (Some end) is ends reads aligned =
    record { file = file; is = is; has = header_is_written directories true id file.content read end reads aligned ends }

pub read_files_are_scanned : ReadFilesAreScanned
read_files_are_scanned queue directories d earlier last read kept sound spanned reads aligned spares =
    let id : FileId = record { queue = queue; seq = last.seq } in
    let found = there (d.files last.handle.file) (sound.named _ last.handle.file spanned.opened.is) in
    let file : File = found.0 in
    let held : ReadsBytes true id file.content read = subst (λ (o : Option File). ReadsBytes true id (bytes_in o) read) found.1 reads in
    let first = same_first earlier last read.format in
    let told = last_file_is_read directories id file read held aligned in
    record {
      number_is = refl;
      listed = spanned.listed;
      opened = spanned.opened;
      read = record { file = file; is = found.1; has = told.1 };
      headed = own_header directories id last d read file read.end found.1 refl held aligned;
      span = subst (λ (n : ℕ). IsSpan (log_paths queue directories) d.names n earlier last.seq) first spanned.span;
      spares = subst (λ (n : ℕ). AllKept (log_format queue directories) (log_paths queue directories) n d kept) first spares;
    }
