-- A file reads without its padding as it did with it.
use Rattle.std.proofs.Common.{◌≡◌, ℕ, Bool, ◌+◌, ◌≤◌, Option, Some, None, is_some, List, [], ◌++◌, length, drop, refl, sym, ap, subst, ◌∙◌, arith}
use Rattle.std.specs.List.{AllZip}
use Rattle.std.proofs.lemmas.List.{length-append, drop_at}
use Rattle.raft_log_record_base.specs.Fault.{Fault}
use Rattle.raft_log_record_base.specs.Files.{version_number}
use Rattle.raft_log_record_base.specs.Number.{IsU64, u64_bytes}
use Rattle.raft_log_record_base.specs.declared.errors.Error.{Error}
use Rattle.raft_log_record_base.specs.declared.pipe_log.FileId.{FileId}
use Rattle.raft_log_record_base.specs.declared.pipe_log.Version.{Version}
use Rattle.raft_log_record_base.specs.declared.pipe_log.Version.TheVariants.{V1, V2}
use Rattle.raft_log_record_base.proofs.Public.{ok_is}
use Rattle.raft_log_record_items.specs.declared.item.LogItem.{LogItem}
use Rattle.raft_log_file_format.specs.Header.{header_at, header_bytes}
use Rattle.raft_log_file_format.specs.declared.header.LogFileFormat.{LogFileFormat}
use Rattle.raft_log_file_format.proofs.Public.{is_header, written_header}
use Rattle.raft_log_active_file.specs.Layout.{IsUnaligned}
use Rattle.raft_log_fs.specs.Disk.{File}
use Rattle.raft_log_file_reader.specs.Source.{bytes_in}
use Rattle.raft_log_file_reader.specs.Opening.{SaysFormat}
use Rattle.raft_log_file_reader.specs.declared.open_file.OpenFile.{OpenFile}
use Rattle.raft_log_recovery_read.specs.Faults.{TellsIfAny}
use Rattle.raft_log_recovery_read.specs.Records.{ReadsBehind}
use Rattle.raft_log_recovery_read.specs.Reading.{FileReading, ReadsBytes}
use Rattle.raft_log_recovery_read.specs.Reading.ReadsBytes.{headless, headed, torn}
use Rattle.raft_log_recovery_read.proofs.Public.{one_behind, same_behind}
use Rattle.raft_log_open.specs.Content.{IsPadded, IsWithoutPadding, joined, plain_format}
use Rattle.raft_log_open.specs.Laws.{AreMoved, FilesReadTheSame, ReadsMoved, RecordsReadTheSame, WrittenFilesReadTheSame}
use Rattle.raft_log_open.specs.PaddingReading.{content_of}
use Rattle.raft_log_open.specs.Unpadding.{listed_as}
use Rattle.raft_log_open.proofs.Joining.{header_found}
use Rattle.raft_log_open.proofs.Moving.{IsUnpaddedOf, all_stand, behind_next, inside_next}
use Rattle.raft_log_open.proofs.Rereading.{Follows, reread, stays_broken, stays_ended}

-- The header.

spelled_one : (v : Version) → IsU64 (u64_bytes (version_number v)) (version_number v)
unfolding u64_bytes
spelled_one V1 = record { size = refl; value = refl }
spelled_one V2 = record { size = refl; value = refl }

spelled_none : IsU64 (u64_bytes 0) 0
unfolding u64_bytes
spelled_none = record { size = refl; value = refl }

-- the new bytes begin with a header without an alignment
plain_header : (id : FileId) (content new : List ℕ) (w : IsWithoutPadding id content new) → SaysFormat new (plain_format w.file.format) (length (header_bytes (plain_format w.file.format)))
plain_header id content new w = record {
  header = header_bytes (plain_format w.file.format);
  rest = w.bytes;
  says = written_header (plain_format w.file.format) (spelled_one w.file.format.version) (λ two. spelled_none) (λ one. refl);
  written = refl;
  splits = w.made;
  ends = refl;
}

-- bytes begin with one header
one_header : (content : List ℕ) (a b : LogFileFormat) (m n : ℕ) → SaysFormat content a m → SaysFormat content b n → (a ≡ b) × (m ≡ n)
one_header content a b m n x y =
    let one = ap header_at x.splits ∙ is_header.again x.header x.rest a x.says in
    let two = ap header_at y.splits ∙ is_header.again y.header y.rest b y.says in
    let same : (a, x.rest) ≡ (b, y.rest) = ok_is {E = Fault} (a, x.rest) (b, y.rest) (sym one ∙ two) in
    let behind : x.rest ≡ y.rest = ap (λ (p : LogFileFormat × List ℕ). p.1) same in
    let first = ap length x.splits ∙ length-append x.header x.rest in
    let second = ap length y.splits ∙ length-append y.header y.rest in
    (ap (λ (p : LogFileFormat × List ℕ). p.0) same, omega (arith, first, second, ap length behind, x.ends, y.ends))

-- what stands behind it
behind_header : (id : FileId) (content new : List ℕ) (w : IsWithoutPadding id content new) → drop (length (header_bytes (plain_format w.file.format))) new ≡ joined w.are.records ++ w.are.rest
behind_header id content new w =
    let header = header_bytes (plain_format w.file.format) in
    ap (drop (length header)) w.made ∙ drop_at header w.bytes (length header) refl ∙ w.are.both

inside_header : (id : FileId) (content new : List ℕ) (w : IsWithoutPadding id content new) → length (header_bytes (plain_format w.file.format)) ≤ length new
inside_header id content new w = omega (arith, ap length w.made, length-append (header_bytes (plain_format w.file.format)) w.bytes)

-- The records.

pub records_read_the_same_is : RecordsReadTheSame
records_read_the_same_is id content new w =
    let start = length (header_bytes (plain_format w.file.format)) in
    let end = start + length (joined w.are.records) in
    let file : OpenFile = record w.file { format = plain_format w.file.format } in
    let is : IsUnpaddedOf w.file file = record { id = refl; format = refl } in
    let behind = behind_header id content new w in
    let last : drop end new ≡ w.are.rest = behind_next new (joined w.are.records) w.are.rest start behind in
    let inside : end ≤ length new = inside_next new (joined w.are.records) w.are.rest start behind (inside_header id content new w) in
    let follows : Follows w.file content new w.are.end end = record { records = []; end = w.are.end; are = refl; rest = w.are.rest; left = w.are.left; behind = last; inside = inside } in
    record {
      file = file;
      is = w.is;
      plain = refl;
      start = start;
      says = plain_header id content new w;
      end = end;
      records = all_stand w.file file content new w.are.rest w.start w.are.end start w.are.records is w.are.are behind;
      ends = λ none. stays_ended w.file file content new w.are.end end is none follows;
      breaks = λ fault broken. stays_broken w.file file content new w.are.end end fault is broken follows;
    }

-- What an open reads.

told_if : (e : Option Error) (f : Option Fault) → TellsIfAny e f → is_some e ≡ is_some f
told_if None f none = ap is_some (sym none)
told_if (Some e) f (fault, is, tells) = ap is_some (sym is)

-- behind a header the bytes read as the same, whichever handle reads them
behind_as : (last : Bool) (file other : OpenFile) (content : List ℕ) (start from end : ℕ) (batches : List (List LogItem)) (e : Option Fault) → file.id ≡ other.id → SaysFormat content file.format start
    → SaysFormat content other.format from → ReadsBehind last other content from batches end e → ReadsBehind last file content start batches end e
behind_as last file other content start from end batches e same says front behind =
    let one = one_header content file.format other.format start from says front in
    same_behind last file other content start end batches e same one.0 (subst (λ (k : ℕ). ReadsBehind last other content k batches end e) (sym one.1) behind)

-- no reading of a file with padding is one without an alignment
stays_padded : (last : Bool) (id : FileId) (content : List ℕ) (old : FileReading) → IsPadded last id content → ReadsBytes last id content old → IsUnaligned old.format → ⊥
stays_padded last id content old (read, headless f bad told none end format, aligned) reads free = aligned (ap (λ (l : LogFileFormat). l.alignment) format)
stays_padded last id content old (read, torn file start end f is says behind bad told gone format, aligned) reads free = aligned (ap (λ (l : LogFileFormat). l.alignment) format)
stays_padded last id content old (read, headed file start end f is says behind whole told here format, aligned) (headless g bad told_too none gone first) free = header_found content file.format start g says bad
stays_padded last id content old (read, headed file start end f is says behind whole told here format, aligned) (headed other from after g also front behind_too sound told_too ends plain) free =
    let one = one_header content file.format other.format start from says front in
    aligned (ap (λ (l : LogFileFormat). l.alignment) (format ∙ one.0 ∙ sym plain) ∙ free)
stays_padded last id content old (read, headed file start end f is says behind whole told here format, aligned) (torn other from after g also front behind_too bad told_too gone first) free =
    let there = behind_as last file other content start from after old.batches g (is ∙ sym also) says front behind_too in
    let one = one_behind last file content start end after read.batches old.batches f g behind there in
    whole (bad.0, λ unaligned. aligned (ap (λ (l : LogFileFormat). l.alignment) format ∙ unaligned), one.0 ∙ bad.2)

-- the records of the file stand behind the header of the new bytes
follows_header : (id : FileId) (content new : List ℕ) (w : IsWithoutPadding id content new) (there : ℕ) → SaysFormat new (plain_format w.file.format) there → Follows w.file content new w.start there
follows_header id content new w there plain =
    let here = one_header new (plain_format w.file.format) (plain_format w.file.format) there (length (header_bytes (plain_format w.file.format))) plain (plain_header id content new w) in record {
      records = w.are.records;
      end = w.are.end;
      are = w.are.are;
      rest = w.are.rest;
      left = w.are.left;
      behind = ap (λ (n : ℕ). drop n new) here.1 ∙ behind_header id content new w;
      inside = omega (arith, here.1, inside_header id content new w);
    }

-- both readings of a file that has a header
read_twice : (last : Bool) (id : FileId) (content new : List ℕ) (old read : FileReading) (w : IsWithoutPadding id content new) (file other : OpenFile) (start there end after : ℕ) (e f : Option Fault)
    → file.id ≡ id → SaysFormat content file.format start → ReadsBehind last file content start old.batches end e → TellsIfAny old.fault e → old.format ≡ file.format
    → other.id ≡ id → SaysFormat new other.format there → ReadsBehind last other new there read.batches after f → TellsIfAny read.fault f → read.end ≡ Some after → read.format ≡ other.format
    → ReadsMoved content new old read
read_twice last id content new old read w file other start there end after e f is says behind told format also says_too behind_too told_too ends other_format =
    let formats = one_header new other.format (plain_format w.file.format) there (length (header_bytes (plain_format w.file.format))) says_too (plain_header id content new w) in
    let first = one_header content file.format w.file.format start w.start says w.says in
    let own = behind_as last w.file file content w.start start end old.batches e (w.is ∙ sym is) w.says says behind in
    let follows = follows_header id content new w there (subst (λ (g : LogFileFormat). SaysFormat new g there) formats.0 says_too) in
    let r = reread last w.file other content new w.start there end old.batches e (record { id = also ∙ sym w.is; format = formats.0 }) own follows in
    let one = one_behind last other new there r.after after r.others read.batches r.told f r.reads behind_too in record {
      plain = other_format ∙ formats.0 ∙ ap plain_format (sym first.0) ∙ ap plain_format (sym format);
      batches = subst (λ (l : List (List LogItem)). AllZip (AreMoved content new) old.batches l) one.0 r.moved;
      header = (after, ends);
      damage = told_if read.fault f told_too ∙ sym one.2 ∙ r.alike ∙ sym (told_if old.fault e told);
    }

read_again : (last : Bool) (id : FileId) (content new : List ℕ) (old read : FileReading) → (IsUnaligned old.format → ⊥) → IsWithoutPadding id content new → ReadsBytes last id content old
    → ReadsBytes last id new read → ReadsMoved content new old read
read_again last id content new old read aligned w (headless f bad told none end format) again = absurd (aligned (ap (λ (l : LogFileFormat). l.alignment) format))
read_again last id content new old read aligned w (torn file start end f is says behind bad told gone format) again = absurd (aligned (ap (λ (l : LogFileFormat). l.alignment) format))
read_again last id content new old read aligned w (headed file start end f is says behind whole told here format) (headless g bad told_too none gone plain) =
    absurd (header_found new (plain_format w.file.format) (length (header_bytes (plain_format w.file.format))) g (plain_header id content new w) bad)
read_again last id content new old read aligned w (headed file start end f is says behind whole told here format) (torn other there after g also says_too behind_too bad told_too gone plain) =
    let one = one_header new other.format (plain_format w.file.format) there (length (header_bytes (plain_format w.file.format))) says_too (plain_header id content new w) in
    absurd (bad.1 (ap (λ (l : LogFileFormat). l.alignment) one.0))
read_again last id content new old read aligned w (headed file start end f is says behind whole told here format) (headed other there after g also says_too behind_too sound told_too ends plain) =
    read_twice last id content new old read w file other start there end after f g is says behind told format also says_too behind_too told_too ends plain

pub files_read_the_same_is : FilesReadTheSame
files_read_the_same_is last id content new old read padded w reads again = read_again last id content new old read (stays_padded last id content old padded reads) w reads again

-- On the disk.

pub written_files_read_the_same_is : WrittenFilesReadTheSame
written_files_read_the_same_is file d new handle old read writes named before after =
    let anew = writes.replaces.anew in
    let both : Some anew.id ≡ Some handle.file = sym anew.named ∙ named in
    let one : anew.id ≡ handle.file = cc in
    let bytes : bytes_in (new.files handle.file) ≡ writes.bytes =
    ap (λ (n : ℕ). bytes_in (new.files n)) (sym one) ∙ ap bytes_in anew.file.is ∙ ap (λ (f : File). f.content) anew.file.has in
    files_read_the_same_is file.is_last file.id (content_of (listed_as file writes.handle) d) writes.bytes old read writes.needs.padded writes.needs.without before
    (subst (λ (l : List ℕ). ReadsBytes file.is_last file.id l read) bytes after)
