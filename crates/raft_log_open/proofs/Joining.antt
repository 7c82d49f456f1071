-- Records of a file one behind the other.
use Rattle.std.proofs.Common.{◌≡◌, ℕ, zero, suc, ◌+◌, ◌-◌, ◌≤◌, not, nat_eq, false, inl, List, [], ◌∷◌, ◌++◌, length, take, drop, Err, refl, sym, ap, ap₂, subst, ◌∙◌, append_assoc, arith}
use Rattle.std.proofs.lemmas.List.{append-nil, length-append}
use Rattle.std.proofs.lemmas.Bool.{ne_eqb}
use Rattle.std.proofs.Math.Seq.{take-append-add}
use Rattle.std.specs.Prelude.{Bool, MatchBool, Option, Some, slice_get}
use Rattle.std.specs.List.{last_or}
use Rattle.std.specs.declared.io.ErrorKind.{ErrorKind}
use Rattle.raft_log_record_base.specs.Fault.{Fault}
use Rattle.raft_log_record_base.specs.declared.errors.Error.{Error}
use Rattle.raft_log_record_base.specs.declared.errors.Error.TheVariants as errors
use Rattle.raft_log_record_base.specs.declared.pipe_log.FileId.{FileId}
use Rattle.raft_log_record_base.specs.declared.pipe_log.FileBlockHandle.{FileBlockHandle}
use Rattle.raft_log_record_base.specs.declared.pipe_log.Version.{Version}
use Rattle.raft_log_record_base.specs.declared.pipe_log.Version.TheVariants.{V1, V2}
use Rattle.raft_log_record_items.specs.declared.item.LogItem.{LogItem}
use Rattle.raft_log_fs.specs.Disk.{Disk}
use Rattle.raft_log_fs.specs.Reading.{IsUnread}
use Rattle.raft_log_fs.specs.declared.handle.Handle.{Handle}
use Rattle.raft_log_file_format.specs.Header.{magic, header_at, IsFileHeader, IsPayload}
use Rattle.raft_log_file_format.specs.declared.header.LogFileFormat.{LogFileFormat}
use Rattle.raft_log_file_format.proofs.Public.{is_header}
use Rattle.raft_log_file_reader.specs.Source.{bytes_in}
use Rattle.raft_log_file_reader.specs.Opening.{FailsToOpen, SaysFormat}
use Rattle.raft_log_file_reader.specs.Batches.{HasBatch, HasBlock, HasNoMore}
use Rattle.raft_log_file_reader.specs.declared.open_file.OpenFile.{OpenFile}
use Rattle.raft_log_file_reader.proofs.Public.{one_place}
use Rattle.raft_log_recovery_read.specs.Reading.{FailsToRead, FileReading, ReadsBytes}
use Rattle.raft_log_recovery_read.specs.Reading.ReadsBytes.{headless, headed, torn}
use Rattle.raft_log_recovery_read.proofs.Public.{file_unread, header_damaged, header_unread}
use Rattle.raft_log_open.specs.Content.{HasAllBytes, HasBytes, IsPadded, IsUnpadded, joined, plain_format}
use Rattle.raft_log_open.specs.PaddingReading.{Joins}

-- a record behind others makes one more
pub bytes_go_on : (file : OpenFile) (content : List ℕ) (offset m n : ℕ) (xs : List (List ℕ)) (bytes : List ℕ) → HasAllBytes file content offset xs m → HasBytes file content m bytes n
    → HasAllBytes file content offset (xs ++ bytes ∷ []) n
bytes_go_on file content offset m n [] bytes a b = (n, subst (λ (k : ℕ). HasBytes file content k bytes n) a b, refl)
bytes_go_on file content offset m n (x ∷ xs) bytes a b = (a.0, a.1, bytes_go_on file content a.0 m n xs bytes a.2 b)

pub joined-more : (xs : List (List ℕ)) (bytes : List ℕ) → joined (xs ++ bytes ∷ []) ≡ joined xs ++ bytes
joined-more [] bytes = append-nil bytes
joined-more (x ∷ xs) bytes = ap (λ (l : List ℕ). x ++ l) (joined-more xs bytes) ∙ sym (append_assoc x (joined xs) bytes)

-- the record that was read begins in front of its block
pub begins_there : (file : OpenFile) (content : List ℕ) (offset end : ℕ) (items : List LogItem) (block : FileBlockHandle) → (batch : HasBatch file content offset items end) → HasBlock file content offset block
    → block.offset ≡ batch.at + 16
begins_there file content offset end items block batch has =
    let at = one_place file.format.alignment content offset batch.at has.at batch.goes_on has.goes_on in
    let place = ap (λ (b : FileBlockHandle). b.offset) has.lies.place in
    omega (arith, at, place)

-- the bytes between two places of a record are its own
pub record_bytes : (file : OpenFile) (content : List ℕ) (offset start end : ℕ) (items : List LogItem) → (batch : HasBatch file content offset items end) → start ≡ batch.at
    → HasBytes file content offset (take (end - start) (drop start content)) end
record_bytes file content offset start end items batch begins =
    let len : end - start ≡ batch.len = omega (arith, batch.ends, begins) in
    record {
      items = items;
      batch = batch;
      are = ap (λ (n : ℕ). take n (drop start content)) len ∙ ap (λ (n : ℕ). take batch.len (drop n content)) begins;
    }

-- Headers.

magic_length : length magic ≡ 53
unfolding magic
magic_length = refl

payload_short : (v : Version) (bytes : List ℕ) (format : LogFileFormat) → IsPayload v bytes format → length bytes ≤ 8
payload_short V1 bytes format h = omega (arith, ap length h.0)
payload_short V2 bytes format h = omega (arith, h.1.size)

-- a header has no more than 69 bytes
header_short : (header : List ℕ) (format : LogFileFormat) → IsFileHeader header format → length header ≤ 69
header_short header format (u, front, back, is_magic, (v, number, payload, is_version, is_payload, second), first) =
    let one : length header ≡ length front + length back = ap length first ∙ length-append front back in
    let two : length back ≡ length number + length payload = ap length second ∙ length-append number payload in
    let size : length front ≡ 53 = ap length is_magic ∙ magic_length in
    omega (arith, one, two, size, is_version.spelled.size, payload_short v payload format is_payload)

-- where bytes begin with a header, their first 69 do
pub header_found : (content : List ℕ) (format : LogFileFormat) (start : ℕ) (fault : Fault) → SaysFormat content format start → header_at (take 69 content) ≡ Err fault → ⊥
header_found content format start fault h e =
    let short = header_short h.header format h.says in
    let size : 69 ≡ length h.header + (69 - length h.header) = omega (arith, short) in
    let front : take 69 content ≡ h.header ++ take (69 - length h.header) h.rest =
    ap (λ (l : List ℕ). take 69 l) h.splits ∙ ap (λ (n : ℕ). take n (h.header ++ h.rest)) size ∙ take-append-add h.header h.rest (69 - length h.header) in
    let found = is_header.again h.header (take (69 - length h.header) h.rest) format h.says in
    let both = sym e ∙ ap header_at front ∙ found in
    absurd cc

-- a file that reads as one with an alignment has a header
padded_headed : (last : Bool) (id : FileId) (content : List ℕ) (fault : Fault) → IsPadded last id content → header_at (take 69 content) ≡ Err fault → ⊥
padded_headed last id content fault (read, headless f bad told none end format, aligned) e = aligned (ap (λ (l : LogFileFormat). l.alignment) format)
padded_headed last id content fault (read, torn file start end f is says behind bad told gone format, aligned) e = aligned (ap (λ (l : LogFileFormat). l.alignment) format)
padded_headed last id content fault (read, headed file start end f is says behind whole told here format, aligned) e = header_found content file.format start fault says e

-- so no fault of its header is told
pub unopened : (last : Bool) (id : FileId) (handle : Handle) (d : Disk) (error : Error) → IsPadded last id (bytes_in (d.files handle.file)) → FailsToOpen handle d error → FailsToRead handle d error
unopened last id handle d error padded fails = header_unread handle d error fails
    (λ damaged. let (f, told, bad) = header_damaged handle d error fails damaged in padded_headed last id (bytes_in (d.files handle.file)) f padded bad)

-- Which files have an alignment.

by_number : (P Q : Type 0) (n : ℕ) → ((n ≡ 0 → ⊥) → P) → (n ≡ 0 → Q) → MatchBool (not (nat_eq n 0)) P Q
by_number P Q zero some none = none refl
by_number P Q (suc n) some none =
    let other : nat_eq (suc n) 0 ≡ false = ne_eqb (suc n) 0 (λ e. omega (arith, e)) in
    subst (λ (b : Bool). MatchBool (not b) P Q) (sym other) (some (λ is. omega (arith, is)))

pub judged : (last : Bool) (id : FileId) (content : List ℕ) (read : FileReading) (format : LogFileFormat) → format ≡ read.format → ReadsBytes last id content read
    → MatchBool (not (nat_eq format.alignment 0)) (IsPadded last id content) (IsUnpadded last id content)
judged last id content read format same reads =
    let here = ap (λ (f : LogFileFormat). f.alignment) same in
    by_number (IsPadded last id content) (IsUnpadded last id content) format.alignment (λ some. (read, reads, λ none. some (here ∙ none))) (λ none. (read, reads, sym here ∙ none))

-- a read of a file's bytes was refused
pub unread_whole : (handle : Handle) (d : Disk) (count : ℕ) (kind : ErrorKind) → count ≤ length (bytes_in (d.files handle.file)) → IsUnread handle 0 count d kind → FailsToRead handle d (errors.Io kind)
unread_whole handle d count kind inside unread =
    file_unread (record { handle = handle; size = length (bytes_in (d.files handle.file)) }) handle d (errors.Io kind) refl refl
    (record { at = 0; count = count; behind = omega arith; inside = omega (arith, inside); unread = unread })

-- Lists.

pub last_is : {X : Type 0} (o : Option X) (xs : List X) (x : X) → slice_get xs (length xs - 1) ≡ Some x → last_or o xs ≡ Some x
last_is o [] x is = absurd (cc)
last_is o (y ∷ []) x is = is
last_is o (y ∷ z ∷ xs) x is =
    let place : length (y ∷ z ∷ xs) - 1 ≡ suc (length (z ∷ xs) - 1) = omega arith in
    last_is (Some y) (z ∷ xs) x (subst (λ (k : ℕ). slice_get (y ∷ z ∷ xs) k ≡ Some x) place is)

-- What came behind what was there.

pub more_joined : (records : List (List ℕ)) (bytes old now new : List ℕ) → now ≡ old ++ joined records → new ≡ now ++ bytes → new ≡ old ++ joined (records ++ bytes ∷ [])
more_joined records bytes old now new is more =
    more ∙ ap (λ (l : List ℕ). l ++ bytes) is ∙ append_assoc old (joined records) bytes ∙ ap (λ (l : List ℕ). old ++ l) (sym (joined-more records bytes))

pub joins_all : (file : OpenFile) (content : List ℕ) (offset end : ℕ) (records : List (List ℕ)) (old now : List ℕ) → HasAllBytes file content offset records end → HasNoMore file content end
    → now ≡ old ++ joined records → Joins file content offset old now
joins_all file content offset end records old now are none is = record {
  bytes = joined records;
  are = record { records = records; end = end; are = are; rest = []; left = inl (none, refl); both = sym (append-nil (joined records)) };
  more = is;
}

-- a format without an alignment
pub plain_is : (format of : LogFileFormat) → format.version ≡ of.version → format.alignment ≡ 0 → format ≡ plain_format of
plain_is format of version none = ap₂ (λ (v : Version) (n : ℕ). record { version = v; alignment = n }) version none
