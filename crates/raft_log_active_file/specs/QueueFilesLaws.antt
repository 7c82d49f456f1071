-- Proofs that the format and the paths of a log's files (`log_format`, `log_paths`) satisfy `IsLayout` and the laws of
-- `LayoutLaws`.
use Rattle.std.specs.Prelude.{codes, min, Result, Ok, Err, Option, replicate}
use Rattle.std.proofs.Common.{◌≡◌, ◌⊎◌, ℕ, zero, suc, ◌+◌, ◌-◌, ◌^◌, ◌<◌, ◌≤◌, List, [], ◌∷◌, ◌++◌, length, get_or, take, drop, refl, sym, ◌∙◌, ap, subst, inl, inr, arith, length-append}
use Rattle.std.proofs.lemmas.List.{append-nil, take_at, drop_at, take-append-drop, take-append-le, drop-replicate, length-replicate}
use Rattle.raft_log_record_base.specs.Fault.{Fault}
use Rattle.raft_log_record_base.specs.Files.{signature}
use Rattle.raft_log_record_base.specs.Number.{u64_bytes}
use Rattle.raft_log_record_base.specs.declared.pipe_log.LogQueue.{LogQueue}
use Rattle.raft_log_record_base.specs.declared.pipe_log.LogQueue.TheVariants.{Append, Rewrite}
use Rattle.raft_log_record_base.specs.declared.pipe_log.Version.TheVariants.{V1, V2}
use Rattle.raft_log_record_base.proofs.Public.{prefix_free}
use Rattle.raft_log_fs.specs.Disk.{zeros}
use Rattle.raft_log_file_writer.specs.LawsChains.{IsSelfDelimiting, CanTell}
use Rattle.raft_log_file_writer.specs.LogFormat.{HasHeader, IsFormat}
use Rattle.raft_log_file_format.specs.Header.{magic, header_at, header_bytes, IsFileHeader}
use Rattle.raft_log_file_format.specs.Name.{EndsWith, suffix_of}
use Rattle.raft_log_file_format.specs.declared.header.LogFileFormat.{LogFileFormat}
use Rattle.raft_log_file_format.proofs.Public.{is_header}
use Rattle.raft_log_record_frames.specs.Record.{IsRecord}
use Rattle.raft_log_record_frames.proofs.Public.{frames_take_bytes, no_frame_in_zeros, one_record, record_is_told}
use Rattle.raft_log_active_file.specs.Layout.{IsLayout, IsUnaligned}
use Rattle.raft_log_active_file.specs.Paths.{IsPathWith, IsOwnPath, reserved_path, reserved_suffix_of}
use Rattle.raft_log_active_file.specs.QueueFiles.{IsRecordIn, IsAHeader, log_format, log_paths}
use Rattle.raft_log_active_file.specs.LayoutLaws.{LogFilesAreTold, QueuesAreApart, ZerosHoldNoRecord, ReservedNamesAreTheLogs, PlacesAreFresh}
use Rattle.raft_log_active_file.specs.declared.record.LogRecord.{LogRecord}
use Rattle.raft_log_active_file.specs.PathLaws.{one_name, one_number, numbered_is, numbered_lies, reserved_is, other_end}

-- dropping the first of two joined lists leaves the second
drop_front : (a b : List ℕ) → drop (length a) (a ++ b) ≡ b
drop_front a b = drop_at a b (length a) refl

-- if a prefix of two joined lists isn't longer than the first list, it is a prefix of that one
take_front : (k : ℕ) (a b : List ℕ) → k ≤ length a → take k (a ++ b) ≡ take k a
take_front k a b fits = take-append-le k a b fits

-- a prefix of zeros is zeros
take_zeros : (k n : ℕ) → k ≤ n → take k (zeros n) ≡ replicate k 0
take_zeros zero n fits = refl
take_zeros (suc k) zero fits = absurd (omega (arith, fits))
take_zeros (suc k) (suc n) fits = ap (λ (b : List ℕ). 0 ∷ b) (take_zeros k n (omega (arith, fits)))

-- Headers.

-- bytes begin with at most one header, which has one format
one_header : (a b x y : List ℕ) (f g : LogFileFormat) → IsFileHeader a f → IsFileHeader b g → a ++ x ≡ b ++ y
    → (a ≡ b) × (f ≡ g)
one_header = prefix_free is_header

-- the bytes that are written for version 2 without an alignment are its header
second_header : IsFileHeader (header_bytes (record { version = V2; alignment = 0 }))
    (record { version = V2; alignment = 0 })
unfolding header_bytes u64_bytes
second_header = (
  tt,
  magic,
  u64_bytes 2 ++ u64_bytes 0,
  refl,
  (
    V2,
    u64_bytes 2,
    u64_bytes 0,
    record { spelled = record { size = refl; value = refl } },
    (0, record { size = refl; value = refl }, refl),
    refl,
  ),
  refl,
)

-- the bytes that are written for version 1 are its header
first_header : IsFileHeader (header_bytes (record { version = V1; alignment = 0 }))
    (record { version = V1; alignment = 0 })
unfolding header_bytes u64_bytes
first_header = (
  tt,
  magic,
  u64_bytes 1 ++ [],
  refl,
  (V1, u64_bytes 1, [], record { spelled = record { size = refl; value = refl } }, (refl, refl), refl),
  refl,
)

-- the header that is written for a format without an alignment is a header
headed : (format : LogFileFormat) → IsUnaligned format → IsAHeader (header_bytes format)
headed format none = of_version format.version format.alignment none
  where
    of_version : (v : _) (alignment : ℕ) → alignment ≡ 0
        → IsAHeader (header_bytes (record { version = v; alignment = alignment }))
    of_version V1 alignment none =
        subst (λ (n : ℕ). IsAHeader (header_bytes (record { version = V1; alignment = n }))) (sym none)
        (record { version = V1; alignment = 0 }, first_header, refl)
    of_version V2 alignment none =
        subst (λ (n : ℕ). IsAHeader (header_bytes (record { version = V2; alignment = n }))) (sym none)
        (record { version = V2; alignment = 0 }, second_header, refl)

-- the header of some format, with any alignment
abbrev IsOfSomeFormat : List ℕ → Type 0
IsOfSomeFormat bytes = (format : LogFileFormat) × IsFileHeader bytes format

-- it is decidable whether bytes begin with a header
front_told : (bytes : List ℕ)
    → ((header rest : List ℕ) × (format : LogFileFormat) × IsFileHeader header format × (bytes ≡ header ++ rest))
    ⊎ ((header rest : List ℕ) (format : LogFileFormat) → IsFileHeader header format
    → bytes ≡ header ++ rest → ⊥)
front_told bytes = told (header_at bytes) refl
  where
    told : (r : Result (LogFileFormat × List ℕ) Fault) → header_at bytes ≡ r
        → ((header rest : List ℕ) × (format : LogFileFormat) × IsFileHeader header format
        × (bytes ≡ header ++ rest))
        ⊎ ((header rest : List ℕ) (format : LogFileFormat) → IsFileHeader header format
        → bytes ≡ header ++ rest → ⊥)
    told (Ok (format, rest)) read = (let (header, says, splits) = is_header.takes bytes (format, rest) read in
        inl (header, rest, format, says, splits))
    told (Err fault) read = inr (λ header rest format says splits.
        (let back = is_header.again header rest format says in
        let here : header_at (header ++ rest) ≡ Err fault = ap header_at (sym splits) ∙ read in
        cc (back, here)))

-- it is decidable whether bytes are a header
whole_told : (bytes : List ℕ) → IsOfSomeFormat bytes ⊎ (IsOfSomeFormat bytes → ⊥)
whole_told bytes = elim (front_told bytes) [
  | inr none ↦ inr (λ (format, says). none bytes [] format says (sym (append-nil bytes)))
  | inl (header, rest, format, says, splits) ↦ told header rest format says splits
]
  where
    told : (header rest : List ℕ) (format : LogFileFormat) → IsFileHeader header format → bytes ≡ header ++ rest
        → IsOfSomeFormat bytes ⊎ (IsOfSomeFormat bytes → ⊥)
    told header [] format says splits = inl (
      format,
      subst (λ (b : List ℕ). IsFileHeader b format)
          (sym (splits ∙ append-nil header)) says,
    )
    told header (b ∷ bs) format says splits = inr (λ (other, also).
        (let same = one_header bytes header [] (b ∷ bs) other format also says (append-nil bytes ∙ splits) in
        omega (arith, ap length splits, ap length same.0, length-append header (b ∷ bs))))

-- Records.

-- a record has at least 21 bytes: a frame's head, a count and a checksum
record_filled : (signature : Option ℕ) (bytes : List ℕ) (said : LogRecord)
    → IsRecord signature bytes said.items said.entries → 21 ≤ length bytes
record_filled signature bytes said is = (let long = frames_take_bytes signature bytes is.block said.items
    is.frame in omega (arith, long))

-- no encoding of a record is a prefix of another one
self_delimiting : (n : ℕ) (header : List ℕ) → IsSelfDelimiting (IsRecordIn n header)
self_delimiting n header = record {
  apart = λ a b x y r s first next same.
      (let one = one_record (signature first.format.version n) (signature next.format.version n) a b x y
      r.entries s.entries r.items s.items first.is next.is same in
      (one.0, λ i. record { items = one.1 i; entries = one.2 i }));
  filled = λ r is. (let long = record_filled (signature is.format.version n) [] r is.is in
      omega (arith, long));
}

-- the format in a file's header decides whether the file's records are signed
in_format : (n : ℕ) (header bytes : List ℕ) (format : LogFileFormat) (said : LogRecord)
    → IsFileHeader header format → IsRecordIn n header bytes said
    → IsRecord (signature format.version n) bytes said.items said.entries
in_format n header bytes format said says is =
    let same : is.format ≡ format = (one_header header header [] [] is.format format is.says says refl).1 in
    subst (λ (f : LogFileFormat). IsRecord (signature f.version n) bytes said.items said.entries) same is.is

-- it is decidable whether bytes begin with a record
records_told : (n : ℕ) (header : List ℕ) → CanTell (IsRecordIn n header)
records_told n header bytes = elim (whole_told header) [
  | inr none ↦ inr (λ w rest is splits. none (is.format, is.says))
  | inl (format, says) ↦ elim (record_is_told (signature format.version n) bytes) [
    | inl (front, fits, is) ↦ inl (
      record { bytes = take front.len bytes; value = record { items = front.items; entries = front.bytes } },
      drop front.len bytes,
      record { format = format; says = says; is = is },
      sym (take-append-drop front.len bytes),
    )
    | inr none ↦ inr (λ w rest is splits.
        (let cut : take (length w.bytes) bytes ≡ w.bytes = ap (λ (b : List ℕ). take (length w.bytes) b) splits
        ∙ take_at w.bytes rest (length w.bytes) refl in
        none (
          record { len = length w.bytes; items = w.value.items; bytes = w.value.entries },
          omega (arith, ap length splits, length-append w.bytes rest),
          subst (λ (b : List ℕ). IsRecord (signature format.version n) b w.value.items w.value.entries)
              (sym cut) (in_format n header w.bytes format w.value says is),
        )))
  ]
]

-- it is decidable whether a log's bytes begin with a header or a record
pub files_are_told : LogFilesAreTold
files_are_told queue directories = record {
  headers = λ bytes. elim (front_told bytes) [
    | inl (header, rest, format, says, splits) ↦
        by_alignment bytes header rest format says splits format.alignment refl
    | inr none ↦ inr (λ header has. none header has.rest has.is.0 has.is.1 has.splits)
  ];
  frames = records_told;
}
  where
    by_alignment : (bytes header rest : List ℕ) (format : LogFileFormat) → IsFileHeader header format
        → bytes ≡ header ++ rest → (n : ℕ) → format.alignment ≡ n
        → ((header : List ℕ) × HasHeader (log_format queue directories) header bytes)
        ⊎ ((header : List ℕ) → HasHeader (log_format queue directories) header bytes → ⊥)
    by_alignment bytes header rest format says splits zero none = inl (
      header,
      record { is = (format, says, none); rest = rest; splits = splits },
    )
    by_alignment bytes header rest format says splits (suc n) some = inr (λ other has.
        (let same = (one_header header other rest has.rest format has.is.0 says has.is.1
        (sym splits ∙ has.splits)).1 in
        let both = sym some ∙ ap (λ (f : LogFileFormat). f.alignment) same ∙ has.is.2 in
        omega (arith, both)))

-- Zeros.

-- zeros contain no record
pub zeros_hold_none : ZerosHoldNoRecord
zeros_hold_none n size header ahead inside behind said splits is =
    let long = record_filled (signature is.format.version n) inside said is.is in
    let size_is : length ahead + (length inside + length behind) ≡ size =
    omega (
      arith,
      ap length splits,
      length-append ahead (inside ++ behind),
      length-append inside behind,
      length-replicate {A = ℕ} size 0,
    ) in
    let tail : inside ++ behind ≡ zeros (size - length ahead) = sym (drop_front ahead (inside ++ behind))
    ∙ ap (λ (b : List ℕ). drop (length ahead) b) (sym splits) ∙ drop-replicate (length ahead) size 0 in
    let first : take 8 inside ≡ take 8 (inside ++ behind) =
    sym (take_front 8 inside behind (omega (arith, long))) in
    let eight : take 8 inside ≡ replicate 8 0 = first ∙ ap (λ (b : List ℕ). take 8 b) tail
    ∙ take_zeros 8 (size - length ahead) (omega (arith, long, size_is)) in
    no_frame_in_zeros (signature is.format.version n) inside is.is.block said.items eight is.is.frame

-- The layout.

-- there are 53 magic bytes
magic_filled : length magic ≡ 53
unfolding magic
magic_filled = refl

-- a header isn't empty
header_filled : (header : List ℕ) (format : LogFileFormat) → IsFileHeader header format → length header ≡ 0 → ⊥
header_filled header format (x, front, back, is_magic, more, joined) none =
    (let long = length-append front back in omega (arith, none, ap length joined, long, ap length is_magic, magic_filled))

-- the format of a queue's files satisfies `IsFormat`
log_is_format : (queue : LogQueue) (directories : List (List ℕ)) → IsFormat (log_format queue directories)
log_is_format queue directories = record {
  free = self_delimiting;
  headers = λ x y a b (f, says, none) (g, also, neither) same. (one_header x y a b f g says also same).0;
  plain = λ n header rest (f, says, none) other.
      (let one = one_header header other.header rest other.rest f other.format says other.says other.splits in
      other.aligned (ap (λ (g : LogFileFormat). g.alignment) (sym one.1) ∙ none));
  empty = λ n other. header_filled other.header other.format other.says
      (let none = length-append other.header other.rest in
      omega (arith, ap length other.splits, none));
  paths = λ m n path less bound at there. one_number (suffix_of queue) directories m n path at there;
}

-- A reserved path is no path of a number: their last bytes differ.
reserved_apart : (queue : LogQueue) (directories : List (List ℕ)) (m n : ℕ) (path : List ℕ)
    → IsPathWith (suffix_of queue) directories m path → IsPathWith (reserved_suffix_of queue) directories n
    path → ⊥
reserved_apart Append directories m n path at kept =
    let same = one_name at.directory kept.directory at.name kept.name at.plain kept.plain
    (sym at.joined ∙ kept.joined) in
    other_end (codes ".raftlog") (reserved_suffix_of Append) kept.name 7 16 0 refl refl
    (λ e. omega (arith, e)) (subst (λ (b : List ℕ). EndsWith (codes ".raftlog") b) same at.named.1)
    kept.named.1
reserved_apart Rewrite directories m n path at kept =
    let same = one_name at.directory kept.directory at.name kept.name at.plain kept.plain
    (sym at.joined ∙ kept.joined) in
    other_end (codes ".rewrite") (reserved_suffix_of Rewrite) kept.name 7 16 0 refl refl
    (λ e. omega (arith, e)) (subst (λ (b : List ℕ). EndsWith (codes ".rewrite") b) same at.named.1)
    kept.named.1

-- the files of a queue, as written in its directories, satisfy `IsLayout`
pub is_layout : (queue : LogQueue) (directories : List (List ℕ)) → 0 < length directories
    → IsLayout (log_format queue directories) (IsOwnPath queue directories) (log_paths queue directories)
is_layout queue directories some = record {
  format = log_is_format queue directories;
  owns = λ m path less at. (m, inl at);
  limit = refl;
  numbered = λ place n less. numbered_is queue directories place n some less;
  lies = λ place n inside less. numbered_lies queue directories place n some inside less;
  kept = λ place n. (min n (10 ^ 16 - 1), inr (reserved_is queue directories place n some));
  apart = λ place n m less at. reserved_apart queue directories m (min n (10 ^ 16 - 1))
      (reserved_path queue directories place n) at (reserved_is queue directories place n some);
  headed = headed;
}

-- The queues.

-- a path can't have two suffixes that differ in a byte at the same distance from the end
ends_apart : (s t : List ℕ) (ds es : List (List ℕ)) (i k j m n : ℕ) (path : List ℕ) → i + suc j ≡ length s
    → k + suc j ≡ length t → (get_or s i 0 ≡ get_or t k 0 → ⊥) → IsPathWith s ds m path
    → IsPathWith t es n path → ⊥
ends_apart s t ds es i k j m n path here there differ a b =
    let same = one_name a.directory b.directory a.name b.name a.plain b.plain (sym a.joined ∙ b.joined) in
    other_end s t b.name i k j here there differ (subst (EndsWith s) same a.named.1) b.named.1

-- no path belongs to a file of both queues
pub queues_are_apart : QueuesAreApart
queues_are_apart append rewrite path (m, inl a) (n, inl b) =
    ends_apart (codes ".raftlog") (codes ".rewrite") append rewrite 7 7 0 m n path refl refl
    (λ e. omega (arith, e)) a b
queues_are_apart append rewrite path (m, inl a) (n, inr b) =
    ends_apart (codes ".raftlog") (reserved_suffix_of Rewrite) append rewrite 7 16 0 m n path refl refl
    (λ e. omega (arith, e)) a b
queues_are_apart append rewrite path (m, inr a) (n, inl b) =
    ends_apart (reserved_suffix_of Append) (codes ".rewrite") append rewrite 16 7 0 m n path refl refl
    (λ e. omega (arith, e)) a b
queues_are_apart append rewrite path (m, inr a) (n, inr b) =
    ends_apart (reserved_suffix_of Append) (reserved_suffix_of Rewrite) append rewrite 7 7 9 m n path refl
    refl (λ e. omega (arith, e)) a b

-- the names of files that Append keeps for recycling have the suffix `reserved_suffix`
pub reserved_names : ReservedNamesAreTheLogs
reserved_names = refl

-- a queue may begin if its directories exist, and no file and no directory is at a path of one of its numbers
pub places_are_fresh : PlacesAreFresh
places_are_fresh queue directories base d there none others = record {
  none = λ m less path at. (none m path at).0;
  places = λ m path less at. record {
    apart = (none m path at).1;
    home = record {
      directory = at.directory;
      inside = record { name = at.name; joined = at.joined; plain = at.plain };
      there = there at.directory at.listed;
    };
  };
  others = others;
}
