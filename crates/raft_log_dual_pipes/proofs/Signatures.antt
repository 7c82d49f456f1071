-- What a record's signature says of its file.
use Rattle.std.proofs.Common.{◌≡◌, ◌∙◌, ℕ, ◌≤◌, ◌%◌, ◌^◌, Some, List, [], ◌∷◌, ◌++◌, length, drop, refl, sym, ap, subst, arith, length-append}
use Rattle.std.proofs.lemmas.List.{append_assoc, drop_at}
use Rattle.raft_log_fs.specs.Disk.{zeros}
use Rattle.raft_log_file_writer.specs.LawsChains.{AreFrames, Refuses, Written, spelled}
use Rattle.raft_log_file_format.specs.Header.{IsFileHeader, IsPayload, header_bytes, magic}
use Rattle.raft_log_file_format.specs.declared.header.LogFileFormat.{LogFileFormat}
use Rattle.raft_log_file_format.proofs.Public.{header_length}
use Rattle.raft_log_record_base.specs.Files.{signature, version_number}
use Rattle.raft_log_record_base.specs.declared.pipe_log.Version.{Version}
use Rattle.raft_log_record_base.specs.declared.pipe_log.Version.TheVariants.{V1, V2}
use Rattle.raft_log_record_items.specs.declared.item.LogItem.{LogItem}
use Rattle.raft_log_record_frames.specs.Record.{IsFooter, IsRecord}
use Rattle.raft_log_record_frames.proofs.Public.{one_frame, one_signature}
use Rattle.raft_log_active_file.specs.declared.record.LogRecord.{LogRecord}
use Rattle.raft_log_active_file.specs.QueueFiles.{IsRecordIn}
use Rattle.raft_log_active_file.specs.QueueFilesLaws.{zeros_hold_none}
use Rattle.raft_log_dual_pipes.specs.OldRecords.{AlikeFilesShareRecords, AreApart, OldRecordsBeginNoRecord}

magic_length : length magic ≡ 53
unfolding magic
magic_length = refl

-- a header of the second version has so many bytes
pub second_length : (v : Version) (alignment : ℕ) → v ≡ V2 → length (header_bytes (record { version = v; alignment = alignment })) ≡ 69
second_length v alignment is = header_length v alignment 69 (λ one. (let same : 1 ≡ 2 = ap version_number (sym one ∙ is) in omega (arith, same))) (λ two. refl)

payload_version : (v : Version) (format : LogFileFormat) (more : List ℕ) → IsPayload v more format → 8 ≤ length more → format.version ≡ V2
payload_version V1 format more (none, is) long = absurd (omega (arith, ap (λ (l : List ℕ). length l) none, long))
payload_version V2 format more (n, is, same) long = ap (λ (f : LogFileFormat). f.version) same

-- and one with so many is of that version
is_second : (header : List ℕ) (format : LogFileFormat) → IsFileHeader header format → length header ≡ 69 → format.version ≡ V2
is_second header format (unit, front, back, first, (v, text, more, number, payload, joined), all) long =
    payload_version v format more payload
    (omega (arith, long, ap (λ (l : List ℕ). length l) all, ap (λ (l : List ℕ). length l) first, magic_length, length-append front back, ap (λ (l : List ℕ). length l) joined, length-append text more, number.spelled.size))

-- records that begin at one place have one signature
one_number : (s t : ℕ) (a b x y entries more : List ℕ) (items others : List LogItem) → IsRecord (Some s) a items entries → IsRecord (Some t) b others more → a ++ x ≡ b ++ y → s ≡ t
one_number s t a b x y entries more items others h k e =
    let one = one_frame (Some s) (Some t) a b x y h.block k.block items others h.frame k.frame e in
    let f = h.frame in
    let g = k.frame in
    let first : length f.header ≡ 16 = omega (arith, ap (λ (l : List ℕ). length l) f.header_spelled.joined, length-append f.header_spelled.first f.header_spelled.second, f.header_spelled.length_spelled.size, f.header_spelled.offset_spelled.size) in
    let second : length g.header ≡ 16 = omega (arith, ap (λ (l : List ℕ). length l) g.header_spelled.joined, length-append g.header_spelled.first g.header_spelled.second, g.header_spelled.length_spelled.size, g.header_spelled.offset_spelled.size) in
    let sizes : length (g.header ++ k.block) ≡ length (f.header ++ h.block) = omega (arith, first, second, length-append g.header k.block, length-append f.header h.block, ap (λ (l : List ℕ). length l) one.2) in
    let footers : f.footer ≡ g.footer = sym (drop_at (f.header ++ h.block) f.footer (length (f.header ++ h.block)) refl)
    ∙ ap (λ (l : List ℕ). drop (length (f.header ++ h.block)) l) (sym f.joined ∙ one.0 ∙ g.joined) ∙ drop_at (g.header ++ k.block) g.footer (length (f.header ++ h.block)) sizes in
    one_signature s t g.footer items others (subst (λ (l : List ℕ). IsFooter (Some s) l items) footers f.footer_spelled) g.footer_spelled

-- a record of a file whose records are signed is signed for it
is_signed_in : (n : ℕ) (header bytes : List ℕ) (said : LogRecord) → length header ≡ 69 → IsRecordIn n header bytes said → IsRecord (Some (n % 2 ^ 32)) bytes said.items said.entries
is_signed_in n header bytes said long is = subst (λ (v : Version). IsRecord (signature v n) bytes said.items said.entries) (is_second header is.format is.says long) is.is

old_refuses : (m n : ℕ) (header : List ℕ) → length header ≡ 69 → AreApart m n → (old : Written LogRecord) → IsRecordIn m header old.bytes old.value → (rest : List ℕ) → Refuses (IsRecordIn n header) (old.bytes ++ rest)
old_refuses m n header long apart old was rest w behind is splits =
    apart (one_number (m % 2 ^ 32) (n % 2 ^ 32) old.bytes w.bytes rest behind old.value.entries w.value.entries old.value.items w.value.items
    (is_signed_in m header old.bytes old.value long was) (is_signed_in n header w.bytes w.value long is) splits)

pub zeros_refuse : (n size : ℕ) (header : List ℕ) → Refuses (IsRecordIn n header) (zeros size)
zeros_refuse n size header w rest is splits = zeros_hold_none n size header [] w.bytes rest w.value splits is

-- so it is of old records, and of room behind them
pub all_refuse : (m n size : ℕ) (header : List ℕ) → length header ≡ 69 → AreApart m n → (ws : List (Written LogRecord)) → AreFrames (IsRecordIn m header) ws → Refuses (IsRecordIn n header) (spelled ws ++ zeros size)
all_refuse m n size header long apart [] frames = zeros_refuse n size header
all_refuse m n size header long apart (w ∷ ws) frames =
    subst (λ (l : List ℕ). Refuses (IsRecordIn n header) l) (sym (append_assoc w.bytes (spelled ws) (zeros size))) (old_refuses m n header long apart w frames.0 (spelled ws ++ zeros size))

pub old_records_begin_no_record : OldRecordsBeginNoRecord
old_records_begin_no_record = record {
  one = λ queue directories format signed number bytes o.
      subst (λ (l : List ℕ). Refuses (IsRecordIn number (header_bytes format)) l) (sym o.are)
      (old_refuses o.other number (header_bytes format) (second_length format.version format.alignment signed) o.apart o.old o.is o.rest);
  all = λ queue directories format signed number other apart ws frames room. all_refuse other number room (header_bytes format) (second_length format.version format.alignment signed) apart ws frames;
}

moved : (v : Version) (m n : ℕ) → m % 2 ^ 32 ≡ n % 2 ^ 32 → (bytes entries : List ℕ) (items : List LogItem) → IsRecord (signature v m) bytes items entries → IsRecord (signature v n) bytes items entries
moved V1 m n same bytes entries items is = is
moved V2 m n same bytes entries items is = subst (λ (s : ℕ). IsRecord (Some s) bytes items entries) same is

pub alike_files_share_records : AlikeFilesShareRecords
alike_files_share_records queue directories m n same header bytes said is = record { format = is.format; says = is.says; is = moved is.format.version m n same bytes said.entries said.items is.is }
