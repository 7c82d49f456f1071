-- Opening a file, and where its reading goes on.
use Rattle.std.proofs.lemmas.Bool.{cases_lt}
use Rattle.std.proofs.Common.{◌≡◌, ℕ, ◌+◌, ◌-◌, ◌<◌, ◌≤◌, inl, inr, min, List, ◌++◌, length, take, drop, sym, ap, ◌∙◌, arith, append_assoc}
use Rattle.std.proofs.lemmas.List.{length-take, length-append, take_all, take-append-drop}
use Rattle.raft_log_record_base.specs.Fault.{FailsOrMemory}
use Rattle.raft_log_record_base.specs.declared.errors.Error.{Error}
use Rattle.raft_log_record_base.specs.declared.errors.Error.TheVariants as errors
use Rattle.raft_log_fs.specs.Disk.{Disk}
use Rattle.raft_log_fs.specs.Reading.{IsSize, IsUnread}
use Rattle.raft_log_fs.specs.Reading.IsUnread.{stopped, gone, unreadable}
use Rattle.raft_log_fs.specs.declared.handle.Handle.{Handle}
use Rattle.raft_log_file_format.specs.Header.{IsFileHeader, header_at}
use Rattle.raft_log_file_format.specs.declared.header.LogFileFormat.{LogFileFormat}
use Rattle.raft_log_file_reader.specs.Source.{bytes_in, bytes_of, CannotRead, CannotReadPart}
use Rattle.raft_log_file_reader.specs.Batches.{GoesOnAt, batch_at, context_of}
use Rattle.raft_log_file_reader.specs.Refused.{FailsAt, FailsBehind}
use Rattle.raft_log_file_reader.specs.Opening.{SaysFormat, FailsToOpen}
use Rattle.raft_log_file_reader.specs.declared.source.Source.{Source}
use Rattle.raft_log_file_reader.specs.declared.open_file.OpenFile.{OpenFile}
use Rattle.raft_log_record_frames.specs.Written.{AreBytes}
use Rattle.raft_log_file_reader.proofs.WrittenHeaders.{front_bytes, written_in}

-- the size that was told is that of the bytes
pub size_told : (id : ℕ) (d : Disk) (n : ℕ) → IsSize id d n → n ≡ length (bytes_in (d.files id))
size_told id d n h = h.size ∙ ap (λ f. length (bytes_in f)) (sym h.is)

-- why the record isn't read where reading goes on is why no batch comes
pub fails_behind : (file : OpenFile) (d : Disk) (offset at : ℕ) (e : Error) → GoesOnAt file.format.alignment (bytes_of file.source d) offset at → offset ≤ at → at < length (bytes_of file.source d)
    → FailsAt file.source d at e (batch_at (context_of file) at (bytes_of file.source d)) → FailsBehind file d offset e
fails_behind file d offset at (errors.Io kind) goes_on later inside h =
    record { at = h.at; count = h.count; behind = omega (arith, h.behind, later); inside = h.inside; unread = h.unread }
fails_behind file d offset at errors.Memory goes_on later inside h = tt
fails_behind file d offset at (errors.Codec c) goes_on later inside h = record { at = at; goes_on = goes_on; inside = inside; frame = h }
fails_behind file d offset at (errors.Corruption text) goes_on later inside h = record { at = at; goes_on = goes_on; inside = inside; frame = h }
fails_behind file d offset at _ goes_on later inside h = absurd h

-- why padding isn't read is why no batch comes
pub cannot_behind : (file : OpenFile) (d : Disk) (offset : ℕ) (e : Error) → CannotRead file.source offset d e → FailsBehind file d offset e
cannot_behind file d offset (errors.Io kind) h = h
cannot_behind file d offset errors.Memory h = h
cannot_behind file d offset _ h = absurd h

-- the first bytes of a file, as many as it has of 69
pub front-is : (content : List ℕ) (len : ℕ) → len ≡ min (length content) 69 → take len (drop 0 content) ≡ take 69 content
front-is content len is = elim (cases_lt (length content) 69) [
  | inl short ↦ let all : length content ≤ len = omega (arith, is) in take_all len content all ∙ sym (take_all 69 content (omega arith))
  | inr long ↦ let sixty_nine : len ≡ 69 = omega (arith, is) in ap (λ n. take n content) sixty_nine
]

-- a part of them that isn't read is why the file isn't opened
pub front_unread : (source : Source) (d : Disk) (at count : ℕ) (e : Error) → at + count ≤ 69 → CannotReadPart source at count d e → FailsToOpen source.handle d e
front_unread source d at count (errors.Io kind) few h = inr (unread_within h) where
  unread_within : IsUnread source.handle at count d kind → IsUnread source.handle 0 69 d kind
  unread_within (stopped is told) = stopped is told
  unread_within (gone runs wrong) = gone runs wrong
  unread_within (unreadable file place is behind before inside bad told) = unreadable file place is (omega arith) (omega (arith, before, few)) inside bad told
front_unread source d at count errors.Memory few h = tt
front_unread source d at count _ few h = absurd h

-- what is wrong with them is why the file isn't opened
pub open_fault : (handle : Handle) (d : Disk) (e : Error) → FailsOrMemory e (header_at (take 69 (bytes_in (d.files handle.file)))) → FailsToOpen handle d e
open_fault handle d (errors.Io kind) h = absurd h
open_fault handle d _ h = h

-- the header that they begin with is the file's
pub header_begins : (content rest text : List ℕ) (format : LogFileFormat) (len : ℕ) → len ≤ length content → IsFileHeader text format → AreBytes (text ++ rest)
    → take len (drop 0 content) ≡ text ++ rest → SaysFormat content format (len - length rest)
header_begins content rest text format len inside says are split = record {
  header = text;
  rest = rest ++ drop len content;
  says = says;
  written = written_in text format (front_bytes text rest are) says;
  splits = sym (take-append-drop len content) ∙ ap (λ (front : List ℕ). front ++ drop len content) split ∙ append_assoc text rest (drop len content);
  ends = omega (arith, ap length split, length-append text rest, length-take len content, inside);
}
