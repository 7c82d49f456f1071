-- Refusals that are of the bytes that were read, and the others.
use Rattle.std.proofs.Common.{◌≡◌, ℕ, length, inl, inr, Option, Result, Err, refl, ap, subst, arith, take}
use Rattle.std.specs.String.{string_bytes}
use Rattle.std.specs.declared.io.ErrorKind.{ErrorKind}
use Rattle.raft_log_record_base.specs.Fault.{Fault}
use Rattle.raft_log_record_base.specs.Fault.Fault.{number, corrupt}
use Rattle.raft_log_record_base.specs.declared.errors.Error.{Error}
use Rattle.raft_log_record_base.specs.declared.errors.Error.TheVariants as errors
use Rattle.raft_log_fs.specs.Disk.{Disk, File}
use Rattle.raft_log_fs.specs.Reading.{IsUnread}
use Rattle.raft_log_fs.specs.Reading.IsUnread.{stopped, gone, unreadable}
use Rattle.raft_log_fs.specs.declared.handle.Handle.{Handle}
use Rattle.raft_log_file_format.specs.Header.{header_at}
use Rattle.raft_log_file_reader.specs.Source.{bytes_in, bytes_of, CannotRead}
use Rattle.raft_log_file_reader.specs.Opening.{FailsToOpen}
use Rattle.raft_log_file_reader.specs.Refused.{FailsAt, FailsBehind}
use Rattle.raft_log_file_reader.specs.declared.source.Source.{Source}
use Rattle.raft_log_file_reader.specs.declared.open_file.OpenFile.{OpenFile}
use Rattle.raft_log_recovery_read.specs.Faults.{IsDamage, TellsFault}
use Rattle.raft_log_recovery_read.specs.Reading.{FailsToRead}

-- bytes behind an offset are bytes of the file
pub from_front : (source : Source) (offset : ℕ) (d : Disk) (e : Error) → CannotRead source offset d e → CannotRead source 0 d e
from_front source offset d (errors.Io kind) h = record { at = h.at; count = h.count; behind = omega arith; inside = h.inside; unread = h.unread }
from_front source offset d errors.Memory h = tt
from_front source offset d _ h = absurd h

-- Of the next batch.

pub batch_unread : (file : OpenFile) (d : Disk) (offset : ℕ) (e : Error) → FailsBehind file d offset e → (IsDamage e → ⊥) → CannotRead file.source 0 d e
batch_unread file d offset (errors.Io kind) h other = record { at = h.at; count = h.count; behind = omega arith; inside = h.inside; unread = h.unread }
batch_unread file d offset errors.Memory h other = tt
batch_unread file d offset (errors.Codec c) h other = absurd (other tt)
batch_unread file d offset (errors.Corruption text) h other = absurd (other tt)
batch_unread file d offset _ h other = absurd h

-- Of a part that is checked.

pub part_damaged : {Y : Type 0} (source : Source) (d : Disk) (at : ℕ) (e : Error) (reading : Result Y Fault) → FailsAt source d at e reading → IsDamage e → (f : Fault) × TellsFault e f × (reading ≡ Err f)
part_damaged source d at (errors.Codec c) reading h damaged = (number c, refl, h)
part_damaged source d at (errors.Corruption text) reading h damaged = (corrupt (string_bytes text), refl, h)
part_damaged source d at _ reading h damaged = absurd damaged

pub part_unread : {Y : Type 0} (source : Source) (d : Disk) (at : ℕ) (e : Error) (reading : Result Y Fault) → FailsAt source d at e reading → (IsDamage e → ⊥) → CannotRead source 0 d e
part_unread source d at (errors.Io kind) reading h other = record { at = h.at; count = h.count; behind = omega arith; inside = h.inside; unread = h.unread }
part_unread source d at errors.Memory reading h other = tt
part_unread source d at (errors.Codec c) reading h other = absurd (other tt)
part_unread source d at (errors.Corruption text) reading h other = absurd (other tt)
part_unread source d at _ reading h other = absurd h

-- Of a file that is opened.

-- what can't be read of a file is some of its bytes
unread_anywhere : (handle : Handle) (at count : ℕ) (d : Disk) (kind : ErrorKind) → IsUnread handle at count d kind → IsUnread handle 0 (length (bytes_in (d.files handle.file))) d kind
unread_anywhere handle at count d kind (stopped is told) = stopped is told
unread_anywhere handle at count d kind (gone runs wrong) = gone runs wrong
unread_anywhere handle at count d kind (unreadable file place is behind before inside bad told) =
    let size : length (bytes_in (d.files handle.file)) ≡ length file.content = ap (λ (f : Option File). length (bytes_in f)) is in
    unreadable file place is (omega arith) (omega (arith, inside, size)) inside bad told

pub header_damaged : (handle : Handle) (d : Disk) (e : Error) → FailsToOpen handle d e → IsDamage e → (f : Fault) × TellsFault e f × (header_at (take 69 (bytes_in (d.files handle.file))) ≡ Err f)
header_damaged handle d (errors.Codec c) h damaged = (number c, refl, h)
header_damaged handle d (errors.Corruption text) h damaged = (corrupt (string_bytes text), refl, h)
header_damaged handle d _ h damaged = absurd damaged

pub header_unread : (handle : Handle) (d : Disk) (e : Error) → FailsToOpen handle d e → (IsDamage e → ⊥) → FailsToRead handle d e
header_unread handle d (errors.Io kind) (inl h) other = inl h
header_unread handle d (errors.Io kind) (inr h) other = inr (unread_anywhere handle 0 69 d kind h)
header_unread handle d errors.Memory h other = tt
header_unread handle d (errors.Codec c) h other = absurd (other tt)
header_unread handle d (errors.Corruption text) h other = absurd (other tt)
header_unread handle d _ h other = absurd h

-- what can't be read of a file that is open is why it isn't read
pub file_unread : (source : Source) (handle : Handle) (d : Disk) (e : Error) → source.handle ≡ handle → source.size ≡ length (bytes_of source d) → CannotRead source 0 d e → FailsToRead handle d e
file_unread source handle d (errors.Io kind) reads size h = inr (subst (λ (by : Handle). IsUnread by 0 (length (bytes_in (d.files by.file))) d kind) reads (unread_anywhere source.handle h.at h.count d kind h.unread))
file_unread source handle d errors.Memory reads size h = tt
file_unread source handle d _ reads size h = absurd h
