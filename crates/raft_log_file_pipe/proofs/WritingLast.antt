-- A pipe writes the file that it lists as the last, and what it wrote stands there.
use Rattle.std.proofs.Common.{◌≡◌, ℕ, ◌+◌, ◌-◌, ◌≤◌, Bool, Option, Some, None, List, [], ◌∷◌, ◌++◌, length, take, drop, refl, sym, ◌∙◌, ap, subst, arith}
use Rattle.std.proofs.lemmas.List.{length-append, length-replicate, length-take-le}
use Rattle.std.proofs.Math.Seq.{drop-append_seam, take-append_seam}
use Rattle.raft_log_fs.specs.Disk.{Wrote, Disk, grown, overwritten, zeros}
use Rattle.raft_log_fs.specs.Calls.{after_change}
use Rattle.raft_log_fs.specs.Exits.{Writes}
use Rattle.raft_log_fs.specs.Touching.{HasFile}
use Rattle.raft_log_fs.specs.declared.handle.Handle.{Handle}
use Rattle.raft_log_fs.proofs.Public.{file_here}
use Rattle.raft_log_record_base.specs.declared.pipe_log.LogQueue.{LogQueue}
use Rattle.raft_log_record_base.specs.declared.pipe_log.LogFileContext.{LogFileContext}
use Rattle.raft_log_record_base.specs.declared.pipe_log.FileBlockHandle.{FileBlockHandle}
use Rattle.raft_log_file_format.specs.declared.header.LogFileFormat.{LogFileFormat}
use Rattle.raft_log_file_writer.specs.Writer.{TakesUp}
use Rattle.raft_log_file_writer.specs.Writer.TakesUp.{goes_on, begins}
use Rattle.raft_log_file_writer.specs.Reader.{AreBytesAt}
use Rattle.raft_log_file_writer.specs.declared.writer.LogFileWriter.{LogFileWriter}
use Rattle.raft_log_active_file.specs.Layout.{FilePaths}
use Rattle.raft_log_active_file.specs.Exits.{BeginsBy}
use Rattle.raft_log_active_file.specs.TakingUp.{TakesUpBy}
use Rattle.raft_log_file_pipe.specs.declared.pipe_files.PipeFiles.{PipeFiles}
use Rattle.raft_log_file_pipe.specs.declared.found_files.FoundFiles.{FoundFiles}
use Rattle.raft_log_file_pipe.specs.declared.new_files.NewFiles.{NewFiles}
use Rattle.raft_log_file_pipe.specs.Files.{Listed}
use Rattle.raft_log_file_pipe.specs.Calls.{TurnsBy}
use Rattle.raft_log_file_pipe.specs.Appending.{context_of}
use Rattle.raft_log_file_pipe.specs.Doing.{AppendsBy, OpensPipeBy, TurnsFirstBy, TurnsPipeBy}
use Rattle.raft_log_file_pipe.specs.WritingLast.{StandsAt, WritesItsLast}
use Rattle.raft_log_file_pipe.specs.Doing.OpensPipeBy.{begins as begins_case, takes_up as takes_up_case}
use Rattle.raft_log_file_pipe.specs.Doing.TurnsFirstBy.{stays, turns}
use Rattle.raft_log_file_pipe.proofs.Doing.{handle_stays}

-- The writer of a file that is begun, or taken up.

takes_handle : (handle : Handle) (header : List ℕ) (reset : Bool) (writer : LogFileWriter) (old new : Disk) → TakesUp handle header reset writer old new → writer.handle ≡ handle
takes_handle handle header reset writer old new (goes_on file is none same at) = at.handle_is
takes_handle handle header reset writer old new (begins file is needs writes at) = at.handle_is

begins_handle : (handle : Handle) (header : List ℕ) (writer : LogFileWriter) (old new : Disk) → BeginsBy handle header writer old new → writer.handle ≡ handle
begins_handle handle header writer old new calls = takes_handle handle header _ writer old calls.between calls.takes

reopens_handle : (handle : Handle) (end : Option ℕ) (header : List ℕ) (writer : LogFileWriter) (old new : Disk) → TakesUpBy handle end header writer old new → writer.handle ≡ handle
reopens_handle handle (Some end) header writer old new calls = takes_handle handle [] _ writer old new calls
reopens_handle handle None header writer old new calls = begins_handle handle header writer old new calls

turns_handle : (paths : FilePaths) (header : List ℕ) (fs : List Listed) (before after : LogFileWriter) (next : Listed) (old new : Disk) → TurnsBy paths header fs before next after old new → after.handle ≡ next.handle
turns_handle paths header [] before after next old new calls = begins_handle next.handle header after calls.named new calls.begins
turns_handle paths header (f ∷ fs) before after next old new (opened, calls) = begins_handle next.handle header after calls.named new calls.begins

pub opened_writes : (paths : FilePaths) (format : LogFileFormat) (found : FoundFiles) (files : PipeFiles) (old new : Disk) → OpensPipeBy paths format found files old new → WritesItsLast files
opened_writes paths format found files old new (begins_case none listed plain calls) = begins_handle files.active.handle _ files.writer calls.made new calls.begins
opened_writes paths format found files old new (takes_up_case earlier last split listed calls) =
    reopens_handle last.handle found.end _ files.writer calls.trimmed new calls.takes ∙ sym (ap (λ (f : Listed). f.handle) listed.active ∙ handle_stays found.end last)

pub turned_writes : (paths : FilePaths) (format : LogFileFormat) (before after : PipeFiles) (old new : Disk) → TurnsPipeBy paths format before after old new → WritesItsLast after
turned_writes paths format before after old new by = turns_handle paths _ before.recycled.items before.writer after.writer after.active old new by.calls

first_writes : (paths : FilePaths) (begin : NewFiles) (before middle : PipeFiles) (old new : Disk) → WritesItsLast before → TurnsFirstBy paths begin before middle old new → WritesItsLast middle
first_writes paths begin before middle old new writes (stays short same still) = subst WritesItsLast (sym same) writes
first_writes paths begin before middle old new writes (turns full by) = turned_writes paths begin.format before middle old new by

-- What was written at a place is read there.

read_back : (at : ℕ) (bytes old : List ℕ) → bytes ≡ take (length bytes) (drop at (overwritten at bytes old))
read_back at [] old = refl
read_back at (b ∷ bs) old =
    let bytes : List ℕ = b ∷ bs in
    let size : ℕ = at + length bytes in
    let room : List ℕ = grown size old in
    let front : List ℕ = take at room in
    let rest : List ℕ = drop size room in
    let long : at ≤ length room = omega (arith, length-append old (zeros (size - length old)), length-replicate {A = ℕ} (size - length old) 0) in
    let behind : drop at (front ++ (bytes ++ rest)) ≡ bytes ++ rest = subst (λ (n : ℕ). drop n (front ++ (bytes ++ rest)) ≡ bytes ++ rest) (length-take-le at room long) (drop-append_seam front (bytes ++ rest)) in
    sym (ap (take (length bytes)) behind ∙ take-append_seam bytes rest)

written_stands : (handle : Handle) (at : ℕ) (bytes : List ℕ) (old new : Disk) → Writes handle at bytes old new → HasFile handle.file (AreBytesAt at (length bytes) bytes) new
written_stands handle at bytes old new writes = record {
  file = after_change (Wrote at bytes) writes.file;
  is = ap (λ (d : Disk). d.files handle.file) writes.done ∙ file_here old.files handle.file (Some (after_change (Wrote at bytes) writes.file));
  has = read_back at bytes writes.file.content;
}

abbrev context_at : LogQueue → Listed → LogFileContext
context_at queue f = record { id = record { queue = queue; seq = f.seq }; version = f.format.version }

pub appended_stands : (paths : FilePaths) (begin : NewFiles) (queue : LogQueue) (signed : LogFileContext → List ℕ) (before after : PipeFiles) (block : FileBlockHandle) (old new : Disk) → WritesItsLast before
    → AppendsBy paths begin queue signed before after block old new → WritesItsLast after × StandsAt queue signed after block new
appended_stands paths begin queue signed before after block old new writes by =
    let middle : PipeFiles = by.middle in
    let same : after.active ≡ middle.active = by.lists.active in
    let own : WritesItsLast middle = first_writes paths begin before middle old by.between writes by.first in
    let bytes : List ℕ = signed (context_of queue middle) in
    let here : HasFile middle.writer.handle.file (AreBytesAt middle.writer.written (length bytes) bytes) new = written_stands middle.writer.handle middle.writer.written bytes by.calls.calls.between new by.calls.calls.writes in
    let file : middle.writer.handle.file ≡ after.active.handle.file = ap (λ (h : Handle). h.file) own ∙ ap (λ (f : Listed). f.handle.file) (sym same) in
    let spelled : bytes ≡ signed (context_of queue after) = ap (λ (f : Listed). signed (context_at queue f)) (sym same) in
    let stands : HasFile after.active.handle.file (AreBytesAt block.offset block.len (signed (context_of queue after))) new =
    subst (λ (id : ℕ). HasFile id (AreBytesAt block.offset block.len (signed (context_of queue after))) new) file
    (subst (λ (xs : List ℕ). HasFile middle.writer.handle.file (AreBytesAt block.offset block.len xs) new) spelled
    (subst (λ (n : ℕ). HasFile middle.writer.handle.file (AreBytesAt block.offset n bytes) new) (sym by.len)
    (subst (λ (n : ℕ). HasFile middle.writer.handle.file (AreBytesAt n (length bytes) bytes) new) (sym by.offset) here))) in (
      by.calls.moved.handle_is ∙ own ∙ ap (λ (f : Listed). f.handle) (sym same),
      (by.id ∙ ap (λ (f : Listed). (context_at queue f).id) (sym same), stands),
    )
