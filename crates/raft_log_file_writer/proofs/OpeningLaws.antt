-- What it leaves to take a file up, and to build a writer.
use Rattle.std.specs.Prelude.{◌≡◌, ℕ, ◌+◌, ◌-◌, ◌<◌, ◌≤◌, ◌^◌, ◌++◌, ◌||◌, Bool, true, false, List, [], length, nat_lt}
use Rattle.std.specs.declared.io.ErrorKind.{ErrorKind}
use Rattle.std.proofs.Common.{refl, ◌∙◌, ap, subst, arith}
use Rattle.std.proofs.lemmas.List.Elements.{All-weaker}
use Rattle.raft_log_fs.specs.Disk.{File, Disk, file_limit}
use Rattle.raft_log_fs.specs.Image.{IsSound, end_of}
use Rattle.raft_log_fs.specs.Causes.{Fails}
use Rattle.raft_log_fs.specs.Reading.{IsSize}
use Rattle.raft_log_fs.specs.declared.handle.Handle.{Handle}
use Rattle.raft_log_fs.specs.declared.handle.Permission.TheVariants.{ReadWrite}
use Rattle.raft_log_fs.proofs.Public.{same_file}
use Rattle.raft_log_file_writer.specs.declared.writer.LogFileWriter.{LogFileWriter}
use Rattle.raft_log_file_writer.specs.Writer.{IsWritten, reach, WritesAtPlace, FailsToWriteAt, WritesNext, FailsToWriteNext, KeepsWritten, needs_header, TakesUp, goes_on, begins, FailsToTakeUp, not_begun, CanBeTakenUp, IsTakenUp}

-- the size of a file is below the limit
pub size_short : (id : ℕ) (d : Disk) (size : ℕ) → IsSound d → IsSize id d size → size < 2 ^ 63
size_short id d size sound is =
    let file = sound.files id is.file is.is in
    let most : ℕ = 2 ^ 63 - 1 in
    let ends = All-weaker (λ change. end_of change < file_limit) (λ change. end_of change ≤ most) (λ change less. omega arith) is.file.changes file.ends in
    let within = file.stands.within most (omega (arith, file.short)) ends in
    omega (arith, within, is.size)

module _ (handle : Handle) (header : List ℕ) (reset : Bool) (old : Disk) (size : ℕ) (is : IsSize handle.file old size) where
  needs_as : (b : Bool) → (reset || nat_lt size (length header)) ≡ b → needs_header header reset is.file.content ≡ b
  needs_as b test = subst (λ (n : ℕ). (reset || nat_lt n (length header)) ≡ b) is.size test

  -- a writer that has written nothing yet, of a file of this size
  pub nothing_written : (writer : LogFileWriter) → writer.handle ≡ handle → writer.written ≡ 0 → writer.capacity ≡ size → handle.permission ≡ ReadWrite → IsWritten writer [] old
  nothing_written writer same written capacity permitted = record {
    permitted = ap (λ (h : Handle). h.permission) same ∙ permitted;
    offset = written;
    file = is.file;
    is = ap (λ (h : Handle). old.files h.file) same ∙ is.is;
    behind = is.file.content;
    content = refl;
    end = omega (arith, is.size, capacity);
  }

  -- a file that needs no header
  pub gone_on : (writer : LogFileWriter) → (reset || nat_lt size (length header)) ≡ false → writer.handle ≡ handle → writer.written ≡ size → writer.capacity ≡ size → TakesUp handle header reset writer old old
  gone_on writer test same written capacity = goes_on is.file is.is (needs_as false test) refl (record { handle_is = same; written_is = written ∙ is.size; capacity_is = capacity ∙ is.size })

  module _ (before after : LogFileWriter) (new : Disk) (test : (reset || nat_lt size (length header)) ≡ true) (same : before.handle ≡ handle) (written : before.written ≡ 0) (capacity : before.capacity ≡ size) where
    -- one that gets it
    pub begun : WritesNext before after header 0 old new → TakesUp handle header reset after old new
    begun next =
        let end : before.written + length header ≡ length header = omega (arith, written) in
        let most = capacity ∙ is.size in
        begins is.file is.is (needs_as true test)
        (subst (λ (n : ℕ). WritesAtPlace handle 0 n header 0 old new) most (subst (λ (n : ℕ). WritesAtPlace handle n before.capacity header 0 old new) written
        (subst (λ (h : Handle). WritesAtPlace h before.written before.capacity header 0 old new) same next.calls)))
        (record {
          handle_is = next.moved.handle_is ∙ same;
          written_is = next.moved.written_is ∙ end;
          capacity_is = next.moved.capacity_is ∙ ap (λ (n : ℕ). reach before.capacity n 0) end ∙ ap (λ (n : ℕ). reach n (length header) 0) most;
        })

    pub not_taken : (error : ErrorKind) → FailsToWriteNext before after header 0 error old new → FailsToTakeUp handle header reset error old new
    not_taken error fails =
        not_begun is.file is.is (needs_as true test)
        (subst (λ (n : ℕ). FailsToWriteAt handle 0 n header 0 error old new) (capacity ∙ is.size) (subst (λ (n : ℕ). FailsToWriteAt handle n before.capacity header 0 error old new) written
        (subst (λ (h : Handle). FailsToWriteAt h before.written before.capacity header 0 error old new) same fails.calls)))

    pub begun_written : ((front : List ℕ) → IsWritten before front old → IsWritten after (front ++ header) new) → IsTakenUp handle header reset after old new
    begun_written writes file permitted there =
        let content : is.file.content ≡ file.content = ap (λ (f : File). f.content) (same_file old handle.file is.file file is.is there) in
        let needs = subst (λ (b : List ℕ). needs_header header reset b ≡ true) content (needs_as true test) in
        rw needs (writes [] (nothing_written before same written capacity permitted))

    pub not_begun_cause : KeepsWritten before after old new → CanBeTakenUp handle old → Fails old new
    not_begun_cause keeps can = (keeps [] (nothing_written before same written capacity can.permitted)).1
