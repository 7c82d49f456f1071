-- A rotation of a pipe: the queue's next file is its last one, and all other files are where they were.
use Rattle.std.specs.Prelude.{Result, Ok, Err}
use Rattle.std.specs.Result.{IfErr}
use Rattle.std.specs.declared.io.ErrorKind.{ErrorKind}
use Rattle.std.specs.Map.{update}
use Rattle.std.specs.Str.{bytes_eq}
use Rattle.std.proofs.Common.{◌≡◌, ◌⊎◌, inl, inr, true, ℕ, ◌<◌, ◌≤◌, ◌^◌, suc, Some, None, List, [], ◌∷◌, ◌++◌, drop, length, false, refl, sym, ◌∙◌, ap, subst, arith}
use Rattle.raft_log_fs.specs.Disk.{Disk}
use Rattle.raft_log_fs.specs.Calls.{Creates, Renames}
use Rattle.raft_log_fs.specs.Causes.{Fails}
use Rattle.raft_log_fs.specs.Causes.Fails.{has_stopped}
use Rattle.raft_log_fs.specs.Exits.{FailsToCreate, FailsToRename}
use Rattle.raft_log_fs.specs.Image.{IsSound}
use Rattle.raft_log_file_writer.specs.LogFormat.{Format}
use Rattle.raft_log_file_writer.specs.LogQueue.{LogFiles, rotated}
use Rattle.raft_log_fs.specs.Reading.{IsOpened}
use Rattle.raft_log_fs.specs.declared.handle.Handle.{Handle}
use Rattle.raft_log_fs.specs.declared.handle.Permission.TheVariants.{ReadWrite}
use Rattle.raft_log_fs.proofs.Public.{name_apart, name_here}
use Rattle.raft_log_record_base.specs.declared.errors.Error.{Error}
use Rattle.raft_log_record_base.specs.declared.errors.Error.TheVariants as errors
use Rattle.raft_log_file_format.specs.declared.header.LogFileFormat.{LogFileFormat}
use Rattle.raft_log_file_format.specs.Header.{header_bytes}
use Rattle.raft_log_file_writer.specs.declared.writer.LogFileWriter.{LogFileWriter}
use Rattle.raft_log_active_file.specs.Queue.{with_room}
use Rattle.raft_log_active_file.specs.Standing.{Names}
use Rattle.raft_log_active_file.specs.Layout.{FilePaths, IsLayout, IsUnaligned, path_of, plain_place}
use Rattle.raft_log_active_file.specs.Exits.{IsOpen}
use Rattle.raft_log_active_file.specs.Rotation.{CanRotate, IsSpare, RotatesBy, RotatesToNew, FailsToRotateToNew, RotatesOver, FailsToRotateOver, RotationMakes, FilesStay}
use Rattle.raft_log_active_file.proofs.Public.{open_left}
use Rattle.raft_log_file_pipe.specs.declared.pipe_files.PipeFiles.{PipeFiles}
use Rattle.raft_log_file_pipe.specs.Files.{Listed, IsSpan, NoneHas, AllKept, IsPipe}
use Rattle.raft_log_file_pipe.specs.Calls.{TurnsBy, TurnsNot}
use Rattle.raft_log_file_pipe.specs.Exits.{SameFiles, IsTurned, IsStaleOfNext, Rotates, FailsToRotate, RotationLeaves, StaysClosed}
use Rattle.raft_log_file_pipe.proofs.Naming.{NamesStayBut, over_names, new_names}
use Rattle.raft_log_file_pipe.proofs.Lists.{path_numbered, span_end, span_moved, span_more, kept_moved, numbers_apart, kept_is_no_number, kept_is_own}

-- the files are listed so after a rotation into this one
pub record IsTurnedTo (next : Listed) (before after : PipeFiles) : Type 0 where
  pub first : after.first_seq ≡ before.first_seq
  pub earlier : after.earlier.items ≡ before.earlier.items ++ before.active ∷ []
  pub active : after.active ≡ next
  pub recycled : after.recycled.items ≡ drop 1 before.recycled.items

-- the next file: it has the next number, and begins with this header
pub record IsNext (next : Listed) (header : List ℕ) (before : PipeFiles) : Type 0 where
  pub number : next.seq ≡ suc before.active.seq
  pub listed : next.reserved ≡ false
  pub small : next.seq < 10 ^ 16
  pub header_is : header ≡ header_bytes next.format
  pub unaligned : IsUnaligned next.format

-- which calls were made, by the file as it is listed then
pub turned_over : (paths : FilePaths) (old new : Disk) (active kept next : Listed) (rest : List Listed) (header : List ℕ) (handle : Handle) (writer after : LogFileWriter) → active ≡ next → next.handle ≡ handle → IsOpened (path_of paths kept) ReadWrite handle old
    → RotatesBy writer header (λ named. Renames (path_of paths kept) (path_of paths next)) handle after old new → TurnsBy paths header (kept ∷ rest) writer active after old new
turned_over paths old new active kept next rest header handle writer after is itself opened calls =
    let held : handle ≡ active.handle = sym (ap (λ (f : Listed). f.handle) is ∙ itself) in (
      subst (λ (h : Handle). IsOpened (path_of paths kept) ReadWrite h old) held opened,
      subst (λ (p : List ℕ). RotatesBy writer header (λ named. Renames (path_of paths kept) p) active.handle after old new) (sym (ap (path_of paths) is))
          (subst (λ (h : Handle). RotatesBy writer header (λ named. Renames (path_of paths kept) (path_of paths next)) h after old new) held calls),
    )

pub turned_new : (paths : FilePaths) (old new : Disk) (active next : Listed) (header : List ℕ) (handle : Handle) (writer after : LogFileWriter) → active ≡ next → next.handle ≡ handle
    → RotatesBy writer header (λ made. Creates (path_of paths next) made.file) handle after old new → TurnsBy paths header [] writer active after old new
turned_new paths old new active next header handle writer after is itself calls =
    let held : handle ≡ active.handle = sym (ap (λ (f : Listed). f.handle) is ∙ itself) in
    subst (λ (p : List ℕ). RotatesBy writer header (λ made. Creates p made.file) active.handle after old new) (sym (ap (path_of paths) is))
    (subst (λ (h : Handle). RotatesBy writer header (λ made. Creates (path_of paths next) made.file) h after old new) held calls)

module _ {R : Type 0} (F : Format R) (own : List ℕ → Type 0) (paths : FilePaths) (lawful : IsLayout F own paths) where
  -- the pipe's files after a rotation, by what stands of the last one, of names and of other files
  turned : (base old new : Disk) (before after : PipeFiles) (q : LogFiles R) (header stale from : List ℕ) (room : ℕ) → IsSound old → IsSound new → IsPipe F own paths base before q old
      → IsOpen F own base after.writer (with_room room (rotated header stale q)) (path_of paths after.active) new.names new
      → after.active.handle.file ≡ after.writer.handle.file → after.active.seq ≡ suc before.active.seq → after.active.reserved ≡ false → header ≡ header_bytes after.active.format
      → after.first_seq ≡ before.first_seq → after.earlier.items ≡ before.earlier.items ++ before.active ∷ [] → AllKept F paths before.first_seq old after.recycled.items → NoneHas paths from after.recycled.items
      → ((directory n : ℕ) → before.first_seq ≤ n → n < suc q.last → paths.numbered directory n ≡ from → ⊥)
      → ((path : List ℕ) → (path ≡ from → ⊥) → (path ≡ path_of paths after.active → ⊥) → new.names path ≡ old.names path)
      → FilesStay before.writer.handle.file after.writer.handle.file old new
      → IsPipe F own paths base after (with_room room (rotated header stale q)) new
  turned base old new before after q header stale from room sound sound_then is stands handle number listed head first earlier kept free span_free names files =
      let bound : suc q.last < F.limit = stands.stands.bound in
      let last = is.number in
      let to_is = path_numbered paths after.active listed in
      let number_free : (directory n : ℕ) → n < suc q.last → paths.numbered directory n ≡ path_of paths after.active → ⊥ = λ directory n less same.
      numbers_apart F own paths lawful directory after.active.path_id n after.active.seq (omega (arith, less, bound)) (omega (arith, number, last, bound)) (λ e. omega (arith, e, number, last, less)) (same ∙ to_is) in
      let stays : (directory n : ℕ) → before.first_seq ≤ n → n < suc q.last → new.names (paths.numbered directory n) ≡ old.names (paths.numbered directory n) = λ directory n over less. names (paths.numbered directory n) (span_free directory n over less) (number_free directory n less) in
      let ends = span_end paths old.names before.first_seq q.last before.earlier.items is.span in
      let active_is = path_numbered paths before.active is.listed in
      let active_named : new.names (path_of paths before.active) ≡ Some before.active.handle.file =
      ap new.names active_is ∙ stays before.active.path_id before.active.seq (omega (arith, last, ends)) (omega (arith, last)) ∙ ap old.names (sym active_is) ∙ is.active.stands.named ∙ ap Some (sym is.handle) in
      let span : IsSpan paths new.names before.first_seq before.earlier.items q.last = span_moved paths old.names new.names before.first_seq q.last before.earlier.items (λ directory n over less. stays directory n over (omega (arith, less))) is.span in
      let longer : IsSpan paths new.names before.first_seq (before.earlier.items ++ before.active ∷ []) (suc q.last) = span_more paths new.names before.first_seq q.last before.earlier.items before.active span last is.listed active_named in
      record {
        active = stands;
        number = number ∙ ap suc last;
        listed = listed;
        header = head;
        handle = handle;
        span = subst (λ (n : ℕ). IsSpan paths new.names n after.earlier.items (suc q.last)) (sym first) (subst (λ (fs : List Listed). IsSpan paths new.names before.first_seq fs (suc q.last)) (sym earlier) longer);
        kept = subst (λ (n : ℕ). AllKept F paths n new after.recycled.items) (sym first) (kept_moved F paths before.first_seq before.first_seq old new from after.recycled.items free (λ g apart was.
            (let elsewhere : path_of paths g ≡ path_of paths after.active → ⊥ = λ same.
            kept_is_no_number F own paths lawful before.first_seq old g (suc q.last) was (omega (arith, ends)) bound (subst (F.IsPath (suc q.last)) (sym same) stands.stands.at) in
            let mine : g.handle.file ≡ before.writer.handle.file → ⊥ = λ same.
            kept_is_no_number F own paths lawful before.first_seq old g q.last was (omega (arith, ends)) (omega (arith, bound))
            (subst (F.IsPath q.last) (sound.one_name (path_of paths before.active) (path_of paths g) before.writer.handle.file is.active.stands.named (was.named ∙ ap Some same)) is.active.stands.at) in
            let next : g.handle.file ≡ after.writer.handle.file → ⊥ = λ same.
            elsewhere (sound_then.one_name (path_of paths g) (path_of paths after.active) after.writer.handle.file (names (path_of paths g) apart elsewhere ∙ was.named ∙ ap Some same) stands.stands.named) in
            record {
              named = names (path_of paths g) apart elsewhere ∙ was.named;
              below = was.below;
              small = was.small;
              usable = record { file = was.usable.file; is = files g.handle.file was.usable.file mine next was.usable.is; has = was.usable.has };
            })) kept);
      }

  header_of : (next : Listed) (header : List ℕ) (before : PipeFiles) → IsNext next header before → F.IsHeader header
  header_of next header before is = subst F.IsHeader (sym is.header_is) (lawful.headed next.format is.unaligned)

  can_rotate : (base old : Disk) (before : PipeFiles) (q : LogFiles R) (next : Listed) (header : List ℕ) → IsPipe F own paths base before q old → IsNext next header before → CanRotate F q header (path_of paths next)
  can_rotate base old before q next header is is_next =
      let number = is_next.number in
      let small = is_next.small in
      let listed = is_next.listed in
      let limit = lawful.limit in
      let last = is.number in
      let less : next.seq < F.limit = omega (arith, small, limit) in
      let same : next.seq ≡ suc q.last = number ∙ ap suc last in
      record {
        bound = omega (arith, less, same);
        header_is = header_of next header before is_next;
        path = subst (λ (n : ℕ). F.IsPath n (path_of paths next)) same (subst (F.IsPath next.seq) (sym (path_numbered paths next listed)) (lawful.numbered next.path_id next.seq less));
      }

  -- what the oldest of the files that are kept for use holds, once it gets the next number
  spare : (base old : Disk) (before : PipeFiles) (q : LogFiles R) (kept : Listed) (rest : List Listed) (handle : Handle) (header : List ℕ) → IsPipe F own paths base before q old → before.recycled.items ≡ kept ∷ rest → F.IsHeader header → IsOpened (path_of paths kept) ReadWrite handle old
      → (stale : List ℕ) × IsStaleOfNext before.recycled.items old stale × IsSpare F own q header stale handle (path_of paths kept) old.names old
  spare base old before q kept rest handle header is list head opened =
      let (kept_is, others, more) = subst (AllKept F paths before.first_seq old) list is.kept in
      let ends = span_end paths old.names before.first_seq q.last before.earlier.items is.span in
      let bound = is.active.stands.bound in
      let here = opened.is in
      let there = kept_is.named in
      let same : kept.handle.file ≡ handle.file = cc (here, there) in
      let usable = kept_is.usable in
      let stale = usable.file.content in (
        stale,
        subst (λ (fs : List Listed). IsStaleOfNext fs old stale) (sym list) (record { file = usable.file; is = usable.is; has = refl }),
        record {
          mine = kept_is_own F own paths lawful before.first_seq old kept kept_is (omega (arith, ends, bound));
          apart = λ m from less at. kept_is_no_number F own paths lawful before.first_seq old kept m kept_is (omega (arith, ends, from)) less at;
          named = opened.is;
          permitted = opened.permitted;
          file = record { file = usable.file; is = ap old.files (sym same) ∙ usable.is; has = usable.has (rotated header stale q) header head };
        },
      )

  -- the path of the next number
  next_is : (before : PipeFiles) (next : Listed) (header : List ℕ) → IsNext next header before → path_of paths next ≡ paths.numbered next.path_id (suc before.active.seq)
  next_is before next header is_next = path_numbered paths next is_next.listed ∙ ap (paths.numbered next.path_id) is_next.number

  -- a rotation over the oldest of the files kept for use
  pub goes_over : (old new : Disk) (before after : PipeFiles) (kept next : Listed) (rest : List Listed) (header : List ℕ) (handle : Handle) → IsSound old → IsSound new → before.recycled.items ≡ kept ∷ rest → IsOpened (path_of paths kept) ReadWrite handle old
      → IsNext next header before → next.handle ≡ handle → IsTurnedTo next before after → RotatesOver F own header handle (path_of paths kept) (path_of paths next) before.writer after.writer old new
      → (old.names (path_of paths next) ≡ None → FilesStay before.writer.handle.file handle.file old new) → RotatesBy before.writer header (λ named. Renames (path_of paths kept) (path_of paths next)) handle after.writer old new
      → Rotates F own paths header before after old new
  goes_over old new before after kept next rest header handle sound sound_then list opened is_next itself turns rotates files calls base q is =
      let from = path_of paths kept in
      let to = path_of paths next in
      let head = header_of next header before is_next in
      let can = can_rotate base old before q next header is is_next in
      let (stale, holds, free) = spare base old before q kept rest handle header is list head opened in
      let (room, stands, gaps) = rotates base q stale (path_of paths before.active) old.names can free is.active in
      let M : Names = update bytes_eq (update bytes_eq old.names from None) to (Some handle.file) in
      let named : new.names ≡ M = stands.stands.names in
      let active = turns.active in
      let to_is : path_of paths after.active ≡ to = ap (path_of paths) active in
      let writes = stands.stands.named in
      let here : M to ≡ Some handle.file = name_here (update bytes_eq old.names from None) to (Some handle.file) in
      let file : after.writer.handle.file ≡ handle.file = cc (writes, here) in
      let bound = can.bound in
      let fresh : old.names to ≡ None = is.active.stands.none (suc q.last) to (omega arith) bound can.path in
      let (kept_is, others, more) = subst (AllKept F paths before.first_seq old) list is.kept in
      let ends = span_end paths old.names before.first_seq q.last before.earlier.items is.span in
      let behind : after.recycled.items ≡ rest = turns.recycled ∙ ap (drop 1) list in (
        room,
        stale,
        holds,
        turned base old new before after q header stale from room sound sound_then is
            (subst (λ (p : List ℕ). IsOpen F own base after.writer (with_room room (rotated header stale q)) p new.names new) (sym to_is)
            (subst (λ (N : Names). IsOpen F own base after.writer (with_room room (rotated header stale q)) to N new) (sym named) stands))
            (ap (λ (f : Listed). f.handle.file) active ∙ ap (λ (h : Handle). h.file) itself ∙ sym file) (ap (λ (f : Listed). f.seq) active ∙ is_next.number) (ap (λ (f : Listed). f.reserved) active ∙ is_next.listed)
            (is_next.header_is ∙ ap (λ (f : Listed). header_bytes f.format) (sym active)) turns.first turns.earlier
            (subst (AllKept F paths before.first_seq old) (sym behind) more) (subst (NoneHas paths from) (sym behind) others)
            (λ directory n over less same. kept_is_no_number F own paths lawful before.first_seq old kept n kept_is over (omega (arith, less, bound)) (subst (F.IsPath n) same (lawful.numbered directory n (omega (arith, less, bound)))))
            (λ path apart_from apart_to. ap (λ (N : Names). N path) named ∙ name_apart (update bytes_eq old.names from None) to (Some handle.file) path (λ e. apart_to (e ∙ sym to_is)) ∙ name_apart old.names from None path apart_from)
            (subst (λ (id : ℕ). FilesStay before.writer.handle.file id old new) (sym file) (files fresh)),
        gaps,
        subst (λ (fs : List Listed). TurnsBy paths header fs before.writer after.active after.writer old new) (sym list) (turned_over paths old new after.active kept next rest header handle before.writer after.writer active itself opened calls),
      )

  -- one into a new file
  pub goes_new : (old new : Disk) (before after : PipeFiles) (next : Listed) (header : List ℕ) (handle : Handle) → IsSound old → IsSound new → before.recycled.items ≡ [] → IsNext next header before → next.handle ≡ handle → IsTurnedTo next before after
      → RotatesToNew F own header (path_of paths next) before.writer after.writer handle old new → FilesStay before.writer.handle.file handle.file old new
      → RotatesBy before.writer header (λ made. Creates (path_of paths next) made.file) handle after.writer old new → Rotates F own paths header before after old new
  goes_new old new before after next header handle sound sound_then list is_next itself turns rotates files calls base q is =
      let to = path_of paths next in
      let can = can_rotate base old before q next header is is_next in
      let (room, stands, gaps) = rotates base q (path_of paths before.active) old.names can is.active in
      let M : Names = update bytes_eq old.names to (Some handle.file) in
      let named : new.names ≡ M = stands.stands.names in
      let active = turns.active in
      let to_is : path_of paths after.active ≡ to = ap (path_of paths) active in
      let writes = stands.stands.named in
      let here : M to ≡ Some handle.file = name_here old.names to (Some handle.file) in
      let file : after.writer.handle.file ≡ handle.file = cc (writes, here) in
      let bound = can.bound in
      let small = is_next.small in
      let number = is_next.number in
      let limit = lawful.limit in
      let last = is.number in
      let next_is = path_numbered paths next is_next.listed in
      let behind : after.recycled.items ≡ [] = turns.recycled ∙ ap (drop 1) list in (
        room,
        [],
        subst (λ (fs : List Listed). IsStaleOfNext fs old []) (sym list) refl,
        turned base old new before after q header [] to room sound sound_then is
            (subst (λ (p : List ℕ). IsOpen F own base after.writer (with_room room (rotated header [] q)) p new.names new) (sym to_is)
            (subst (λ (N : Names). IsOpen F own base after.writer (with_room room (rotated header [] q)) to N new) (sym named) stands))
            (ap (λ (f : Listed). f.handle.file) active ∙ ap (λ (h : Handle). h.file) itself ∙ sym file) (ap (λ (f : Listed). f.seq) active ∙ number) (ap (λ (f : Listed). f.reserved) active ∙ is_next.listed)
            (is_next.header_is ∙ ap (λ (f : Listed). header_bytes f.format) (sym active)) turns.first turns.earlier
            (subst (AllKept F paths before.first_seq old) (sym behind) tt) (subst (NoneHas paths to) (sym behind) tt)
            (λ directory n over less same. numbers_apart F own paths lawful directory next.path_id n next.seq (omega (arith, less, bound)) (omega (arith, small, limit)) (λ e. omega (arith, e, less, number, last)) (same ∙ next_is))
            (λ path apart_from apart_to. ap (λ (N : Names). N path) named ∙ name_apart old.names to (Some handle.file) path apart_from)
            (subst (λ (id : ℕ). FilesStay before.writer.handle.file id old new) (sym file) files),
        gaps,
        subst (λ (fs : List Listed). TurnsBy paths header fs before.writer after.active after.writer old new) (sym list) (turned_new paths old new after.active next header handle before.writer after.writer active itself calls),
      )

  -- the files of the span are there, and so is the last one
  span_whole : (base d : Disk) (files : PipeFiles) (q : LogFiles R) → IsPipe F own paths base files q d → IsSpan paths d.names files.first_seq (files.earlier.items ++ files.active ∷ []) (suc q.last)
  span_whole base d files q is = span_more paths d.names files.first_seq q.last files.earlier.items files.active is.span is.number is.listed (is.active.stands.named ∙ ap Some (sym is.handle))

  -- they are there still where none of their names changed
  span_stays : (base old new : Disk) (before : PipeFiles) (q : LogFiles R) (from to : List ℕ) → IsPipe F own paths base before q old → ((directory n : ℕ) → before.first_seq ≤ n → n < suc q.last → paths.numbered directory n ≡ from → ⊥)
      → ((directory n : ℕ) → before.first_seq ≤ n → n < suc q.last → paths.numbered directory n ≡ to → ⊥) → NamesStayBut from to old new → IsSpan paths new.names before.first_seq (before.earlier.items ++ before.active ∷ []) (suc q.last)
  span_stays base old new before q from to is from_free to_free stay =
      span_moved paths old.names new.names before.first_seq (suc q.last) (before.earlier.items ++ before.active ∷ [])
      (λ directory n over less. stay (paths.numbered directory n) (from_free directory n over less) (to_free directory n over less)) (span_whole base old before q is)

  -- the next file's path is no number's of the span
  next_free : (before : PipeFiles) (q : LogFiles R) (next : Listed) (header : List ℕ) → suc q.last < F.limit → before.active.seq ≡ q.last → IsNext next header before → (directory n : ℕ) → n < suc q.last → paths.numbered directory n ≡ path_of paths next → ⊥
  next_free before q next header bound last is_next directory n less same =
      let small = is_next.small in
      let limit = lawful.limit in
      let number = is_next.number in
      numbers_apart F own paths lawful directory next.path_id n next.seq (omega (arith, less, bound)) (omega (arith, small, limit)) (λ e. omega (arith, e, less, number, last)) (same ∙ path_numbered paths next is_next.listed)

  -- rotations that a file call refused
  pub stays_over : (old new : Disk) (before : PipeFiles) (kept next : Listed) (rest : List Listed) (header : List ℕ) (handle : Handle) (writer : LogFileWriter) → writer ≡ before.writer → before.recycled.items ≡ kept ∷ rest → IsOpened (path_of paths kept) ReadWrite handle old
      → IsNext next header before → next.path_id ≡ plain_place (length paths.directories) kept.path_id → FailsToRotateOver F own header handle (path_of paths kept) (path_of paths next) writer old new → NamesStayBut (path_of paths kept) (path_of paths next) old new
      → (error : ErrorKind) → RotationMakes before.writer header (FailsToRename (path_of paths kept) (path_of paths next)) (λ named. Renames (path_of paths kept) (path_of paths next)) error old new → FailsToRotate F own paths header before old new
  stays_over old new before kept next rest header handle writer same list opened is_next beside fails stay error makes base q is =
      let head = header_of next header before is_next in
      let can = can_rotate base old before q next header is is_next in
      let (stale, holds, free) = spare base old before q kept rest handle header is list head opened in
      let (kept_is, others, more) = subst (AllKept F paths before.first_seq old) list is.kept in
      let bound = can.bound in (
        stale,
        holds,
        fails base q stale (path_of paths before.active) old.names can free (subst (λ (w : LogFileWriter). IsOpen F own base w q (path_of paths before.active) old.names old) (sym same) is.active),
        span_stays base old new before q (path_of paths kept) (path_of paths next) is
            (λ directory n over less same_path. kept_is_no_number F own paths lawful before.first_seq old kept n kept_is over (omega (arith, less, bound)) (subst (F.IsPath n) same_path (lawful.numbered directory n (omega (arith, less, bound)))))
            (λ directory n over less. next_free before q next header bound is.number is_next directory n less) stay,
        subst (λ (fs : List Listed). TurnsNot paths header fs before.writer (suc before.active.seq) old new) (sym list)
            (inr (
              error,
              subst (λ (p : List ℕ). RotationMakes before.writer header (FailsToRename (path_of paths kept) p) (λ named. Renames (path_of paths kept) p) error old new)
                  (next_is before next header is_next ∙ ap (λ (n : ℕ). paths.numbered n (suc before.active.seq)) beside) makes,
            )),
      )

  pub stays_new : (old new : Disk) (before : PipeFiles) (next : Listed) (header : List ℕ) (writer : LogFileWriter) → writer ≡ before.writer → before.recycled.items ≡ [] → IsNext next header before → FailsToRotateToNew F own header (path_of paths next) writer old new
      → NamesStayBut (path_of paths next) (path_of paths next) old new → (error : ErrorKind) → RotationMakes before.writer header (FailsToCreate (path_of paths next)) (λ made. Creates (path_of paths next) made.file) error old new
      → FailsToRotate F own paths header before old new
  stays_new old new before next header writer same list is_next fails stay error makes base q is =
      let can = can_rotate base old before q next header is is_next in
      let free = next_free before q next header can.bound is.number is_next in (
        [],
        subst (λ (fs : List Listed). IsStaleOfNext fs old []) (sym list) refl,
        fails base q (path_of paths before.active) old.names can (subst (λ (w : LogFileWriter). IsOpen F own base w q (path_of paths before.active) old.names old) (sym same) is.active),
        span_stays base old new before q (path_of paths next) (path_of paths next) is (λ directory n over less. free directory n less) (λ directory n over less. free directory n less) stay,
        subst (λ (fs : List Listed). TurnsNot paths header fs before.writer (suc before.active.seq) old new) (sym list)
            (next.path_id, error, subst (λ (p : List ℕ). RotationMakes before.writer header (FailsToCreate p) (λ made. Creates p made.file) error old new) (next_is before next header is_next) makes),
      )

  -- one that never began, as the file that was to be used wasn't opened
  pub stays_closed : (d : Disk) (before : PipeFiles) (kept : Listed) (rest : List Listed) (header : List ℕ) → before.recycled.items ≡ kept ∷ rest → (d.stopped ≡ true) ⊎ (d.names (path_of paths kept) ≡ None) → FailsToRotate F own paths header before d d
  stays_closed d before kept rest header list why base q is =
      let (kept_is, others, more) = subst (AllKept F paths before.first_seq d) list is.kept in
      let usable = kept_is.usable in
      let cause : Fails d d = elim why [ inl stops ↦ has_stopped stops | inr none ↦ (let named = kept_is.named in cc (none, named)) ] in (
        usable.file.content,
        subst (λ (fs : List Listed). IsStaleOfNext fs d usable.file.content) (sym list) (record { file = usable.file; is = usable.is; has = refl }),
        (cause, inl (open_left F own lawful.format lawful.owns base before.writer q (path_of paths before.active) d.names d is.active), λ m below none. none),
        span_whole base d before q is,
        subst (λ (fs : List Listed). TurnsNot paths header fs before.writer (suc before.active.seq) d d) (sym list) (inl (why, refl)),
      )

module _ {R : Type 0} (F : Format R) (own : List ℕ → Type 0) (paths : FilePaths) (lawful : IsLayout F own paths) where
  -- the same by what was lent to the calls
  pub same_files : (files : PipeFiles) → SameFiles files files
  same_files files = record { first = refl; earlier = refl; active = refl; writer = refl; recycled = refl }

  pub closed_leaves : (d : Disk) (before : PipeFiles) (kept : Listed) (path header : List ℕ) (error : Error) → path ≡ path_of paths kept → before.recycled.items ≡ kept ∷ drop 1 before.recycled.items → StaysClosed path d error
      → RotationLeaves F own paths header before before error d d
  closed_leaves d before kept path header errors.Memory is list why = (same_files before, refl)
  closed_leaves d before kept path header errors.Failed is list why =
      stays_closed F own paths lawful d before kept (drop 1 before.recycled.items) header list (subst (λ (p : List ℕ). (d.stopped ≡ true) ⊎ (d.names p ≡ None)) is why)
  closed_leaves d before kept path header _ is list why = absurd why

  pub over_refused : (old new : Disk) (before : PipeFiles) (kept next : Listed) (from to header lent : List ℕ) (handle : Handle) (kind : ErrorKind) → from ≡ path_of paths kept → to ≡ path_of paths next → lent ≡ header → before.recycled.items ≡ kept ∷ drop 1 before.recycled.items
      → IsOpened from ReadWrite handle old → IsNext next header before → next.path_id ≡ plain_place (length paths.directories) kept.path_id → FailsToRotateOver F own lent handle from to before.writer old new
      → RotationMakes before.writer lent (FailsToRename from to) (λ named. Renames from to) kind old new → FailsToRotate F own paths header before old new
  over_refused old new before kept next from to header lent handle kind from_is to_is header_is list opened is_next beside fails makes =
      stays_over F own paths lawful old new before kept next (drop 1 before.recycled.items) header handle before.writer refl list (subst (λ (p : List ℕ). IsOpened p ReadWrite handle old) from_is opened) is_next beside
      (subst (λ (h : List ℕ). FailsToRotateOver F own h handle (path_of paths kept) (path_of paths next) before.writer old new) header_is
      (subst (λ (p : List ℕ). FailsToRotateOver F own lent handle p (path_of paths next) before.writer old new) from_is
      (subst (λ (p : List ℕ). FailsToRotateOver F own lent handle from p before.writer old new) to_is fails)))
      (subst (λ (p : List ℕ). NamesStayBut p (path_of paths next) old new) from_is (subst (λ (p : List ℕ). NamesStayBut from p old new) to_is (over_names before.writer lent from to kind old new makes)))
      kind
      (subst (λ (h : List ℕ). RotationMakes before.writer h (FailsToRename (path_of paths kept) (path_of paths next)) (λ named. Renames (path_of paths kept) (path_of paths next)) kind old new) header_is
      (subst (λ (p : List ℕ). RotationMakes before.writer lent (FailsToRename p (path_of paths next)) (λ named. Renames p (path_of paths next)) kind old new) from_is
      (subst (λ (p : List ℕ). RotationMakes before.writer lent (FailsToRename from p) (λ named. Renames from p) kind old new) to_is makes)))

  pub over_done : (old new : Disk) (before after : PipeFiles) (kept next : Listed) (from to header lent : List ℕ) (handle : Handle) → IsSound old → IsSound new → from ≡ path_of paths kept → to ≡ path_of paths next → lent ≡ header
      → before.recycled.items ≡ kept ∷ drop 1 before.recycled.items → IsOpened from ReadWrite handle old → IsNext next header before → next.handle ≡ handle → IsTurnedTo next before after
      → RotatesOver F own lent handle from to before.writer after.writer old new → (old.names to ≡ None → FilesStay before.writer.handle.file handle.file old new)
      → RotatesBy before.writer lent (λ named. Renames from to) handle after.writer old new → Rotates F own paths header before after old new
  over_done old new before after kept next from to header lent handle sound sound_then from_is to_is header_is list opened is_next itself turns rotates files calls =
      goes_over F own paths lawful old new before after kept next (drop 1 before.recycled.items) header handle sound sound_then list (subst (λ (p : List ℕ). IsOpened p ReadWrite handle old) from_is opened) is_next itself turns
      (subst (λ (h : List ℕ). RotatesOver F own h handle (path_of paths kept) (path_of paths next) before.writer after.writer old new) header_is
      (subst (λ (p : List ℕ). RotatesOver F own lent handle p (path_of paths next) before.writer after.writer old new) from_is
      (subst (λ (p : List ℕ). RotatesOver F own lent handle from p before.writer after.writer old new) to_is rotates)))
      (λ fresh. files (ap old.names to_is ∙ fresh))
      (subst (λ (h : List ℕ). RotatesBy before.writer h (λ named. Renames (path_of paths kept) (path_of paths next)) handle after.writer old new) header_is
      (subst (λ (p : List ℕ). RotatesBy before.writer lent (λ named. Renames p (path_of paths next)) handle after.writer old new) from_is
      (subst (λ (p : List ℕ). RotatesBy before.writer lent (λ named. Renames from p) handle after.writer old new) to_is calls)))

  pub new_refused : (old new : Disk) (before : PipeFiles) (next : Listed) (to header lent : List ℕ) (kind : ErrorKind) → to ≡ path_of paths next → lent ≡ header → before.recycled.items ≡ [] → IsNext next header before
      → FailsToRotateToNew F own lent to before.writer old new → RotationMakes before.writer lent (FailsToCreate to) (λ handle. Creates to handle.file) kind old new → FailsToRotate F own paths header before old new
  new_refused old new before next to header lent kind to_is header_is list is_next fails makes =
      stays_new F own paths lawful old new before next header before.writer refl list is_next
      (subst (λ (h : List ℕ). FailsToRotateToNew F own h (path_of paths next) before.writer old new) header_is (subst (λ (p : List ℕ). FailsToRotateToNew F own lent p before.writer old new) to_is fails))
      (subst (λ (p : List ℕ). NamesStayBut p p old new) to_is (new_names before.writer lent to kind old new makes))
      kind
      (subst (λ (h : List ℕ). RotationMakes before.writer h (FailsToCreate (path_of paths next)) (λ made. Creates (path_of paths next) made.file) kind old new) header_is
      (subst (λ (p : List ℕ). RotationMakes before.writer lent (FailsToCreate p) (λ made. Creates p made.file) kind old new) to_is makes))

  pub new_done : (old new : Disk) (before after : PipeFiles) (next : Listed) (to header lent : List ℕ) (handle : Handle) → IsSound old → IsSound new → to ≡ path_of paths next → lent ≡ header → before.recycled.items ≡ [] → IsNext next header before
      → next.handle ≡ handle → IsTurnedTo next before after → RotatesToNew F own lent to before.writer after.writer handle old new → FilesStay before.writer.handle.file handle.file old new
      → RotatesBy before.writer lent (λ made. Creates to made.file) handle after.writer old new → Rotates F own paths header before after old new
  new_done old new before after next to header lent handle sound sound_then to_is header_is list is_next itself turns rotates files calls =
      goes_new F own paths lawful old new before after next header handle sound sound_then list is_next itself turns
      (subst (λ (h : List ℕ). RotatesToNew F own h (path_of paths next) before.writer after.writer handle old new) header_is (subst (λ (p : List ℕ). RotatesToNew F own lent p before.writer after.writer handle old new) to_is rotates)) files
      (subst (λ (h : List ℕ). RotatesBy before.writer h (λ made. Creates (path_of paths next) made.file) handle after.writer old new) header_is
      (subst (λ (p : List ℕ). RotatesBy before.writer lent (λ made. Creates p made.file) handle after.writer old new) to_is calls))

-- files that are listed alike stand alike
pub pipe_same : {R : Type 0} (F : Format R) (own : List ℕ → Type 0) (paths : FilePaths) (base : Disk) (before after : PipeFiles) (q : LogFiles R) (d : Disk) → SameFiles before after → IsPipe F own paths base before q d → IsPipe F own paths base after q d
pipe_same F own paths base before after q d same is = record {
  active = subst (λ (w : LogFileWriter). IsOpen F own base w q (path_of paths after.active) d.names d) (sym same.writer) (subst (λ (f : Listed). IsOpen F own base before.writer q (path_of paths f) d.names d) (sym same.active) is.active);
  number = ap (λ (f : Listed). f.seq) same.active ∙ is.number;
  listed = ap (λ (f : Listed). f.reserved) same.active ∙ is.listed;
  header = is.header ∙ ap (λ (f : Listed). header_bytes f.format) (sym same.active);
  handle = ap (λ (f : Listed). f.handle.file) same.active ∙ is.handle ∙ ap (λ (w : LogFileWriter). w.handle.file) (sym same.writer);
  span = subst (λ (n : ℕ). IsSpan paths d.names n after.earlier.items q.last) (sym same.first) (subst (λ (fs : List Listed). IsSpan paths d.names before.first_seq fs q.last) (sym same.earlier) is.span);
  kept = subst (λ (n : ℕ). AllKept F paths n d after.recycled.items) (sym same.first) (subst (AllKept F paths before.first_seq d) (sym same.recycled) is.kept);
}

pub turned_same : (format : LogFileFormat) (before like after : PipeFiles) → SameFiles before like → IsTurned format like after → IsTurned format before after
turned_same format before like after same turns = record {
  first = turns.first ∙ same.first;
  earlier = turns.earlier ∙ ap (λ (fs : List Listed). fs ++ like.active ∷ []) same.earlier ∙ ap (λ (f : Listed). before.earlier.items ++ f ∷ []) same.active;
  number = turns.number ∙ ap (λ (f : Listed). suc f.seq) same.active;
  format_is = turns.format_is;
  recycled = turns.recycled ∙ ap (drop 1) same.recycled;
}

pub same_then : (a b c : PipeFiles) → SameFiles a b → SameFiles b c → SameFiles a c
same_then a b c first next = record {
  first = next.first ∙ first.first;
  earlier = next.earlier ∙ first.earlier;
  active = next.active ∙ first.active;
  writer = next.writer ∙ first.writer;
  recycled = next.recycled ∙ first.recycled;
}

module _ {R : Type 0} (F : Format R) (own : List ℕ → Type 0) (paths : FilePaths) where
  pub leaves_same : (header : List ℕ) (before like after : PipeFiles) (error : Error) (old new : Disk) → SameFiles before like → RotationLeaves F own paths header like after error old new → RotationLeaves F own paths header before after error old new
  leaves_same header before like after errors.Memory old new same (then, is) = (same_then before like after same then, is)
  leaves_same header before like after errors.NumberRange old new same (out, then, is) = (
    λ base q pipe. (let past = out base q (pipe_same F own paths base before like q old same pipe) in let active = ap (λ (f : Listed). f.seq) same.active in omega (arith, past, active)),
    same_then before like after same then,
    is,
  )
  leaves_same header before like after errors.Failed old new same fails =
      λ base q pipe.
      (let (stale, holds, left, span, calls) = fails base q (pipe_same F own paths base before like q old same pipe) in (
        stale,
        subst (λ (fs : List Listed). IsStaleOfNext fs old stale) same.recycled holds,
        left,
        subst (λ (n : ℕ). IsSpan paths new.names n (before.earlier.items ++ before.active ∷ []) (suc q.last)) same.first
            (subst (λ (f : Listed). IsSpan paths new.names like.first_seq (before.earlier.items ++ f ∷ []) (suc q.last)) same.active
            (subst (λ (fs : List Listed). IsSpan paths new.names like.first_seq (fs ++ like.active ∷ []) (suc q.last)) same.earlier span)),
        subst (λ (f : Listed). TurnsNot paths header before.recycled.items before.writer (suc f.seq) old new) same.active
            (subst (λ (w : LogFileWriter). TurnsNot paths header before.recycled.items w (suc like.active.seq) old new) same.writer
            (subst (λ (fs : List Listed). TurnsNot paths header fs like.writer (suc like.active.seq) old new) same.recycled calls)),
      ))
  leaves_same header before like after _ old new same left = absurd left

  pub leaves_either : (result : Result (Unit {0}) Error) (header : List ℕ) (before like after : PipeFiles) (old new : Disk) → SameFiles before like → IfErr result (λ e. RotationLeaves F own paths header like after e old new)
      → IfErr result (λ e. RotationLeaves F own paths header before after e old new)
  leaves_either (Ok v) header before like after old new same is = tt
  leaves_either (Err e) header before like after old new same is = leaves_same header before like after e old new same is
