-- What a writer's calls leave, from which calls were made.
use Rattle.std.specs.Prelude.{◌≡◌, ℕ, ◌+◌, ◌-◌, ◌<◌, ◌≤◌, ◌++◌, Some, List, [], ◌∷◌, ◌^◌, length, take, Result, Ok, Err}
use Rattle.std.specs.Result.{OnOk, OnErr, IfErr}
use Rattle.std.specs.declared.io.ErrorKind.{ErrorKind}
use Rattle.std.proofs.Common.{refl, sym, ◌∙◌, ap, subst, arith, inl, inr, min, length-append}
use Rattle.std.proofs.lemmas.List.{append-nil, nil_from_length, get_or_push}
use Rattle.raft_log_fs.proofs.Public.{fails_after, fails_change, fails_whole, file_here, has_changed, has_done, has_synced, has_weaker, later_change, later_same, touches_change, touches_same, touches_then}
use Rattle.std.proofs.lemmas.Bool.{lt-ltb, le-ltb}
use Rattle.std.proofs.Math.Nat.{le-max_left}
use Rattle.raft_log_fs.specs.Disk.{Change, Wrote, ShortenedTo, GrewTo, File, Disk, at_rest, file_limit}
use Rattle.raft_log_fs.specs.Image.{IsSound, IsSoundFile, end_of}
use Rattle.raft_log_fs.specs.Calls.{IsRight, with_change, after_change, flushed, InPart, IsTorn, Changes, RefusedWhole}
use Rattle.raft_log_fs.specs.Causes.{Fails, IsLater}
use Rattle.raft_log_fs.specs.Arguments.{WrongWriter, WrongHandle}
use Rattle.raft_log_fs.specs.Exits.{Writes, FailsToWrite, FailsToSync, Syncs, Grows, FailsToGrow}
use Rattle.raft_log_fs.specs.Touching.{HasFile, TouchesOnly}
use Rattle.raft_log_fs.specs.declared.handle.Handle.{Handle}
use Rattle.raft_log_fs.specs.declared.handle.Permission.TheVariants.{ReadWrite}
use Rattle.raft_log_file_writer.specs.declared.writer.LogFileWriter.{LogFileWriter}
use Rattle.raft_log_file_writer.specs.Writer.{IsWritten, AreItsBytes, IsClosed, IsDurable, IsSynced, DurableStays, KeepsWritten, IsWriterAt, allocated, reach, MakesRoom, is_there, is_allocated, is_refused, WritesAtPlace, FailsToWriteAt, WritesNext, FailsToWriteNext, CutsBehind, ends_there, is_cut, FailsToCutBehind, FailsToClose, not_synced}
use Rattle.raft_log_file_writer.proofs.Fronts.{IsFront, front_later, front_grown, front_torn, front_written, cut_whole, front_whole, front_cut, durable_grown, durable_behind, durable_cut, durable_all, durable_flushed}

-- Where the file ends at the latest.

pub reach_far : (capacity end target : ℕ) → capacity < end → reach capacity end target ≡ capacity + allocated capacity end target
reach_far capacity end target far = rw (lt-ltb capacity end far) refl

pub reach_near : (capacity end target : ℕ) → end ≤ capacity → reach capacity end target ≡ capacity
reach_near capacity end target near = rw (le-ltb capacity end near) refl

allocated_room : (capacity end target : ℕ) → capacity < end → end ≤ capacity + allocated capacity end target
allocated_room capacity end target far = omega (arith, far, le-max_left (end - capacity) (min 2097152 (target - capacity)))

-- What a writer says, and a predicate on its file.

pub written_front : (writer : LogFileWriter) (bytes : List ℕ) (d : Disk) → IsWritten writer bytes d → HasFile writer.handle.file (IsFront bytes writer.capacity) d
written_front writer bytes d is = record { file = is.file; is = is.is; has = record { behind = is.behind; content = is.content; ends = is.end } }

-- a writer with this handle, that counts on these numbers
pub front_at : (writer : LogFileWriter) (handle : Handle) (written capacity : ℕ) (bytes : List ℕ) (d : Disk) → IsWriterAt writer handle written capacity → handle.permission ≡ ReadWrite → written ≡ length bytes
    → HasFile handle.file (IsFront bytes capacity) d → IsWritten writer bytes d
front_at writer handle written capacity bytes d at permitted offset has = record {
  permitted = ap (λ (h : Handle). h.permission) at.handle_is ∙ permitted;
  offset = at.written_is ∙ offset;
  file = has.file;
  is = ap (λ (h : Handle). d.files h.file) at.handle_is ∙ has.is;
  behind = has.has.behind;
  content = has.has.content;
  end = subst (λ (n : ℕ). length has.file.content ≤ n) (sym at.capacity_is) has.has.ends;
}

-- the arguments of a writer's calls are right
right_writer : (handle : Handle) (P : File → Type 0) (d : Disk) → handle.permission ≡ ReadWrite → HasFile handle.file P d → IsRight (WrongWriter handle d)
right_writer handle P d permitted has kind (inl (why, none)) = let here = has.is in cc
right_writer handle P d permitted has kind (inr (why, only)) = let both = permitted in cc

right_handle : (handle : Handle) (P : File → Type 0) (d : Disk) → HasFile handle.file P d → IsRight (WrongHandle handle d)
right_handle handle P d has kind (why, none) = let here = has.is in cc

-- Making room.

module _ (handle : Handle) (capacity end target : ℕ) (old new : Disk) where
  -- what holds of the file, where a growth keeps it
  pub room_keeps : (P Q : File → Type 0) → ((file : File) → P file → Q file)
      → ((file : File) (content : List ℕ) → capacity < end → P file → InPart (GrewTo (capacity + allocated capacity end target)) file.content content → Q (with_change (GrewTo (capacity + allocated capacity end target)) content file))
      → MakesRoom handle capacity end target old new → HasFile handle.file P old → HasFile handle.file Q new
  room_keeps P Q weaker step (is_there near same) has = subst (HasFile handle.file Q) (sym same) (has_weaker handle.file P Q old weaker has)
  room_keeps P Q weaker step (is_allocated far grows) has =
      has_changed {T = Unit {0}} P Q (WrongWriter handle old) (Ok tt) handle.file (GrewTo (capacity + allocated capacity end target)) has weaker (λ file content has_it part. step file content far has_it part) grows tt
  room_keeps P Q weaker step (is_refused far error fails) has =
      has_changed {T = Unit {0}} P Q (WrongWriter handle old) (Err error) handle.file (GrewTo (capacity + allocated capacity end target)) has weaker (λ file content has_it part. step file content far has_it part) tt fails

  pub room_later : MakesRoom handle capacity end target old new → IsLater old new
  room_later (is_there near same) = subst (IsLater old) (sym same) (later_same old)
  room_later (is_allocated far grows) = later_change {T = Unit {0}} (WrongWriter handle old) (Ok tt) handle.file (GrewTo (capacity + allocated capacity end target)) grows tt
  room_later (is_refused far error fails) = later_change {T = Unit {0}} (WrongWriter handle old) (Err error) handle.file (GrewTo (capacity + allocated capacity end target)) tt fails

  pub room_touches : MakesRoom handle capacity end target old new → TouchesOnly handle.file old new
  room_touches (is_there near same) = subst (TouchesOnly handle.file old) (sym same) (touches_same handle.file old)
  room_touches (is_allocated far grows) = touches_change {T = Unit {0}} (WrongWriter handle old) (Ok tt) handle.file (GrewTo (capacity + allocated capacity end target)) grows tt
  room_touches (is_refused far error fails) = touches_change {T = Unit {0}} (WrongWriter handle old) (Err error) handle.file (GrewTo (capacity + allocated capacity end target)) tt fails

  -- the bytes at the front stand, and the file ends within reach
  pub room_front : (front : List ℕ) → MakesRoom handle capacity end target old new → HasFile handle.file (IsFront front capacity) old → HasFile handle.file (IsFront front (reach capacity end target)) new
  room_front front (is_there near same) has =
      room_keeps (IsFront front capacity) (IsFront front (reach capacity end target)) (λ file is. front_later front capacity (reach capacity end target) file (omega (arith, reach_near capacity end target near)) is)
      (λ file content far is part. absurd (omega (arith, far, near))) (is_there near same) has
  room_front front (is_allocated far grows) has = room_keeps _ _ (longer far) grown_far (is_allocated far grows) has
    where
      longer : capacity < end → (file : File) → IsFront front capacity file → IsFront front (reach capacity end target) file
      longer far file is = front_later front capacity (reach capacity end target) file (omega (arith, reach_far capacity end target far)) is

      grown_far : (file : File) (content : List ℕ) → capacity < end → IsFront front capacity file → InPart (GrewTo (capacity + allocated capacity end target)) file.content content
          → IsFront front (reach capacity end target) (with_change (GrewTo (capacity + allocated capacity end target)) content file)
      grown_far file content far is part =
          front_later front (capacity + allocated capacity end target) (reach capacity end target) _ (omega (arith, reach_far capacity end target far)) (front_grown front capacity (capacity + allocated capacity end target) file content (omega arith) is part)
  room_front front (is_refused far error fails) has = room_keeps _ _ (longer far) grown_far (is_refused far error fails) has
    where
      longer : capacity < end → (file : File) → IsFront front capacity file → IsFront front (reach capacity end target) file
      longer far file is = front_later front capacity (reach capacity end target) file (omega (arith, reach_far capacity end target far)) is

      grown_far : (file : File) (content : List ℕ) → capacity < end → IsFront front capacity file → InPart (GrewTo (capacity + allocated capacity end target)) file.content content
          → IsFront front (reach capacity end target) (with_change (GrewTo (capacity + allocated capacity end target)) content file)
      grown_far file content far is part =
          front_later front (capacity + allocated capacity end target) (reach capacity end target) _ (omega (arith, reach_far capacity end target far)) (front_grown front capacity (capacity + allocated capacity end target) file content (omega arith) is part)

  pub room_end : MakesRoom handle capacity end target old new → end ≤ reach capacity end target
  room_end (is_there near same) = omega (arith, reach_near capacity end target near, near)
  room_end (is_allocated far grows) = omega (arith, reach_far capacity end target far, allocated_room capacity end target far)
  room_end (is_refused far error fails) = omega (arith, reach_far capacity end target far, allocated_room capacity end target far)

  pub room_durable : (bytes : List ℕ) → MakesRoom handle capacity end target old new → HasFile handle.file (IsDurable bytes) old → HasFile handle.file (IsDurable bytes) new
  room_durable bytes room has = room_keeps (IsDurable bytes) (IsDurable bytes) (λ file is. is)
      (λ file content far is part. durable_grown bytes (capacity + allocated capacity end target) content file is) room has

  -- an allocation that was tried, answered or refused
  pub room_made : {T : Type 0} (result : Result T ErrorKind) (size : ℕ) → capacity < end → size ≡ allocated capacity end target → OnOk result (Grows handle (capacity + size) old new)
      → IfErr result (λ error. FailsToGrow handle (capacity + size) error old new) → MakesRoom handle capacity end target old new
  room_made (Ok v) size far is ok err = is_allocated far (subst (λ (n : ℕ). Grows handle (capacity + n) old new) is ok)
  room_made (Err error) size far is ok err = is_refused far error (subst (λ (n : ℕ). FailsToGrow handle (capacity + n) error old new) is err)

-- Writing.

module _ (handle : Handle) (at capacity : ℕ) (bytes : List ℕ) (target : ℕ) (old new : Disk) where
  -- bytes written behind those at the front stand there
  pub front_next : (front : List ℕ) → at ≡ length front → WritesAtPlace handle at capacity bytes target old new → HasFile handle.file (IsFront front capacity) old
      → HasFile handle.file (IsFront (front ++ bytes) (reach capacity (at + length bytes) target)) new
  front_next front offset calls has =
      let end = at + length bytes in
      let roomy = room_front handle capacity end target old calls.between front calls.room has in
      has_done handle.file (IsFront front (reach capacity end target)) (IsFront (front ++ bytes) (reach capacity end target)) (after_change (Wrote at bytes)) calls.between new roomy calls.writes
      (λ file is. subst (λ (n : ℕ). IsFront (front ++ bytes) (reach capacity end target) (after_change (Wrote n bytes) file)) (sym offset)
      (front_written front bytes (reach capacity end target) file (omega (arith, offset, room_end handle capacity end target old calls.between calls.room)) is))

  pub durable_next : (durable : List ℕ) → length durable ≤ at → WritesAtPlace handle at capacity bytes target old new → HasFile handle.file (IsDurable durable) old → HasFile handle.file (IsDurable durable) new
  durable_next durable within calls has =
      let roomy = room_durable handle capacity (at + length bytes) target old calls.between durable calls.room has in
      has_done handle.file (IsDurable durable) (IsDurable durable) (after_change (Wrote at bytes)) calls.between new roomy calls.writes (λ file is. durable_behind durable at bytes _ file within is)

  module _ (error : ErrorKind) where
    -- refused, the bytes at the front stand, and the file ends within reach
    pub front_refused : (front : List ℕ) → at ≡ length front → FailsToWriteAt handle at capacity bytes target error old new → HasFile handle.file (IsFront front capacity) old
        → HasFile handle.file (IsFront front (reach capacity (at + length bytes) target)) new
    front_refused front offset calls has =
        let end = at + length bytes in
        let most = reach capacity end target in
        let roomy = room_front handle capacity end target old calls.between front calls.room has in
        let fits : length front + length bytes ≤ most = omega (arith, offset, room_end handle capacity end target old calls.between calls.room) in
        has_changed {T = Unit {0}} (IsFront front most) (IsFront front most) (WrongWriter handle calls.between) (Err error) handle.file (Wrote at bytes) roomy (λ file is. is)
        (λ file content is part. subst (λ (n : ℕ). IsTorn n bytes file.content content → IsFront front most (with_change (Wrote n bytes) content file)) (sym offset)
        (λ torn. front_torn front bytes most file content fits is torn) part) tt calls.fails

    pub durable_refused : (durable : List ℕ) → length durable ≤ at → FailsToWriteAt handle at capacity bytes target error old new → HasFile handle.file (IsDurable durable) old → HasFile handle.file (IsDurable durable) new
    durable_refused durable within calls has =
        let roomy = room_durable handle capacity (at + length bytes) target old calls.between durable calls.room has in
        has_changed {T = Unit {0}} (IsDurable durable) (IsDurable durable) (WrongWriter handle calls.between) (Err error) handle.file (Wrote at bytes) roomy (λ file is. is)
        (λ file content is part. durable_behind durable at bytes content file within is) tt calls.fails

    -- and it has failed
    pub fails_refused : (front : List ℕ) → handle.permission ≡ ReadWrite → FailsToWriteAt handle at capacity bytes target error old new → HasFile handle.file (IsFront front capacity) old → Fails old new
    fails_refused front permitted calls has =
        let end = at + length bytes in
        let roomy = room_front handle capacity end target old calls.between front calls.room has in
        fails_after old calls.between new (room_later handle capacity end target old calls.between calls.room)
        (fails_change (right_writer handle (IsFront front (reach capacity end target)) calls.between permitted roomy) calls.fails)

    pub touches_refused : FailsToWriteAt handle at capacity bytes target error old new → TouchesOnly handle.file old new
    touches_refused calls =
        touches_then handle.file old calls.between new (room_touches handle capacity (at + length bytes) target old calls.between calls.room)
        (touches_change {T = Unit {0}} (WrongWriter handle calls.between) (Err error) handle.file (Wrote at bytes) tt calls.fails)

  pub touches_next : WritesAtPlace handle at capacity bytes target old new → TouchesOnly handle.file old new
  touches_next calls =
      touches_then handle.file old calls.between new (room_touches handle capacity (at + length bytes) target old calls.between calls.room)
      (touches_change {T = Unit {0}} (WrongWriter handle calls.between) (Ok tt) handle.file (Wrote at bytes) calls.writes tt)

-- A writer's next bytes.
module _ (before after : LogFileWriter) (bytes : List ℕ) (target : ℕ) (old new : Disk) where
  pub next_written : WritesNext before after bytes target old new → (front : List ℕ) → IsWritten before front old → IsWritten after (front ++ bytes) new
  next_written next front is =
      let end = before.written + length bytes in
      front_at after before.handle end (reach before.capacity end target) (front ++ bytes) new next.moved is.permitted (omega (arith, is.offset, length-append front bytes))
      (front_next before.handle before.written before.capacity bytes target old new front is.offset next.calls (written_front before front old is))

  module _ (error : ErrorKind) where
    pub refused_kept : FailsToWriteNext before after bytes target error old new → KeepsWritten before after old new
    refused_kept next front is =
        let end = before.written + length bytes in
        let has = written_front before front old is in (
          front_at after before.handle before.written (reach before.capacity end target) front new next.stays is.permitted is.offset
              (front_refused before.handle before.written before.capacity bytes target old new error front is.offset next.calls has),
          fails_refused before.handle before.written before.capacity bytes target old new error front is.permitted next.calls has,
        )

    pub refused_durable : FailsToWriteNext before after bytes target error old new → DurableStays before old new
    refused_durable next durable within has = durable_refused before.handle before.written before.capacity bytes target old new error durable within next.calls has

    -- a refused write, after room was made
    pub refused_next : (between : Disk) → MakesRoom before.handle before.capacity (before.written + length bytes) target old between
        → IsWriterAt after before.handle before.written (reach before.capacity (before.written + length bytes) target) → FailsToWrite after.handle after.written bytes error between new
        → FailsToWriteNext before after bytes target error old new
    refused_next between room at fails = record {
      calls = record {
        between = between;
        room = room;
        fails = subst (λ (n : ℕ). FailsToWrite before.handle n bytes error between new) at.written_is (subst (λ (h : Handle). FailsToWrite h after.written bytes error between new) at.handle_is fails);
      };
      stays = at;
    }

-- an answered one
pub written_at : (handle : Handle) (at capacity : ℕ) (bytes : List ℕ) (target : ℕ) (old new between : Disk) (middle : LogFileWriter) (end : ℕ) → MakesRoom handle capacity (at + length bytes) target old between
    → IsWriterAt middle handle at end → Writes middle.handle middle.written bytes between new → WritesAtPlace handle at capacity bytes target old new
written_at handle at capacity bytes target old new between middle end room stays writes = record {
  between = between;
  room = room;
  writes = subst (λ (n : ℕ). Writes handle n bytes between new) stays.written_is (subst (λ (h : Handle). Writes h middle.written bytes between new) stays.handle_is writes);
}

pub written_next : (before middle after : LogFileWriter) (bytes : List ℕ) (target : ℕ) (old new between : Disk) → MakesRoom before.handle before.capacity (before.written + length bytes) target old between
    → IsWriterAt middle before.handle before.written (reach before.capacity (before.written + length bytes) target)
    → IsWriterAt after middle.handle (middle.written + length bytes) middle.capacity → Writes middle.handle middle.written bytes between new → WritesNext before after bytes target old new
written_next before middle after bytes target old new between room at moved writes = record {
  calls = written_at before.handle before.written before.capacity bytes target old new between middle (reach before.capacity (before.written + length bytes) target) room at writes;
  moved = record {
    handle_is = moved.handle_is ∙ at.handle_is;
    written_is = moved.written_is ∙ ap (λ (n : ℕ). n + length bytes) at.written_is;
    capacity_is = moved.capacity_is ∙ at.capacity_is;
  };
}

-- Cutting.
module _ (before after : LogFileWriter) (old new : Disk) where
  pub cut_written : CutsBehind before after old new → (bytes : List ℕ) → IsWritten before bytes old → AreItsBytes after bytes new
  cut_written (ends_there near same unchanged) bytes is =
      let none : length is.behind ≡ 0 = omega (arith, near, is.end, is.offset, ap length is.content, length-append bytes is.behind) in
      let whole : is.file.content ≡ bytes = is.content ∙ ap (λ (b : List ℕ). bytes ++ b) (nil_from_length is.behind none) ∙ append-nil bytes in
      subst (λ (d : Disk). AreItsBytes after bytes d) (sym unchanged) (subst (λ (w : LogFileWriter). AreItsBytes w bytes old) (sym same) (is, record { file = is.file; is = is.is; has = whole }))
  cut_written (is_cut far shortens at) bytes is =
      let has = written_front before bytes old is in
      let cut : HasFile before.handle.file (λ file. file.content ≡ bytes) new = has_done before.handle.file (IsFront bytes before.capacity) (λ file. file.content ≡ bytes) (after_change (ShortenedTo before.written)) old new has shortens
      (λ file front. ap (λ (n : ℕ). take n file.content) is.offset ∙ cut_whole bytes before.capacity file front) in
      let whole : HasFile before.handle.file (IsFront bytes before.written) new = has_weaker before.handle.file (λ file. file.content ≡ bytes) (IsFront bytes before.written) new
      (λ file same. front_later bytes (length bytes) before.written file (omega (arith, is.offset)) (front_whole bytes file same)) cut in (
        front_at after before.handle before.written before.written bytes new at is.permitted is.offset whole,
        subst (λ (h : Handle). HasFile h.file (λ file. file.content ≡ bytes) new) (sym at.handle_is) cut,
      )

  pub cut_durable : CutsBehind before after old new → DurableStays before old new
  cut_durable (ends_there near same unchanged) durable within has = subst (HasFile before.handle.file (IsDurable durable)) (sym unchanged) has
  cut_durable (is_cut far shortens at) durable within has = has_done before.handle.file (IsDurable durable) (IsDurable durable) (after_change (ShortenedTo before.written)) old new has shortens
      (λ file is. durable_cut durable before.written _ file within is)

  pub cut_later : CutsBehind before after old new → IsLater old new
  cut_later (ends_there near same unchanged) = subst (IsLater old) (sym unchanged) (later_same old)
  cut_later (is_cut far shortens at) = later_change {T = Unit {0}} (WrongWriter before.handle old) (Ok tt) before.handle.file (ShortenedTo before.written) shortens tt

  pub cut_touches : CutsBehind before after old new → TouchesOnly before.handle.file old new
  cut_touches (ends_there near same unchanged) = subst (TouchesOnly before.handle.file old) (sym unchanged) (touches_same before.handle.file old)
  cut_touches (is_cut far shortens at) = touches_change {T = Unit {0}} (WrongWriter before.handle old) (Ok tt) before.handle.file (ShortenedTo before.written) shortens tt

  pub cut_handle : CutsBehind before after old new → after.handle ≡ before.handle
  cut_handle (ends_there near same unchanged) = ap (λ (w : LogFileWriter). w.handle) same
  cut_handle (is_cut far shortens at) = at.handle_is

  module _ (error : ErrorKind) where
    pub uncut_kept : FailsToCutBehind before after error old new → KeepsWritten before after old new
    uncut_kept fails bytes is =
        let has = written_front before bytes old is in
        let part = has_changed {T = Unit {0}} (IsFront bytes before.capacity) (IsFront bytes before.capacity) (WrongWriter before.handle old) (Err error) before.handle.file (ShortenedTo before.written) has (λ file front. front)
        (λ file content front part. subst (λ (n : ℕ). InPart (ShortenedTo n) file.content content → IsFront bytes before.capacity (with_change (ShortenedTo n) content file)) (sym is.offset)
        (λ some. front_cut bytes before.capacity file content front some) part) tt fails.fails in (
          front_at after before.handle before.written before.capacity bytes new
              (record { handle_is = ap (λ (w : LogFileWriter). w.handle) fails.same; written_is = ap (λ (w : LogFileWriter). w.written) fails.same; capacity_is = ap (λ (w : LogFileWriter). w.capacity) fails.same })
              is.permitted is.offset part,
          fails_change (right_writer before.handle (IsFront bytes before.capacity) old is.permitted has) fails.fails,
        )

    pub uncut_durable : FailsToCutBehind before after error old new → DurableStays before old new
    uncut_durable fails durable within has = has_changed {T = Unit {0}} (IsDurable durable) (IsDurable durable) (WrongWriter before.handle old) (Err error) before.handle.file (ShortenedTo before.written) has (λ file is. is)
        (λ file content is part. durable_cut durable before.written content file within is) tt fails.fails

-- Syncing.
module _ (writer : LogFileWriter) (old new : Disk) where
  pub sync_written : Syncs writer.handle old new → (bytes : List ℕ) → IsWritten writer bytes old → IsSynced writer bytes new
  sync_written syncs bytes is =
      let has = written_front writer bytes old is in
      let front = has_done writer.handle.file (IsFront bytes writer.capacity) (IsFront bytes writer.capacity) flushed old new has syncs (λ file front. record { behind = front.behind; content = front.content; ends = front.ends }) in (
        front_at writer writer.handle writer.written writer.capacity bytes new (record { handle_is = refl; written_is = refl; capacity_is = refl }) is.permitted is.offset front,
        has_done writer.handle.file (IsFront bytes writer.capacity) (IsDurable bytes) flushed old new has syncs (λ file front. durable_all bytes writer.capacity file front),
      )

  -- a sync, answered or refused
  pub sync_durable : {T : Type 0} (wrong : ErrorKind → Type 0) (result : Result T ErrorKind) → IsSound old → OnOk result (Changes writer.handle.file flushed old new)
      → IfErr result (λ error. RefusedWhole (Changes writer.handle.file flushed old) wrong error old new) → DurableStays writer old new
  sync_durable wrong result sound ok err durable within has =
      has_weaker writer.handle.file (λ file. IsDurable durable file) (IsDurable durable) new (λ file is. is)
      (has_synced (λ file. IsDurable durable file × IsSoundFile file) (IsDurable durable) wrong result writer.handle.file
      (record { file = has.file; is = has.is; has = (has.has, sound.files writer.handle.file has.file has.is) }) (λ file is. is.0) (λ file is. durable_flushed durable file is.1 is.0) ok err)

  pub unsynced_kept : (error : ErrorKind) → FailsToSync writer.handle error old new → KeepsWritten writer writer old new
  unsynced_kept error fails bytes is =
      let has = written_front writer bytes old is in
      let front = has_synced {T = Unit {0}} (IsFront bytes writer.capacity) (IsFront bytes writer.capacity) (WrongHandle writer.handle old) (Err error) writer.handle.file has (λ file front. front)
      (λ file front. record { behind = front.behind; content = front.content; ends = front.ends }) tt fails in (
        front_at writer writer.handle writer.written writer.capacity bytes new (record { handle_is = refl; written_is = refl; capacity_is = refl }) is.permitted is.offset front,
        fails_whole (right_handle writer.handle (IsFront bytes writer.capacity) old has) fails,
      )

  pub unsynced : {T : Type 0} (result : Result T ErrorKind) → IfErr result (λ error. FailsToSync writer.handle error old new) → OnErr result (KeepsWritten writer writer old new)
  unsynced (Ok v) fails = tt
  unsynced (Err error) fails = unsynced_kept error fails

  -- of a file that is just these bytes
  pub sync_rests : Syncs writer.handle old new → (bytes : List ℕ) → HasFile writer.handle.file (λ file. file.content ≡ bytes) old → new.files writer.handle.file ≡ Some (at_rest bytes)
  sync_rests syncs bytes has =
      let rests = has_done writer.handle.file (λ file. file.content ≡ bytes) (λ file. file ≡ at_rest bytes) flushed old new has syncs (λ file is. ap at_rest is) in
      rests.is ∙ ap Some rests.has

-- an answered write ends below the limit of files
pub written_short : (handle : Handle) (at : ℕ) (bytes : List ℕ) (old new : Disk) → IsSound new → Writes handle at bytes old new → at + length bytes < 2 ^ 63
written_short handle at bytes old new sound writes =
    let last = after_change (Wrote at bytes) writes.file in
    let here : new.files handle.file ≡ Some last = ap (λ (d : Disk). d.files handle.file) writes.done ∙ file_here old.files handle.file (Some last) in
    let ends = (sound.files handle.file last here).ends in
    let n = length writes.file.changes in
    let some : n < length last.changes = omega (arith, length-append writes.file.changes (Wrote at bytes ∷ [])) in
    let end = ends n (Wrote at bytes) some in
    let same = get_or_push writes.file.changes (Wrote at bytes) (Wrote at bytes) n refl in
    subst (λ (c : Change). end_of c < file_limit) same end

-- Closing: a cut, and then a sync.
module _ (before middle : LogFileWriter) (old between new : Disk) (cuts : CutsBehind before middle old between) where
  same_handle : middle.handle ≡ before.handle
  same_handle = cut_handle before middle old between cuts

  pub not_closed : {T : Type 0} (result : Result T ErrorKind) → IfErr result (λ error. FailsToSync middle.handle error between new) → IfErr result (λ error. FailsToClose before middle error old new)
  not_closed (Ok v) fails = tt
  not_closed (Err error) fails = not_synced between cuts (subst (λ (h : Handle). FailsToSync h error between new) same_handle fails)

  pub close_written : {T : Type 0} (result : Result T ErrorKind) → OnOk result (Syncs middle.handle between new) → OnOk result ((bytes : List ℕ) → IsWritten before bytes old → IsClosed middle bytes new)
  close_written (Ok v) syncs = λ bytes is.
      let whole = cut_written before middle old between cuts bytes is in
      ((sync_written middle between new syncs bytes whole.0).0, sync_rests middle between new syncs bytes whole.1)
  close_written (Err error) syncs = tt

  pub unclosed_kept : {T : Type 0} (result : Result T ErrorKind) → IfErr result (λ error. FailsToSync middle.handle error between new) → OnErr result (KeepsWritten before middle old new)
  unclosed_kept (Ok v) fails = tt
  unclosed_kept (Err error) fails = λ bytes is.
      let whole = cut_written before middle old between cuts bytes is in
      let kept = unsynced_kept middle between new error fails bytes whole.0 in
      (kept.0, fails_after old between new (cut_later before middle old between cuts) kept.1)
