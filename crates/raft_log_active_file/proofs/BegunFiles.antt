-- A queue begins: its first file is made, and gets its header.
use Rattle.std.specs.Prelude.{Result, Err}
use Rattle.std.specs.Map.{update}
use Rattle.std.specs.Str.{bytes_eq}
use Rattle.std.specs.declared.io.ErrorKind.{ErrorKind}
use Rattle.std.proofs.Common.{◌≡◌, ℕ, ◌<◌, Some, List, [], sym, ◌∙◌, ap, subst, inl, inr, arith}
use Rattle.std.proofs.lemmas.Bool.{false≢true}
use Rattle.raft_log_fs.specs.Disk.{Disk}
use Rattle.raft_log_fs.specs.Causes.{IsLater}
use Rattle.raft_log_fs.specs.Image.{IsSound}
use Rattle.raft_log_fs.specs.Calls.{created, Creates, IsRight}
use Rattle.raft_log_fs.specs.Exits.{FailsToCreate}
use Rattle.raft_log_fs.specs.Arguments.{WrongCreate}
use Rattle.raft_log_file_writer.specs.LogFormat.{Format, IsFormat}
use Rattle.raft_log_file_writer.specs.LogQueue.{Past, LogFiles, IsAbsent}
use Rattle.raft_log_fs.specs.Touching.{TouchesOnly}
use Rattle.raft_log_fs.specs.declared.handle.Handle.{Handle}
use Rattle.raft_log_fs.specs.declared.handle.Permission.TheVariants.{ReadWrite}
use Rattle.raft_log_fs.proofs.Public.{calm_either, creation_leaves, fails_after, fails_whole, kept_create, IsCalm}
use Rattle.raft_log_file_writer.specs.declared.writer.LogFileWriter.{LogFileWriter}
use Rattle.raft_log_active_file.specs.Queue.{with_room}
use Rattle.raft_log_active_file.specs.States.{IsNew}
use Rattle.raft_log_active_file.specs.Standing.{Names, OwnsPaths, Stands}
use Rattle.raft_log_active_file.specs.Beginning.{fresh_queue}
use Rattle.raft_log_active_file.proofs.FileSteps.{new_holds}
use Rattle.raft_log_active_file.proofs.Standing.{stands_weaker}
use Rattle.raft_log_active_file.proofs.Beginning.{fresh_calm, stands_first}
use Rattle.raft_log_active_file.specs.Exits.{IsGiven, Begins, FailsToBegin}
use Rattle.raft_log_active_file.specs.Rotation.{StandsWithRecords}
use Rattle.raft_log_active_file.specs.Opening.{CanBegin, BeginsQueue, IsHalfBegun, FailsToBeginQueue}
use Rattle.raft_log_active_file.proofs.Writing.{no_room}
use Rattle.raft_log_active_file.proofs.Rotating.{left_calm}

module _ {R : Type 0} (F : Format R) (own : List ℕ → Type 0) (lawful : IsFormat F) (owns : OwnsPaths F own) (bound : 1 < F.limit) where
  absent_calm : IsCalm (IsAbsent F 0)
  absent_calm = record { at_count = λ d none. none; at_end = λ d none. none }

  half_calm : (base : Disk) (q : LogFiles R) → IsCalm (IsHalfBegun F own base q)
  half_calm base q = calm_either (fresh_calm F own base) (record {
    at_count = λ d (room, left). (room, (left_calm F own lawful owns base (with_room room q)).at_count d left);
    at_end = λ d (room, left). (room, (left_calm F own lawful owns base (with_room room q)).at_end d left);
  })

  -- no file has the number 0, before and after the first one is made
  none_below : (base : Disk) (header path : List ℕ) (d : Disk) → CanBegin F own base header path d → IsAbsent F 0 d
  none_below base header path d can = can.fresh.none 0 (omega (arith, bound))

  none_made : (base : Disk) (header path : List ℕ) (old : Disk) → IsSound old → CanBegin F own base header path old → IsAbsent F 0 (created path old)
  none_made base header path old sound can other at =
      let apart : other ≡ path → ⊥ = λ same. (let number : 0 ≡ 1 = lawful.paths 0 1 path (omega (arith, bound)) bound (subst (F.IsPath 0) same at) can.path_is in omega (arith, number)) in
      (creation_leaves old path sound).names other apart ∙ none_below base header path old can other at

  none_touched : (id : ℕ) (old new : Disk) → TouchesOnly id old new → IsAbsent F 0 old → IsAbsent F 0 new
  none_touched id old new only none path at = ap (λ (f : Names). f path) only.names ∙ none path at

  -- It is made.

  made_stands : (base : Disk) (older : ℕ → Past R) (header path : List ℕ) (old : Disk) → IsSound old → CanBegin F own base header path old
      → Stands F own base (fresh_queue older header) path old.unused (IsNew F (fresh_queue older header)) (update bytes_eq old.names path (Some old.unused)) (created path old)
  made_stands base older header path old sound can = stands_first F own base lawful owns older header path old sound bound can.header_is can.path_is can.fresh

  given_first : (base : Disk) (older : ℕ → Past R) (header path : List ℕ) (handle : Handle) (old made : Disk) → IsSound old → CanBegin F own base header path old → Creates path handle.file old made
      → handle.permission ≡ ReadWrite → IsGiven F own base handle (fresh_queue older header) path (update bytes_eq old.names path (Some handle.file)) made
  given_first base older header path handle old made sound can creates permitted =
      let q = fresh_queue older header in (
        permitted,
        subst (λ (d : Disk). Stands F own base q path handle.file (IsNew F q) (update bytes_eq old.names path (Some handle.file)) d) (sym creates.done)
            (subst (λ (id : ℕ). Stands F own base q path id (IsNew F q) (update bytes_eq old.names path (Some id)) (created path old)) (sym creates.number) (made_stands base older header path old sound can)),
      )

  new_left : (base : Disk) (older : ℕ → Past R) (header path : List ℕ) (id : ℕ) (N : Names) (d : Disk) → Stands F own base (fresh_queue older header) path id (IsNew F (fresh_queue older header)) N d
      → (room : ℕ) × StandsWithRecords F own base (with_room room (fresh_queue older header)) d
  new_left base older header path id N d s =
      let q = fresh_queue older header in (
        0,
        subst (λ (p : LogFiles R). StandsWithRecords F own base p d) (sym (no_room F q)) (record {
          path = path;
          id = id;
          N = N;
          stands = stands_weaker F own base q path id (IsNew F q) _ N d (λ file was. new_holds F header [] q file was) s;
        }),
      )

  right_path : (base : Disk) (header path : List ℕ) (old : Disk) → CanBegin F own base header path old → IsRight (WrongCreate path old)
  right_path base header path old can error (inl (exists, inl named)) = named (can.fresh.none 1 bound path can.path_is)
  right_path base header path old can error (inl (exists, inr directory)) = false≢true (sym (can.fresh.places 1 path bound can.path_is).apart ∙ directory)
  right_path base header path old can error (inr (missing, homeless)) = homeless (can.fresh.places 1 path bound can.path_is).home

  pub first_not_made : (header path : List ℕ) (error : ErrorKind) (old new : Disk) → IsSound old → FailsToCreate path error old new → FailsToBeginQueue F own header path old new
  first_not_made header path error old new sound fails base older can =
      let q = fresh_queue older header in
      let Q : Disk → Type 0 = λ d. IsHalfBegun F own base q d × IsAbsent F 0 d in
      let calm : IsCalm Q = record {
        at_count = λ {error} d (half, none). ((half_calm base q).at_count {error = error} d half, absent_calm.at_count {error = error} d none);
        at_end = λ d (half, none). ((half_calm base q).at_end d half, absent_calm.at_end d none);
      } in
      let refused : Result ℕ ErrorKind = Err error in
      let (left, none) = kept_create Q (λ n. n) (WrongCreate path old) refused path calm (inl can.fresh, none_below base header path old can)
      (λ free apart home. (inr (new_left base older header path old.unused (update bytes_eq old.names path (Some old.unused)) (created path old) (made_stands base older header path old sound can)), none_made base header path old sound can)) tt fails in
      (fails_whole (right_path base header path old can) fails, left, none)

  -- It gets its header, or not.

  pub begins_queue : (header path : List ℕ) (handle : Handle) (writer : LogFileWriter) (old made new : Disk) → IsSound old → Creates path handle.file old made → handle.permission ≡ ReadWrite
      → Begins F own handle header writer made new → TouchesOnly handle.file made new → BeginsQueue F own header path handle writer old new
  begins_queue header path handle writer old made new sound creates permitted begin only base older can =
      let (room, is) = begin base (fresh_queue older header) [] path (update bytes_eq old.names path (Some handle.file)) (given_first base older header path handle old made sound can creates permitted) in
      (permitted, room, is, none_touched handle.file made new only (subst (IsAbsent F 0) (sym creates.done) (none_made base header path old sound can)))

  pub first_not_begun : (header path : List ℕ) (handle : Handle) (old made new : Disk) → IsSound old → Creates path handle.file old made → handle.permission ≡ ReadWrite
      → FailsToBegin F own handle header made new → TouchesOnly handle.file made new → FailsToBeginQueue F own header path old new
  first_not_begun header path handle old made new sound creates permitted fails only base older can =
      let N : Names = update bytes_eq old.names path (Some handle.file) in
      let (cause, (room, held)) = fails base (fresh_queue older header) [] path N (given_first base older header path handle old made sound can creates permitted) in
      let later : IsLater old made = record {
        failures = omega (arith, ap (λ (d : Disk). d.failures) creates.done);
        stopped = λ stops. ap (λ (d : Disk). d.stopped) creates.done ∙ stops;
      } in (
        fails_after old made new later cause,
        inr (room, record { path = path; id = handle.file; N = N; stands = held }),
        none_touched handle.file made new only (subst (IsAbsent F 0) (sym creates.done) (none_made base header path old sound can)),
      )
