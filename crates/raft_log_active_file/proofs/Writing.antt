-- What the writer's calls make of the last file of a queue.
use Rattle.std.specs.Prelude.{Result, Ok, Err}
use Rattle.std.specs.declared.io.ErrorKind.{ErrorKind}
use Rattle.std.proofs.Common.{◌≡◌, ℕ, ◌+◌, ◌-◌, ◌≤◌, List, [], ◌∷◌, ◌++◌, length, take, refl, sym, ◌∙◌, ap, subst, inl, inr, arith, length-append}
use Rattle.std.proofs.lemmas.List.{append-nil, length-replicate, length-take, take_all}
use Rattle.std.proofs.lemmas.Bool.{cases_lt}
use Rattle.raft_log_fs.specs.Disk.{Wrote, ShortenedTo, GrewTo, File, Disk, zeros, grown, overwritten}
use Rattle.raft_log_fs.specs.Calls.{with_change, after_change, flushed, InPart, Changes}
use Rattle.raft_log_file_writer.specs.LawsChains.{Written}
use Rattle.raft_log_file_writer.specs.LogFormat.{Format, IsFormat}
use Rattle.raft_log_file_writer.specs.LogQueue.{LogFiles, HoldsLast}
use Rattle.raft_log_fs.specs.Arguments.{WrongWriter, WrongHandle}
use Rattle.raft_log_fs.specs.Exits.{FailsToSync}
use Rattle.raft_log_fs.specs.declared.handle.Handle.{Handle}
use Rattle.raft_log_fs.proofs.Public.{overwritten_torn}
use Rattle.raft_log_file_writer.specs.Writer.{MakesRoom, is_there, is_allocated, is_refused, WritesAtPlace, FailsToWriteAt, CutsBehind, ends_there, is_cut, Closes, FailsToClose, not_cut, not_synced, reach, allocated}
use Rattle.raft_log_file_writer.specs.declared.writer.LogFileWriter.{LogFileWriter}
use Rattle.raft_log_file_writer.proofs.Public.{reach_far, reach_near}
use Rattle.raft_log_active_file.specs.Queue.{whole, with_more, with_room, settled, synced, begun}
use Rattle.raft_log_active_file.specs.States.{IsActive, IsFront, IsCut, IsNew}
use Rattle.raft_log_active_file.specs.Standing.{Names, HaveOneName, OwnsPaths, Stands}
use Rattle.raft_log_active_file.proofs.FileSteps.{active_front, active_written, active_grown, front_written, front_cut, front_tried, front_holds, cut_holds, cut_past, cut_flushed_holds, past_settled, active_synced, active_holds, active_flushed_holds, new_grown, new_headed, new_holds, new_tried, headed_synced, headed_holds, headed_flushed_holds}
use Rattle.raft_log_active_file.proofs.Standing.{same_files, stands_weaker, stands_changed, stands_synced, stands_done}
use Rattle.raft_log_active_file.specs.LastFile.{IsActiveTo, IsFrontTo, IsCutTo, IsPastTo, IsNewTo, IsHeadedTo, HasRoom}

-- an answer of a call, and its refusal
abbrev done : Result (Unit {0}) ErrorKind
done = Ok tt

abbrev refused : ErrorKind → Result (Unit {0}) ErrorKind
refused e = Err e

module _ {R : Type 0} (F : Format R) where
  -- room that isn't made is room
  pub no_room : (q : LogFiles R) → with_room 0 q ≡ q
  no_room q =
      let none : grown 0 q.stale ≡ q.stale = ap (λ (k : ℕ). q.stale ++ zeros k) (let zero_left : 0 - length q.stale ≡ 0 = omega arith in zero_left) ∙ append-nil q.stale in
      λ i. record q { stale = none i }

  -- room that was made, or some of it
  roomy : (capacity to size : ℕ) (q : LogFiles R) (content : List ℕ) (file : File) → capacity ≤ to → size ≤ to → InPart (GrewTo size) file.content content → IsActiveTo F capacity q file
      → HasRoom (IsActiveTo F to) q (with_change (GrewTo size) content file)
  roomy capacity to size q content file from fits (count, most, is) was =
      let room = length file.content + count in
      let grew : content ≡ grown room file.content = is ∙ ap (λ (k : ℕ). file.content ++ zeros k) (let same : count ≡ length file.content + count - length file.content = omega arith in same) in
      let ends = was.ends in
      let long : length content ≤ to = elim most [
        | inl within ↦ omega (arith, within, fits, ap length is, length-append file.content (zeros count), length-replicate {A = ℕ} count 0)
        | inr none ↦ omega (arith, none, from, ends, ap length is, length-append file.content (zeros count), length-replicate {A = ℕ} count 0)
      ] in
      (room, record { active = active_grown F q size room content file was.active grew; ends = long })

  roomless : (capacity to : ℕ) (q : LogFiles R) (file : File) → capacity ≤ to → IsActiveTo F capacity q file → HasRoom (IsActiveTo F to) q file
  roomless capacity to q file from was = (let ends = was.ends in (0, record { active = subst (λ (p : LogFiles R). IsActive F p file) (sym (no_room q)) was.active; ends = omega (arith, ends, from) }))

  -- how long a file is in which bytes were written, or some of them
  long_written : (at to : ℕ) (bytes old new : List ℕ) → at + length bytes ≤ to → length old ≤ to → InPart (Wrote at bytes) old new → length new ≤ to
  long_written at to bytes old new fits ends torn = torn.within to ends fits

  -- the record is there, or may be
  record_written : (to : ℕ) (q : LogFiles R) (w : Written R) (file : File) → IsFormat F → F.IsFrame q.last q.header w.bytes w.value → length (whole q) + length w.bytes ≤ to → HasRoom (IsActiveTo F to) q file
      → HasRoom (IsActiveTo F to) (with_more (w ∷ []) q) (after_change (Wrote (length (whole q)) w.bytes) file)
  record_written to q w file lawful framed fits (room, was) = (
    room,
    record {
      active = active_written F lawful (with_room room q) w file framed was.active;
      ends = long_written (length (whole q)) to w.bytes file.content (overwritten (length (whole q)) w.bytes file.content) fits was.ends (overwritten_torn (length (whole q)) w.bytes file.content);
    },
  )

  record_to_come : (to : ℕ) (q : LogFiles R) (w : Written R) (file : File) → F.IsFrame q.last q.header w.bytes w.value → HasRoom (IsActiveTo F to) q file
      → HasRoom (λ p f. IsFrontTo F to p (w ∷ []) f) q file
  record_to_come to q w file framed (room, was) = (room, record { front = active_front F (with_room room q) (w ∷ []) file (framed, tt) was.active; ends = was.ends })

  record_in_part : (to : ℕ) (q : LogFiles R) (w : Written R) (content : List ℕ) (file : File) → F.IsFrame q.last q.header w.bytes w.value → length (whole q) + length w.bytes ≤ to → HasRoom (IsActiveTo F to) q file
      → InPart (Wrote (length (whole q)) w.bytes) file.content content → HasRoom (λ p f. IsFrontTo F to p (w ∷ []) f) q (with_change (Wrote (length (whole q)) w.bytes) content file)
  record_in_part to q w content file framed fits (room, was) torn = (
    room,
    record {
      front = front_written F (with_room room q) w content file framed was.active torn;
      ends = long_written (length (whole q)) to w.bytes file.content content fits was.ends torn;
    },
  )

  -- The same of a file without records, whose header is to be written.

  new_roomy : (capacity to size : ℕ) (header stale : List ℕ) (q : LogFiles R) (content : List ℕ) (file : File) → capacity ≤ to → size ≤ to → InPart (GrewTo size) file.content content
      → IsNewTo F capacity (begun header stale q) file → HasRoom (IsNewTo F to) (begun header stale q) (with_change (GrewTo size) content file)
  new_roomy capacity to size header stale q content file from fits (count, most, is) was =
      let room = length file.content + count in
      let grew : content ≡ grown room file.content = is ∙ ap (λ (k : ℕ). file.content ++ zeros k) (let same : count ≡ length file.content + count - length file.content = omega arith in same) in
      let ends = was.ends in
      let long : length content ≤ to = elim most [
        | inl within ↦ omega (arith, within, fits, ap length is, length-append file.content (zeros count), length-replicate {A = ℕ} count 0)
        | inr none ↦ omega (arith, none, from, ends, ap length is, length-append file.content (zeros count), length-replicate {A = ℕ} count 0)
      ] in
      (room, record { new = new_grown F header stale q size room content file was.new grew; ends = long })

  new_roomless : (capacity to : ℕ) (header stale : List ℕ) (q : LogFiles R) (file : File) → capacity ≤ to → IsNewTo F capacity (begun header stale q) file → HasRoom (IsNewTo F to) (begun header stale q) file
  new_roomless capacity to header stale q file from was =
      (let ends = was.ends in (0, record { new = subst (λ (p : LogFiles R). IsNew F p file) (sym (no_room (begun header stale q))) was.new; ends = omega (arith, ends, from) }))

  header_written : (to : ℕ) (header stale : List ℕ) (q : LogFiles R) (file : File) → length header ≤ to → HasRoom (IsNewTo F to) (begun header stale q) file
      → HasRoom (IsHeadedTo F to) (begun header stale q) (after_change (Wrote 0 header) file)
  header_written to header stale q file fits (room, was) = (
    room,
    record {
      headed = new_headed F header (grown room stale) q file was.new;
      ends = long_written 0 to header file.content (overwritten 0 header file.content) (omega (arith, fits)) was.ends (overwritten_torn 0 header file.content);
    },
  )

  header_held : (to : ℕ) (header stale : List ℕ) (q : LogFiles R) (file : File) → HasRoom (IsNewTo F to) (begun header stale q) file → HasRoom (HoldsLast F) (begun header stale q) file
  header_held to header stale q file (room, was) = (room, new_holds F header (grown room stale) q file was.new)

  header_in_part : (to : ℕ) (header stale : List ℕ) (q : LogFiles R) (content : List ℕ) (file : File) → HasRoom (IsNewTo F to) (begun header stale q) file
      → HasRoom (HoldsLast F) (begun header stale q) (with_change (Wrote 0 header) content file)
  header_in_part to header stale q content file (room, was) = (room, new_tried F header (grown room stale) q content file was.new)

  module _ (own : List ℕ → Type 0) (base : Disk) (lawful : IsFormat F) (owns : OwnsPaths F own) where
    room_stands : (handle : Handle) (capacity end target : ℕ) (q : LogFiles R) (path : List ℕ) (N : Names) (old between : Disk) → HaveOneName N → MakesRoom handle capacity end target old between
        → Stands F own base q path handle.file (IsActiveTo F capacity q) N old
        → Stands F own base q path handle.file (HasRoom (IsActiveTo F (reach capacity end target)) q) N between
    room_stands handle capacity end target q path N old between one (is_there enough same) s =
        subst (Stands F own base q path handle.file (HasRoom (IsActiveTo F (reach capacity end target)) q) N) (sym same)
        (stands_weaker F own base q path handle.file (IsActiveTo F capacity q) (HasRoom (IsActiveTo F (reach capacity end target)) q) N old
        (λ file was. roomless capacity (reach capacity end target) q file (omega (arith, reach_near capacity end target enough)) was) s)
    room_stands handle capacity end target q path N old between one (is_allocated short grows) s =
        let to = reach capacity end target in
        let more = reach_far capacity end target short in
        let size = capacity + allocated capacity end target in
        stands_changed F own base lawful owns q path handle.file (IsActiveTo F capacity q) (HasRoom (IsActiveTo F to) q) N (λ e. ⊥) done (GrewTo size) one
        (λ file was. roomless capacity to q file (omega (arith, more)) was)
        (λ file content was part. roomy capacity to size q content file (omega (arith, more)) (omega (arith, more)) part was) grows tt s
    room_stands handle capacity end target q path N old between one (is_refused short error fails) s =
        let to = reach capacity end target in
        let more = reach_far capacity end target short in
        let size = capacity + allocated capacity end target in
        stands_changed F own base lawful owns q path handle.file (IsActiveTo F capacity q) (HasRoom (IsActiveTo F to) q) N (WrongWriter handle old) (refused error) (GrewTo size) one
        (λ file was. roomless capacity to q file (omega (arith, more)) was)
        (λ file content was part. roomy capacity to size q content file (omega (arith, more)) (omega (arith, more)) part was) tt fails s

    reach_enough : (capacity end target : ℕ) → end ≤ reach capacity end target
    reach_enough capacity end target = elim (cases_lt capacity end) [
      | inl short ↦ omega (arith, reach_far capacity end target short)
      | inr enough ↦ omega (arith, enough, reach_near capacity end target enough)
    ]

    -- A record is written behind the others.
    pub record_stands : (handle : Handle) (capacity target : ℕ) (q : LogFiles R) (w : Written R) (path : List ℕ) (N : Names) (old new : Disk) → HaveOneName N → F.IsFrame q.last q.header w.bytes w.value
        → WritesAtPlace handle (length (whole q)) capacity w.bytes target old new → Stands F own base q path handle.file (IsActiveTo F capacity q) N old
        → Stands F own base q path handle.file (HasRoom (IsActiveTo F (reach capacity (length (whole q) + length w.bytes) target)) (with_more (w ∷ []) q)) N new
    record_stands handle capacity target q w path N old new one framed writes s =
        let end = length (whole q) + length w.bytes in
        let to = reach capacity end target in
        let before = room_stands handle capacity end target q path N old writes.between one writes.room s in
        stands_done F own base lawful owns q path handle.file (HasRoom (IsActiveTo F to) q) (HasRoom (IsActiveTo F to) (with_more (w ∷ []) q)) N (after_change (Wrote (length (whole q)) w.bytes)) writes.between new one writes.writes
        (λ file was. record_written to q w file lawful framed (reach_enough capacity end target) was) before

    -- Its write is refused: it may be there, and is to be cut off.
    pub refused_stands : (handle : Handle) (capacity target : ℕ) (q : LogFiles R) (w : Written R) (path : List ℕ) (N : Names) (error : ErrorKind) (old new : Disk) → HaveOneName N → F.IsFrame q.last q.header w.bytes w.value
        → FailsToWriteAt handle (length (whole q)) capacity w.bytes target error old new → Stands F own base q path handle.file (IsActiveTo F capacity q) N old
        → Stands F own base q path handle.file (HasRoom (λ p f. IsFrontTo F (reach capacity (length (whole q) + length w.bytes) target) p (w ∷ []) f) q) N new
    refused_stands handle capacity target q w path N error old new one framed fails s =
        let end = length (whole q) + length w.bytes in
        let to = reach capacity end target in
        let before = room_stands handle capacity end target q path N old fails.between one fails.room s in
        stands_changed F own base lawful owns q path handle.file (HasRoom (IsActiveTo F to) q) (HasRoom (λ p f. IsFrontTo F to p (w ∷ []) f) q) N (WrongWriter handle fails.between) (refused error) (Wrote (length (whole q)) w.bytes) one
        (λ file was. record_to_come to q w file framed was)
        (λ file content was torn. record_in_part to q w content file framed (reach_enough capacity end target) was torn) tt fails.fails before

    -- The file is cut behind its records.
    pub cut_stands : (before after : LogFileWriter) (q : LogFiles R) (more : List (Written R)) (path : List ℕ) (N : Names) (old new : Disk) → HaveOneName N → before.written ≡ length (whole q)
        → CutsBehind before after old new → Stands F own base q path before.handle.file (IsFrontTo F before.capacity q more) N old → Stands F own base q path before.handle.file (IsCutTo F after.capacity q more) N new
    cut_stands before after q more path N old new one at (ends_there short stays same) s =
        subst (Stands F own base q path before.handle.file (IsCutTo F after.capacity q more) N) (sym same)
        (stands_weaker F own base q path before.handle.file (IsFrontTo F before.capacity q more) (IsCutTo F after.capacity q more) N old (λ file was.
        (let front = was.front in
        let ends = was.ends in
        let all : take (length (whole q)) file.content ≡ file.content = take_all (length (whole q)) file.content (omega (arith, ends, short, at)) in
        record {
          cut = record { chain = front.chain; headed = front.headed; is = sym all ∙ front.front };
          ends = subst (λ (n : ℕ). length file.content ≤ n) (sym (ap (λ (w : LogFileWriter). w.capacity) stays)) ends;
        })) s)
    cut_stands before after q more path N old new one at (is_cut longer shortens stays) s =
        stands_done F own base lawful owns q path before.handle.file (IsFrontTo F before.capacity q more) (IsCutTo F after.capacity q more) N (after_change (ShortenedTo before.written)) old new one shortens
        (λ file was. record {
          cut = subst (λ (n : ℕ). IsCut F q more (after_change (ShortenedTo n) file)) (sym at) (front_cut F q more file was.front);
          ends = omega (arith, length-take before.written file.content, stays.capacity_is);
        }) s

    -- It is cut and synced: finished, and all its records are durable.
    pub closed_stands : (before after : LogFileWriter) (q : LogFiles R) (more : List (Written R)) (path : List ℕ) (N : Names) (old new : Disk) → HaveOneName N → before.written ≡ length (whole q)
        → Closes before after old new → Stands F own base q path before.handle.file (IsFrontTo F before.capacity q more) N old → Stands F own base q path before.handle.file (IsPastTo F after.capacity q) N new
    closed_stands before after q more path N old new one at closes s =
        let cut = cut_stands before after q more path N old closes.between one at closes.cuts s in
        stands_done F own base lawful owns q path before.handle.file (IsCutTo F after.capacity q more) (IsPastTo F after.capacity q) N flushed closes.between new one closes.syncs
        (λ file was. record { past = cut_past F lawful q more file s.headed was.cut; ends = was.ends }) cut

    -- One of the two is refused: its records are held, and the one that was to come counts as the last.
    pub unclosed_stands : (before after : LogFileWriter) (q : LogFiles R) (more : List (Written R)) (path : List ℕ) (N : Names) (error : ErrorKind) (old new : Disk) → HaveOneName N → before.written ≡ length (whole q)
        → FailsToClose before after error old new → Stands F own base q path before.handle.file (IsFrontTo F before.capacity q more) N old
        → Stands F own base q path before.handle.file (HoldsLast F (with_more more q)) N new
    unclosed_stands before after q more path N error old new one at (not_cut fails) s =
        stands_changed F own base lawful owns q path before.handle.file (IsFrontTo F before.capacity q more) (HoldsLast F (with_more more q)) N (WrongWriter before.handle old) (refused error) (ShortenedTo before.written) one
        (λ file was. front_holds F q more file was.front)
        (λ file content was part. front_holds F q more (with_change (ShortenedTo before.written) content file)
        (subst (λ (n : ℕ). IsFront F q more (with_change (ShortenedTo n) content file)) (sym at) (front_tried F q more content file was.front (subst (λ (n : ℕ). InPart (ShortenedTo n) file.content content) at part)))) tt fails.fails s
    unclosed_stands before after q more path N error old new one at (not_synced between cuts fails) s =
        let cut = cut_stands before after q more path N old between one at cuts s in
        stands_synced F own base lawful owns q path before.handle.file (IsCutTo F after.capacity q more) (HoldsLast F (with_more more q)) N (WrongHandle before.handle between) (refused error) one
        (λ file was. cut_holds F q more file was.cut) (λ file was. cut_flushed_holds F lawful q more file was.cut) tt fails cut

    -- what was finished may be written on
    pub settled_stands : (capacity : ℕ) (q : LogFiles R) (path : List ℕ) (id : ℕ) (N : Names) (d : Disk) → Stands F own base q path id (IsPastTo F capacity q) N d
        → Stands F own base (settled q) path id (IsActiveTo F capacity (settled q)) N d
    settled_stands capacity q path id N d s = same_files F own base q (settled q) path id (IsActiveTo F capacity (settled q)) N d refl refl refl
        (stands_weaker F own base q path id (IsPastTo F capacity q) (IsActiveTo F capacity (settled q)) N d (λ file was. record { active = past_settled F lawful q file was.past; ends = was.ends }) s)

    -- room that was made is counted
    pub roomy_stands : (P : LogFiles R → File → Type 0) (q : LogFiles R) (path : List ℕ) (id : ℕ) (N : Names) (d : Disk) → Stands F own base q path id (HasRoom P q) N d
        → (room : ℕ) × Stands F own base (with_room room q) path id (P (with_room room q)) N d
    roomy_stands P q path id N d s = (
      s.file.has.0,
      same_files F own base q (with_room s.file.has.0 q) path id (P (with_room s.file.has.0 q)) N d refl refl refl (record {
        names = s.names;
        bound = s.bound;
        at = s.at;
        named = s.named;
        alone = s.alone;
        none = s.none;
        headed = s.headed;
        places = s.places;
        file = record { file = s.file.file; is = s.file.is; has = s.file.has.1 };
        older = s.older;
        single = s.single;
        others = s.others;
      }),
    )

    -- The last file is synced.
    pub synced_stands : (handle : Handle) (capacity : ℕ) (q : LogFiles R) (path : List ℕ) (N : Names) (old new : Disk) → HaveOneName N → Changes handle.file flushed old new
        → Stands F own base q path handle.file (IsActiveTo F capacity q) N old → Stands F own base (synced q) path handle.file (IsActiveTo F capacity (synced q)) N new
    synced_stands handle capacity q path N old new one syncs s = same_files F own base q (synced q) path handle.file (IsActiveTo F capacity (synced q)) N new refl refl refl
        (stands_done F own base lawful owns q path handle.file (IsActiveTo F capacity q) (IsActiveTo F capacity (synced q)) N flushed old new one syncs
        (λ file was. record { active = active_synced F lawful q file was.active; ends = was.ends }) s)

    pub unsynced_stands : (handle : Handle) (capacity : ℕ) (q : LogFiles R) (path : List ℕ) (N : Names) (error : ErrorKind) (old new : Disk) → HaveOneName N → FailsToSync handle error old new
        → Stands F own base q path handle.file (IsActiveTo F capacity q) N old → Stands F own base q path handle.file (HoldsLast F q) N new
    unsynced_stands handle capacity q path N error old new one fails s =
        stands_synced F own base lawful owns q path handle.file (IsActiveTo F capacity q) (HoldsLast F q) N (WrongHandle handle old) (refused error) one
        (λ file was. active_holds F q file was.active) (λ file was. active_flushed_holds F lawful q file was.active) tt fails s

    -- The header of a file without records is written.

    new_room_stands : (handle : Handle) (capacity end target : ℕ) (header stale : List ℕ) (q : LogFiles R) (path : List ℕ) (N : Names) (old between : Disk) → HaveOneName N → MakesRoom handle capacity end target old between
        → Stands F own base (begun header stale q) path handle.file (IsNewTo F capacity (begun header stale q)) N old
        → Stands F own base (begun header stale q) path handle.file (HasRoom (IsNewTo F (reach capacity end target)) (begun header stale q)) N between
    new_room_stands handle capacity end target header stale q path N old between one (is_there enough same) s =
        (let b = begun header stale q in
        subst (Stands F own base b path handle.file (HasRoom (IsNewTo F (reach capacity end target)) b) N) (sym same)
        (stands_weaker F own base b path handle.file (IsNewTo F capacity b) (HasRoom (IsNewTo F (reach capacity end target)) b) N old
        (λ file was. new_roomless capacity (reach capacity end target) header stale q file (omega (arith, reach_near capacity end target enough)) was) s))
    new_room_stands handle capacity end target header stale q path N old between one (is_allocated short grows) s =
        let b = begun header stale q in
        let to = reach capacity end target in
        let more = reach_far capacity end target short in
        let size = capacity + allocated capacity end target in
        stands_changed F own base lawful owns b path handle.file (IsNewTo F capacity b) (HasRoom (IsNewTo F to) b) N (λ e. ⊥) done (GrewTo size) one
        (λ file was. new_roomless capacity to header stale q file (omega (arith, more)) was)
        (λ file content was part. new_roomy capacity to size header stale q content file (omega (arith, more)) (omega (arith, more)) part was) grows tt s
    new_room_stands handle capacity end target header stale q path N old between one (is_refused short error fails) s =
        let b = begun header stale q in
        let to = reach capacity end target in
        let more = reach_far capacity end target short in
        let size = capacity + allocated capacity end target in
        stands_changed F own base lawful owns b path handle.file (IsNewTo F capacity b) (HasRoom (IsNewTo F to) b) N (WrongWriter handle old) (refused error) (GrewTo size) one
        (λ file was. new_roomless capacity to header stale q file (omega (arith, more)) was)
        (λ file content was part. new_roomy capacity to size header stale q content file (omega (arith, more)) (omega (arith, more)) part was) tt fails s

    pub header_stands : (handle : Handle) (capacity : ℕ) (header stale : List ℕ) (q : LogFiles R) (path : List ℕ) (N : Names) (old new : Disk) → HaveOneName N → WritesAtPlace handle 0 capacity header 0 old new
        → Stands F own base (begun header stale q) path handle.file (IsNewTo F capacity (begun header stale q)) N old
        → Stands F own base (begun header stale q) path handle.file (HasRoom (IsHeadedTo F (reach capacity (length header) 0)) (begun header stale q)) N new
    header_stands handle capacity header stale q path N old new one writes s =
        let b = begun header stale q in
        let to = reach capacity (length header) 0 in
        let end : 0 + length header ≡ length header = omega arith in
        let room = subst (λ (n : ℕ). MakesRoom handle capacity n 0 old writes.between) end writes.room in
        let before = new_room_stands handle capacity (length header) 0 header stale q path N old writes.between one room s in
        stands_done F own base lawful owns b path handle.file (HasRoom (IsNewTo F to) b) (HasRoom (IsHeadedTo F to) b) N (after_change (Wrote 0 header)) writes.between new one writes.writes
        (λ file was. header_written to header stale q file (reach_enough capacity (length header) 0) was) before

    pub headless_stands : (handle : Handle) (capacity : ℕ) (header stale : List ℕ) (q : LogFiles R) (path : List ℕ) (N : Names) (error : ErrorKind) (old new : Disk) → HaveOneName N → FailsToWriteAt handle 0 capacity header 0 error old new
        → Stands F own base (begun header stale q) path handle.file (IsNewTo F capacity (begun header stale q)) N old
        → Stands F own base (begun header stale q) path handle.file (HasRoom (HoldsLast F) (begun header stale q)) N new
    headless_stands handle capacity header stale q path N error old new one fails s =
        let b = begun header stale q in
        let to = reach capacity (length header) 0 in
        let end : 0 + length header ≡ length header = omega arith in
        let room = subst (λ (n : ℕ). MakesRoom handle capacity n 0 old fails.between) end fails.room in
        let before = new_room_stands handle capacity (length header) 0 header stale q path N old fails.between one room s in
        stands_changed F own base lawful owns b path handle.file (HasRoom (IsNewTo F to) b) (HasRoom (HoldsLast F) b) N (WrongWriter handle fails.between) (refused error) (Wrote 0 header) one
        (λ file was. header_held to header stale q file was) (λ file content was torn. header_in_part to header stale q content file was) tt fails.fails before

    -- and synced
    pub begun_stands : (handle : Handle) (capacity : ℕ) (header stale : List ℕ) (q : LogFiles R) (path : List ℕ) (N : Names) (old new : Disk) → HaveOneName N → Changes handle.file flushed old new
        → Stands F own base (begun header stale q) path handle.file (IsHeadedTo F capacity (begun header stale q)) N old
        → Stands F own base (begun header stale q) path handle.file (IsActiveTo F capacity (begun header stale q)) N new
    begun_stands handle capacity header stale q path N old new one syncs s =
        stands_done F own base lawful owns (begun header stale q) path handle.file (IsHeadedTo F capacity (begun header stale q)) (IsActiveTo F capacity (begun header stale q)) N flushed old new one syncs
        (λ file was. record { active = headed_synced F lawful header stale q file was.headed; ends = was.ends }) s

    pub unbegun_stands : (handle : Handle) (capacity : ℕ) (header stale : List ℕ) (q : LogFiles R) (path : List ℕ) (N : Names) (error : ErrorKind) (old new : Disk) → HaveOneName N → FailsToSync handle error old new
        → Stands F own base (begun header stale q) path handle.file (IsHeadedTo F capacity (begun header stale q)) N old
        → Stands F own base (begun header stale q) path handle.file (HoldsLast F (begun header stale q)) N new
    unbegun_stands handle capacity header stale q path N error old new one fails s =
        stands_synced F own base lawful owns (begun header stale q) path handle.file (IsHeadedTo F capacity (begun header stale q)) (HoldsLast F (begun header stale q)) N (WrongHandle handle old) (refused error) one
        (λ file was. headed_holds F header stale q file was.headed) (λ file was. headed_flushed_holds F lawful header stale q file was.headed) tt fails s
