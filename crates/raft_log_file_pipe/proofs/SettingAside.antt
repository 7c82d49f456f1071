-- A pipe that is closed: its last file is finished, and files that are kept for use get reserved names.
use Rattle.std.specs.Prelude.{Result, Ok, Err}
use Rattle.std.specs.Result.{OnOk, OnErr, IfErr}
use Rattle.std.specs.declared.io.ErrorKind.{ErrorKind}
use Rattle.std.specs.Map.{update}
use Rattle.std.specs.Str.{bytes_eq}
use Rattle.std.proofs.Common.{Bor, map, ◌≡◌, ℕ, ◌<◌, ◌≤◌, ◌+◌, ◌^◌, suc, max, min, Some, None, List, [], ◌∷◌, ◌++◌, if◌then◌else◌, false, refl, sym, ◌∙◌, ap, subst, inl, inr, arith, reverse}
use Rattle.std.proofs.lemmas.Bool.{cases_Bool}
use Rattle.std.proofs.lemmas.List.{reverse-append, map-append}
use Rattle.raft_log_record_base.specs.declared.errors.Error.{Error}
use Rattle.raft_log_fs.specs.Disk.{Disk}
use Rattle.raft_log_fs.specs.Arguments.{WrongRename}
use Rattle.raft_log_fs.specs.Calls.{Renames}
use Rattle.raft_log_fs.specs.Exits.{FailsToRename}
use Rattle.raft_log_fs.specs.Image.{IsSound}
use Rattle.raft_log_file_writer.specs.LogFormat.{Format}
use Rattle.raft_log_file_writer.specs.LogQueue.{LogFiles, HoldsLast}
use Rattle.raft_log_fs.specs.Touching.{TouchesOnly}
use Rattle.raft_log_fs.proofs.Public.{kept_rename, name_apart, IsCalm}
use Rattle.raft_log_file_writer.specs.declared.writer.LogFileWriter.{LogFileWriter}
use Rattle.raft_log_active_file.specs.Queue.{settled}
use Rattle.raft_log_active_file.specs.Standing.{Names}
use Rattle.raft_log_active_file.specs.Bridge.{GapsStay}
use Rattle.raft_log_active_file.proofs.Public.{active_holds, gaps_set_aside, left_calm, past_settled, same_files, stands_set_aside, stands_weaker}
use Rattle.raft_log_active_file.specs.Layout.{FilePaths, IsLayout, path_of}
use Rattle.raft_log_active_file.specs.LastFile.{IsPastTo}
use Rattle.raft_log_active_file.specs.Exits.{IsFinished, Finishes, FailsToFinish}
use Rattle.raft_log_active_file.specs.Rotation.{StandsWithRecords}
use Rattle.raft_log_file_pipe.specs.declared.pipe_files.PipeFiles.{PipeFiles}
use Rattle.raft_log_file_pipe.specs.Files.{Listed, IsSpan, AllKept, IsPipe}
use Rattle.raft_log_file_pipe.specs.Closing.{IsSettledBy, LeavesClosed, Reserves, ReservesAll, NumbersStay, StaysLeft, AreBelow, greatest_reserved}
use Rattle.raft_log_file_pipe.specs.Closing.Reserves.{named, refused}
use Rattle.raft_log_file_pipe.proofs.Lists.{path_numbered, span_end, span_moved}

-- The greatest reserved number of one file more.
pub greatest_more : (fs : List Listed) (f : Listed) → greatest_reserved (fs ++ f ∷ []) ≡ (if f.reserved then max f.seq (greatest_reserved fs) else greatest_reserved fs)
greatest_more [] f = refl
greatest_more (g ∷ gs) f =
    let more = greatest_more gs f in
    elim (cases_Bool g.reserved) [
      | inl hit ↦ elim (cases_Bool f.reserved) [
        | inl also ↦ (rw (more, hit, also) (omega arith))
        | inr miss ↦ rw (more, hit, miss) refl
      ]
      | inr miss ↦ rw (more, miss) refl
    ]

-- what a call on the last file fills: no gap
gaps_of : {R : Type 0} (F : Format R) (q : LogFiles R) (id : ℕ) (old new : Disk) → TouchesOnly id old new → GapsStay F q old new
gaps_of F q id old new only m below none path at = ap (λ (N : Names). N path) only.names ∙ none path at

module _ {R : Type 0} (F : Format R) (own : List ℕ → Type 0) (paths : FilePaths) (lawful : IsLayout F own paths) where
  -- a last file that is finished holds its records, all of them durable
  finished_settled : (base : Disk) (writer : LogFileWriter) (q : LogFiles R) (path : List ℕ) (N : Names) (d : Disk) → IsFinished F own base writer q path N d → StandsWithRecords F own base (settled q) d
  finished_settled base writer q path N d is = record {
    path = path;
    id = writer.handle.file;
    N = N;
    stands = stands_weaker F own base (settled q) path writer.handle.file (IsPastTo F writer.capacity q) (HoldsLast F (settled q)) N d (λ file was. active_holds F (settled q) file (past_settled F lawful.format q file was.past))
        (same_files F own base q (settled q) path writer.handle.file (IsPastTo F writer.capacity q) N d refl refl refl is.stands);
  }

  pub finished_is_settled : (files : PipeFiles) (after : LogFileWriter) (old new : Disk) → Finishes F own files.writer after old new → TouchesOnly files.writer.handle.file old new → IsSettledBy F own paths files old new
  finished_is_settled files after old new finishes only base q is = (
    finished_settled base after q (path_of paths files.active) old.names new (finishes base q (path_of paths files.active) old.names is.active),
    gaps_of F q files.writer.handle.file old new only,
    subst (λ (N : Names). IsSpan paths N files.first_seq files.earlier.items q.last) (sym only.names) is.span,
  )

  pub closes_held : (result : Result (Unit {0}) ErrorKind) (files : PipeFiles) (after : LogFileWriter) (old new : Disk) → OnOk result (Finishes F own files.writer after old new) → OnErr result (FailsToFinish F own files.writer old new)
      → TouchesOnly files.writer.handle.file old new → LeavesClosed F own paths files old new
  closes_held (Ok v) files after old new ok err only base q is = (let (left, gaps, span) = finished_is_settled files after old new ok only base q is in (inr left, gaps, span))
  closes_held (Err e) files after old new ok err only base q is =
      let (cause, held) = err base q (path_of paths files.active) old.names is.active in
      let span = subst (λ (N : Names). IsSpan paths N files.first_seq files.earlier.items q.last) (sym only.names) is.span in
      (inl (record { path = path_of paths files.active; id = files.writer.handle.file; N = old.names; stands = held }), gaps_of F q files.writer.handle.file old new only, span)

  -- A file below the last one, kept for use, that gets a reserved name, or doesn't.
  pub stays_left : (result : Result (Unit {0}) ErrorKind) (f : Listed) (number : ℕ) (old new : Disk) → IsSound old → f.reserved ≡ false → OnOk result (Renames (path_of paths f) (paths.reserved 0 number) old new)
      → IfErr result (λ e. FailsToRename (path_of paths f) (paths.reserved 0 number) e old new) → StaysLeft F own (f ∷ []) old new
  stays_left result f number old new sound listed ok err base q (lower, none) left =
      let from = path_of paths f in
      let to = paths.reserved 0 number in
      let below : f.seq < q.last = lower listed in
      let bound = left.stands.bound in
      let less : f.seq < F.limit = omega (arith, below, bound) in
      let at : F.IsPath f.seq from = subst (F.IsPath f.seq) (sym (path_numbered paths f listed)) (lawful.numbered f.path_id f.seq less) in
      let unnumbered : (m : ℕ) → m < F.limit → F.IsPath m to → ⊥ = λ m small there. lawful.apart 0 number m small there in
      let apart : (m : ℕ) → q.last ≤ m → m < F.limit → F.IsPath m from → ⊥ = λ m over small there. (let same : m ≡ f.seq = lawful.format.paths m f.seq from small less there at in omega (arith, same, below, over)) in
      let Q : Disk → Type 0 = λ d. StandsWithRecords F own base q d × GapsStay F q old d × ((first : ℕ) → AreBelow first (f ∷ []) → NumbersStay F first old d) in
      let calm : IsCalm Q = record {
        at_count = λ d (held, gaps, stay). ((left_calm F own lawful.format lawful.owns base q).at_count d held, gaps, stay);
        at_end = λ d (held, gaps, stay). ((left_calm F own lawful.format lawful.owns base q).at_end d held, gaps, stay);
      } in
      kept_rename Q (WrongRename from to old) result from to calm (left, λ m under absent. absent, λ first under m path over small there. refl) (λ id here no_directory home. (
        record {
          path = left.path;
          id = left.id;
          N = update bytes_eq (update bytes_eq left.N from None) to (Some id);
          stands = stands_set_aside F own base q left.path from to left.id id (HoldsLast F q) left.N old sound (lawful.owns f.seq from less at) (lawful.kept 0 number) apart unnumbered (ap (λ (N : Names). N from) (sym left.stands.names) ∙ here) left.stands;
        },
        gaps_set_aside F own base q from to id old bound unnumbered,
        λ first (under, none_more) m path over small there.
            name_apart (update bytes_eq old.names from None) to (Some id) path (λ same. unnumbered m small (subst (F.IsPath m) same there))
            ∙ name_apart old.names from None path
            (λ same. (let number : m ≡ f.seq = lawful.format.paths m f.seq from small less (subst (F.IsPath m) same there) at in let lower = under listed in omega (arith, number, lower, over))),
      )) ok err

  -- the files that are kept for use are below the span's last one
  kept_below : (first last : ℕ) (d : Disk) (fs : List Listed) → first ≤ last → AllKept F paths first d fs → AreBelow last fs
  kept_below first last d [] from is = tt
  kept_below first last d (f ∷ fs) from (is, others, rest) = (λ listed. (let below = is.below listed in omega (arith, below, from)), kept_below first last d fs from rest)

  -- and below its first one
  kept_below_first : (first : ℕ) (d : Disk) (fs : List Listed) → AllKept F paths first d fs → AreBelow first fs
  kept_below_first first d [] is = tt
  kept_below_first first d (f ∷ fs) (is, others, rest) = (is.below, kept_below_first first d fs rest)

  pub pipe_below_first : (base : Disk) (files : PipeFiles) (q : LogFiles R) (d : Disk) → IsPipe F own paths base files q d → AreBelow files.first_seq files.recycled.items
  pipe_below_first base files q d is = kept_below_first files.first_seq d files.recycled.items is.kept

  pub pipe_below : (base : Disk) (files : PipeFiles) (q : LogFiles R) (d : Disk) → IsPipe F own paths base files q d → AreBelow q.last files.recycled.items
  pipe_below base files q d is = (let ends = span_end paths d.names files.first_seq q.last files.earlier.items is.span in kept_below files.first_seq q.last d files.recycled.items (omega (arith, ends)) is.kept)

-- the front of files that are below a number, and the last of them
pub below_front : (n : ℕ) (fs : List Listed) (f : Listed) → AreBelow n (fs ++ f ∷ []) → AreBelow n fs × AreBelow n (f ∷ [])
below_front n [] f (here, rest) = (tt, (here, tt))
below_front n (g ∷ gs) f (here, rest) = (let (front, last) = below_front n gs f rest in ((here, front), last))

-- The same by the paths that were lent.

-- a number behind the last one that has a name is the next one
next_number : (last number : ℕ) → number ≡ min (last + 1) 18446744073709551615 → number < 10 ^ 16 → number ≡ suc last
next_number last number is small = omega (arith, is, small)

pub reserves_named : (paths : FilePaths) (f : Listed) (last number : ℕ) (from to : List ℕ) (old new : Disk) → number ≡ min (last + 1) 18446744073709551615 → number < 10 ^ 16 → from ≡ path_of paths f → to ≡ paths.reserved 0 number
    → Renames from to old new → Reserves paths f last number old new
reserves_named paths f last number from to old new is small from_is to_is renames =
    named (next_number last number is small) (subst (λ (p : List ℕ). Renames (path_of paths f) p old new) to_is (subst (λ (p : List ℕ). Renames p to old new) from_is renames))

pub reserves_refused : (paths : FilePaths) (f : Listed) (last number : ℕ) (from to : List ℕ) (error : ErrorKind) (old new : Disk) → number ≡ min (last + 1) 18446744073709551615 → number < 10 ^ 16 → from ≡ path_of paths f → to ≡ paths.reserved 0 number
    → FailsToRename from to error old new → Reserves paths f last last old new
reserves_refused paths f last number from to error old new is small from_is to_is fails =
    refused error refl (subst (λ (n : ℕ). FailsToRename (path_of paths f) (paths.reserved 0 n) error old new) (next_number last number is small)
    (subst (λ (p : List ℕ). FailsToRename (path_of paths f) p error old new) to_is (subst (λ (p : List ℕ). FailsToRename p to error old new) from_is fails)))

pub stays_left_by : {R : Type 0} (F : Format R) (own : List ℕ → Type 0) (paths : FilePaths) (lawful : IsLayout F own paths) (result : Result (Unit {0}) ErrorKind) (f : Listed) (number : ℕ) (from to : List ℕ) (old new : Disk) → IsSound old → f.reserved ≡ false
    → from ≡ path_of paths f → to ≡ paths.reserved 0 number → OnOk result (Renames from to old new) → IfErr result (λ e. FailsToRename from to e old new) → StaysLeft F own (f ∷ []) old new
stays_left_by F own paths lawful result f number from to old new sound listed from_is to_is ok err =
    stays_left F own paths lawful result f number old new sound listed
    (subst (λ (p : List ℕ). OnOk result (Renames (path_of paths f) p old new)) to_is (subst (λ (p : List ℕ). OnOk result (Renames p to old new)) from_is ok))
    (subst (λ (p : List ℕ). IfErr result (λ e. FailsToRename (path_of paths f) p e old new)) to_is (subst (λ (p : List ℕ). IfErr result (λ e. FailsToRename p to e old new)) from_is err))

-- the same of files that are lent one after the other
pub greatest_yielded : (lent : List (Bor Listed)) (next : Bor Listed) (greatest result : ℕ) → greatest ≡ greatest_reserved (map (λ b. b.now) lent) → result ≡ (if next.now.reserved then max next.now.seq greatest else greatest)
    → result ≡ greatest_reserved (map (λ b. b.now) (lent ++ next ∷ []))
greatest_yielded lent next greatest result before is =
    is ∙ ap (λ (n : ℕ). if next.now.reserved then max next.now.seq n else n) before ∙ sym (ap greatest_reserved (map-append (λ (b : Bor Listed). b.now) lent (next ∷ [])) ∙ greatest_more (map (λ b. b.now) lent) next.now)

-- One file after the other, from the newest on.

-- once the rest of the files got reserved names, or didn't, all of them did so
abbrev pub ReservesOn : FilePaths → List Listed → ℕ → Disk → List Listed → ℕ → Disk → Type 0
ReservesOn paths all first start rest last now = (e : Disk) → ReservesAll paths rest last now e → ReservesAll paths all first start e

-- what was held is held so far, and the rest of the files are below the last one
abbrev pub IsHeldOn : {R : Type 0} → Format R → (List ℕ → Type 0) → List Listed → Disk → List Listed → Disk → Type 0
IsHeldOn {R} F own all start rest now =
    (base : Disk) (q : LogFiles R) → AreBelow q.last all → StandsWithRecords F own base q start
    → AreBelow q.last rest × StandsWithRecords F own base q now × GapsStay F q start now × ((first : ℕ) → AreBelow first all → AreBelow first rest × NumbersStay F first start now)

newest_first : (files front : List Listed) (f : Listed) → files ≡ front ++ f ∷ [] → reverse files ≡ f ∷ reverse front
newest_first files front f split = ap reverse split ∙ reverse-append front (f ∷ [])

pub reserves_step : (paths : FilePaths) (all : List Listed) (first : ℕ) (start : Disk) (files front : List Listed) (f : Listed) (last next : ℕ) (now mid : Disk) → ReservesOn paths all first start (reverse files) last now → files ≡ front ++ f ∷ [] → f.reserved ≡ false
    → Reserves paths f last next now mid → ReservesOn paths all first start (reverse front) next mid
reserves_step paths all first start files front f last next now mid on split listed reserves e rest =
    on e (subst (λ (fs : List Listed). ReservesAll paths fs last now e) (sym (newest_first files front f split)) (inr (listed, (next, mid, reserves, rest))))

pub held_step : {R : Type 0} (F : Format R) (own : List ℕ → Type 0) (all : List Listed) (start : Disk) (files front : List Listed) (f : Listed) (now mid : Disk) → IsHeldOn F own all start files now → files ≡ front ++ f ∷ [] → StaysLeft F own (f ∷ []) now mid
    → IsHeldOn F own all start front mid
held_step F own all start files front f now mid on split stays base q below left =
    let (lower, held, gaps, stay) = on base q below left in
    let (lower_front, lower_last) = below_front q.last front f (subst (AreBelow q.last) split lower) in
    let (held_then, gaps_then, stay_then) = stays base q lower_last held in (
      lower_front,
      held_then,
      λ m under none. gaps_then m under (gaps m under none),
      λ first all_below.
          (let (rest_below, same) = stay first all_below in
          let (first_front, first_last) = below_front first front f (subst (AreBelow first) split rest_below) in
          (first_front, λ m path over small at. stay_then first first_last m path over small at ∙ same m path over small at)),
    )

pub held_done : {R : Type 0} (F : Format R) (own : List ℕ → Type 0) (all : List Listed) (start : Disk) (rest : List Listed) (now : Disk) → IsHeldOn F own all start rest now → StaysLeft F own all start now
held_done F own all start rest now on base q below left = (let (lower, held, gaps, stay) = on base q below left in (held, gaps, λ first all_below. (stay first all_below).1))

-- files that are below a number are below those behind it
pub below_more : (m n : ℕ) (fs : List Listed) → m ≤ n → AreBelow m fs → AreBelow n fs
below_more m n [] less is = tt
below_more m n (f ∷ fs) less (here, rest) = (λ listed. (let lower = here listed in omega (arith, lower, less)), below_more m n fs less rest)

-- A pipe whose last file was finished, or wasn't, once its other files were renamed.
pub closes_all : {R : Type 0} (F : Format R) (own : List ℕ → Type 0) (paths : FilePaths) (lawful : IsLayout F own paths) (files : PipeFiles) (kept : List Listed) (old mid new : Disk)
    → ((base : Disk) (q : LogFiles R) → IsPipe F own paths base files q old → AreBelow files.first_seq kept) → LeavesClosed F own paths files old mid → StaysLeft F own kept mid new → LeavesClosed F own paths files old new
closes_all F own paths lawful files kept old mid new below leaves stays base q is =
    let (held, gaps, span) = leaves base q is in
    let ends = span_end paths mid.names files.first_seq q.last files.earlier.items span in
    let bound = is.active.stands.bound in
    let lower = below base q is in
    let under : AreBelow q.last kept = below_more files.first_seq q.last kept (omega (arith, ends)) lower in
    let there : NumbersStay F files.first_seq mid new → IsSpan paths new.names files.first_seq files.earlier.items q.last = λ stay.
    span_moved paths mid.names new.names files.first_seq q.last files.earlier.items (λ directory n from less.
    stay n (paths.numbered directory n) from (omega (arith, less, bound)) (lawful.numbered directory n (omega (arith, less, bound)))) span in
    elim held [
      | inl left ↦ (let (still, more, stay) = stays base q under left in (inl still, λ m less none. more m less (gaps m less none), there (stay files.first_seq lower)))
      | inr left ↦ (let (still, more, stay) = stays base (settled q) under left in (inr still, λ m less none. more m less (gaps m less none), there (stay files.first_seq lower)))
    ]

-- A pipe whose last file was finished, once its other files were renamed: all of it is durable still.
pub settles_all : {R : Type 0} (F : Format R) (own : List ℕ → Type 0) (paths : FilePaths) (lawful : IsLayout F own paths) (files : PipeFiles) (kept : List Listed) (old mid new : Disk)
    → ((base : Disk) (q : LogFiles R) → IsPipe F own paths base files q old → AreBelow files.first_seq kept) → IsSettledBy F own paths files old mid → StaysLeft F own kept mid new → IsSettledBy F own paths files old new
settles_all F own paths lawful files kept old mid new below settles stays base q is =
    let (left, gaps, span) = settles base q is in
    let ends = span_end paths mid.names files.first_seq q.last files.earlier.items span in
    let bound = is.active.stands.bound in
    let lower = below base q is in
    let under : AreBelow q.last kept = below_more files.first_seq q.last kept (omega (arith, ends)) lower in
    let (still, more, stay) = stays base (settled q) under left in
    let there : IsSpan paths new.names files.first_seq files.earlier.items q.last = span_moved paths mid.names new.names files.first_seq q.last files.earlier.items (λ directory n from less.
    stay files.first_seq lower n (paths.numbered directory n) from (omega (arith, less, bound)) (lawful.numbered directory n (omega (arith, less, bound)))) span in
    (still, λ m less none. more m less (gaps m less none), there)

-- the same of the call that finishes it
pub settles_then : {R : Type 0} {T : Type 0} (F : Format R) (own : List ℕ → Type 0) (paths : FilePaths) (lawful : IsLayout F own paths) (result : Result T Error) (files : PipeFiles) (kept : List Listed) (old mid new : Disk)
    → ((base : Disk) (q : LogFiles R) → IsPipe F own paths base files q old → AreBelow files.first_seq kept) → OnOk result (IsSettledBy F own paths files old mid) → StaysLeft F own kept mid new → OnOk result (IsSettledBy F own paths files old new)
settles_then F own paths lawful (Ok v) files kept old mid new below settles stays = settles_all F own paths lawful files kept old mid new below settles stays
settles_then F own paths lawful (Err e) files kept old mid new below settles stays = tt
