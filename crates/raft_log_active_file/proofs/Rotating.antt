-- A rotation: the last file is finished, the next one gets its name, and then its header.
use Rattle.std.specs.Prelude.{Result, Ok, Err}
use Rattle.std.specs.Result.{IfErr, OnOk, OnErr}
use Rattle.std.specs.Map.{update}
use Rattle.std.specs.Str.{bytes_eq}
use Rattle.std.specs.declared.io.ErrorKind.{ErrorKind}
use Rattle.std.proofs.Common.{◌≡◌, ◌⊎◌, ℕ, ◌<◌, suc, Some, None, List, [], sym, ◌∙◌, ap, subst, inl, inr, arith}
use Rattle.std.proofs.lemmas.Bool.{false≢true, cases_Bool}
use Rattle.std.proofs.lemmas.Slice.Eq.{bytes_eq-Decides}
use Rattle.raft_log_fs.specs.Disk.{File, Disk}
use Rattle.raft_log_fs.specs.Causes.{IsLater}
use Rattle.raft_log_fs.specs.Image.{IsSound}
use Rattle.raft_log_fs.specs.Calls.{created, deleted, renamed, Creates, Deletes, Renames, IsRight}
use Rattle.raft_log_fs.specs.Exits.{FailsToCreate, FailsToDelete, FailsToRename}
use Rattle.raft_log_fs.specs.Arguments.{WrongCreate, WrongName, WrongRename}
use Rattle.raft_log_file_writer.specs.LogFormat.{Format, IsFormat}
use Rattle.raft_log_file_writer.specs.LogQueue.{LogFiles, HoldsLast, IsPast, rotated}
use Rattle.raft_log_fs.specs.Touching.{HasFile, TouchesOnly}
use Rattle.raft_log_fs.specs.declared.handle.Handle.{Handle}
use Rattle.raft_log_fs.specs.declared.handle.Permission.TheVariants.{ReadWrite}
use Rattle.raft_log_fs.proofs.Public.{calm_either, creation_leaves, deletion_leaves, fails_after, fails_whole, kept_create, kept_delete, kept_rename, later_then, renaming_leaves, IsCalm}
use Rattle.raft_log_file_writer.specs.declared.writer.LogFileWriter.{LogFileWriter}
use Rattle.raft_log_active_file.specs.Queue.{finished, with_room}
use Rattle.raft_log_active_file.specs.States.{IsNew}
use Rattle.raft_log_active_file.specs.Standing.{Names, HaveOneName, OwnsPaths, Stands}
use Rattle.raft_log_active_file.specs.Bridge.{GapsStay}
use Rattle.raft_log_active_file.proofs.FileSteps.{active_holds, past_holds, new_holds}
use Rattle.raft_log_active_file.proofs.Standing.{have_one_name, stands_weaker, stands_calm, stands_created, stands_deleted, stands_renamed}
use Rattle.raft_log_active_file.specs.LastFile.{IsActiveTo, IsPastTo}
use Rattle.raft_log_active_file.specs.Exits.{IsOpen, IsFinished, Finishes, FailsToFinish, IsGiven, Begins, FailsToBegin}
use Rattle.raft_log_active_file.specs.Rotation.{CanRotate, IsSpare, StandsWithRecords, IsLeftTurned, StaysBehind, RotatesToNew, FailsToRotateToNew, RotatesOver, FailsToRotateOver, CanDrop, Drops, FailsToDrop}
use Rattle.raft_log_active_file.proofs.Writing.{no_room}

-- two paths are the same, or not
cases_bytes : (a b : List ℕ) → (a ≡ b) ⊎ (a ≡ b → ⊥)
cases_bytes a b = elim (cases_Bool (bytes_eq a b)) [
  | inl hit ↦ inl ((bytes_eq-Decides a b).0 hit)
  | inr miss ↦ inr (λ same. false≢true (sym miss ∙ (bytes_eq-Decides a b).1 same))
]

module _ {R : Type 0} (F : Format R) where
  -- calls on a file fill no gap
  gaps_touched : (q : LogFiles R) (id : ℕ) (old new : Disk) → TouchesOnly id old new → GapsStay F q old new
  gaps_touched q id old new only m below none path at = ap (λ (f : Names). f path) only.names ∙ none path at

  gaps_then : (q : LogFiles R) (a b c : Disk) → GapsStay F q a b → GapsStay F q b c → GapsStay F q a c
  gaps_then q a b c first next m below none = next m below (first m below none)

  gaps_calm : (q : LogFiles R) (old : Disk) → IsCalm (GapsStay F q old)
  gaps_calm q old = record { at_count = λ d stay. stay; at_end = λ d stay. stay }

  module _ (own : List ℕ → Type 0) (lawful : IsFormat F) (owns : OwnsPaths F own) where
    pub left_calm : (base : Disk) (q : LogFiles R) → IsCalm (StandsWithRecords F own base q)
    left_calm base q = record {
      at_count = λ d left. record { path = left.path; id = left.id; N = left.N; stands = (stands_calm F own base q left.path left.id (HoldsLast F q) left.N).at_count d left.stands };
      at_end = λ d left. record { path = left.path; id = left.id; N = left.N; stands = (stands_calm F own base q left.path left.id (HoldsLast F q) left.N).at_end d left.stands };
    }

    turned_calm : (base : Disk) (q : LogFiles R) (header stale : List ℕ) → IsCalm (IsLeftTurned F own base q header stale)
    turned_calm base q header stale = calm_either (left_calm base q) (record {
      at_count = λ d (room, left). (room, (left_calm base (with_room room (rotated header stale q))).at_count d left);
      at_end = λ d (room, left). (room, (left_calm base (with_room room (rotated header stale q))).at_end d left);
    })

    both_calm : (P Q : Disk → Type 0) → IsCalm P → IsCalm Q → IsCalm (λ d. P d × Q d)
    both_calm P Q p q = record { at_count = λ d (a, b). (p.at_count d a, q.at_count d b); at_end = λ d (a, b). (p.at_end d a, q.at_end d b) }

    -- a finished file is held
    finished_left : (base : Disk) (writer : LogFileWriter) (q : LogFiles R) (path : List ℕ) (N : Names) (d : Disk) → IsFinished F own base writer q path N d → StandsWithRecords F own base q d
    finished_left base writer q path N d is = record {
      path = path;
      id = writer.handle.file;
      N = N;
      stands = stands_weaker F own base q path writer.handle.file (IsPastTo F writer.capacity q) (HoldsLast F q) N d (λ file was. past_holds F lawful q file was.past) is.stands;
    }

    -- the next file, before its header
    given_left : (base : Disk) (q : LogFiles R) (header stale path : List ℕ) (id : ℕ) (N : Names) (d : Disk) → Stands F own base (rotated header stale q) path id (IsNew F (rotated header stale q)) N d
        → (room : ℕ) × StandsWithRecords F own base (with_room room (rotated header stale q)) d
    given_left base q header stale path id N d s =
        let next = rotated header stale q in (
          0,
          subst (λ (p : LogFiles R). StandsWithRecords F own base p d) (sym (no_room F next)) (record {
            path = path;
            id = id;
            N = N;
            stands = stands_weaker F own base next path id (IsNew F next) (HoldsLast F next) N d (λ file was. new_holds F header stale next file was) s;
          }),
        )

    other_number : (q : LogFiles R) (header to : List ℕ) (m : ℕ) (path : List ℕ) → CanRotate F q header to → m < q.last → F.IsPath m path → path ≡ to → ⊥
    other_number q header to m path can below at same =
        (let bound = can.bound in
        let number : m ≡ suc q.last = lawful.paths m (suc q.last) to (omega (arith, below, bound)) bound (subst (F.IsPath m) same at) can.path in
        omega (arith, number, below))

    -- Making the next file.

    gaps_created : (q : LogFiles R) (header to : List ℕ) (old : Disk) → IsSound old → CanRotate F q header to → GapsStay F q old (created to old)
    gaps_created q header to old sound can m below none path at = (creation_leaves old to sound).names path (other_number q header to m path can below at) ∙ none path at

    right_path : (base : Disk) (writer : LogFileWriter) (q : LogFiles R) (header to path : List ℕ) (N : Names) (old : Disk) → CanRotate F q header to → IsFinished F own base writer q path N old → IsRight (WrongCreate to old)
    right_path base writer q header to path N old can is error (inl (exists, inl named)) =
        named (ap (λ (f : Names). f to) is.stands.names ∙ is.stands.none (suc q.last) to (omega arith) can.bound can.path)
    right_path base writer q header to path N old can is error (inl (exists, inr directory)) = false≢true (sym (is.stands.places (suc q.last) to can.bound can.path).apart ∙ directory)
    right_path base writer q header to path N old can is error (inr (missing, homeless)) = homeless (is.stands.places (suc q.last) to can.bound can.path).home

    made_stands : (base : Disk) (writer : LogFileWriter) (q : LogFiles R) (header to path : List ℕ) (N : Names) (old : Disk) → IsSound old → CanRotate F q header to → IsFinished F own base writer q path N old
        → Stands F own base (rotated header [] q) to old.unused (IsNew F (rotated header [] q)) (update bytes_eq N to (Some old.unused)) (created to old)
    made_stands base writer q header to path N old sound can is =
        stands_created F own base lawful owns q header path to writer.handle.file N old sound can.bound can.header_is can.path
        (stands_weaker F own base q path writer.handle.file (IsPastTo F writer.capacity q) (IsPast F q.last (finished q)) N old (λ file was. was.past) is.stands)

    unmade : (base : Disk) (writer : LogFileWriter) (q : LogFiles R) (header to path : List ℕ) (N : Names) (error : ErrorKind) (old new : Disk) → IsSound old → CanRotate F q header to → IsFinished F own base writer q path N old
        → FailsToCreate to error old new → StaysBehind F own base q header [] old new
    unmade base writer q header to path N error old new sound can is fails =
        let Q : Disk → Type 0 = λ d. IsLeftTurned F own base q header [] d × GapsStay F q old d in
        let refused : Result ℕ ErrorKind = Err error in
        let (left, gaps) = kept_create Q (λ n. n) (WrongCreate to old) refused to (both_calm (IsLeftTurned F own base q header []) (GapsStay F q old) (turned_calm base q header []) (gaps_calm q old))
        (inl (finished_left base writer q path N old is), λ m below none. none)
        (λ free apart home. (inr (given_left base q header [] to old.unused (update bytes_eq N to (Some old.unused)) (created to old) (made_stands base writer q header to path N old sound can is)), gaps_created q header to old sound can)) tt fails in
        (fails_whole (right_path base writer q header to path N old can is) fails, left, gaps)

    -- The whole rotation into a new file.

    pub not_finished : (base : Disk) (before : LogFileWriter) (q : LogFiles R) (header stale path : List ℕ) (N : Names) (old new : Disk) → FailsToFinish F own before old new → TouchesOnly before.handle.file old new
        → IsOpen F own base before q path N old → StaysBehind F own base q header stale old new
    not_finished base before q header stale path N old new fails only was =
        let (cause, held) = fails base q path N was in
        (cause, inl (record { path = path; id = before.handle.file; N = N; stands = held }), gaps_touched q before.handle.file old new only)

    pub begun_left : (base : Disk) (q : LogFiles R) (header stale to : List ℕ) (handle : Handle) (N : Names) (old named new : Disk) → FailsToBegin F own handle header named new → TouchesOnly handle.file named new
        → IsGiven F own base handle (rotated header stale q) to N named → GapsStay F q old named → IsLater old named → StaysBehind F own base q header stale old new
    begun_left base q header stale to handle N old named new fails only given gaps later =
        let (cause, (room, held)) = fails base (rotated header stale q) stale to N given in (
          fails_after old named new later cause,
          inr (room, record { path = to; id = handle.file; N = N; stands = held }),
          gaps_then q old named new gaps (gaps_touched q handle.file named new only),
        )

    given_made : (base : Disk) (middle : LogFileWriter) (q : LogFiles R) (header to path : List ℕ) (handle : Handle) (N : Names) (d1 d2 : Disk) → IsSound d1 → CanRotate F q header to → IsFinished F own base middle q path N d1
        → Creates to handle.file d1 d2 → handle.permission ≡ ReadWrite → IsGiven F own base handle (rotated header [] q) to (update bytes_eq N to (Some d1.unused)) d2
    given_made base middle q header to path handle N d1 d2 sound can is creates permitted =
        let next = rotated header [] q in
        let M : Names = update bytes_eq N to (Some d1.unused) in (
          permitted,
          subst (λ (d : Disk). Stands F own base next to handle.file (IsNew F next) M d) (sym creates.done)
              (subst (λ (id : ℕ). Stands F own base next to id (IsNew F next) M (created to d1)) (sym creates.number) (made_stands base middle q header to path N d1 sound can is)),
        )

    gaps_made : (q : LogFiles R) (header to : List ℕ) (id : ℕ) (old d1 d2 : Disk) → IsSound d1 → CanRotate F q header to → GapsStay F q old d1 → Creates to id d1 d2 → GapsStay F q old d2
    gaps_made q header to id old d1 d2 sound can first creates = gaps_then q old d1 d2 first (subst (GapsStay F q d1) (sym creates.done) (gaps_created q header to d1 sound can))

    pub rotates_to_new : (before middle after : LogFileWriter) (header to : List ℕ) (handle : Handle) (old d1 d2 new : Disk) → IsSound d1 → Finishes F own before middle old d1 → TouchesOnly before.handle.file old d1
        → Creates to handle.file d1 d2 → handle.permission ≡ ReadWrite → Begins F own handle header after d2 new → TouchesOnly handle.file d2 new → RotatesToNew F own header to before after handle old new
    rotates_to_new before middle after header to handle old d1 d2 new sound finish only creates permitted begin touches base q path N can was =
        let is = finish base q path N was in
        let M : Names = update bytes_eq N to (Some d1.unused) in
        let given = given_made base middle q header to path handle N d1 d2 sound can is creates permitted in
        let (room, stands) = begin base (rotated header [] q) [] to M given in (
          room,
          subst (λ (n : ℕ). IsOpen F own base after (with_room room (rotated header [] q)) to (update bytes_eq N to (Some n)) new) (sym creates.number) stands,
          gaps_then q old d2 new (gaps_made q header to handle.file old d1 d2 sound can (gaps_touched q before.handle.file old d1 only) creates) (gaps_touched q handle.file d2 new touches),
        )

    pub fails_to_create : (before middle : LogFileWriter) (header to : List ℕ) (error : ErrorKind) (old d1 new : Disk) → IsSound d1 → Finishes F own before middle old d1 → TouchesOnly before.handle.file old d1 → IsLater old d1
        → FailsToCreate to error d1 new → FailsToRotateToNew F own header to before old new
    fails_to_create before middle header to error old d1 new sound finish only later fails base q path N can was =
        let (cause, left, gaps) = unmade base middle q header to path N error d1 new sound can (finish base q path N was) fails in
        (fails_after old d1 new later cause, left, gaps_then q old d1 new (gaps_touched q before.handle.file old d1 only) gaps)

    pub fails_to_begin_new : (before middle : LogFileWriter) (header to : List ℕ) (handle : Handle) (old d1 d2 new : Disk) → IsSound d1 → Finishes F own before middle old d1 → TouchesOnly before.handle.file old d1 → IsLater old d1
        → Creates to handle.file d1 d2 → handle.permission ≡ ReadWrite → FailsToBegin F own handle header d2 new → TouchesOnly handle.file d2 new → FailsToRotateToNew F own header to before old new
    fails_to_begin_new before middle header to handle old d1 d2 new sound finish only later creates permitted fails touches base q path N can was =
        let is = finish base q path N was in
        let M : Names = update bytes_eq N to (Some d1.unused) in
        let after_made : IsLater d1 d2 = record {
          failures = omega (arith, ap (λ (d : Disk). d.failures) creates.done);
          stopped = λ stops. ap (λ (d : Disk). d.stopped) creates.done ∙ stops;
        } in
        begun_left base q header [] to handle M old d2 new fails touches (given_made base middle q header to path handle N d1 d2 sound can is creates permitted)
        (gaps_made q header to handle.file old d1 d2 sound can (gaps_touched q before.handle.file old d1 only) creates) (later_then old d1 d2 later after_made)

    -- The whole rotation over a file that was kept.

    gaps_renamed : (q : LogFiles R) (header from to : List ℕ) (id : ℕ) (old : Disk) → CanRotate F q header to → GapsStay F q old (renamed from to id old)
    gaps_renamed q header from to id old can m below none path at =
        let leaves = renaming_leaves old from to id in
        let here = other_number q header to m path can below at in
        elim (cases_bytes path from) [
          | inl same ↦ subst (λ (p : List ℕ). (renamed from to id old).names p ≡ None) (sym same) (leaves.unnamed (λ e. here (same ∙ e)))
          | inr apart ↦ leaves.names path apart here ∙ none path at
        ]

    right_names : (base : Disk) (writer : LogFileWriter) (q : LogFiles R) (header from to path : List ℕ) (id : ℕ) (N : Names) (old : Disk) → CanRotate F q header to → IsFinished F own base writer q path N old → N from ≡ Some id → IsRight (WrongRename from to old)
    right_names base writer q header from to path id N old can is named error (inl (missing, none)) = (let there = ap (λ (f : Names). f from) is.stands.names ∙ named in cc (none, there))
    right_names base writer q header from to path id N old can is named error (inr (inl (wrong, directory))) = false≢true (sym (is.stands.places (suc q.last) to can.bound can.path).apart ∙ directory)
    right_names base writer q header from to path id N old can is named error (inr (inr (missing, homeless))) = homeless (is.stands.places (suc q.last) to can.bound can.path).home

    -- a call on the last file leaves the spare one
    spare_touched : (q : LogFiles R) (header stale : List ℕ) (handle : Handle) (from path : List ℕ) (id : ℕ) (N : Names) (P : File → Type 0) (base old new : Disk) → HaveOneName N → TouchesOnly id old new
        → Stands F own base q path id P N old → IsSpare F own q header stale handle from N old → HasFile handle.file (IsNew F (rotated header stale q)) new
    spare_touched q header stale handle from path id N P base old new one only s spare =
        let other : handle.file ≡ id → ⊥ = λ same. spare.apart q.last (omega arith) s.bound (subst (F.IsPath q.last) (one path from id s.named (spare.named ∙ ap Some same)) s.at) in
        record { file = spare.file.file; is = only.others handle.file other ∙ spare.file.is; has = spare.file.has }

    renamed_stands : (base : Disk) (writer : LogFileWriter) (q : LogFiles R) (header stale from to path : List ℕ) (handle : Handle) (N : Names) (old : Disk) → IsSound old → CanRotate F q header to → IsFinished F own base writer q path N old
        → IsSpare F own q header stale handle from N old
        → Stands F own base (rotated header stale q) to handle.file (IsNew F (rotated header stale q)) (update bytes_eq (update bytes_eq N from None) to (Some handle.file)) (renamed from to handle.file old)
    renamed_stands base writer q header stale from to path handle N old sound can is spare =
        stands_renamed F own base lawful owns q header stale path from to writer.handle.file handle.file N old sound can.bound can.header_is can.path spare.mine spare.apart spare.named spare.file
        (stands_weaker F own base q path writer.handle.file (IsPastTo F writer.capacity q) (IsPast F q.last (finished q)) N old (λ file was. was.past) is.stands)

    -- the spare file, once the last one is finished
    spare_left : (base : Disk) (before middle : LogFileWriter) (q : LogFiles R) (header stale from to path : List ℕ) (handle : Handle) (N : Names) (old d1 : Disk) → IsSound old → TouchesOnly before.handle.file old d1 → IsOpen F own base before q path N old
        → IsSpare F own q header stale handle from N old → IsSpare F own q header stale handle from N d1
    spare_left base before middle q header stale from to path handle N old d1 sound only was spare = record {
      mine = spare.mine;
      apart = spare.apart;
      named = spare.named;
      permitted = spare.permitted;
      file = spare_touched q header stale handle from path before.handle.file N _ base old d1 (have_one_name old N sound was.stands.names) only was.stands spare;
    }

    given_renamed : (base : Disk) (middle : LogFileWriter) (q : LogFiles R) (header stale from to path : List ℕ) (handle : Handle) (N : Names) (d1 d2 : Disk) → IsSound d1 → CanRotate F q header to → IsFinished F own base middle q path N d1
        → IsSpare F own q header stale handle from N d1 → Renames from to d1 d2
        → IsGiven F own base handle (rotated header stale q) to (update bytes_eq (update bytes_eq N from None) to (Some handle.file)) d2
    given_renamed base middle q header stale from to path handle N d1 d2 sound can is spare renames =
        let next = rotated header stale q in
        let M : Names = update bytes_eq (update bytes_eq N from None) to (Some handle.file) in
        let there : d1.names from ≡ Some handle.file = ap (λ (f : Names). f from) is.stands.names ∙ spare.named in
        let id = renames.is in
        let same : renames.id ≡ handle.file = cc (id, there) in (
          spare.permitted,
          subst (λ (d : Disk). Stands F own base next to handle.file (IsNew F next) M d) (sym (renames.done ∙ ap (λ (n : ℕ). renamed from to n d1) same))
              (renamed_stands base middle q header stale from to path handle N d1 sound can is spare),
        )

    gaps_turned : (q : LogFiles R) (header from to : List ℕ) (old d1 d2 : Disk) → CanRotate F q header to → GapsStay F q old d1 → Renames from to d1 d2 → GapsStay F q old d2
    gaps_turned q header from to old d1 d2 can first renames = gaps_then q old d1 d2 first (subst (GapsStay F q d1) (sym renames.done) (gaps_renamed q header from to renames.id d1 can))

    pub rotates_over : (before middle after : LogFileWriter) (header from to : List ℕ) (handle : Handle) (old d1 d2 new : Disk) → IsSound old → IsSound d1 → Finishes F own before middle old d1 → TouchesOnly before.handle.file old d1
        → Renames from to d1 d2 → Begins F own handle header after d2 new → TouchesOnly handle.file d2 new → RotatesOver F own header handle from to before after old new
    rotates_over before middle after header from to handle old d1 d2 new sound sound_then finish only renames begin touches base q stale path N can spare was =
        let is = finish base q path N was in
        let M : Names = update bytes_eq (update bytes_eq N from None) to (Some handle.file) in
        let given = given_renamed base middle q header stale from to path handle N d1 d2 sound_then can is (spare_left base before middle q header stale from to path handle N old d1 sound only was spare) renames in
        let (room, stands) = begin base (rotated header stale q) stale to M given in
        (room, stands, gaps_then q old d2 new (gaps_turned q header from to old d1 d2 can (gaps_touched q before.handle.file old d1 only) renames) (gaps_touched q handle.file d2 new touches))

    pub fails_to_rename : (before middle : LogFileWriter) (header from to : List ℕ) (handle : Handle) (error : ErrorKind) (old d1 new : Disk) → IsSound old → IsSound d1 → Finishes F own before middle old d1 → TouchesOnly before.handle.file old d1 → IsLater old d1
        → FailsToRename from to error d1 new → FailsToRotateOver F own header handle from to before old new
    fails_to_rename before middle header from to handle error old d1 new sound sound_then finish only later fails base q stale path N can spare was =
        let is = finish base q path N was in
        let still = spare_left base before middle q header stale from to path handle N old d1 sound only was spare in
        let there : d1.names from ≡ Some handle.file = ap (λ (f : Names). f from) is.stands.names ∙ spare.named in
        let Q : Disk → Type 0 = λ d. IsLeftTurned F own base q header stale d × GapsStay F q d1 d in
        let refused : Result ℕ ErrorKind = Err error in
        let (left, gaps) = kept_rename Q (WrongRename from to d1) refused from to (both_calm (IsLeftTurned F own base q header stale) (GapsStay F q d1) (turned_calm base q header stale) (gaps_calm q d1))
        (inl (finished_left base middle q path N d1 is), λ m below none. none)
        (λ id named apart home.
        (let same : handle.file ≡ id = cc (named, there) in
        let turned = renamed_stands base middle q header stale from to path handle N d1 sound_then can is still in (
          inr (given_left base q header stale to handle.file (update bytes_eq (update bytes_eq N from None) to (Some handle.file)) (renamed from to id d1)
              (subst (λ (n : ℕ). Stands F own base (rotated header stale q) to handle.file (IsNew F (rotated header stale q)) (update bytes_eq (update bytes_eq N from None) to (Some handle.file)) (renamed from to n d1)) same turned)),
          gaps_renamed q header from to id d1 can,
        ))) tt fails in
        (fails_after old d1 new later (fails_whole (right_names base middle q header from to path handle.file N d1 can is spare.named) fails), left, gaps_then q old d1 new (gaps_touched q before.handle.file old d1 only) gaps)

    pub fails_to_begin_over : (before middle : LogFileWriter) (header from to : List ℕ) (handle : Handle) (old d1 d2 new : Disk) → IsSound old → IsSound d1 → Finishes F own before middle old d1 → TouchesOnly before.handle.file old d1 → IsLater old d1
        → Renames from to d1 d2 → FailsToBegin F own handle header d2 new → TouchesOnly handle.file d2 new → FailsToRotateOver F own header handle from to before old new
    fails_to_begin_over before middle header from to handle old d1 d2 new sound sound_then finish only later renames fails touches base q stale path N can spare was =
        let is = finish base q path N was in
        let M : Names = update bytes_eq (update bytes_eq N from None) to (Some handle.file) in
        let after_renamed : IsLater d1 d2 = record {
          failures = omega (arith, ap (λ (d : Disk). d.failures) renames.done);
          stopped = λ stops. ap (λ (d : Disk). d.stopped) renames.done ∙ stops;
        } in
        begun_left base q header stale to handle M old d2 new fails touches
        (given_renamed base middle q header stale from to path handle N d1 d2 sound_then can is (spare_left base before middle q header stale from to path handle N old d1 sound only was spare) renames)
        (gaps_turned q header from to old d1 d2 can (gaps_touched q before.handle.file old d1 only) renames) (later_then old d1 d2 later after_renamed)

    -- A file is dropped.

    gaps_deleted : (q : LogFiles R) (gone : List ℕ) (id : ℕ) (old : Disk) → GapsStay F q old (deleted gone id old)
    gaps_deleted q gone id old m below none path at =
        let leaves = deletion_leaves old gone id in
        elim (cases_bytes path gone) [
          | inl same ↦ subst (λ (p : List ℕ). (deleted gone id old).names p ≡ None) (sym same) leaves.unnamed
          | inr apart ↦ leaves.names path apart ∙ none path at
        ]

    dropped_stands : (base : Disk) (writer : LogFileWriter) (q : LogFiles R) (gone path : List ℕ) (N : Names) (id : ℕ) (old : Disk) → IsSound old → (can : CanDrop F own q gone N) → old.names gone ≡ Some id → IsOpen F own base writer q path N old
        → IsOpen F own base writer q path (update bytes_eq N gone None) (deleted gone id old)
    dropped_stands base writer q gone path N id old sound can there was = record {
      permitted = was.permitted;
      written = was.written;
      stands = stands_deleted F own base lawful owns q path gone writer.handle.file id (IsActiveTo F writer.capacity q) N old sound can.mine can.apart (ap (λ (f : Names). f gone) (sym was.stands.names) ∙ there) was.stands;
    }

    pub open_left : (base : Disk) (writer : LogFileWriter) (q : LogFiles R) (path : List ℕ) (N : Names) (d : Disk) → IsOpen F own base writer q path N d → StandsWithRecords F own base q d
    open_left base writer q path N d is = record {
      path = path;
      id = writer.handle.file;
      N = N;
      stands = stands_weaker F own base q path writer.handle.file (IsActiveTo F writer.capacity q) (HoldsLast F q) N d (λ file was. active_holds F q file was.active) is.stands;
    }

    pub drops : (gone : List ℕ) (old new : Disk) → IsSound old → Deletes gone old new → Drops F own gone old new
    drops gone old new sound deletes base writer q path N can was = (
      subst (IsOpen F own base writer q path (update bytes_eq N gone None)) (sym deletes.done) (dropped_stands base writer q gone path N deletes.id old sound can deletes.is was),
      subst (GapsStay F q old) (sym deletes.done) (gaps_deleted q gone deletes.id old),
    )

    pub fails_to_drop : (gone : List ℕ) (error : ErrorKind) (old new : Disk) → IsSound old → FailsToDelete gone error old new → FailsToDrop F own gone old new
    fails_to_drop gone error old new sound fails base writer q path N can was =
        let there : old.names gone ≡ Some can.id = ap (λ (f : Names). f gone) was.stands.names ∙ can.named in
        let Q : Disk → Type 0 = λ d. StandsWithRecords F own base q d × GapsStay F q old d in
        let refused : Result ℕ ErrorKind = Err error in
        let (left, gaps) = kept_delete Q (WrongName gone old) refused gone (both_calm (StandsWithRecords F own base q) (GapsStay F q old) (left_calm base q) (gaps_calm q old)) (open_left base writer q path N old was, λ m below none. none)
        (λ id named. (open_left base writer q path (update bytes_eq N gone None) (deleted gone id old) (dropped_stands base writer q gone path N id old sound can named was), gaps_deleted q gone id old)) tt fails in
        (fails_whole (λ e wrong. (let none = wrong.1 in cc (none, there))) fails, left, gaps)

    pub drops_either : (result : Result (Unit {0}) ErrorKind) (gone : List ℕ) (old new : Disk) → IsSound old → OnOk result (Deletes gone old new) → OnOk result (Drops F own gone old new)
    drops_either (Ok v) gone old new sound ok = drops gone old new sound ok
    drops_either (Err e) gone old new sound ok = tt

    pub keeps_either : (result : Result (Unit {0}) ErrorKind) (gone : List ℕ) (old new : Disk) → IsSound old → IfErr result (λ e. FailsToDelete gone e old new) → OnErr result (FailsToDrop F own gone old new)
    keeps_either (Ok v) gone old new sound err = tt
    keeps_either (Err e) gone old new sound err = fails_to_drop gone e old new sound err
