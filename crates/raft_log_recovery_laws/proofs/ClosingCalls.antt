-- What the calls of a close leave of the disk, and of a file at a path that they aren't about.
use Rattle.std.specs.Prelude.{Result, Ok, Err}
use Rattle.std.specs.declared.io.ErrorKind.{ErrorKind}
use Rattle.std.proofs.Common.{◌≡◌, ℕ, suc, false, List, [], ◌∷◌, ◌++◌, reverse, refl, sym, subst, ◌∙◌, inl, inr}
use Rattle.std.proofs.lemmas.List.{reverse-append}
use Rattle.raft_log_fs.specs.Disk.{Disk, ShortenedTo}
use Rattle.raft_log_fs.specs.Arguments.{WrongHandle, WrongRename, WrongWriter}
use Rattle.raft_log_fs.specs.Causes.{Fails, IsLater}
use Rattle.raft_log_fs.specs.Image.{IsSound}
use Rattle.raft_log_fs.specs.Touching.{TouchesOnly, TouchesOnlyNames}
use Rattle.raft_log_fs.proofs.Public.{kept_rename, later_change, later_rename, later_same, later_sync, later_then, names_rename, names_same, names_then, sound_at_stop, sound_counted, sound_renamed, touches_sync, touches_then, IsCalm}
use Rattle.raft_log_file_writer.specs.LogFormat.{Format}
use Rattle.raft_log_file_writer.specs.Writer.{Closes, CutsBehind, FailsToClose, IsWritten}
use Rattle.raft_log_file_writer.specs.Writer.CutsBehind.{ends_there, is_cut}
use Rattle.raft_log_file_writer.specs.Writer.FailsToClose.{not_cut, not_synced}
use Rattle.raft_log_file_writer.specs.declared.writer.LogFileWriter.{LogFileWriter}
use Rattle.raft_log_fs.specs.Exits.{FailsToSync}
use Rattle.raft_log_fs.specs.declared.handle.Handle.{Handle}
use Rattle.raft_log_file_writer.proofs.Public.{cut_handle, cut_later, cut_touches, unclosed_kept, uncut_kept}
use Rattle.raft_log_active_file.specs.Layout.{FilePaths, IsLayout, path_of}
use Rattle.raft_log_file_pipe.specs.Closing.{AreBelow, FinishesOrNot, Reserves, ReservesAll, StaysLeft}
use Rattle.raft_log_file_pipe.specs.Closing.Reserves.{named, refused, unnamed}
use Rattle.raft_log_file_pipe.specs.Files.{Listed}
use Rattle.raft_log_file_pipe.proofs.Public.{stays_left_by}
use Rattle.raft_log_recovery_laws.proofs.Cutting.{flushed_sound, shortened_sound}

-- The active file is finished.

cut_sound : (before after : LogFileWriter) (old new : Disk) → IsSound old → CutsBehind before after old new → IsSound new
cut_sound before after old new sound (ends_there near same unchanged) = subst IsSound (sym unchanged) sound
cut_sound before after old new sound (is_cut far shortens at) = shortened_sound before.handle.file before.written old new sound shortens

pub closes_sound : (before after : LogFileWriter) (old new : Disk) → IsSound old → Closes before after old new → IsSound new
closes_sound before after old new sound closes =
    flushed_sound before.handle.file closes.between new (cut_sound before after old closes.between sound closes.cuts) closes.syncs

pub closes_touch : (before after : LogFileWriter) (old new : Disk) → Closes before after old new → TouchesOnly before.handle.file old new
closes_touch before after old new closes =
    let ok : Result (Unit {0}) ErrorKind = Ok tt in
    touches_then before.handle.file old closes.between new (cut_touches before after old closes.between closes.cuts)
    (touches_sync (WrongHandle before.handle closes.between) ok before.handle.file closes.syncs tt)

pub closes_later : (before after : LogFileWriter) (old new : Disk) → Closes before after old new → IsLater old new
closes_later before after old new closes =
    let ok : Result (Unit {0}) ErrorKind = Ok tt in
    later_then old closes.between new (cut_later before after old closes.between closes.cuts)
    (later_sync (WrongHandle before.handle closes.between) ok before.handle.file closes.syncs tt)

unclosed_later : (before after : LogFileWriter) (error : ErrorKind) (old new : Disk) → FailsToClose before after error old new → IsLater old new
unclosed_later before after error old new (not_cut fails) =
    let no : Result (Unit {0}) ErrorKind = Err error in
    later_change (WrongWriter before.handle old) no before.handle.file (ShortenedTo before.written) tt fails.fails
unclosed_later before after error old new (not_synced between cuts fails) =
    let no : Result (Unit {0}) ErrorKind = Err error in
    later_then old between new (cut_later before after old between cuts) (later_sync (WrongHandle before.handle between) no before.handle.file tt fails)

pub finish_later : (before : LogFileWriter) (old new : Disk) → FinishesOrNot before old new → IsLater old new
finish_later before old new finishes = elim finishes [
  | inl closed ↦ closes_later before closed.0 old new closed.1
  | inr unclosed ↦ unclosed_later before unclosed.0 unclosed.1 old new unclosed.2
]

-- where that fails, a file call failed
pub unclosed_fails : (before after : LogFileWriter) (error : ErrorKind) (old new : Disk) (bytes : List ℕ) → IsWritten before bytes old → FailsToClose before after error old new → Fails old new
unclosed_fails before after error old new bytes is (not_cut fails) = (uncut_kept before after old new error fails bytes is).1
unclosed_fails before after error old new bytes is (not_synced between cuts fails) =
    let no : Result (Unit {0}) ErrorKind = Err error in
    let again : FailsToSync after.handle error between new = subst (λ (h : Handle). FailsToSync h error between new) (sym (cut_handle before after old between cuts)) fails in
    (unclosed_kept before after old between new cuts no again bytes is).1

-- Names are reserved.

sound_calm : IsCalm IsSound
sound_calm = record { at_count = λ {error} d sound. sound_counted error d sound; at_end = λ d sound. sound_at_stop d sound }

module _ (paths : FilePaths) where
  reserve_sound : (f : Listed) (last next : ℕ) (old new : Disk) → IsSound old → Reserves paths f last next old new → IsSound new
  reserve_sound f last next old new sound (named is renames) =
      subst IsSound (sym renames.done) (sound_renamed old (path_of paths f) (paths.reserved 0 next) renames.id sound renames.is renames.apart renames.home)
  reserve_sound f last next old new sound (refused error is fails) =
      let no : Result (Unit {0}) ErrorKind = Err error in
      let from = path_of paths f in
      let to = paths.reserved 0 (suc last) in
      kept_rename IsSound (WrongRename from to old) no from to sound_calm sound (λ id here apart home. sound_renamed old from to id sound here apart home) tt fails
  reserve_sound f last next old new sound (unnamed is same) = subst IsSound (sym same) sound

  reserve_later : (f : Listed) (last next : ℕ) (old new : Disk) → Reserves paths f last next old new → IsLater old new
  reserve_later f last next old new (named is renames) =
      let ok : Result (Unit {0}) ErrorKind = Ok tt in
      later_rename (WrongRename (path_of paths f) (paths.reserved 0 next) old) ok (path_of paths f) (paths.reserved 0 next) renames tt
  reserve_later f last next old new (refused error is fails) =
      let no : Result (Unit {0}) ErrorKind = Err error in
      later_rename (WrongRename (path_of paths f) (paths.reserved 0 (suc last)) old) no (path_of paths f) (paths.reserved 0 (suc last)) tt fails
  reserve_later f last next old new (unnamed is same) = subst (IsLater old) (sym same) (later_same old)

  pub reserves_sound : (fs : List Listed) (last : ℕ) (old new : Disk) → IsSound old → ReservesAll paths fs last old new → IsSound new
  reserves_sound [] last old new sound same = subst IsSound (sym same) sound
  reserves_sound (f ∷ fs) last old new sound all = elim all [
    | inl stops ↦ subst IsSound (sym stops.1) sound
    | inr goes ↦
        (let (listed, (next, between, here, rest)) = goes in
        reserves_sound fs next between new (reserve_sound f last next old between sound here) rest)
  ]

  pub reserves_later : (fs : List Listed) (last : ℕ) (old new : Disk) → ReservesAll paths fs last old new → IsLater old new
  reserves_later [] last old new same = subst (IsLater old) (sym same) (later_same old)
  reserves_later (f ∷ fs) last old new all = elim all [
    | inl stops ↦ subst (IsLater old) (sym stops.1) (later_same old)
    | inr goes ↦
        (let (listed, (next, between, here, rest)) = goes in
        later_then old between new (reserve_later f last next old between here) (reserves_later fs next between new rest))
  ]

  -- whose names these are
  abbrev pub AreOwn : (List ℕ → Type 0) → List Listed → Type 0
  AreOwn own [] = Unit {0}
  AreOwn own (f ∷ fs) = (f.reserved ≡ false → own (path_of paths f)) × AreOwn own fs

  module _ (own : List ℕ → Type 0) (ours : (n : ℕ) → own (paths.reserved 0 n)) where
    reserve_touches : (f : Listed) (last next : ℕ) (old new : Disk) → IsSound old → own (path_of paths f) → Reserves paths f last next old new → TouchesOnlyNames own old new
    reserve_touches f last next old new sound mine (named is renames) =
        let ok : Result (Unit {0}) ErrorKind = Ok tt in
        names_rename own (WrongRename (path_of paths f) (paths.reserved 0 next) old) ok (path_of paths f) (paths.reserved 0 next) sound mine (ours next) renames tt
    reserve_touches f last next old new sound mine (refused error is fails) =
        let no : Result (Unit {0}) ErrorKind = Err error in
        names_rename own (WrongRename (path_of paths f) (paths.reserved 0 (suc last)) old) no (path_of paths f) (paths.reserved 0 (suc last)) sound mine (ours (suc last)) tt fails
    reserve_touches f last next old new sound mine (unnamed is same) = subst (TouchesOnlyNames own old) (sym same) (names_same own old)

    pub reserves_touch : (fs : List Listed) (last : ℕ) (old new : Disk) → IsSound old → AreOwn own fs → ReservesAll paths fs last old new → TouchesOnlyNames own old new
    reserves_touch [] last old new sound mine same = subst (TouchesOnlyNames own old) (sym same) (names_same own old)
    reserves_touch (f ∷ fs) last old new sound mine all = elim all [
      | inl stops ↦ subst (TouchesOnlyNames own old) (sym stops.1) (names_same own old)
      | inr goes ↦
          (let (listed, (next, between, here, rest)) = goes in
          names_then own old between new (reserve_touches f last next old between sound (mine.0 listed) here)
          (reserves_touch fs next between new (reserve_sound f last next old between sound here) mine.1 rest))
    ]

-- Files that are below a number, in the other order.

below_both : (n : ℕ) (fs gs : List Listed) → AreBelow n fs → AreBelow n gs → AreBelow n (fs ++ gs)
below_both n [] gs first second = second
below_both n (f ∷ fs) gs (here, rest) second = (here, below_both n fs gs rest second)

pub below_reversed : (n : ℕ) (fs : List Listed) → AreBelow n fs → AreBelow n (reverse fs)
below_reversed n [] below = tt
below_reversed n (f ∷ fs) (here, rest) = subst (AreBelow n) (sym (reverse-append (f ∷ []) fs)) (below_both n (reverse fs) (f ∷ []) (below_reversed n fs rest) (here, tt))

-- What a queue holds stays.

module _ {R : Type 0} (F : Format R) (own : List ℕ → Type 0) (paths : FilePaths) (lawful : IsLayout F own paths) where
  stays_same : (fs : List Listed) (old new : Disk) → new ≡ old → StaysLeft F own fs old new
  stays_same fs old new same = subst (λ (d : Disk). StaysLeft F own fs old d) (sym same) (λ base q below left. (left, λ m less none. none, λ first lower m path over less at. refl))

  stays_one : (f : Listed) (last next : ℕ) (old new : Disk) → IsSound old → f.reserved ≡ false → Reserves paths f last next old new → StaysLeft F own (f ∷ []) old new
  stays_one f last next old new sound listed (named is renames) =
      let ok : Result (Unit {0}) ErrorKind = Ok tt in
      stays_left_by F own paths lawful ok f next (path_of paths f) (paths.reserved 0 next) old new sound listed refl refl renames tt
  stays_one f last next old new sound listed (refused error is fails) =
      let no : Result (Unit {0}) ErrorKind = Err error in
      stays_left_by F own paths lawful no f (suc last) (path_of paths f) (paths.reserved 0 (suc last)) old new sound listed refl refl tt fails
  stays_one f last next old new sound listed (unnamed is same) = stays_same (f ∷ []) old new same

  stays_then : (f : Listed) (fs : List Listed) (old between new : Disk) → StaysLeft F own (f ∷ []) old between → StaysLeft F own fs between new → StaysLeft F own (f ∷ fs) old new
  stays_then f fs old between new first next base q below left =
      let (held, gaps, stay) = first base q (below.0, tt) left in
      let (held_then, gaps_then, stay_then) = next base q below.1 held in (
        held_then,
        λ m less none. gaps_then m less (gaps m less none),
        λ n lower m path over less at. stay_then n lower.1 m path over less at ∙ stay n (lower.0, tt) m path over less at,
      )

  stays_all : (fs : List Listed) (last : ℕ) (old new : Disk) → IsSound old → ReservesAll paths fs last old new → StaysLeft F own fs old new
  stays_all [] last old new sound same = stays_same [] old new same
  stays_all (f ∷ fs) last old new sound all = elim all [
    | inl stops ↦ stays_same (f ∷ fs) old new stops.1
    | inr goes ↦
        (let (listed, (next, between, here, rest)) = goes in
        stays_then f fs old between new (stays_one f last next old between sound listed here)
        (stays_all fs next between new (reserve_sound paths f last next old between sound here) rest))
  ]

  pub reserves_stay : (fs : List Listed) (last : ℕ) (old new : Disk) → IsSound old → ReservesAll paths (reverse fs) last old new → StaysLeft F own fs old new
  reserves_stay fs last old new sound all base q below left =
      let (held, gaps, stay) = stays_all (reverse fs) last old new sound all base q (below_reversed q.last fs below) left in
      (held, gaps, λ first lower. stay first (below_reversed first fs lower))
