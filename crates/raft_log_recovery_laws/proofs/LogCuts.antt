-- The files of both queues of a log that is read as it stands are cut behind what is read, or one of them
-- isn't: the log is left with the batches that were pending.
use Rattle.std.specs.declared.io.ErrorKind.{ErrorKind}
use Rattle.std.specs.Prelude.{slice_index_or}
use Rattle.std.proofs.Common.{◌≡◌, ◌⊎◌, ℕ, ◌<◌, Bool, true, false, Option, Some, None, List, [], ◌∷◌, ◌++◌, length, take, refl, sym, ap, subst, ◌∙◌, inl, inr, arith, unwrap_or}
use Rattle.raft_log_model_laws.specs.Item.{Record}
use Rattle.raft_log_machine_laws.specs.Files.{FileQueue}
use Rattle.raft_log_fs.specs.Disk.{Disk, at_rest}
use Rattle.raft_log_fs.specs.Disk.{File as DiskFile}
use Rattle.raft_log_fs.specs.Image.{IsSound}
use Rattle.raft_log_file_writer.specs.LogFormat.{Format}
use Rattle.raft_log_file_writer.specs.LogQueue.{IsLeftover, LogFiles}
use Rattle.raft_log_fs.specs.Touching.{TouchesOnly}
use Rattle.raft_log_active_file.specs.Bridge.{IsFileQueue}
use Rattle.raft_log_active_file.specs.Reopening.{IsReadTo}
use Rattle.raft_log_active_file.specs.TakingUp.{TrimMakes}
use Rattle.raft_log_active_file.specs.declared.format.File.{File}
use Rattle.raft_log_engine_laws.specs.raft_log_active_file.specs.declared.record.LogRecord.{LogRecord}
use Rattle.raft_log_recovery_read.specs.declared.file_ending.FileEnding.{FileEnding}
use Rattle.raft_log_dual_pipes.specs.Queues.{IsQueueLayout, QueueLayout}
use Rattle.raft_log_dual_pipes.specs.State.{Spanned}
use Rattle.raft_log_recovery.specs.Cutting.{CutsEach, CutsIf, FailsToCutEach}
use Rattle.raft_log_recovery_laws.specs.Keeping.{KeepsNumbered}
use Rattle.raft_log_recovery_laws.proofs.Calls.{keeps_all, keeps_touched}
use Rattle.raft_log_recovery_laws.proofs.LastCut.{no_trim_touches, trims_touch}
use Rattle.raft_log_recovery_laws.specs.Files.{AreAll, AreToldOf, ReadsAsTold}
use Rattle.raft_log_recovery_laws.specs.Files.AreToldOf.{none_told, some_told}
use Rattle.raft_log_recovery_laws.proofs.Cutting.{cut_last, flushed_sound, last_is, shortened_sound, AreSound}
use Rattle.raft_log_recovery_laws.proofs.Refused.{no_ending_uncut, no_endings}
use Rattle.raft_log_recovery_laws.proofs.Uncut.{at_last, not_all}
use Rattle.raft_log_recovery_laws.proofs.QueueCuts.{cut_steady, found_kept, sure_steady, uncut_lies, IsFoundLast, IsLeftAs, LiesSure}
use Rattle.raft_log_recovery_laws.proofs.Settling.{settled_if, settled_in}
use Rattle.raft_log_recovery_laws.proofs.Standing.{last_of, IsLast}
use Rattle.raft_log_recovery_laws.proofs.Unsynced.{LiesSteady}

-- What is told of files that are taken as synced is told of them.

unsettled : (b : Bool) (o : Option DiskFile) (file : DiskFile) → settled_if b o ≡ Some file → (was : DiskFile) × (o ≡ Some was) × (was.content ≡ file.content)
unsettled false o file is = (file, is, refl)
unsettled true None file is = (let never : ⊥ = cc in absurd never)
unsettled true (Some was) file is = (was, refl, (let same : at_rest was.content ≡ file = cc in ap (λ (f : DiskFile). f.content) same))

read_same : {R : Type 0} (F : Format R) (n : ℕ) (o : Option ℕ) (a b : DiskFile) → a.content ≡ b.content → IsReadTo F n o b → IsReadTo F n o a
read_same F n (Some end) a b same read = subst (λ (l : List ℕ). IsReadTo F n (Some end) (at_rest l)) (sym same) read
read_same F n None a b same read = subst (λ (l : List ℕ). IsReadTo F n None (at_rest l)) (sym same) read

module _ (layout : QueueLayout LogRecord) (told : IsQueueLayout layout) where
  -- What is told of the files of a queue: those before the last one aren't damaged, and it is the last one
  -- that stands there; or there is none; or nothing is told of any.
  pub data AreFound (d : Disk) (files : List File) (endings : List FileEnding) : Type 0 where
    some_found : (earlier : List File) (last : File) (front : List FileEnding) (ending : FileEnding) → files ≡ earlier ++ last ∷ [] → endings ≡ front ++ ending ∷ [] → length front ≡ length earlier → AreSound front
        → IsFoundLast layout told d last.handle ending.end → AreFound d files endings
    none_found : files ≡ [] → AreFound d files endings
    none_told_of : endings ≡ [] → AreFound d files endings

  pub are_kept : (old new : Disk) (files : List File) (endings : List FileEnding) → KeepsNumbered layout.format old new → AreFound old files endings → AreFound new files endings
  are_kept old new files endings keeps (some_found earlier last front ending are also long fine found) = some_found earlier last front ending are also long fine (found_kept layout told old new last.handle ending.end keeps found)
  are_kept old new files endings keeps (none_found are) = none_found are
  are_kept old new files endings keeps (none_told_of also) = none_told_of also

  module _ (E : ℕ → Bool) (t : Spanned LogRecord) (d : Disk) where
    found_last : (earlier : List File) (last : File) (ending : FileEnding) → AreAll layout t (settled_in E d) earlier last → ReadsAsTold layout t (settled_in E d) last ending → IsFoundLast layout told d last.handle ending.end
    found_last earlier last ending all reads =
        let left = all.stops in
        let was = unsettled (E last.handle.file) (d.files last.handle.file) reads.read.file reads.read.is in
        record {
          number = t.files.last;
          only = subst (λ (id : ℕ). IsLast layout.format t.files.last id d.names) (sym (last_is layout told t (settled_in E d) earlier last all))
              (last_of layout.format layout.own (settled_in E d) t.files left.path left.id (IsLeftover layout.format t.files) left.N (settled_in E d) left.stands);
          permitted = all.permitted;
          read = record { file = was.0; is = was.1; has = read_same layout.format t.files.last ending.end was.0 reads.read.file was.2 reads.read.has };
        }

    pub are_found : (files : List File) (endings : List FileEnding) → (endings ≡ []) ⊎ AreToldOf layout t (settled_in E d) files endings → AreFound d files endings
    are_found files endings (inl none) = none_told_of none
    are_found files endings (inr (none_told are also unbegun)) = none_found are
    are_found files endings (inr (some_told earlier last front ending are also long fine all reads)) = some_found earlier last front ending are also long fine (found_last earlier last ending all reads)

  -- What a cut leaves, beside the files of the other queue.
  pub record IsCutFrom (theirs : QueueLayout LogRecord) (q : Spanned LogRecord) (old new : Disk) : Type 0 where
    pub steady : LiesSteady layout told q new
    pub names : new.names ≡ old.names
    pub others : KeepsNumbered theirs.format old new
    pub sound : IsSound new

  pub record IsUncutFrom (theirs : QueueLayout LogRecord) (q : Spanned LogRecord) (old new : Disk) : Type 0 where
    pub left : IsLeftAs layout told q new
    pub names : new.names ≡ old.names
    pub others : KeepsNumbered theirs.format old new

  module _ (theirs : QueueLayout LogRecord) (other : IsQueueLayout theirs) (apart : (path : List ℕ) → layout.own path → theirs.own path → ⊥) (q : Spanned LogRecord) (files : List File) (endings : List FileEnding) (old new : Disk) (sound : IsSound old)
      (sure : LiesSure layout told q old) where
    uncut : new ≡ old → IsCutFrom theirs q old new
    uncut same = subst (IsCutFrom theirs q old) (sym same) (record { steady = sure_steady layout told q old sure; names = refl; others = keeps_all theirs.format old; sound = sound })

    beside : (last : File) (end : Option ℕ) → IsFoundLast layout told old last.handle end → TouchesOnly last.handle.file old new → KeepsNumbered theirs.format old new
    beside last end found only = keeps_touched theirs.format old new last.handle.file only (λ m path less at there.
        (let mine = found.only in
        let same : path ≡ mine.path = sound.one_name path mine.path last.handle.file there mine.named in
        apart path (subst layout.own (sym same) (told.lawful.owns found.number mine.path mine.bound mine.at)) (other.lawful.owns m path less at)))

    cut_one : (last : File) (ending : FileEnding) (b : Bool) → IsFoundLast layout told old last.handle ending.end → CutsIf b last ending old new → IsCutFrom theirs q old new
    cut_one last ending false found same = uncut same
    cut_one last ending true found trims =
        let only = trims_touch last.handle (unwrap_or ending.end 0) old new trims in
        record {
          steady = cut_steady layout told q last.handle ending.end old new sound found trims sure;
          names = only.names;
          others = beside last ending.end found only;
          sound = flushed_sound last.handle.file trims.cut new (shortened_sound last.handle.file (unwrap_or ending.end 0) old trims.cut sound trims.shortens) trims.syncs;
        }

    pub cut_files : AreFound old files endings → CutsEach files endings old new → IsCutFrom theirs q old new
    cut_files (none_found are) cuts = uncut (subst (λ (l : List File). CutsEach l endings old new) are cuts)
    cut_files (none_told_of also) cuts = uncut (no_endings files old new (subst (λ (l : List FileEnding). CutsEach files l old new) also cuts))
    cut_files (some_found earlier last front ending are also long fine found) cuts =
        cut_one last ending ending.is_damaged found
        (cut_last earlier last front ending old new long fine (subst (λ (l : List FileEnding). CutsEach (earlier ++ last ∷ []) l old new) also (subst (λ (l : List File). CutsEach l endings old new) are cuts)))

    none_uncut : (kind : ErrorKind) → FailsToCutEach [] endings kind old new → ⊥
    none_uncut kind fails = not_all fails.file fails.file_is

    pub uncut_files : (kind : ErrorKind) → AreFound old files endings → FailsToCutEach files endings kind old new → IsUncutFrom theirs q old new
    uncut_files kind (none_found are) fails = absurd (none_uncut kind (subst (λ (l : List File). FailsToCutEach l endings kind old new) are fails))
    uncut_files kind (none_told_of also) fails = absurd (no_ending_uncut files kind old new (subst (λ (l : List FileEnding). FailsToCutEach files l kind old new) also fails))
    uncut_files kind (some_found earlier last front ending are also long fine found) fails =
        let a = at_last earlier last front ending fails.at fails.file fails.ending old fails.between long fine (subst (λ (l : List File). (o : File) → slice_index_or l fails.at o ≡ fails.file) are fails.file_is)
        (subst (λ (l : List FileEnding). (o : FileEnding) → slice_index_or l fails.at o ≡ fails.ending) also fails.ending_is) fails.fails.damaged
        (subst (λ (l : List FileEnding). CutsEach (take fails.at (earlier ++ last ∷ [])) (take fails.at l) old fails.between) also (subst (λ (l : List File). CutsEach (take fails.at l) (take fails.at endings) old fails.between) are fails.cuts)) in
        let makes = subst (λ (d : Disk). TrimMakes last.handle (unwrap_or ending.end 0) kind d new) a.same
        (subst (λ (e : FileEnding). TrimMakes last.handle (unwrap_or e.end 0) kind fails.between new) a.ending_is
        (subst (λ (f : File). TrimMakes f.handle (unwrap_or fails.ending.end 0) kind fails.between new) a.file_is fails.fails.makes)) in
        let only = no_trim_touches last.handle (unwrap_or ending.end 0) kind old new makes in
        record { left = uncut_lies layout told q last.handle ending.end old new sound found kind makes sure; names = only.names; others = beside last ending.end found only }

-- The numbered files are the same, where the names of their numbers are, whatever stands in front of records.
pub numbered_as : {E V : Type 0} (says : LogRecord → Record E V) (F : Format LogRecord) (q : LogFiles LogRecord) (header stale : List ℕ) (low first : ℕ) (old new : Disk) (files : FileQueue E V) → q.last < F.limit
    → ((m : ℕ) (path : List ℕ) → m < F.limit → F.IsPath m path → new.names path ≡ old.names path) → IsFileQueue says F q low first old files → IsFileQueue says F (record q { header = header; stale = stale }) low first new files
numbered_as says F q header stale low first old new files bound names is =
    let below = is.below in
    let above = is.above in
    record {
      back = is.back;
      forth = is.forth;
      below = is.below;
      above = is.above;
      gone = is.gone;
      full = is.full;
      last = is.last;
      synced = is.synced;
      pending = is.pending;
      behind = is.behind;
      gap = λ m next path at. names m path (omega (arith, next, below, above, bound)) at ∙ is.gap m next path at;
    }
