-- A log that rests, and isn't opened, is left there with its map.
use Rattle.std.specs.declared.io.ErrorKind.{ErrorKind}
use Rattle.std.proofs.Common.{◌≡◌, ◌⊎◌, ℕ, Bool, true, false, None, zero, suc, ◌+◌, ◌<◌, List, [], ◌∷◌, length, refl, sym, ap, subst, ◌∙◌, inl, inr, arith}
use Rattle.raft_log_record_base.specs.declared.errors.Error.{Error}
use Rattle.raft_log_record_base.specs.declared.pipe_log.LogQueue.{LogQueue}
use Rattle.raft_log_record_base.specs.declared.pipe_log.LogQueue.TheVariants.{Append, Rewrite}
use Rattle.raft_log_fs.specs.Arguments.{WrongHandle}
use Rattle.raft_log_fs.specs.Disk.{Disk}
use Rattle.raft_log_fs.specs.Image.{IsSound}
use Rattle.raft_log_file_writer.specs.LogFormat.{Format}
use Rattle.raft_log_active_file.specs.declared.format.File.{File}
use Rattle.raft_log_engine_laws.specs.raft_log_active_file.specs.QueueFiles.{log_format, log_paths}
use Rattle.raft_log_engine_laws.specs.raft_log_active_file.specs.declared.record.LogRecord.{LogRecord}
use Rattle.raft_log_recovery.specs.Readying.{FailsToReady, Readies}
use Rattle.raft_log_recovery_scan.specs.Directories.{HasDirectories}
use Rattle.raft_log_recovery_scan.specs.declared.recovery_config.RecoveryConfig.{RecoveryConfig}
use Rattle.raft_log_recovery_read.specs.declared.file_ending.FileEnding.{FileEnding}
use Rattle.raft_log_replay_context.specs.declared.context.MemTableRecoverContext.{MemTableRecoverContext}
use Rattle.raft_log_dual_pipes.specs.Queues.{AreTwoQueues, IsQueueLayout, QueueLayout}
use Rattle.raft_log_dual_pipes.specs.State.{Spanned}
use Rattle.raft_log_dual_pipes.specs.Own.{log_layout}
use Rattle.raft_log_dual_pipes.specs.OpenOrClosed.{none_open}
use Rattle.raft_log_dual_pipes.specs.Reopening.{RestsQueue}
use Rattle.raft_log_dual_pipes.specs.OnDisk.{LogLiesOn, IsDurableAs}
use Rattle.raft_log_dual_pipes.specs.Pipes.{State}
use Rattle.raft_log_engine_laws.specs.EngineState.{log_in, LogDirectories, LogMap}
use Rattle.raft_log_engine_laws.specs.Holding.{IsRecoverableAs}
use Rattle.raft_log_recovery.specs.Cutting.{CutsEach, FailsToCutEach}
use Rattle.raft_log_recovery.specs.Directories.{paths_of}
use Rattle.raft_log_recovery.specs.Finishing.{FailsToOpenRecovered, FailsToSyncLog}
use Rattle.raft_log_recovery.specs.Finishing.FailsToOpenRecovered.{unready, unsynced, unopened as pipes_unopened}
use Rattle.raft_log_recovery.specs.Finishing.FailsToSyncLog.{append_unsynced, reserved_unsynced, rewrite_unsynced}
use Rattle.raft_log_recovery.specs.Reading.{HasReadFiles}
use Rattle.raft_log_recovery.specs.Recovering.{append_config, append_files, rewrite_config, rewrite_files, FailsToRecoverLog, HasReadBoth, RecoversLog}
use Rattle.raft_log_recovery.specs.Recovering.FailsToRecoverLog.{aligned, append_uncut, append_unread, rewrite_uncut, rewrite_unread}
use Rattle.raft_log_recovery.specs.Reserving.{wanted_files, FailsToReadyLog, ReadiesLog}
use Rattle.raft_log_recovery.specs.Scanning.{FailsToScanLog, ScansLog}
use Rattle.raft_log_recovery.specs.Scanning.FailsToScanLog.{uncleared, unready as scan_unready, unscanned as scan_refused}
use Rattle.raft_log_recovery_scan.specs.Scanned.{FailsToScan}
use Rattle.raft_log_recovery.specs.Syncing.{FailsToSyncEach, SyncsEach}
use Rattle.raft_log_recovery.specs.Unaligned.{AreUnaligned}
use Rattle.raft_log_recovery.specs.declared.builder.DualPipesBuilder.{DualPipesBuilder}
use Rattle.raft_log_engine_laws.specs.raft_log_block_cache.specs.Stored.{Each}
use Rattle.raft_log_recovery_laws.proofs.Left.{refused_opens_leave_logs}
use Rattle.raft_log_recovery_laws.specs.Keeping.{KeepsNumbered}
use Rattle.raft_log_recovery_laws.proofs.Keeping.{both_lie, bounded, keeps_then, moved, numbered_kept, rests_kept}
use Rattle.raft_log_dual_pipes.proofs.Public.{rests_lie}
use Rattle.raft_log_replay.specs.Segments.{read_by}
use Rattle.raft_log_record_base.specs.declared.pipe_log.Version.TheVariants.{V1}
use Rattle.raft_log_recovery_laws.proofs.Calls.{keeps_all, no_sync_keeps, rest_then, rests_at_rest, sound_names, AreAtRest, AreSoundNames}
use Rattle.raft_log_recovery_laws.specs.Files.{AreQueueFiles, AreToldOf}
use Rattle.raft_log_recovery_laws.specs.ByCalls.{reads, ReadiesOn}
use Rattle.raft_log_recovery_laws.specs.RefusedByCalls.{declines, FailsToReadyOn}
use Rattle.raft_log_recovery_laws.proofs.Parts.{FindsAllFiles, IsRecoveredFrom, LiesAsSet, SparesStay}
use Rattle.raft_log_recovery_laws.proofs.Cutting.{cut_queue, told_kept}
use Rattle.raft_log_recovery_laws.proofs.Readying.{readies_leave, unreadied_leaves, IsReserved}
use Rattle.raft_log_recovery_laws.proofs.ByCalls.{found, no_length, one_each, told_of, two_queues, CanOpen}
use Rattle.raft_log_recovery_laws.proofs.Scanning.{no_scan_keeps, open_reserved, scan_keeps, scan_sound}
use Rattle.raft_log_recovery_laws.proofs.Stays.{span_of, stays_first, stays_kept, stays_named, stays_synced, syncs_keep, told_rests, StaysAt}
use Rattle.raft_log_recovery_laws.proofs.Uncut.{uncut_held, IsHeld}

-- what workers read of a queue is told of all its files, or, where there was no worker, of none
pub endings_by : (config : RecoveryConfig) (files : List File) (d : Disk) (context : MemTableRecoverContext) (endings : List FileEnding) → HasReadFiles reads config files d context endings → (length endings ≡ length files) ⊎ (endings ≡ [])
endings_by config files d context endings read = by_workers config.concurrency read.all
  where
    long : length read.batches ≡ length endings
    long = one_each _ 0 read.batches endings read.held

    by_workers : (workers : ℕ) → 0 + length read.batches ≡ read_by workers (length files) → (length endings ≡ length files) ⊎ (endings ≡ [])
    by_workers zero all = (let is : 0 + length read.batches ≡ 0 = all in inr (no_length endings (omega (arith, long, is))))
    by_workers (suc workers) all = (let is : 0 + length read.batches ≡ length files = all in inl (omega (arith, long, is)))

pub no_endings : (files : List File) (old new : Disk) → CutsEach files [] old new → new ≡ old
no_endings [] old new same = same
no_endings (f ∷ files) old new same = same

ending_damaged : Bool → FileEnding
ending_damaged b = record { format = record { version = V1; alignment = 0 }; end = None; is_damaged = b }

pub no_ending_uncut : (files : List File) (kind : ErrorKind) (old new : Disk) → FailsToCutEach files [] kind old new → ⊥
unfolding ending_damaged
no_ending_uncut files kind old new fails =
    let clash : true ≡ false = ap (λ (e : FileEnding). e.is_damaged) (fails.ending_is (ending_damaged true) ∙ sym (fails.ending_is (ending_damaged false))) in
    (let never : ⊥ = cc in absurd never)

-- nothing is told of the files of a queue, or of all
abbrev pub IsToldOrNot : (queue : LogQueue) → List (List ℕ) → Spanned LogRecord → Disk → List File → List FileEnding → Type 0
IsToldOrNot queue directories q d files endings = (endings ≡ []) ⊎ AreToldOf (log_layout queue directories) q d files endings

pub told_or : (queue : LogQueue) (directories : List (List ℕ)) → 0 < length directories → (config : RecoveryConfig) → config.queue ≡ queue → (d : Disk) (q : Spanned LogRecord) (files : List File) (endings : List FileEnding) (context : MemTableRecoverContext)
    → HasReadFiles reads config files d context endings → AreUnaligned endings → AreQueueFiles (log_layout queue directories) q d files → IsToldOrNot queue directories q d files endings
told_or queue directories some config is d q files endings context read unaligned all = elim (endings_by config files d context endings read) [
  | inl long ↦ inr (told_of queue directories some config is d q files endings context read long unaligned all)
  | inr none ↦ inl none
]

-- what the cut of a queue leaves of both
record IsCutOr (mine theirs : QueueLayout LogRecord) (q : Spanned LogRecord) (old new : Disk) : Type 0 where
  names : new.names ≡ old.names
  rests : RestsQueue mine q new
  others : KeepsNumbered theirs.format old new
  sound : IsSound new

cut_any : (queue other : LogQueue) (directories theirs : List (List ℕ)) → IsQueueLayout (log_layout queue directories) → IsQueueLayout (log_layout other theirs)
    → ((path : List ℕ) → (log_layout queue directories).own path → (log_layout other theirs).own path → ⊥) → (q : Spanned LogRecord) (files : List File) (endings : List FileEnding) (old new : Disk) → IsSound old
    → RestsQueue (log_layout queue directories) q old → IsToldOrNot queue directories q old files endings → CutsEach files endings old new → IsCutOr (log_layout queue directories) (log_layout other theirs) q old new
cut_any queue other directories theirs lay lay_other apart q files endings old new sound rests (inl none) cuts =
    let same = no_endings files old new (subst (λ (l : List FileEnding). CutsEach files l old new) none cuts) in
    subst (IsCutOr (log_layout queue directories) (log_layout other theirs) q old) (sym same) (record { names = refl; rests = rests; others = keeps_all (log_layout other theirs).format old; sound = sound })
cut_any queue other directories theirs lay lay_other apart q files endings old new sound rests (inr told) cuts =
    let c = cut_queue (log_layout queue directories) lay (log_layout other theirs) lay_other apart q files endings old new sound told cuts in
    record { names = c.names; rests = told_rests (log_layout queue directories) q files endings old new c.names rests c.told; others = c.others; sound = c.sound }

-- syncs of which one is refused
no_syncs_keep : {R : Type 0} (F : Format R) (files : List File) (kind : ErrorKind) (old new : Disk) → AreAtRest F old → FailsToSyncEach files kind old new → KeepsNumbered F old new
no_syncs_keep F files kind old new rest fails =
    let first = syncs_keep F fails.before old fails.between rest fails.synced in
    keeps_then F old fails.between new first (no_sync_keeps F fails.between new fails.file.handle.file (WrongHandle fails.file.handle fails.between) kind (rest_then F old fails.between first rest) fails.fails)

module _ (home : LogDirectories) (one : 0 < length home.append) (other : 0 < length home.rewrite) (d : Disk) (m : LogMap) (sound : IsSound d) (h : IsDurableAs (log_in home) d m) where
  abbrev s : State
  s = h.state

  abbrev two : AreTwoQueues (log_in home)
  two = two_queues home one other

  abbrev Stays : Disk → Type 0
  Stays e = StaysAt (log_in home) two s m e

  left_at : (e : Disk) → LogLiesOn (log_in home) none_open e m [] → IsRecoverableAs home e m []
  left_at e lies = (none_open, record { done = []; rest = []; splits = refl; lies = lies })

  pub stays_left : (e : Disk) → Stays e → IsRecoverableAs home e m []
  stays_left e at = left_at e (record {
    state = moved (log_in home) two s e;
    disk = refl;
    stands = both_lie (log_in home) two (moved (log_in home) two s e) at.rests;
    holds = at.holds;
  })

  pub stays_same : (old new : Disk) → new ≡ old → Stays old → Stays new
  stays_same old new same at = subst Stays (sym same) at

  -- a queue whose cut was refused is held, and the other one rests
  held_append : (old new : Disk) → Stays old → IsHeld (log_in home).append (log_in home).rewrite s.append old new → IsRecoverableAs home new m []
  held_append old new at held =
      let t : State = record { append = record { first = s.append.first; files = held.next }; rewrite = s.rewrite; disk = new } in
      let there = rests_lie (log_in home).rewrite s.rewrite new (rests_kept (log_in home).rewrite old new held.others s.rewrite at.rests.rewrite) in
      let lay = rests_lie (log_in home).rewrite s.rewrite old at.rests.rewrite in
      let small : 1 < (log_in home).rewrite.format.limit = (let limit = two.rewrite.lawful.limit in omega (arith, limit)) in
      let bound = bounded (log_in home).rewrite old new held.others s.rewrite small lay in
      let f = at.holds.files in
      left_at new (record {
        state = t;
        disk = refl;
        stands = record { append = held.lies; rewrite = there };
        holds = record {
          files = f;
          whereabouts = at.holds.whereabouts;
          failed = at.holds.failed;
          sound = at.holds.sound;
          ends = at.holds.ends;
          there = record {
            append = held.numbered (log_in home).says f.append_from s.append.first f.append at.holds.there.append;
            rewrite = numbered_kept (log_in home).rewrite old new held.others (log_in home).says s.rewrite.files f.rewrite_from s.rewrite.first f.rewrite bound at.holds.there.rewrite;
          };
        };
      })

  held_rewrite : (old new : Disk) → Stays old → IsHeld (log_in home).rewrite (log_in home).append s.rewrite old new → IsRecoverableAs home new m []
  held_rewrite old new at held =
      let t : State = record { append = s.append; rewrite = record { first = s.rewrite.first; files = held.next }; disk = new } in
      let there = rests_lie (log_in home).append s.append new (rests_kept (log_in home).append old new held.others s.append at.rests.append) in
      let lay = rests_lie (log_in home).append s.append old at.rests.append in
      let small : 1 < (log_in home).append.format.limit = (let limit = two.append.lawful.limit in omega (arith, limit)) in
      let bound = bounded (log_in home).append old new held.others s.append small lay in
      let f = at.holds.files in
      left_at new (record {
        state = t;
        disk = refl;
        stands = record { append = there; rewrite = held.lies };
        holds = record {
          files = f;
          whereabouts = at.holds.whereabouts;
          failed = at.holds.failed;
          sound = at.holds.sound;
          ends = at.holds.ends;
          there = record {
            append = numbered_kept (log_in home).append old new held.others (log_in home).says s.append.files f.append_from s.append.first f.append bound at.holds.there.append;
            rewrite = held.numbered (log_in home).says f.rewrite_from s.rewrite.first f.rewrite at.holds.there.rewrite;
          };
        };
      })

  -- The directories weren't scanned.
  pub not_scanned : (b : DualPipesBuilder) (error : Error) (new : Disk) → LiesAsSet home b → FailsToScanLog b error d new → IsRecoverableAs home new m []
  not_scanned b error new set (scan_unready memory same) = stays_left new (stays_same d new same (stays_first (log_in home) two d m h))
  not_scanned b error new set (scan_refused fails) =
      let at = stays_first (log_in home) two d m h in
      stays_left new (stays_kept (log_in home) two s m d new (record {
        append = no_scan_keeps Append home.append one s.append d at.rests.append error new (subst (λ (l : List (List ℕ)). FailsToScan l error d new) set.append fails);
        rewrite = no_scan_keeps Rewrite home.rewrite other s.rewrite d at.rests.rewrite error new (subst (λ (l : List (List ℕ)). FailsToScan l error d new) set.rewrite fails);
      }) at)
  not_scanned b error new set (uncleared found scanned scans memory leaves) =
      let at = stays_first (log_in home) two d m h in
      stays_left new (stays_kept (log_in home) two s m d new (record {
        append = scan_keeps Append home.append one s.append d at.rests.append scanned (subst (λ (l : List (List ℕ)). HasDirectories l d scanned) set.append scans.made) new leaves;
        rewrite = scan_keeps Rewrite home.rewrite other s.rewrite d at.rests.rewrite scanned (subst (λ (l : List (List ℕ)). HasDirectories l d scanned) set.rewrite scans.made) new leaves;
      }) at)

  -- Behind the scan.
  module _ (b : DualPipesBuilder) (scanned : Disk) (set : LiesAsSet home b) (finds : FindsAllFiles home s d scanned b) where
    at_first : Stays d
    at_first = stays_first (log_in home) two d m h

    abbrev scans : ScansLog finds.before b d scanned
    scans = finds.scans

    a_made : HasDirectories home.append d scans.scanned
    a_made = subst (λ (l : List (List ℕ)). HasDirectories l d scans.scanned) (ap paths_of (sym scans.same) ∙ set.append) scans.scans.made

    r_made : HasDirectories home.rewrite d scans.scanned
    r_made = subst (λ (l : List (List ℕ)). HasDirectories l d scans.scanned) (ap paths_of (sym scans.same) ∙ set.rewrite) scans.scans.made

    at_scan : Stays scanned
    at_scan = stays_kept (log_in home) two s m d scanned (record {
      append = scan_keeps Append home.append one s.append d at_first.rests.append scans.scanned a_made scanned scans.cleared;
      rewrite = scan_keeps Rewrite home.rewrite other s.rewrite d at_first.rests.rewrite scans.scanned r_made scanned scans.cleared;
    }) at_first

    pub sound_scan : IsSound scanned
    sound_scan = scan_sound Append home.append one s.append d at_first.rests.append scans.scanned a_made scanned scans.cleared sound

    reserved_scan : Each IsReserved b.reserved.items
    reserved_scan = subst (λ (l : List File). Each IsReserved l) (ap (λ x. x.items) (sym scans.has.reserved))
        (open_reserved _ scans.scanned _ scans.scans.is.reserved.kept scans.found.reserved.items scans.scans.is.reserved.opened)

    -- Both queues were read.
    module _ (append rewrite : MemTableRecoverContext) (es fs : List FileEnding) (both : HasReadBoth reads b scanned append rewrite es fs) where
      a_told : IsToldOrNot Append home.append s.append scanned (append_files b) es
      a_told = told_or Append home.append one (append_config b) refl scanned s.append (append_files b) es append both.append_read both.append_unaligned finds.append

      r_told : IsToldOrNot Rewrite home.rewrite s.rewrite scanned (rewrite_files b) fs
      r_told = told_or Rewrite home.rewrite other (rewrite_config b) refl scanned s.rewrite (rewrite_files b) fs rewrite both.rewrite_read both.rewrite_unaligned finds.rewrite

      append_held : (kind : ErrorKind) (new : Disk) → FailsToCutEach (append_files b) es kind scanned new → IsRecoverableAs home new m []
      append_held kind new fails = elim a_told [
        | inl none ↦ absurd (no_ending_uncut (append_files b) kind scanned new (subst (λ (l : List FileEnding). FailsToCutEach (append_files b) l kind scanned new) none fails))
        | inr told ↦ held_append scanned new at_scan
            (uncut_held (log_in home).append two.append (log_in home).rewrite two.rewrite two.apart s.append h.append_synced (append_files b) es kind scanned new sound_scan
            (span_of (log_in home).append s.append scanned scanned refl at_scan.rests.append) told fails)
      ]

      module _ (between : Disk) (cuts : CutsEach (append_files b) es scanned between) where
        a_cut : IsCutOr (log_in home).append (log_in home).rewrite s.append scanned between
        a_cut = cut_any Append Rewrite home.append home.rewrite two.append two.rewrite two.apart s.append (append_files b) es scanned between sound_scan at_scan.rests.append a_told cuts

        r_rests : RestsQueue (log_in home).rewrite s.rewrite between
        r_rests = rests_kept (log_in home).rewrite scanned between a_cut.others s.rewrite at_scan.rests.rewrite

        at_between : Stays between
        at_between = stays_named (log_in home) two s m scanned between a_cut.names a_cut.rests r_rests at_scan

        r_told_then : IsToldOrNot Rewrite home.rewrite s.rewrite between (rewrite_files b) fs
        r_told_then = elim r_told [
          | inl none ↦ inl none
          | inr told ↦ inr (told_kept (log_in home).rewrite two.rewrite s.rewrite (rewrite_files b) fs scanned between a_cut.others told)
        ]

        rewrite_held : (kind : ErrorKind) (new : Disk) → FailsToCutEach (rewrite_files b) fs kind between new → IsRecoverableAs home new m []
        rewrite_held kind new fails = elim r_told_then [
          | inl none ↦ absurd (no_ending_uncut (rewrite_files b) kind between new (subst (λ (l : List FileEnding). FailsToCutEach (rewrite_files b) l kind between new) none fails))
          | inr told ↦ held_rewrite between new at_between
              (uncut_held (log_in home).rewrite two.rewrite (log_in home).append two.append (λ path mine theirs. two.apart path theirs mine) s.rewrite h.rewrite_synced (rewrite_files b) fs kind between new a_cut.sound
              (span_of (log_in home).rewrite s.rewrite between between refl r_rests) told fails)
        ]

        r_cut : (cut : Disk) → CutsEach (rewrite_files b) fs between cut → IsCutOr (log_in home).rewrite (log_in home).append s.rewrite between cut
        r_cut cut more = cut_any Rewrite Append home.rewrite home.append two.rewrite two.append (λ path mine theirs. two.apart path theirs mine) s.rewrite (rewrite_files b) fs between cut a_cut.sound r_rests r_told_then more

        at_cut : (cut : Disk) → CutsEach (rewrite_files b) fs between cut → Stays cut × IsSound cut
        at_cut cut more =
            let c = r_cut cut more in
            (stays_named (log_in home) two s m between cut c.names (rests_kept (log_in home).append between cut c.others s.append a_cut.rests) c.rests at_between, c.sound)

    pub not_recovered : (error : Error) (new : Disk) → FailsToRecoverLog reads declines b error scanned new → IsRecoverableAs home new m []
    not_recovered error new (append_unread same why) = stays_left new (stays_same scanned new same at_scan)
    not_recovered error new (rewrite_unread append es read same why) = stays_left new (stays_same scanned new same at_scan)
    not_recovered error new (aligned append rewrite es fs read more same some tells) = stays_left new (stays_same scanned new same at_scan)
    not_recovered error new (append_uncut append rewrite es fs kind both is fails) = append_held append rewrite es fs both kind new fails
    not_recovered error new (rewrite_uncut append rewrite es fs kind between both is cuts fails) = rewrite_held append rewrite es fs both between cuts kind new fails

    -- Behind the cuts.
    module _ (append rewrite : MemTableRecoverContext) (read : DualPipesBuilder) (cut : Disk) (recovers : RecoversLog reads append rewrite b read scanned cut) where
      pub cut_stays : Stays cut × IsSound cut
      cut_stays = at_cut append rewrite read.append.endings.items read.rewrite.endings.items recovers.read recovers.between recovers.append_cut cut recovers.rewrite_cut

      all_reserved : Each IsReserved read.reserved.items
      all_reserved = subst (λ (l : List File). Each IsReserved l) (ap (λ x. x.items) (sym recovers.same.3)) reserved_scan

      paths_are : paths_of read.config ≡ home.append
      paths_are = ap paths_of recovers.same.0 ∙ set.append

      never_rewrite : (directory n k : ℕ) → k < (log_format Rewrite home.rewrite).limit → (log_format Rewrite home.rewrite).IsPath k ((log_paths Append home.append).reserved directory n) → ⊥
      never_rewrite directory n k less at = two.apart _ (two.append.lawful.kept directory n) (two.rewrite.lawful.owns k _ less at)

      module _ {S : Type 0} (disk : S → Disk) (tells : S → List ℕ → ℕ → Type 0) where
        unready_left : (error : Error) (from to : S) → Stays (disk from) → AreSoundNames (disk from) → FailsToReadyLog disk tells read error from to → IsRecoverableAs home (disk to) m []
        unready_left error from to at names (inl (memory, same)) = stays_left (disk to) (stays_same (disk from) (disk to) same at)
        unready_left error from to at names (inr fails) =
            let here = subst (λ (l : List (List ℕ)). FailsToReady disk tells (log_paths Append l) read.config.target_file_size.0 (wanted_files read) read.reserved.items error from to) paths_are fails in
            stays_left (disk to) (stays_kept (log_in home) two s m (disk from) (disk to) (record {
              append = (unreadied_leaves (log_format Append home.append) (log_paths Append home.append) two.append.lawful.apart disk tells _ _ read.reserved.items error from to all_reserved names here).keeps;
              rewrite = (unreadied_leaves (log_format Rewrite home.rewrite) (log_paths Append home.append) never_rewrite disk tells _ _ read.reserved.items error from to all_reserved names here).keeps;
            }) at)

        pub not_readied : (error : Error) (new : Disk) → FailsToReadyOn disk tells read error cut new → IsRecoverableAs home new m []
        not_readied error new f = subst (λ e. IsRecoverableAs home e m []) f.to_is
            (unready_left error f.from f.to (subst Stays (sym f.from_is) cut_stays.0) (subst AreSoundNames (sym f.from_is) (sound_names cut cut_stays.1)) f.fails)

        ready_stays : (ready : DualPipesBuilder) (from to : S) → Stays (disk from) → AreSoundNames (disk from) → ReadiesLog disk tells read ready from to → Stays (disk to)
        ready_stays ready from to at names readies =
            let here = subst (λ (l : List (List ℕ)). Readies disk tells (log_paths Append l) read.config.target_file_size.0 (wanted_files read) read.reserved.items ready.reserved.items from to) paths_are readies.readies in
            stays_kept (log_in home) two s m (disk from) (disk to) (record {
              append = (readies_leave (log_format Append home.append) (log_paths Append home.append) two.append.lawful.apart disk tells _ _ read.reserved.items ready.reserved.items from to all_reserved names here).keeps;
              rewrite = (readies_leave (log_format Rewrite home.rewrite) (log_paths Append home.append) never_rewrite disk tells _ _ read.reserved.items ready.reserved.items from to all_reserved names here).keeps;
            }) at

        readied_stays : (ready : DualPipesBuilder) (readied : Disk) → ReadiesOn disk tells read ready cut readied → Stays readied
        readied_stays ready readied r = subst Stays r.to_is
            (ready_stays ready r.from r.to (subst Stays (sym r.from_is) cut_stays.0) (subst AreSoundNames (sym r.from_is) (sound_names cut cut_stays.1)) r.readies)

  module _ {S : Type 0} (disk : S → Disk) (tells : S → List ℕ → ℕ → Type 0) where
    pub recovered_stays : (append rewrite : MemTableRecoverContext) (ready : DualPipesBuilder) (readied : Disk) → IsRecoveredFrom disk tells home s d append rewrite ready readied → Stays readied
    recovered_stays append rewrite ready readied r = readied_stays r.found r.scanned r.set r.finds append rewrite r.read r.cut r.recovers disk tells ready readied r.readies

  not_synced : (files : List File) (kind : ErrorKind) (old new : Disk) → Stays old → FailsToSyncEach files kind old new → Stays new
  not_synced files kind old new at fails = stays_kept (log_in home) two s m old new (record {
    append = no_syncs_keep (log_in home).append.format files kind old new (rests_at_rest (log_in home).append old s.append at.rests.append) fails;
    rewrite = no_syncs_keep (log_in home).rewrite.format files kind old new (rests_at_rest (log_in home).rewrite old s.rewrite at.rests.rewrite) fails;
  }) at

  synced_stays : (files : List File) (old new : Disk) → Stays old → SyncsEach files old new → Stays new
  synced_stays files old new at syncs = stays_kept (log_in home) two s m old new (stays_synced (log_in home) two s m files old new at syncs) at

  log_unsynced : (b : DualPipesBuilder) (kind : ErrorKind) (old new : Disk) → Stays old → FailsToSyncLog b kind old new → Stays new
  log_unsynced b kind old new at (append_unsynced fails) = not_synced (append_files b) kind old new at fails
  log_unsynced b kind old new at (rewrite_unsynced between syncs fails) = not_synced (rewrite_files b) kind between new (synced_stays (append_files b) old between at syncs) fails
  log_unsynced b kind old new at (reserved_unsynced between behind syncs more fails) =
      not_synced b.reserved.items kind behind new (synced_stays (rewrite_files b) between behind (synced_stays (append_files b) old between at syncs) more) fails

  pub not_opened : {S : Type 0} (disk : S → Disk) (tells : S → List ℕ → ℕ → Type 0) (append rewrite : MemTableRecoverContext) (ready : DualPipesBuilder) (readied : Disk) (error : Error) (new : Disk) → IsRecoveredFrom disk tells home s d append rewrite ready readied → SparesStay home ready readied
      → FailsToOpenRecovered ready error readied new → IsRecoverableAs home new m []
  not_opened disk tells append rewrite ready readied error new r spares (unready why same) = stays_left new (stays_same readied new same (recovered_stays disk tells append rewrite ready readied r))
  not_opened disk tells append rewrite ready readied error new r spares (unsynced kind is read fails) = stays_left new (log_unsynced ready kind readied new (recovered_stays disk tells append rewrite ready readied r) fails)
  not_opened disk tells append rewrite ready readied error new r spares (pipes_unopened synced a_pipe r_pipe read syncs a_is r_is fails) =
      let o : CanOpen ready readied = record { read = read; synced = synced; syncs = syncs; append = a_pipe; rewrite = r_pipe; append_is = a_is; rewrite_is = r_is } in
      refused_opens_leave_logs home m a_pipe r_pipe error synced new fails (found disk tells home one other d m sound h append rewrite ready readied r o (spares synced syncs))
