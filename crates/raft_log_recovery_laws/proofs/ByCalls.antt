-- A log that rests is scanned, recovered and opened: the engine of what was read holds its map.
use Rattle.std.proofs.Common.{◌≡◌, ℕ, suc, ◌<◌, List, [], ◌∷◌, length, refl, sym, ap, subst, ◌∙◌, arith}
use Rattle.raft_log_record_base.specs.declared.pipe_log.LogQueue.{LogQueue}
use Rattle.raft_log_record_base.specs.declared.pipe_log.LogQueue.TheVariants.{Append, Rewrite}
use Rattle.raft_log_fs.specs.Disk.{Disk}
use Rattle.raft_log_active_file.specs.declared.format.File.{File}
use Rattle.raft_log_engine_laws.specs.raft_log_active_file.specs.QueueFiles.{log_format, log_paths}
use Rattle.raft_log_engine_laws.specs.raft_log_active_file.specs.QueueFilesLaws.{files_are_told as formats_are_told, is_layout, queues_are_apart}
use Rattle.raft_log_engine_laws.specs.raft_log_active_file.specs.declared.record.LogRecord.{LogRecord}
use Rattle.raft_log_file_pipe.specs.Files.{AllKept}
use Rattle.raft_log_engine_laws.specs.raft_log_memtables.specs.declared.mem_tables.MemTables.{MemTables}
use Rattle.raft_log_replay.specs.Machines.{Batch}
use Rattle.raft_log_replay.specs.Segments.{all_batches}
use Rattle.raft_log_replay.specs.Sources.{HoldEach}
use Rattle.raft_log_recovery_read.specs.Segments.{HoldsFile}
use Rattle.raft_log_recovery_read.specs.declared.file_ending.FileEnding.{FileEnding}
use Rattle.raft_log_recovery_scan.specs.declared.recovery_config.RecoveryConfig.{RecoveryConfig}
use Rattle.raft_log_replay_context.specs.declared.context.MemTableRecoverContext.{MemTableRecoverContext}
use Rattle.raft_log_dual_pipes.specs.Queues.{AreTwoQueues}
use Rattle.raft_log_dual_pipes.specs.State.{Spanned}
use Rattle.raft_log_dual_pipes.specs.Own.{log_layout}
use Rattle.raft_log_dual_pipes.specs.OnDisk.{IsDurableAs}
use Rattle.raft_log_dual_pipes.specs.Opening.{IsFoundAs, OpensLog, RestsAsFound}
use Rattle.raft_log_dual_pipes.specs.declared.opening.FoundPipe.{FoundPipe}
use Rattle.raft_log_recovery.specs.declared.builder.DualPipesBuilder.{DualPipesBuilder}
use Rattle.raft_log_recovery.specs.Finishing.{IsPipeRecovered, IsAllRead, OpensRecovered, SyncsLog}
use Rattle.raft_log_dual_pipes.specs.Pipes.{LogPipes, State}
use Rattle.raft_log_engine_laws.specs.EngineState.{log_in, sense, LogDirectories, LogMap}
use Rattle.raft_log_recovery.specs.Directories.{paths_of}
use Rattle.raft_log_recovery.specs.Endings.{as_read, end_of_last}
use Rattle.raft_log_recovery.specs.Reading.{HasReadFiles}
use Rattle.raft_log_recovery.specs.Recovering.{append_config, append_files, rewrite_config, rewrite_files}
use Rattle.raft_log_recovery.specs.Unaligned.{AreUnaligned}
use Rattle.raft_log_recovery.specs.declared.recovered_queue.RecoveredQueue.{RecoveredQueue}
use Rattle.raft_log_engine_laws.specs.raft_log_block_cache.specs.Stored.{Each}
use Rattle.raft_log_recovery_laws.specs.Found.{ReadsQueue}
use Rattle.raft_log_recovery_laws.specs.Opened.{HoldsFresh}
use Rattle.raft_log_recovery_laws.proofs.Opened.{opened_engines_hold}
use Rattle.raft_log_recovery_laws.specs.Keeping.{KeepsBothQueues}
use Rattle.raft_log_recovery_laws.proofs.Keeping.{moved}
use Rattle.raft_log_recovery_laws.specs.Files.{AreQueueFiles, AreToldOf}
use Rattle.raft_log_recovery_laws.specs.Files.AreQueueFiles.{none_made, some_made}
use Rattle.raft_log_recovery_laws.specs.Files.AreToldOf.{none_told, some_told}
use Rattle.raft_log_recovery_laws.specs.ByCalls.{reads, ComeOver}
use Rattle.raft_log_recovery_laws.proofs.Parts.{CanAllBeUsed, IsRecoveredFrom, SparesStay}
use Rattle.raft_log_recovery_laws.proofs.Reading.{files_are_told}
use Rattle.raft_log_recovery_laws.proofs.Cutting.{cut_queue, told_kept, IsCutTo}
use Rattle.raft_log_recovery_laws.proofs.Readying.{readies_leave, IsReserved}
use Rattle.raft_log_recovery_laws.proofs.Scanning.{open_reserved, scan_keeps, scan_sound}
use Rattle.raft_log_recovery_laws.proofs.Calls.{sound_names, AreSoundNames}
use Rattle.raft_log_fs.specs.Image.{IsSound}
use Rattle.raft_log_recovery.specs.Readying.{Readies}
use Rattle.raft_log_recovery_scan.specs.Directories.{HasDirectories}
use Rattle.raft_log_recovery.specs.Reserving.{wanted_files}
use Rattle.raft_log_recovery.specs.Scanning.{ScansLog}
use Rattle.raft_log_recovery_laws.proofs.Told.{of_queue, told_found}
use Rattle.raft_log_recovery_laws.proofs.Stays.{stays_first, stays_kept, stays_named, stays_synced, told_rests, StaysAt}

pub two_queues : (home : LogDirectories) → 0 < length home.append → 0 < length home.rewrite → AreTwoQueues (log_in home)
two_queues home one other = record {
  append = record { lawful = is_layout Append home.append one; told = formats_are_told Append home.append };
  rewrite = record { lawful = is_layout Rewrite home.rewrite other; told = formats_are_told Rewrite home.rewrite };
  apart = queues_are_apart home.append home.rewrite;
}

pub one_each : {E : Type 0} (holds : ℕ → List Batch → E → Type 0) (k : ℕ) (bss : List (List Batch)) (es : List E) → HoldEach holds k bss es → length bss ≡ length es
one_each holds k [] [] held = refl
one_each holds k [] (e ∷ es) held = absurd held
one_each holds k (bs ∷ bss) [] held = absurd held
one_each holds k (bs ∷ bss) (e ∷ es) held = ap suc (one_each holds (suc k) bss es held.1)

pub no_length : {A : Type 0} (xs : List A) → length xs ≡ 0 → xs ≡ []
no_length [] none = refl
no_length (x ∷ xs) none = (let never : suc (length xs) ≡ 0 = none in absurd (omega (arith, never)))

each_unaligned : (es : List FileEnding) → AreUnaligned es → Each (λ (e : FileEnding). e.format.alignment ≡ 0) es
each_unaligned [] none = tt
each_unaligned (e ∷ es) (here, more) = (here, each_unaligned es more)

-- all files were synced, and this is what the pipes are told
pub record CanOpen (b : DualPipesBuilder) (old : Disk) : Type 0 where
  pub read : IsAllRead b
  pub synced : Disk
  pub syncs : SyncsLog b old synced
  pub append : FoundPipe
  pub rewrite : FoundPipe
  pub append_is : IsPipeRecovered Append b.config b.append b.reserved.items append
  pub rewrite_is : IsPipeRecovered Rewrite b.config b.rewrite [] rewrite

-- One queue, as it was read.
module _ (queue : LogQueue) (directories : List (List ℕ)) (some : 0 < length directories) (config : RecoveryConfig) (is : config.queue ≡ queue) (d : Disk) (q : Spanned LogRecord) (files : List File) (endings : List FileEnding) (context : MemTableRecoverContext)
    (read : HasReadFiles reads config files d context endings) (long : length endings ≡ length files) (unaligned : AreUnaligned endings) where
  held : HoldEach (HoldsFile config.mode queue files d) 0 read.batches endings
  held = subst (λ (w : LogQueue). HoldEach (HoldsFile config.mode w files d) 0 read.batches endings) is read.held

  pub files_read : ReadsQueue config.mode queue files d (all_batches read.batches) endings
  files_read = record {
    segments = read.batches;
    held = held;
    all = one_each (HoldsFile config.mode queue files d) 0 read.batches endings held ∙ long;
    is = refl;
    unaligned = each_unaligned endings unaligned;
  }

  pub told_of : AreQueueFiles (log_layout queue directories) q d files → AreToldOf (log_layout queue directories) q d files endings
  told_of (some_made earlier last are all) =
      let t = files_are_told queue directories some config.mode d q earlier last all read.batches endings (subst (λ (l : List File). HoldEach (HoldsFile config.mode queue l d) 0 read.batches endings) are held) (long ∙ ap length are) unaligned in
      some_told earlier last t.front t.ending are t.ends t.long t.sound all t.told
  told_of (none_made are unbegun) = none_told are (no_length endings (long ∙ ap length are)) unbegun

module _ {S : Type 0} (disk : S → Disk) (tells : S → List ℕ → ℕ → Type 0) (home : LogDirectories) (one : 0 < length home.append) (other : 0 < length home.rewrite) (d : Disk) (m : LogMap) (sound : IsSound d) (h : IsDurableAs (log_in home) d m) (a_context r_context : MemTableRecoverContext) (ready : DualPipesBuilder) (readied : Disk)
    (r : IsRecoveredFrom disk tells home h.state d a_context r_context ready readied)
    (o : CanOpen ready readied) where
  abbrev s : State
  s = h.state

  abbrev two : AreTwoQueues (log_in home)
  two = two_queues home one other

  abbrev Stays : Disk → Type 0
  Stays e = StaysAt (log_in home) two s m e

  abbrev a_files : List File
  a_files = append_files r.found

  abbrev r_files : List File
  r_files = rewrite_files r.found

  abbrev a_endings : List FileEnding
  a_endings = r.read.append.endings.items

  abbrev r_endings : List FileEnding
  r_endings = r.read.rewrite.endings.items

  -- what the builder that is opened has, is what was found and read
  a_is : ready.append ≡ r.read.append
  a_is = r.readies.readies.same.1

  r_is : ready.rewrite ≡ r.read.rewrite
  r_is = r.readies.readies.same.2

  a_long : length a_endings ≡ length a_files
  a_long =
      ap (λ (x : RecoveredQueue). length x.endings.items) (sym a_is) ∙ o.read.append ∙ ap (λ (x : RecoveredQueue). length x.files.items) a_is ∙ ap (λ x. length x.items) r.recovers.same.1

  r_long : length r_endings ≡ length r_files
  r_long =
      ap (λ (x : RecoveredQueue). length x.endings.items) (sym r_is) ∙ o.read.rewrite ∙ ap (λ (x : RecoveredQueue). length x.files.items) r_is ∙ ap (λ x. length x.items) r.recovers.same.2

  -- the scan, and what was read there
  at_first : Stays d
  at_first = stays_first (log_in home) two d m h

  abbrev scans : ScansLog r.finds.before r.found d r.scanned
  scans = r.finds.scans

  set_before : paths_of r.finds.before.config ≡ paths_of r.found.config
  set_before = ap paths_of (sym scans.same)

  a_made : HasDirectories home.append d scans.scanned
  a_made = subst (λ (l : List (List ℕ)). HasDirectories l d scans.scanned) (set_before ∙ r.set.append) scans.scans.made

  r_made : HasDirectories home.rewrite d scans.scanned
  r_made = subst (λ (l : List (List ℕ)). HasDirectories l d scans.scanned) (set_before ∙ r.set.rewrite) scans.scans.made

  scan_keeps_all : KeepsBothQueues (log_in home) d r.scanned
  scan_keeps_all = record {
    append = scan_keeps Append home.append one s.append d at_first.rests.append scans.scanned a_made r.scanned scans.cleared;
    rewrite = scan_keeps Rewrite home.rewrite other s.rewrite d at_first.rests.rewrite scans.scanned r_made r.scanned scans.cleared;
  }

  scanned_sound : IsSound r.scanned
  scanned_sound = scan_sound Append home.append one s.append d at_first.rests.append scans.scanned a_made r.scanned scans.cleared sound

  at_scan : Stays r.scanned
  at_scan = stays_kept (log_in home) two s m d r.scanned scan_keeps_all at_first

  a_told : AreToldOf (log_in home).append s.append r.scanned a_files a_endings
  a_told = told_of Append home.append one (append_config r.found) refl r.scanned s.append a_files a_endings a_context r.recovers.read.append_read a_long r.recovers.read.append_unaligned r.finds.append

  r_told : AreToldOf (log_in home).rewrite s.rewrite r.scanned r_files r_endings
  r_told = told_of Rewrite home.rewrite other (rewrite_config r.found) refl r.scanned s.rewrite r_files r_endings r_context r.recovers.read.rewrite_read r_long r.recovers.read.rewrite_unaligned r.finds.rewrite

  -- the cuts
  a_cut : IsCutTo (log_in home).append two.append (log_in home).rewrite s.append a_files a_endings r.scanned r.recovers.between
  a_cut = cut_queue (log_in home).append two.append (log_in home).rewrite two.rewrite two.apart s.append a_files a_endings r.scanned r.recovers.between scanned_sound a_told r.recovers.append_cut

  r_cut : IsCutTo (log_in home).rewrite two.rewrite (log_in home).append s.rewrite r_files r_endings r.recovers.between r.cut
  r_cut = cut_queue (log_in home).rewrite two.rewrite (log_in home).append two.append (λ path mine theirs. two.apart path theirs mine) s.rewrite r_files r_endings r.recovers.between r.cut a_cut.sound
      (told_kept (log_in home).rewrite two.rewrite s.rewrite r_files r_endings r.scanned r.recovers.between a_cut.others r_told) r.recovers.rewrite_cut

  a_told_cut : AreToldOf (log_in home).append s.append r.cut a_files a_endings
  a_told_cut = told_kept (log_in home).append two.append s.append a_files a_endings r.recovers.between r.cut r_cut.others a_cut.told

  names_cut : r.cut.names ≡ r.scanned.names
  names_cut = r_cut.names ∙ a_cut.names

  at_cut : Stays r.cut
  at_cut = stays_named (log_in home) two s m r.scanned r.cut names_cut (told_rests (log_in home).append s.append a_files a_endings r.scanned r.cut names_cut at_scan.rests.append a_told_cut)
      (told_rests (log_in home).rewrite s.rewrite r_files r_endings r.scanned r.cut names_cut at_scan.rests.rewrite r_cut.told) at_scan

  -- the files that were readied, and the syncs
  all_reserved : Each IsReserved r.read.reserved.items
  all_reserved = subst (λ (l : List File). Each IsReserved l) (ap (λ x. x.items) (sym (r.recovers.same.3 ∙ scans.has.reserved)))
      (open_reserved _ scans.scanned _ scans.scans.is.reserved.kept scans.found.reserved.items scans.scans.is.reserved.opened)

  readies_here : Readies disk tells (log_paths Append home.append) r.read.config.target_file_size.0 (wanted_files r.read) r.read.reserved.items ready.reserved.items r.readies.from r.readies.to
  readies_here = subst (λ (l : List (List ℕ)). Readies disk tells (log_paths Append l) r.read.config.target_file_size.0 (wanted_files r.read) r.read.reserved.items ready.reserved.items r.readies.from r.readies.to)
      (ap paths_of r.recovers.same.0 ∙ r.set.append) r.readies.readies.readies

  from_sound : AreSoundNames (disk r.readies.from)
  from_sound = subst AreSoundNames (sym r.readies.from_is) (sound_names r.cut r_cut.sound)

  ready_keeps : KeepsBothQueues (log_in home) r.cut readied
  ready_keeps = subst (λ e. KeepsBothQueues (log_in home) e readied) r.readies.from_is (subst (KeepsBothQueues (log_in home) (disk r.readies.from)) r.readies.to_is record {
    append = (readies_leave (log_format Append home.append) (log_paths Append home.append) two.append.lawful.apart disk tells _ _ r.read.reserved.items ready.reserved.items r.readies.from r.readies.to all_reserved
        from_sound readies_here).keeps;
    rewrite = (readies_leave (log_format Rewrite home.rewrite) (log_paths Append home.append) (λ directory n m less at. two.apart _ (two.append.lawful.kept directory n) (two.rewrite.lawful.owns m _ less at)) disk tells _ _
        r.read.reserved.items ready.reserved.items r.readies.from r.readies.to all_reserved from_sound readies_here).keeps;
  })

  at_ready : Stays readied
  at_ready = stays_kept (log_in home) two s m r.cut readied ready_keeps at_cut

  abbrev half : Disk
  half = o.syncs.between

  abbrev behind : Disk
  behind = o.syncs.behind

  abbrev synced : Disk
  synced = o.synced

  first_syncs : KeepsBothQueues (log_in home) readied half
  first_syncs = stays_synced (log_in home) two s m (append_files ready) readied half at_ready o.syncs.append

  at_half : Stays half
  at_half = stays_kept (log_in home) two s m readied half first_syncs at_ready

  more_syncs : KeepsBothQueues (log_in home) half behind
  more_syncs = stays_synced (log_in home) two s m (rewrite_files ready) half behind at_half o.syncs.rewrite

  at_behind : Stays behind
  at_behind = stays_kept (log_in home) two s m half behind more_syncs at_half

  last_syncs : KeepsBothQueues (log_in home) behind synced
  last_syncs = stays_synced (log_in home) two s m ready.reserved.items behind synced at_behind o.syncs.reserved

  at_sync : Stays synced
  at_sync = stays_kept (log_in home) two s m behind synced last_syncs at_behind

  a_told_sync : AreToldOf (log_in home).append s.append synced a_files a_endings
  a_told_sync =
      told_kept (log_in home).append two.append s.append a_files a_endings behind synced last_syncs.append
      (told_kept (log_in home).append two.append s.append a_files a_endings half behind more_syncs.append
      (told_kept (log_in home).append two.append s.append a_files a_endings readied half first_syncs.append
      (told_kept (log_in home).append two.append s.append a_files a_endings r.cut readied ready_keeps.append a_told_cut)))

  r_told_sync : AreToldOf (log_in home).rewrite s.rewrite synced r_files r_endings
  r_told_sync =
      told_kept (log_in home).rewrite two.rewrite s.rewrite r_files r_endings behind synced last_syncs.rewrite
      (told_kept (log_in home).rewrite two.rewrite s.rewrite r_files r_endings half behind more_syncs.rewrite
      (told_kept (log_in home).rewrite two.rewrite s.rewrite r_files r_endings readied half first_syncs.rewrite
      (told_kept (log_in home).rewrite two.rewrite s.rewrite r_files r_endings r.cut readied ready_keeps.rewrite r_cut.told)))

  -- what the pipes are told
  a_items : o.append.found.files.items ≡ as_read a_endings a_files
  a_items = o.append_is.files ∙ ap (λ (x : RecoveredQueue). as_read x.endings.items x.files.items) a_is ∙ ap (λ x. as_read a_endings x.items) r.recovers.same.1

  r_items : o.rewrite.found.files.items ≡ as_read r_endings r_files
  r_items = o.rewrite_is.files ∙ ap (λ (x : RecoveredQueue). as_read x.endings.items x.files.items) r_is ∙ ap (λ x. as_read r_endings x.items) r.recovers.same.2

  a_end : o.append.found.end ≡ end_of_last a_endings
  a_end = o.append_is.end ∙ ap (λ (x : RecoveredQueue). end_of_last x.endings.items) a_is

  r_end : o.rewrite.found.end ≡ end_of_last r_endings
  r_end = o.rewrite_is.end ∙ ap (λ (x : RecoveredQueue). end_of_last x.endings.items) r_is

  config_is : ready.config ≡ r.found.config
  config_is = r.readies.readies.same.0 ∙ r.recovers.same.0

  pub found : CanAllBeUsed home ready synced → RestsAsFound (sense home) m o.append o.rewrite synced
  found spares = record {
    append_as = subst (λ (l : List (List ℕ)). IsFoundAs Append l o.append) (ap paths_of config_is ∙ r.set.append) o.append_is.wanted.lies;
    rewrite_as = subst (λ (l : List (List ℕ)). IsFoundAs Rewrite l o.rewrite) (ap paths_of config_is ∙ r.set.rewrite) o.rewrite_is.wanted.lies;
    rests = record { state = moved (log_in home) two s synced; disk = refl; rests = at_sync.rests; append_synced = h.append_synced; rewrite_synced = h.rewrite_synced; holds = at_sync.holds };
    append_found = told_found (log_in home).append s.append synced a_files a_endings o.append.found a_items a_end
        (λ first. subst (λ (l : List File). AllKept (log_format Append home.append) (log_paths Append home.append) first synced l) (sym o.append_is.spares) (spares first)) a_told_sync;
    rewrite_found = told_found (log_in home).rewrite s.rewrite synced r_files r_endings o.rewrite.found r_items r_end
        (λ first. subst (λ (l : List File). AllKept (log_format Rewrite home.rewrite) (log_paths Rewrite home.rewrite) first synced l) (sym o.rewrite_is.spares) tt) r_told_sync;
  }

  pub reopened : (v : LogPipes) (tables : MemTables) → CanAllBeUsed home ready synced → OpensLog o.append o.rewrite synced v → ComeOver a_context r_context tables → HoldsFresh home v tables m
  unfolding found
  reopened v tables spares opens comes =
      let runs = opens.log (sense home) m (found spares) in
      let state = runs.state in
      opened_engines_hold home (moved (log_in home) two s synced) m v tables at_sync.holds (record {
        state = state;
        runs = runs.runs;
        again = runs.reads;
        append_batches = all_batches r.recovers.read.append_read.batches;
        rewrite_batches = all_batches r.recovers.read.rewrite_read.batches;
        of_append = of_queue Append home.append one (append_config r.found).mode r.scanned synced opens.mid s.append state.append a_files a_endings (all_batches r.recovers.read.append_read.batches)
            (files_read Append home.append one (append_config r.found) refl r.scanned s.append a_files a_endings a_context r.recovers.read.append_read a_long r.recovers.read.append_unaligned)
            o.append.found a_items a_end _ _ _ o.append.settings.new_files v.append.files opens.append_opens (sym runs.runs.run.append.first) runs.append_goes_on a_told;
        of_rewrite = of_queue Rewrite home.rewrite other (rewrite_config r.found).mode r.scanned opens.mid v.disk s.rewrite state.rewrite r_files r_endings (all_batches r.recovers.read.rewrite_read.batches)
            (files_read Rewrite home.rewrite other (rewrite_config r.found) refl r.scanned s.rewrite r_files r_endings r_context r.recovers.read.rewrite_read r_long r.recovers.read.rewrite_unaligned)
            o.rewrite.found r_items r_end _ _ _ o.rewrite.settings.new_files v.rewrite.files opens.rewrite_opens (sym runs.runs.run.rewrite.first) runs.rewrite_goes_on r_told;
        merged = record {
          append = a_context;
          rewrite = r_context;
          append_read = r.recovers.read.append_read.read;
          rewrite_read = r.recovers.read.rewrite_read.read;
          over = comes.over;
        };
      })

-- what is opened behind the syncs
opened_so : (ready : DualPipesBuilder) (readied : Disk) (v : LogPipes) → OpensRecovered ready readied v → CanOpen ready readied
opened_so ready readied v opens = record {
  read = opens.read;
  synced = opens.synced;
  syncs = opens.syncs;
  append = opens.append;
  rewrite = opens.rewrite;
  append_is = opens.append_is;
  rewrite_is = opens.rewrite_is;
}

pub recovered_reopens : {S : Type 0} (disk : S → Disk) (tells : S → List ℕ → ℕ → Type 0) (home : LogDirectories) (one : 0 < length home.append) (other : 0 < length home.rewrite) (d : Disk) (m : LogMap) (sound : IsSound d) (h : IsDurableAs (log_in home) d m)
    (append rewrite : MemTableRecoverContext) (ready : DualPipesBuilder) (readied : Disk) → IsRecoveredFrom disk tells home h.state d append rewrite ready readied → (v : LogPipes) (tables : MemTables) (opens : OpensRecovered ready readied v)
    → SparesStay home ready readied → ComeOver append rewrite tables → HoldsFresh home v tables m
unfolding opened_so
recovered_reopens disk tells home one other d m sound h append rewrite ready readied r v tables opens spares comes =
    reopened disk tells home one other d m sound h append rewrite ready readied r (opened_so ready readied v opens) v tables (spares opens.synced opens.syncs) opens.opens comes
