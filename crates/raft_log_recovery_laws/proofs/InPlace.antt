-- A log is opened in place.
use Rattle.std.proofs.Common.{◌≡◌, ℕ, ◌<◌, Bool, true, false, List, [], ◌∷◌, length, refl, sym, ap, subst, ◌∙◌, inl, inr}
use Rattle.std.specs.Prelude.{◌||◌, ◌⊎◌}
use Rattle.raft_log_fs.specs.Disk.{Disk}
use Rattle.raft_log_fs.specs.Image.{as_it_stands, IsSound}
use Rattle.raft_log_fs.proofs.Public.{named_is_used}
use Rattle.raft_log_file_settings.specs.declared.config.Config.{Config}
use Rattle.raft_log_active_file.specs.declared.format.File.{File}
use Rattle.raft_log_engine_laws.specs.raft_log_memtables.specs.declared.mem_tables.MemTables.{MemTables}
use Rattle.raft_log_recovery_read.specs.declared.file_ending.FileEnding.{FileEnding}
use Rattle.raft_log_replay_context.specs.declared.context.MemTableRecoverContext.{MemTableRecoverContext}
use Rattle.raft_log_dual_pipes.specs.Queues.{AreTwoQueues}
use Rattle.raft_log_dual_pipes.specs.OpenOrClosed.{LiesQueue}
use Rattle.raft_log_dual_pipes.specs.OnDisk.{IsDurableAs}
use Rattle.raft_log_dual_pipes.proofs.Public.{lies}
use Rattle.raft_log_dual_pipes.specs.Pipes.{LogPipes, LogRecordValue, State}
use Rattle.raft_log_engine_laws.specs.EngineState.{log_in, LogDirectories, LogMap}
use Rattle.raft_log_engine_laws.specs.Holding.{IsRecoverableAs}
use Rattle.raft_log_recovery.specs.Cutting.{CutsEach, CutsIf}
use Rattle.raft_log_recovery.specs.Directories.{paths_of}
use Rattle.raft_log_recovery.specs.Finishing.{OpensRecovered, SyncsLog}
use Rattle.raft_log_recovery.specs.Finishing.FailsToOpenRecovered.{unopened as pipes_unopened}
use Rattle.raft_log_recovery.specs.Recovering.{append_files, rewrite_files}
use Rattle.raft_log_recovery.specs.Syncing.{SyncsEach}
use Rattle.raft_log_recovery.specs.declared.builder.DualPipesBuilder.{DualPipesBuilder}
use Rattle.raft_log_recovery.specs.declared.recovered_queue.RecoveredQueue.{RecoveredQueue}
use Rattle.raft_log_recovery.specs.Finding.{FindsLog}
use Rattle.raft_log_recovery_laws.specs.Opened.{HoldsFresh}
use Rattle.raft_log_recovery_laws.specs.Keeping.{RestsStill}
use Rattle.raft_log_recovery_laws.proofs.Keeping.{kept_logs_stay}
use Rattle.raft_log_recovery_laws.specs.Files.{AreQueueFiles}
use Rattle.raft_log_recovery_laws.specs.RefusedByCalls.{FailsToOpenByCalls}
use Rattle.raft_log_recovery_laws.specs.RefusedByCalls.FailsToOpenByCalls.{unopened}
use Rattle.raft_log_recovery_laws.specs.ByCalls.{home_of, reads, LogIsRecovered, OpensByCalls}
use Rattle.raft_log_recovery_laws.proofs.Finding.{scans_find_all_files, some_directory}
use Rattle.raft_log_recovery_laws.proofs.Outcomes.{resting_logs_open_by_calls}
use Rattle.raft_log_recovery_laws.proofs.ByCalls.{two_queues}
use Rattle.raft_log_recovery_laws.specs.InPlace.{StopsSynced}
use Rattle.raft_log_recovery_laws.proofs.Settling.{settled_in}
use Rattle.raft_log_recovery_laws.proofs.InPlaceScans.{settled_finds, settled_recovers, settled_syncs}
use Rattle.raft_log_recovery_laws.proofs.Readies.{settled_readies, AreOld}
use Rattle.raft_log_recovery_laws.proofs.Standing.{is_last_of, it_is_last, settled_sound, stands_keeps, which_is_last, IsLast}
use Rattle.raft_log_recovery_laws.proofs.InPlaceOpens.{all_rested, found_rested, rested_then, IsRested}

-- No file is made by a scan or a cut.

found_names : (config : Config) (b : DualPipesBuilder) (old new : Disk) → FindsLog config b old new → (new.names ≡ old.names) × (new.unused ≡ old.unused)
found_names config b old new finds =
    let s = finds.scans in
    (ap (λ (d : Disk). d.names) s.cleared.rest ∙ ap (λ (d : Disk). d.names) s.scans.made.rest, ap (λ (d : Disk). d.unused) s.cleared.rest ∙ ap (λ (d : Disk). d.unused) s.scans.made.rest)

cut_unused : (b : Bool) (file : File) (ending : FileEnding) (old new : Disk) → CutsIf b file ending old new → new.unused ≡ old.unused
cut_unused true file ending old new trims = ap (λ (d : Disk). d.unused) trims.syncs.done ∙ ap (λ (d : Disk). d.unused) trims.shortens.done
cut_unused false file ending old new same = ap (λ (d : Disk). d.unused) same

cuts_unused : (files : List File) (endings : List FileEnding) (old new : Disk) → CutsEach files endings old new → new.unused ≡ old.unused
cuts_unused [] endings old new same = ap (λ (d : Disk). d.unused) same
cuts_unused (file ∷ files) [] old new same = ap (λ (d : Disk). d.unused) same
cuts_unused (file ∷ files) (ending ∷ endings) old new (mid, one, rest) = cuts_unused files endings mid new rest ∙ cut_unused ending.is_damaged file ending old mid one

-- either of two

first_of : (a b : Bool) → a ≡ true → (a || b) ≡ true
first_of a b is = ap (λ (x : Bool). x || b) is

second_of : (a b : Bool) → b ≡ true → (a || b) ≡ true
second_of true b is = refl
second_of false b is = is

one_of : (a b : Bool) → (a || b) ≡ true → (a ≡ true) ⊎ (b ≡ true)
one_of true b is = inl refl
one_of false b is = inr is

module _ (config : Config) (d : Disk) (m : LogMap) (pending : List LogRecordValue) (sound : IsSound d) (left : IsRecoverableAs (home_of config) d m pending) (map : LogMap) (rests : IsDurableAs (log_in (home_of config)) (as_it_stands d) map) where
  abbrev home : LogDirectories
  home = home_of config

  pub one : 0 < length (paths_of config)
  one = some_directory config

  pub two : AreTwoQueues (log_in home)
  two = two_queues home one one

  abbrev image : Disk
  image = as_it_stands d

  abbrev s : State
  s = left.1.lies.state

  same_names : rests.state.disk.names ≡ d.names
  same_names = ap (λ (x : Disk). x.names) rests.disk

  -- the last file of either queue
  pub lasts : ℕ → Bool
  lasts id = is_last_of (log_in home).append rests.state.append rests.state.disk rests.rests.append id || is_last_of (log_in home).rewrite rests.state.rewrite rests.state.disk rests.rests.rewrite id

  abbrev pub standing : Disk
  standing = settled_in lasts d

  its_last : (id : ℕ) → lasts id ≡ true → ((n : ℕ) × IsLast (log_in home).append.format n id d.names) ⊎ ((n : ℕ) × IsLast (log_in home).rewrite.format n id d.names)
  unfolding lasts
  its_last id hit = elim (one_of (is_last_of (log_in home).append rests.state.append rests.state.disk rests.rests.append id) (is_last_of (log_in home).rewrite rests.state.rewrite rests.state.disk rests.rests.rewrite id) hit) [
    | inl mine ↦ (let (n, last) = which_is_last (log_in home).append rests.state.append rests.state.disk rests.rests.append id mine in inl (n, subst (IsLast (log_in home).append.format n id) same_names last))
    | inr other ↦ (let (n, last) = which_is_last (log_in home).rewrite rests.state.rewrite rests.state.disk rests.rests.rewrite id other in inr (n, subst (IsLast (log_in home).rewrite.format n id) same_names last))
  ]

  append_last : (id : ℕ) → ((n : ℕ) × IsLast (log_in home).append.format n id d.names) → lasts id ≡ true
  unfolding lasts
  append_last id (n, last) = first_of _ _ (it_is_last (log_in home).append rests.state.append rests.state.disk rests.rests.append n id (subst (IsLast (log_in home).append.format n id) (sym same_names) last))

  rewrite_last : (id : ℕ) → ((n : ℕ) × IsLast (log_in home).rewrite.format n id d.names) → lasts id ≡ true
  unfolding lasts
  rewrite_last id (n, last) =
      second_of (is_last_of (log_in home).append rests.state.append rests.state.disk rests.rests.append id) _
      (it_is_last (log_in home).rewrite rests.state.rewrite rests.state.disk rests.rests.rewrite n id (subst (IsLast (log_in home).rewrite.format n id) (sym same_names) last))

  append_lies : LiesQueue (log_in home).append s.append d
  append_lies = subst (LiesQueue (log_in home).append s.append) left.1.lies.disk (lies (log_in home).append two.append left.0.append s.append s.disk left.1.lies.stands.append)

  rewrite_lies : LiesQueue (log_in home).rewrite s.rewrite d
  rewrite_lies = subst (LiesQueue (log_in home).rewrite s.rewrite) left.1.lies.disk (lies (log_in home).rewrite two.rewrite left.0.rewrite s.rewrite s.disk left.1.lies.stands.rewrite)

  stays : RestsStill (log_in home) image map rests standing
  stays = (kept_logs_stay (log_in home) two image (settled_in lasts d) (record {
    append = stands_keeps (log_in home).append d lasts append_last s.append append_lies;
    rewrite = stands_keeps (log_in home).rewrite d lasts rewrite_last s.rewrite rewrite_lies;
  })).rests map rests

  pub there : IsDurableAs (log_in home) standing map
  there = stays.0

  pub standing_sound : IsSound standing
  standing_sound = settled_sound lasts d sound

  pub are_old : AreOld lasts d
  are_old id hit = elim (its_last id hit) [
    | inl (n, last) ↦ named_is_used d last.path id sound last.named
    | inr (n, last) ↦ named_is_used d last.path id sound last.named
  ]

  module _ {S : Type 0} (disk : S → Disk) (tells : S → List ℕ → ℕ → Type 0) where
    abbrev settled_disk : S → Disk
    settled_disk x = settled_in lasts (disk x)

    recovered : (append rewrite : MemTableRecoverContext) (ready : DualPipesBuilder) (readied : Disk) → LogIsRecovered disk tells config d append rewrite ready readied
        → LogIsRecovered settled_disk tells config (settled_in lasts d) append rewrite ready (settled_in lasts readied)
    recovered append rewrite ready readied r =
        let on = r.readies in
        let made_none = (found_names config r.found d r.scanned r.finds).1 in
        let cut_none = cuts_unused (rewrite_files r.found) r.read.rewrite.endings.items r.recovers.between r.cut r.recovers.rewrite_cut ∙ cuts_unused (append_files r.found) r.read.append.endings.items r.scanned r.recovers.between r.recovers.append_cut in
        let unused : (disk on.from).unused ≡ d.unused = ap (λ (x : Disk). x.unused) on.from_is ∙ cut_none ∙ made_none in
        record {
          found = r.found;
          read = r.read;
          scanned = settled_in lasts r.scanned;
          cut = settled_in lasts r.cut;
          finds = settled_finds lasts config r.found d r.scanned r.finds;
          recovers = settled_recovers lasts reads append rewrite r.found r.read r.scanned r.cut r.recovers;
          readies = record {
            from = on.from;
            to = on.to;
            from_is = ap (settled_in lasts) on.from_is;
            to_is = ap (settled_in lasts) on.to_is;
            readies = record {
              readies = settled_readies lasts disk tells _ _ _ r.read.reserved.items ready.reserved.items on.from on.to (λ id hit. subst (λ (n : ℕ). id < n) (sym unused) (are_old id hit)) on.readies.readies;
              same = on.readies.same;
            };
          };
        }

    module _ (append rewrite : MemTableRecoverContext) (ready : DualPipesBuilder) (readied : Disk) (r : LogIsRecovered disk tells config d append rewrite ready readied) where
      scanned_names : d.names ≡ r.scanned.names
      scanned_names = sym (found_names config r.found d r.scanned r.finds).0

      append_same : append_files r.found ≡ append_files ready
      append_same = ap (λ x. x.items) (sym r.recovers.same.1) ∙ ap (λ (x : RecoveredQueue). x.files.items) (sym r.readies.readies.same.1)

      rewrite_same : rewrite_files r.found ≡ rewrite_files ready
      rewrite_same = ap (λ x. x.items) (sym r.recovers.same.2) ∙ ap (λ (x : RecoveredQueue). x.files.items) (sym r.readies.readies.same.2)

      files_found : AreQueueFiles (log_in home).append there.state.append (settled_in lasts r.scanned) (append_files r.found) × AreQueueFiles (log_in home).rewrite there.state.rewrite (settled_in lasts r.scanned) (rewrite_files r.found)
      files_found = scans_find_all_files config standing map standing_sound there r.found (settled_in lasts r.scanned) (settled_finds lasts config r.found d r.scanned r.finds)

      -- once all that was found is synced, so are they
      rested : (synced : Disk) → SyncsLog ready readied synced → (id : ℕ) → lasts id ≡ true → IsRested id synced
      rested synced y id hit = elim (its_last id hit) [
        | inl (n, last) ↦
            rested_then id ready.reserved.items y.behind synced y.reserved
            (rested_then id (rewrite_files ready) y.between y.behind y.rewrite
            (found_rested (log_in home).append two.append there.state.append (settled_in lasts r.scanned) (append_files r.found) n id files_found.0 (subst (IsLast (log_in home).append.format n id) scanned_names last) readied y.between
            (subst (λ (l : List File). SyncsEach l readied y.between) (sym append_same) y.append)))
        | inr (n, last) ↦
            rested_then id ready.reserved.items y.behind synced y.reserved
            (found_rested (log_in home).rewrite two.rewrite there.state.rewrite (settled_in lasts r.scanned) (rewrite_files r.found) n id files_found.1 (subst (IsLast (log_in home).rewrite.format n id) scanned_names last) y.between y.behind
            (subst (λ (l : List File). SyncsEach l y.between y.behind) (sym rewrite_same) y.rewrite))
      ]

      syncs_same : (synced : Disk) → SyncsLog ready readied synced → SyncsLog ready (settled_in lasts readied) synced
      syncs_same synced y = subst (SyncsLog ready (settled_in lasts readied)) (all_rested lasts synced (rested synced y)) (record {
        between = settled_in lasts y.between;
        behind = settled_in lasts y.behind;
        append = settled_syncs lasts (append_files ready) readied y.between y.append;
        rewrite = settled_syncs lasts (rewrite_files ready) y.between y.behind y.rewrite;
        reserved = settled_syncs lasts ready.reserved.items y.behind synced y.reserved;
      })

      opens : (v : LogPipes) → OpensRecovered ready readied v → OpensRecovered ready (settled_in lasts readied) v
      opens v o = record {
        read = o.read;
        synced = o.synced;
        syncs = syncs_same o.synced o.syncs;
        append = o.append;
        rewrite = o.rewrite;
        append_is = o.append_is;
        rewrite_is = o.rewrite_is;
        opens = o.opens;
      }

    reopens : (v : LogPipes) (tables : MemTables) → OpensByCalls disk tells config d v tables → OpensByCalls settled_disk tells config standing v tables
    reopens v tables r = record {
      ready = r.ready;
      readied = settled_in lasts r.readied;
      append = r.append;
      rewrite = r.rewrite;
      recovered = recovered r.append r.rewrite r.ready r.readied r.recovered;
      opens = opens r.append r.rewrite r.ready r.readied r.recovered v r.opens;
      comes = r.comes;
    }

    not_opened : (new : Disk) → StopsSynced disk tells config d new → FailsToOpenByCalls settled_disk tells config standing new
    not_opened new s =
        unopened s.append s.rewrite s.ready (settled_in lasts s.readied) s.error (recovered s.append s.rewrite s.ready s.readied s.recovered)
        (pipes_unopened s.synced s.append_pipe s.rewrite_pipe s.read (syncs_same s.append s.rewrite s.ready s.readied s.recovered s.synced s.syncs) s.append_is s.rewrite_is s.fails)

    pub answered_in_place : (v : LogPipes) (tables : MemTables) → OpensByCalls disk tells config d v tables → HoldsFresh home v tables map
    answered_in_place v tables it = (resting_logs_open_by_calls settled_disk tells config standing map standing_sound there).answered v tables (reopens v tables it)

    pub synced_in_place : (new : Disk) → StopsSynced disk tells config d new → IsRecoverableAs home new map []
    synced_in_place new stops = (resting_logs_open_by_calls settled_disk tells config standing map standing_sound there).refused new (not_opened new stops)
